-- What ground 10 answers, and the first byte above 1 in the paper's words. Main laws: `bytes_bad`, `bytes_done`, `bytes_shows`; `first_above`,
-- `above_is`, `no_above`.
use Rattle.refusal.specs.declared.Refusal.{Refusal}
use Rattle.std.specs.Prelude.{Result, Ok, Err}
use Prim.Native.Nat.{ℕ, ◌<◌, ◌≤◌}
use mathlib.Core.Path.{◌≡◌}
use mathlib.Core.List.{List}
use native.Mathlib.Omega.{arith}
use borrow.Author.Tests.{ltb-true, ltb-false, lt-ltb, le-ltb, lt-leb, le-leb, leb-true}
use lib.Dec.{leb}
use lib.ListN.{length, get_or}
use Rattle.lists.proofs.SearchLaws.{first_at, first_true, first_before}
use Rattle.netlist.specs.Running.{Bits}
use Rattle.refusal.specs.Grounds.{answer_number}
use Rattle.refusal.specs.declared.Refusal.TheVariants.{NotABit}
use Rattle.refusal.proofs.GroundsLaws.{unless_passed}
use Rattle.sim.specs.Stepping.{above_one, bad_byte}
use Rattle.sim.specs.Meaning.{FirstAbove}
use Rattle.moments.specs.Checks.{bytes_answer}

-- ---- ground 10

module _ (xs : List ℕ) where
  pub bytes_bad : (i : ℕ) → i ≡ bad_byte xs → i < length xs → Err (NotABit i) ≡ bytes_answer xs
  unfolding bytes_answer
  bytes_bad i e l = rw (← e, lt-leb (length xs) i l)

  pub bytes_done : length xs ≤ bad_byte xs → (Ok tt) ≡ bytes_answer xs
  unfolding bytes_answer
  bytes_done l = rw (le-leb (length xs) (bad_byte xs) l)

  pub bytes_shows : bytes_answer xs ≡ (Ok tt) → length xs ≤ bad_byte xs
  unfolding bytes_answer
  bytes_shows e =
      leb-true (length xs) (bad_byte xs) (unless_passed {A = Result (Unit {0}) Refusal} answer_number (leb (length xs) (bad_byte xs)) _ _ (Ok tt) (λ z. absurd (omega arith)) e).0

  -- the first byte above 1, in the paper's words
  pub first_above : bad_byte xs < length xs → FirstAbove xs (bad_byte xs)
  first_above l = record {
    within = l;
    before = λ i li. ltb-false 1 (get_or xs i 0) (first_before (above_one xs) 0 (length xs) i (omega arith) li);
    above = ltb-true 1 (get_or xs (bad_byte xs) 0) (first_true (above_one xs) 0 (length xs) (omega arith));
  }

  pub above_is : (index : ℕ) → FirstAbove xs index → bad_byte xs ≡ index
  above_is index found =
      first_at (above_one xs) index (length xs) found.within (lt-ltb 1 (get_or xs index 0) found.above)
      (λ i l. le-ltb 1 (get_or xs i 0) (found.before i l))

  -- numbers of 0 and 1 have no byte above 1
  pub no_above : (index : ℕ) → FirstAbove xs index → Bits xs → ⊥
  no_above index found bits = let b = bits index in let a = found.above in omega arith
