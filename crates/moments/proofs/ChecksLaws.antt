-- Grounds 3 and 9 in front of later checks, one law a ground, and what a yes shows. Main laws: `settings_table`, `settings_bitless`, `settings_later`;
-- `settings_no`, `settings_yes`, `settings_shows`. Assumes nothing.
use Rattle.std.specs.Prelude.{Result, Ok, Err}
use Prim.Native.Nat.{ℕ, ◌<◌, ◌≤◌}
use mathlib.Core.Path.{◌≡◌, sym}
use mathlib.Core.Bool.{Bool, true, false}
use mathlib.Core.List.{List}
use native.Mathlib.Omega.{arith}
use borrow.Author.Tests.{le-leb, lt-leb, leb-true}
use lib.Dec.{leb}
use Rattle.refusal.specs.Grounds.{unless, answer_number}
use Rattle.refusal.proofs.GroundsLaws.{unless_passed}
use Rattle.refusal.specs.declared.Refusal.{Refusal}
use Rattle.refusal.specs.declared.Refusal.TheVariants.{Table, NoSuchSettings}
use Rattle.routing.specs.LogicTile.{logic_tile}
use Rattle.routing.specs.TableCheck.{faulty_part, table_ok}
use Rattle.config.specs.Blocks.{bitless_tile}
use Rattle.sim.proofs.StepLaws.{never_done}
use Rattle.moments.specs.Checks.{settings_answer}

module _ (t st : List ℕ) (n : ℕ) where
  module _ (later : Result (Unit {0}) Refusal) where
    pub settings_table : table_ok logic_tile t ≡ false → Err (Table (faulty_part logic_tile t)) ≡ settings_answer t st n later
    unfolding settings_answer
    settings_table e = rw e

    module _ (kept : table_ok logic_tile t ≡ true) where
      pub settings_bitless : (T : ℕ) → T ≡ bitless_tile t st n → T < n → Err (NoSuchSettings T) ≡ settings_answer t st n later
      unfolding settings_answer
      settings_bitless T e l = rw (kept, ← e, lt-leb n T l)

      pub settings_later : n ≤ bitless_tile t st n → later ≡ settings_answer t st n later
      unfolding settings_answer
      settings_later l = rw (kept, le-leb n (bitless_tile t st n) l)

  pub settings_shows : (later : Result (Unit {0}) Refusal) → settings_answer t st n later ≡ Ok tt
      → (table_ok logic_tile t ≡ true) × (n ≤ bitless_tile t st n) × (later ≡ Ok tt)
  unfolding settings_answer
  settings_shows later e =
      let table = unless_passed {A = Result (Unit {0}) Refusal} answer_number (table_ok logic_tile t) _ _ (Ok tt) (λ z. absurd (omega arith)) e in
      let settings = unless_passed {A = Result (Unit {0}) Refusal} answer_number (leb n (bitless_tile t st n)) _ _ (Ok tt) (λ z. absurd (omega arith)) table.1 in
      (table.0, leb-true _ _ settings.0, settings.1)

  -- these two alone decide, or leave it to what comes later
  pub settings_no : (later : Result (Unit {0}) Refusal) (q : Refusal) → settings_answer t st n (Ok tt) ≡ Err q → Err q ≡ settings_answer t st n later
  unfolding settings_answer
  settings_no later q e = go (table_ok logic_tile t) (leb n (bitless_tile t st n)) e
    where
      go : (a b : Bool) → unless {A = Result (Unit {0}) Refusal} a (Err (Table (faulty_part logic_tile t))) (unless b (Err (NoSuchSettings (bitless_tile t st n))) (Ok tt)) ≡ Err q
          → Err q ≡ unless {A = Result (Unit {0}) Refusal} a (Err (Table (faulty_part logic_tile t))) (unless b (Err (NoSuchSettings (bitless_tile t st n))) later)
      go false b h = sym h
      go true false h = sym h
      go true true h = absurd (never_done q (sym h))

  pub settings_yes : (later : Result (Unit {0}) Refusal) → settings_answer t st n (Ok tt) ≡ Ok tt → later ≡ settings_answer t st n later
  settings_yes later e = let s = settings_shows (Ok tt) e in settings_later later s.0 s.1
