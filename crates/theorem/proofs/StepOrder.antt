-- The grounds of `step` in their order. Main law: `step_order`. Assumes nothing.
use Rattle.std.specs.Prelude.{Result, Ok, Err}
use Prim.Native.Nat.{ℕ}
use mathlib.Core.Path.{refl}
use mathlib.Core.Logic.{inl, inr}
use mathlib.Core.List.{List, ◌++◌}
use native.Mathlib.Omega.{arith}
use Rattle.refusal.specs.Grounds.{answer_number, answer_value}
use Rattle.refusal.specs.declared.Refusal.{Refusal}
use Rattle.ports.specs.declared.size.Block.{Block}
use Rattle.sim.specs.declared.lengths.StepLent.{StepLent}
use Rattle.sim.specs.declared.lengths.StepRoomLent.{StepRoomLent}
use Rattle.sim.specs.Lengths.{inputs_lent, step_lent}
use Rattle.sim.specs.Meaning.{StepNo, StepSays, FirstAbove}
use Rattle.sim.specs.Meaning as stepping
use Rattle.sim.proofs.MeaningLaws.{step_says}
use Rattle.theorem.specs.Calls.{stepped}
use Rattle.theorem.specs.BlockGrounds.{StepGrounds}
use Rattle.theorem.proofs.EntryOrder.{no_broken}
use borrow.Author.Tests.{lt-ltb}
use Rattle.lists.proofs.CaseLaws.{clash}
use Rattle.lists.proofs.SearchLaws.{first_before}
use Rattle.netlist.specs.Running.{Bits}
use Rattle.sim.specs.Stepping.{above_one}
use Rattle.sim.proofs.ByteLaws.{joined_of_bits}
use lib.ListN.{length, get_or}

-- where state, before and after are of 0 and 1, none of the three joined is above 1
no_above : (state before after : List ℕ) (index : ℕ) → FirstAbove (state ++ before ++ after) index → Bits state × Bits before × Bits after → ⊥
no_above state before after index above bits =
    let bytes = state ++ before ++ after in
    let l = above.within in
    let none = joined_of_bits state before after bits.0 bits.1 bits.2 in
    clash (lt-ltb 1 (get_or bytes index 0) above.above) (first_before (above_one bytes) 0 (length bytes) index (omega arith) (omega arith))

module _ (B : Block) (t st list state before after : List ℕ) (room : StepRoomLent) where
  abbrev lent : StepLent
  lent = step_lent (inputs_lent t st list state before after) room

  abbrev StepOrder : Result (Unit {0}) Refusal → Type 0
  StepOrder a = StepGrounds B t st list state before after lent (answer_number a) (answer_value a)

  step_no : (refusal : Refusal) → StepNo B t st list state before after lent refusal → StepOrder (Err refusal)
  step_no refusal (stepping.wrong_size n) = inl (n, refl, refl)
  step_no refusal (stepping.wrong_length s n) = inr (s, inl (n, refl, refl))
  step_no refusal (stepping.broken part s L f) = inr (s, inr (L, inl (no_broken t part f, refl, f)))
  step_no refusal (stepping.bitless T s L rules low) = inr (s, inr (L, inr (rules, inl (λ h. low.bitless (h T low.within), refl, low))))
  step_no refusal (stepping.bad_row_lem row C l bad) =
      inr (C.size, inr (C.lengths, inr (C.rules, inr (C.has_bits, inl (λ stands. bad.here l (stands row l), refl, bad)))))
  step_no refusal (stepping.not_a_bit index C stands above) =
      inr (C.size, inr (C.lengths, inr (C.rules, inr (C.has_bits, inr (stands, inl (no_above state before after index above, refl, above))))))

  pub step_order : StepOrder (stepped B t st list state before after room)
  step_order = go (stepped B t st list state before after room) (step_says B t st list state before after room _ refl)
    where
      go : (a : Result (Unit {0}) Refusal) → StepSays B t st list state before after lent a → StepOrder a
      go (Ok _) s =
          let C = s.0 in
          inr (C.size, inr (C.lengths, inr (C.rules, inr (C.has_bits, inr (s.1, inr ((s.2, s.3, s.4), (refl, refl)))))))
      go (Err refusal) s = step_no refusal s
