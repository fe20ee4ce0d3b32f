-- Every answer of a step says what specs/Meaning.antt has. Main law: `step_says`. Assumes nothing.
use Rattle.refusal.specs.declared.Refusal.{Refusal}
use Rattle.std.specs.Prelude.{Result}
use Prim.Native.Nat.{ℕ, ◌<◌}
use mathlib.Core.Path.{◌≡◌, sym, subst}
use mathlib.Core.Logic.{◌↔◌}
use mathlib.Core.Bool.{true}
use mathlib.Core.List.{List, ◌++◌}
use native.Mathlib.Omega.{arith}
use borrow.Author.Tests.{leb-true, leb-false, ltb-true, ltb-false}
use lib.Dec.{leb}
use lib.ListN.{length, get_or}
use Rattle.lists.proofs.CaseLaws.{clash}
use Rattle.lists.proofs.SearchLaws.{first_true, first_before}
use Rattle.refusal.proofs.GroundsLaws.{unless_cases}
use Rattle.ports.specs.declared.size.Block.{Block}
use Rattle.ports.specs.Block.{tiles, sized}
use Rattle.ports.specs.Lengths.{ports}
use Rattle.ports.proofs.BlockLaws.{sized_true, sized_exact}
use Rattle.routing.specs.LogicTile.{logic_tile}
use Rattle.routing.specs.TableCheck.{table_ok}
use Rattle.routing.proofs.TableCheckLaws.{table_exact, table_broken}
use Rattle.config.specs.Blocks.{bitless_tile}
use Rattle.config.proofs.BlocksLaws.{bitless_lowest, none_bitless}
use Rattle.stepper.specs.Settling.{bad_row}
use Rattle.sim.specs.Stepping.{above_one, bad_byte, run_answer, inputs_answer, step_answer}
use Rattle.sim.specs.declared.lengths.StepLent.{StepLent}
use Rattle.sim.specs.declared.lengths.StepRoomLent.{StepRoomLent}
use Rattle.sim.specs.Lengths.{inputs_lent, step_lent, step_exact, StepLong}
use Rattle.sim.specs.Meaning.{FirstAbove, Steppable, Stands, StepSays, wrong_size, wrong_length, broken, bitless, bad_row_lem, not_a_bit}
use Rattle.sim.proofs.ByteLaws.{bits_of_joined}
use Rattle.sim.proofs.LengthLaws.{step_long_exact}
use Rattle.sim.proofs.StepLaws.{bad_row_first}

first_above : (bytes : List ℕ) → bad_byte bytes < length bytes → FirstAbove bytes (bad_byte bytes)
first_above bytes l = record {
  within = l;
  before = λ i li. ltb-false 1 (get_or bytes i 0) (first_before (above_one bytes) 0 (length bytes) i (omega arith) li);
  above = ltb-true 1 (get_or bytes (bad_byte bytes) 0) (first_true (above_one bytes) 0 (length bytes) (omega arith));
}

module _ (B : Block) (t st list state before after : List ℕ) (room : StepRoomLent) where
  abbrev lent : StepLent
  lent = step_lent (inputs_lent t st list state before after) room

  abbrev Says : Result (Unit {0}) Refusal → Type 0
  Says = StepSays B t st list state before after lent

  -- grounds 12 and 10
  run_means : Steppable B t st list state before after lent
      → Says (run_answer B list state before after)
  unfolding run_answer
  run_means can =
      unless_cases Says (leb (ports B) (bad_row B list)) _ _ (λ e. bad_row_lem _ can (leb-false _ _ e) (bad_row_first B list))
      (λ e. let pass = leb-true (ports B) _ e in
      let stands : Stands B t st list state before after lent = λ i l. (bad_row_first B list).before i (omega arith) in
      unless_cases Says (leb (length (state ++ before ++ after)) (bad_byte (state ++ before ++ after))) _ _
      (λ f. not_a_bit _ can stands (first_above (state ++ before ++ after) (leb-false _ _ f)))
      (λ f. let bits = bits_of_joined state before after (leb-true (length (state ++ before ++ after)) _ f) in
      (can, stands, bits.0, bits.1, bits.2)))

  step_means : Says
      (step_answer B t st list state before after
      (step_exact B lent))
  unfolding step_answer inputs_answer
  step_means =
      unless_cases Says (sized B) _ _ (λ e. wrong_size (λ S. clash (sized_true B S) e))
      (λ s. let size = (sized_exact B).0 s in
      unless_cases Says
      (step_exact B lent) _ _
      (λ e. wrong_length size (λ L. clash (long.1 L) e))
      (λ l. let L = long.0 l in
      unless_cases Says (table_ok logic_tile t) _ _ (λ e. broken _ size L (table_broken logic_tile t e))
      (λ p. let rules = (table_exact logic_tile t L.inputs_long.table_long).0 p in
      unless_cases Says (leb (tiles B) (bitless_tile t st (tiles B))) _ _
      (λ e. bitless _ size L rules (bitless_lowest t st (tiles B) rules L.inputs_long.settings_long (leb-false _ _ e)))
      (λ e.
      run_means
      (record {
        size = size;
        lengths = L;
        rules = rules;
        has_bits = none_bitless t st (tiles B) rules L.inputs_long.settings_long (leb-true (tiles B) _ e);
      })))))
    where
      long : (step_exact B lent ≡ true)
          ↔ StepLong B lent
      long = step_long_exact B lent

  -- the same of what `step` promises to answer
  pub step_says : (r : Result (Unit {0}) Refusal)
      → r ≡ step_answer B t st list state before after
      (step_exact B lent)
      → Says r
  step_says r e = subst Says (sym e) step_means
