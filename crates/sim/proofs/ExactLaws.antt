-- What an answer of `step` says fits one answer only. Main law: `step_exact_lem`. What a yes writes is fixed by the clauses `values` and `next`. Assumes nothing.
use Rattle.std.specs.Prelude.{Result, Ok, Err}
use Prim.Native.Nat.{ℕ, ◌*◌, ◌≤◌}
use mathlib.Core.Path.{◌≡◌, sym, ap, ◌∙◌}
use mathlib.Core.Bool.{true}
use mathlib.Core.List.{List, ◌++◌}
use native.Mathlib.Omega.{arith}
use borrow.Author.Tests.{ne_eqb, lt-ltb, le-ltb}
use lib.ListN.{length, get_or}
use Rattle.lists.proofs.CaseLaws.{test_false}
use Rattle.lists.proofs.SearchLaws.{first_at}
use Rattle.refusal.specs.declared.Refusal.{Refusal}
use Rattle.refusal.specs.declared.Refusal.TheVariants.{Table, NoSuchSettings, NotABit, Row}
use Rattle.ports.specs.declared.size.Block.{Block}
use Rattle.ports.specs.Block.{tiles, Sized, sized}
use Rattle.ports.specs.Lengths.{ports}
use Rattle.ports.proofs.BlockLaws.{sized_true, sized_exact}
use Rattle.netlist.proofs.CheckingLaws.{first_bad_unique}
use Rattle.routing.specs.LogicTile.{logic_tile}
use Rattle.routing.specs.Rules.{TableRules}
use Rattle.routing.specs.TableCheck.{faulty_part, part_count, table_ok}
use Rattle.routing.proofs.TableCheckLaws.{table_exact, faulty_part_exact}
use Rattle.config.proofs.BlocksLaws.{bitless_is, bits_none}
use Rattle.stepper.specs.Settling.{wire_marks, bad_row}
use Rattle.sim.specs.Stepping.{above_one, bad_byte, run_answer, inputs_answer, step_answer}
use Rattle.sim.specs.declared.lengths.StepLent.{StepLent}
use Rattle.sim.specs.declared.lengths.StepRoomLent.{StepRoomLent}
use Rattle.sim.specs.Lengths.{inputs_lent, step_lent, step_exact, StepLong}
use Rattle.sim.specs.Meaning.{FirstAbove, Steppable, Stands, StepNo, wrong_size, wrong_length, broken, bitless, bad_row_lem, not_a_bit, StepSays}
use Rattle.sim.proofs.ByteLaws.{joined_of_bits}
use Rattle.sim.proofs.LengthLaws.{step_long_exact}
use Rattle.sim.proofs.StepLaws.{bad_row_first, run_row, run_byte, run_done, inputs_table, inputs_settings, inputs_run, step_size, step_length, step_inputs}

-- the first byte above 1 is the one that is found
above_is : (bytes : List ℕ) (index : ℕ) → FirstAbove bytes index → bad_byte bytes ≡ index
above_is bytes index first =
    first_at (above_one bytes) index (length bytes) first.within (lt-ltb 1 (get_or bytes index 0) first.above)
    (λ i l. le-ltb 1 (get_or bytes i 0) (first.before i l))

module _ (B : Block) (t st list state before after : List ℕ) (room : StepRoomLent) where
  abbrev lent : StepLent
  lent = step_lent (inputs_lent t st list state before after) room

  abbrev told : Result (Unit {0}) Refusal
  told = step_answer B t st list state before after (step_exact B lent)

  -- grounds 1 and 2 are not given
  lent_told : Sized B → StepLong B lent → inputs_answer B t st list state before after ≡ told
  lent_told size long = step_inputs B t st list state before after (step_exact B lent) (sized_true B size) ((step_long_exact B lent).1 long)

  rules_pass : TableRules logic_tile t → table_ok logic_tile t ≡ true
  rules_pass rules = (table_exact logic_tile t rules.long).1 rules

  -- nor 3 and 9
  run_told : Steppable B t st list state before after lent → run_answer B list state before after ≡ told
  run_told can =
      let e = bits_none t st (tiles B) can.rules can.lengths.inputs_long.settings_long can.has_bits in
      inputs_run B t st list state before after (rules_pass can.rules) (omega (arith, e)) ∙ lent_told can.size can.lengths

  -- nor 12
  stands_place : Stands B t st list state before after lent → ports B ≤ bad_row B list
  stands_place stands =
      let e = first_bad_unique list (8 * tiles B) (wire_marks B) (ports B) (bad_row B list) (ports B) (bad_row_first B list)
      (record { within = omega arith; before = stands; here = λ l h. absurd (omega arith) }) in
      omega (arith, e)

  -- an answer that says so is the one that is computed
  no_told : {refusal : Refusal} → StepNo B t st list state before after lent refusal → Err refusal ≡ told
  no_told (wrong_size none) = step_size B t st list state before after (step_exact B lent) (test_false (sized B) (sized_exact B).0 none)
  no_told (wrong_length size none) =
      step_length B t st list state before after (step_exact B lent) (sized_true B size) (test_false (step_exact B lent) (step_long_exact B lent).0 none)
  no_told (broken part size long broke) =
      let few = broke.counted in
      let e = ((faulty_part_exact logic_tile t part).1 broke).0 in
      ap (λ (p : ℕ). Err (Table p)) (sym e)
      ∙ inputs_table B t st list state before after (ne_eqb (faulty_part logic_tile t) (part_count logic_tile t) (λ z. absurd (omega (arith, e, z))))
      ∙ lent_told size long
  no_told (bitless T size long rules low) =
      let e = bitless_is t st (tiles B) rules long.inputs_long.settings_long T low in
      let l = low.within in
      ap (λ (n : ℕ). Err (NoSuchSettings n)) e ∙ inputs_settings B t st list state before after (rules_pass rules) (omega (arith, e))
      ∙ lent_told size long
  no_told (bad_row_lem row can l bad) =
      let e = first_bad_unique list (8 * tiles B) (wire_marks B) (ports B) row (bad_row B list) bad (bad_row_first B list) in
      ap (λ (n : ℕ). Err (Row n)) e ∙ run_row B list state before after (omega (arith, e)) ∙ run_told can
  no_told (not_a_bit index can stands above) =
      let e = above_is (state ++ before ++ after) index above in
      let l = above.within in
      ap (λ (n : ℕ). Err (NotABit n)) (sym e) ∙ run_byte B list state before after (stands_place stands) (omega (arith, e)) ∙ run_told can

  says_told : (r : Result (Unit {0}) Refusal) → StepSays B t st list state before after lent r → r ≡ told
  says_told (Ok _) (can, stands, hs, hb, ha) =
      run_done B list state before after (stands_place stands) (joined_of_bits state before after hs hb ha) ∙ run_told can
  says_told (Err refusal) says = no_told says

  -- one answer only
  pub step_exact_lem : (r q : Result (Unit {0}) Refusal) → StepSays B t st list state before after (step_lent (inputs_lent t st list state before after) room) r
      → StepSays B t st list state before after (step_lent (inputs_lent t st list state before after) room) q → r ≡ q
  step_exact_lem r q x y = says_told r x ∙ sym (says_told q y)
