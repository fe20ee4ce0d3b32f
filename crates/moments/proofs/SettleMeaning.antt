-- Every answer of settling says what specs/Meaning.antt has, and what it says fits one answer only. Main laws: `settle_says`, `settle_exact_lem`. What a yes
-- writes is fixed by the clause `values`. Assumes nothing.
use Rattle.std.specs.Prelude.{Result, Ok, Err}
use Prim.Native.Nat.{ℕ, ◌*◌, ◌≤◌}
use mathlib.Core.Path.{◌≡◌, sym, subst, ap, ◌∙◌}
use mathlib.Core.Bool.{true}
use mathlib.Core.List.{List, ◌++◌}
use native.Mathlib.Omega.{arith}
use borrow.Author.Tests.{leb-true, leb-false, ne_eqb}
use lib.Dec.{leb}
use lib.ListN.{length}
use Rattle.lists.proofs.CaseLaws.{clash, test_false}
use Rattle.refusal.specs.declared.Refusal.{Refusal}
use Rattle.refusal.specs.declared.Refusal.TheVariants.{Table}
use Rattle.refusal.proofs.GroundsLaws.{unless_cases}
use Rattle.ports.specs.declared.size.Block.{Block}
use Rattle.ports.specs.Block.{tiles, Sized, sized}
use Rattle.ports.specs.Lengths.{ports}
use Rattle.ports.proofs.BlockLaws.{sized_true, sized_exact}
use Rattle.netlist.proofs.CheckingLaws.{first_bad_unique}
use Rattle.routing.specs.LogicTile.{logic_tile}
use Rattle.routing.specs.Rules.{TableRules}
use Rattle.routing.specs.TableCheck.{faulty_part, part_count, table_ok}
use Rattle.routing.proofs.TableCheckLaws.{table_exact, table_broken, faulty_part_exact}
use Rattle.config.specs.Blocks.{bitless_tile}
use Rattle.config.proofs.BlocksLaws.{bitless_lowest, none_bitless, bitless_is, bits_none}
use Rattle.stepper.specs.Settling.{wire_marks, bad_row}
use Rattle.sim.specs.Stepping.{bad_byte}
use Rattle.moments.specs.Checks.{settings_answer, bytes_answer}
use Rattle.moments.specs.Settling.{run_answer, settle_answer}
use Rattle.moments.specs.declared.lengths.SettleLent.{SettleLent}
use Rattle.moments.specs.declared.lengths.SettleRoomLent.{SettleRoomLent}
use Rattle.moments.specs.Lengths.{settle_lent, settle_exact, SettleLong}
use Rattle.moments.specs.Meaning.{Settleable, Stands, SettleNo, SettleSays, wrong_size, wrong_length, broken, bitless, bad_row_lem, not_a_bit}
use Rattle.sim.proofs.ByteLaws.{bits_of, bits_left, bits_right, bits_append, none_of_bits}
use Rattle.moments.proofs.ByteLaws.{bytes_bad, bytes_done, first_above, above_is}
use Rattle.moments.proofs.ChecksLaws.{settings_table, settings_bitless, settings_later}
use Rattle.moments.proofs.LengthLaws.{settle_long_exact}
use Rattle.sim.proofs.StepLaws.{bad_row_first}
use Rattle.moments.proofs.SettleLaws.{stands_passed, run_row, run_bytes, settle_size, settle_length, settle_inputs}

module _ (B : Block) (t st list state lent : List ℕ) (room : SettleRoomLent) where
  abbrev all : SettleLent
  all = settle_lent t st list state lent room

  abbrev told : Result (Unit {0}) Refusal
  told = settle_answer B t st list state lent (settle_exact B all)

  abbrev Says : Result (Unit {0}) Refusal → Type 0
  Says = SettleSays B t st list state lent all

  -- ---- every answer says it

  -- grounds 12 and 10
  run_means : Settleable B t st list state lent all → Says (run_answer B list state lent)
  unfolding run_answer bytes_answer
  run_means can =
      unless_cases Says (leb (ports B) (bad_row B list)) _ _ (λ e. bad_row_lem _ can (leb-false _ _ e) (bad_row_first B list))
      (λ e. let pass = leb-true (ports B) _ e in
      let stands : Stands B list = λ i l. (bad_row_first B list).before i (omega arith) in
      unless_cases Says (leb (length (state ++ lent)) (bad_byte (state ++ lent))) _ _
      (λ f. not_a_bit _ can stands (first_above (state ++ lent) (leb-false _ _ f)))
      (λ f. let bits = bits_of (state ++ lent) (leb-true (length (state ++ lent)) _ f) in
      (can, stands, bits_left state lent bits, bits_right state lent bits)))

  settle_means : Says told
  unfolding settle_answer settings_answer
  settle_means =
      unless_cases Says (sized B) _ _ (λ e. wrong_size (λ S. clash (sized_true B S) e))
      (λ s. let size = (sized_exact B).0 s in
      unless_cases Says (settle_exact B all) _ _ (λ e. wrong_length size (λ L. clash ((settle_long_exact B all).1 L) e))
      (λ l. let L = (settle_long_exact B all).0 l in
      unless_cases Says (table_ok logic_tile t) _ _ (λ e. broken _ size L (table_broken logic_tile t e))
      (λ p. let rules = (table_exact logic_tile t L.table_long).0 p in
      unless_cases Says (leb (tiles B) (bitless_tile t st (tiles B))) _ _
      (λ e. bitless _ size L rules (bitless_lowest t st (tiles B) rules L.settings_long (leb-false _ _ e)))
      (λ e.
      run_means
      (record {
        size = size;
        lengths = L;
        rules = rules;
        has_bits = none_bitless t st (tiles B) rules L.settings_long (leb-true (tiles B) _ e);
      })))))

  -- the same of what `settle` promises to answer
  pub settle_says : (r : Result (Unit {0}) Refusal) → r ≡ settle_answer B t st list state lent (settle_exact B (settle_lent t st list state lent room))
      → SettleSays B t st list state lent (settle_lent t st list state lent room) r
  settle_says r e = subst Says (sym e) settle_means

  -- ---- only one answer fits

  -- grounds 1 and 2 are not given
  lent_told : Sized B → SettleLong B all → settings_answer t st (tiles B) (run_answer B list state lent) ≡ told
  lent_told size long = settle_inputs B t st list state lent (settle_exact B all) (sized_true B size) ((settle_long_exact B all).1 long)

  rules_pass : TableRules logic_tile t → table_ok logic_tile t ≡ true
  rules_pass rules = (table_exact logic_tile t rules.long).1 rules

  -- nor 3 and 9
  run_told : Settleable B t st list state lent all → run_answer B list state lent ≡ told
  run_told can =
      let e = bits_none t st (tiles B) can.rules can.lengths.settings_long can.has_bits in
      settings_later t st (tiles B) (run_answer B list state lent) (rules_pass can.rules) (omega (arith, e)) ∙ lent_told can.size can.lengths

  -- nor 12
  stands_place : Stands B list → ports B ≤ bad_row B list
  stands_place stands = omega (arith, stands_passed B list stands)

  -- an answer that says so is the one that is computed
  no_told : {refusal : Refusal} → SettleNo B t st list state lent all refusal → Err refusal ≡ told
  no_told (wrong_size none) = settle_size B t st list state lent (settle_exact B all) (test_false (sized B) (sized_exact B).0 none)
  no_told (wrong_length size none) =
      settle_length B t st list state lent (settle_exact B all) (sized_true B size) (test_false (settle_exact B all) (settle_long_exact B all).0 none)
  no_told (broken part size long broke) =
      let few = broke.counted in
      let e = ((faulty_part_exact logic_tile t part).1 broke).0 in
      ap (λ (p : ℕ). Err (Table p)) (sym e)
      ∙ settings_table t st (tiles B) (run_answer B list state lent) (ne_eqb (faulty_part logic_tile t) (part_count logic_tile t) (λ z. absurd (omega (arith, e, z))))
      ∙ lent_told size long
  no_told (bitless T size long rules low) =
      settings_bitless t st (tiles B) (run_answer B list state lent) (rules_pass rules) T (bitless_is t st (tiles B) rules long.settings_long T low)
      low.within
      ∙ lent_told size long
  no_told (bad_row_lem row can l bad) =
      let e = first_bad_unique list (8 * tiles B) (wire_marks B) (ports B) row (bad_row B list) bad (bad_row_first B list) in
      run_row B list state lent row e l ∙ run_told can
  no_told (not_a_bit index can stands above) =
      bytes_bad (state ++ lent) index (sym (above_is (state ++ lent) index above)) above.within ∙ run_bytes B list state lent (stands_place stands)
      ∙ run_told can

  says_told : (r : Result (Unit {0}) Refusal) → Says r → r ≡ told
  says_told (Ok _) (can, stands, hs, hl) =
      bytes_done (state ++ lent) (none_of_bits (state ++ lent) (bits_append state lent hs hl)) ∙ run_bytes B list state lent (stands_place stands)
      ∙ run_told can
  says_told (Err refusal) says = no_told says

  -- one answer only
  pub settle_exact_lem : (r q : Result (Unit {0}) Refusal) → SettleSays B t st list state lent (settle_lent t st list state lent room) r
      → SettleSays B t st list state lent (settle_lent t st list state lent room) q → r ≡ q
  settle_exact_lem r q x y = says_told r x ∙ sym (says_told q y)

  -- a yes from what it says
  pub settle_yes : SettleSays B t st list state lent (settle_lent t st list state lent room) (Ok tt)
      → settle_answer B t st list state lent (settle_exact B (settle_lent t st list state lent room)) ≡ (Ok tt)
  settle_yes says = sym (says_told (Ok tt) says)
