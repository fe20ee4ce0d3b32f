-- Every answer of clocking says what specs/Meaning.antt has, and what it says fits one answer only. Main laws: `clock_says`, `clock_exact_lem`. What a yes
-- writes is fixed by the clause `next`. Assumes nothing.
use Rattle.std.specs.Prelude.{Result, Ok, Err}
use Prim.Native.Nat.{ℕ}
use mathlib.Core.Path.{◌≡◌, sym, subst, ap, ◌∙◌}
use mathlib.Core.Bool.{true}
use mathlib.Core.List.{List, ◌++◌}
use native.Mathlib.Omega.{arith}
use borrow.Author.Tests.{leb-true, leb-false, ne_eqb}
use lib.Dec.{leb}
use lib.ListN.{length}
use Rattle.lists.proofs.CaseLaws.{clash, test_false}
use Rattle.refusal.specs.declared.Refusal.{Refusal}
use Rattle.refusal.specs.declared.Refusal.TheVariants.{Table}
use Rattle.refusal.proofs.GroundsLaws.{unless_cases}
use Rattle.ports.specs.declared.size.Size.{Size}
use Rattle.ports.specs.Block.{tile_count, Allowed, allowed}
use Rattle.ports.proofs.BlockLaws.{allowed_true, allowed_exact}
use Rattle.routing.specs.LogicTile.{logic_tile}
use Rattle.routing.specs.Rules.{TableRules}
use Rattle.routing.specs.TableCheck.{faulty_part, part_count, table_ok}
use Rattle.routing.proofs.TableCheckLaws.{table_exact, table_broken, faulty_part_exact}
use Rattle.config.specs.Blocks.{bitless_tile}
use Rattle.config.proofs.BlocksLaws.{bitless_lowest, none_bitless, bitless_is, bits_none}
use Rattle.sim.specs.Stepping.{bad_byte}
use Rattle.moments.specs.Checks.{settings_answer, bytes_answer}
use Rattle.moments.specs.Clocking.{clock_answer}
use Rattle.moments.specs.declared.lengths.ClockLent.{ClockLent}
use Rattle.moments.specs.Lengths.{clock_lent, clock_exact, ClockLong}
use Rattle.moments.specs.Meaning.{Clocks, ClockNo, ClockSays, no_size, no_length, no_table, no_settings, no_bit}
use Rattle.moments.proofs.ByteLaws.{bytes_bad, bytes_done, first_above, above_is}
use Rattle.moments.proofs.ChecksLaws.{settings_table, settings_bitless, settings_later}
use Rattle.moments.proofs.LengthLaws.{clock_long_exact}
use Rattle.moments.proofs.ClockLaws.{three_bits, bits_done, clock_size, clock_length, clock_inputs}

module _ (S : Size) (t st state before after : List ℕ) (next : ℕ) where
  abbrev all : ClockLent
  all = clock_lent t st state before after next

  abbrev told : Result (Unit {0}) Refusal
  told = clock_answer S t st state before after (clock_exact S all)

  abbrev Says : Result (Unit {0}) Refusal → Type 0
  Says = ClockSays S t st state before after all

  abbrev joined : List ℕ
  joined = state ++ before ++ after

  -- ---- every answer says it

  -- ground 10
  bytes_mean : Clocks S t st state before after all → Says (bytes_answer joined)
  unfolding bytes_answer
  bytes_mean can =
      unless_cases Says (leb (length joined) (bad_byte joined)) _ _ (λ f. no_bit _ can (first_above joined (leb-false _ _ f)))
      (λ f. let bits = three_bits state before after (sym (bytes_done joined (leb-true (length joined) _ f))) in (can, bits.0, bits.1, bits.2))

  clock_means : Says told
  unfolding clock_answer settings_answer
  clock_means =
      unless_cases Says (allowed S) _ _ (λ e. no_size (λ A. clash (allowed_true S A) e))
      (λ s. let size = (allowed_exact S).0 s in
      unless_cases Says (clock_exact S all) _ _ (λ e. no_length size (λ L. clash ((clock_long_exact S all).1 L) e))
      (λ l. let L = (clock_long_exact S all).0 l in
      unless_cases Says (table_ok logic_tile t) _ _ (λ e. no_table _ size L (table_broken logic_tile t e))
      (λ p. let rules = (table_exact logic_tile t L.table_long).0 p in
      unless_cases Says (leb (tile_count S) (bitless_tile t st (tile_count S))) _ _
      (λ e. no_settings _ size L rules (bitless_lowest t st (tile_count S) rules L.settings_long (leb-false _ _ e)))
      (λ e.
      bytes_mean
      (record {
        size = size;
        lengths = L;
        rules = rules;
        has_bits = none_bitless t st (tile_count S) rules L.settings_long (leb-true (tile_count S) _ e);
      })))))

  -- the same of what `clock` promises to answer
  pub clock_says : (r : Result (Unit {0}) Refusal) → r ≡ clock_answer S t st state before after (clock_exact S (clock_lent t st state before after next))
      → ClockSays S t st state before after (clock_lent t st state before after next) r
  clock_says r e = subst Says (sym e) clock_means

  -- ---- only one answer fits

  -- grounds 1 and 2 are not given
  lent_told : Allowed S → ClockLong S all → settings_answer t st (tile_count S) (bytes_answer joined) ≡ told
  lent_told size long = clock_inputs S t st state before after (clock_exact S all) (allowed_true S size) ((clock_long_exact S all).1 long)

  rules_pass : TableRules logic_tile t → table_ok logic_tile t ≡ true
  rules_pass rules = (table_exact logic_tile t rules.long).1 rules

  -- nor 3 and 9
  bytes_told : Clocks S t st state before after all → bytes_answer joined ≡ told
  bytes_told can =
      let e = bits_none t st (tile_count S) can.rules can.lengths.settings_long can.has_bits in
      settings_later t st (tile_count S) (bytes_answer joined) (rules_pass can.rules) (omega (arith, e)) ∙ lent_told can.size can.lengths

  -- an answer that says so is the one that is computed
  no_told : {refusal : Refusal} → ClockNo S t st state before after all refusal → Err refusal ≡ told
  no_told (no_size none) = clock_size S t st state before after (clock_exact S all) (test_false (allowed S) (allowed_exact S).0 none)
  no_told (no_length size none) =
      clock_length S t st state before after (clock_exact S all) (allowed_true S size) (test_false (clock_exact S all) (clock_long_exact S all).0 none)
  no_told (no_table part size long broke) =
      let few = broke.counted in
      let e = ((faulty_part_exact logic_tile t part).1 broke).0 in
      ap (λ (p : ℕ). Err (Table p)) (sym e)
      ∙ settings_table t st (tile_count S) (bytes_answer joined) (ne_eqb (faulty_part logic_tile t) (part_count logic_tile t) (λ z. absurd (omega (arith, e, z))))
      ∙ lent_told size long
  no_told (no_settings T size long rules low) =
      settings_bitless t st (tile_count S) (bytes_answer joined) (rules_pass rules) T (bitless_is t st (tile_count S) rules long.settings_long T low)
      low.within
      ∙ lent_told size long
  no_told (no_bit index can above) = bytes_bad joined index (sym (above_is joined index above)) above.within ∙ bytes_told can

  says_told : (r : Result (Unit {0}) Refusal) → Says r → r ≡ told
  says_told (Ok _) (can, hs, hb, ha) = bits_done state before after hs hb ha ∙ bytes_told can
  says_told (Err refusal) says = no_told says

  -- one answer only
  pub clock_exact_lem : (r q : Result (Unit {0}) Refusal) → ClockSays S t st state before after (clock_lent t st state before after next) r
      → ClockSays S t st state before after (clock_lent t st state before after next) q → r ≡ q
  clock_exact_lem r q x y = says_told r x ∙ sym (says_told q y)

  -- a yes from what it says
  pub clock_yes : ClockSays S t st state before after (clock_lent t st state before after next) (Ok tt)
      → clock_answer S t st state before after (clock_exact S (clock_lent t st state before after next)) ≡ (Ok tt)
  clock_yes says = sym (says_told (Ok tt) says)
