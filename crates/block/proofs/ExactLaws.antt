-- What an answer of `build` and of `follow` says fits one answer only. Main laws: `list_exact` (grounds 5 to 8), `build_exact_lem`, `follow_exact_lem`. Assumes nothing.
use Rattle.drivers.specs.declared.follow.Driver.{Driver}
use Rattle.std.specs.Prelude.{Result, Ok, Err}
use Prim.Native.Nat.{ℕ, ◌*◌, ◌<◌, ◌≤◌}
use mathlib.Core.Path.{◌≡◌, sym, ap, ◌∙◌}
use mathlib.Core.Logic.{inl, inr, ⊎_elim}
use mathlib.Core.Bool.{true}
use mathlib.Core.List.{List}
use native.Mathlib.Omega.{arith}
use Rattle.lists.proofs.CaseLaws.{test_false, lt_or_le}
use Rattle.refusal.specs.declared.Refusal.{Refusal}
use Rattle.refusal.specs.declared.Refusal.TheVariants.{OutOfRange}
use Rattle.ports.specs.declared.size.Block.{Block}
use Rattle.ports.specs.Block.{tiles, Sized, sized}
use Rattle.ports.specs.Lengths.{ports}
use Rattle.ports.proofs.BlockLaws.{sized_true, sized_exact, port_of_lt}
use Rattle.fabric.proofs.WireLaws.{wire_within, wire_idempotent}
use Rattle.loops.specs.Loops.{loop_wire}
use Rattle.loops.proofs.LoopWireLaws.{loop_wire_is, loop_wire_lowest}
use Rattle.routing.specs.LogicTile.{logic_tile}
use Rattle.routing.specs.Rules.{TableRules}
use Rattle.routing.specs.TableCheck.{table_ok}
use Rattle.routing.proofs.TableCheckLaws.{table_exact, faulty_part_exact}
use Rattle.config.specs.Blocks.{fault_place, decoded, bitless_tile, tiles_of}
use Rattle.config.proofs.BlocksLaws.{bitless_is, bits_none}
use Rattle.config.proofs.FaultPlaceLaws.{fault_place_exact, decodable_no_fault}
use Rattle.equations.specs.Switches.{NoContention}
use Rattle.equations.specs.Equations.{NoLoop, wire}
use Rattle.equations.specs.Routed.{Routed}
use Rattle.equations.specs.Sources.{contended_wire}
use Rattle.equations.proofs.WireRowLaws.{graph}
use Rattle.equations.proofs.SourceLaws.{contended_exact, contended_none_exact}
use Rattle.equations.proofs.ChainLaws.{rows_closed}
use Rattle.equations.proofs.LoopLaws.{loop_lowest_exact}
use Rattle.drivers.specs.CarryReads.{carry_read_wire}
use Rattle.drivers.proofs.CarryReadLaws.{carry_read_exact, carry_read_none_exact}
use Rattle.drivers.proofs.ClockLaws.{clocked_exact, clocked_none_exact}
use Rattle.drivers.proofs.FollowingLaws.{driven_exact, driven_unique}
use Rattle.block.specs.declared.lengths.BuildLent.{BuildLent}
use Rattle.block.specs.declared.lengths.FollowLent.{FollowLent}
use Rattle.block.specs.Lengths.{build_exact, BuildLong, follow_lent, follow_exact, FollowLong}
use Rattle.block.specs.Building.{list_answer, bits_answer, build_answer}
use Rattle.block.specs.Drivers.{port_answer, settings_answer, follow_answer}
use Rattle.block.specs.Meaning.{NoDisabledCarry, ListNo, contention, disabled_carry, loop, cell_clock, ListSays, Readable, BuildNo, wrong_size, wrong_length, broken, undecodable, unlisted, BuildSays}
use Rattle.block.specs.DriverMeaning.{OutOfBlock, Followable, FollowNo, FollowSays}
use Rattle.block.specs.DriverMeaning as following
use Rattle.block.proofs.LengthLaws.{build_long_exact, follow_long_exact}
use Rattle.block.proofs.RoutedLaws.{routed_of_read, routed_of_fit}
use Rattle.block.proofs.BuildingLaws.{list_contended, list_carry, list_loop, list_clocked, list_listed, bits_table, bits_undecodable, bits_list, build_size, build_length, build_bits}
use Rattle.block.proofs.DriverLaws.{port_contended, port_no_tile, port_no_port, port_driven, settings_table, settings_bitless, settings_port, follow_size, follow_length, follow_settings}

-- a table that keeps its rules passes the check
rules_pass : (t : List ℕ) → TableRules logic_tile t → table_ok logic_tile t ≡ true
rules_pass t rules = (table_exact logic_tile t rules.long).1 rules

-- ---- grounds 5 to 8, of settings that were read

module _ (B : Block) (t st : List ℕ) (ok : Routed B t st) where
  -- a ground that is not there is not found

  free_place : NoContention B t st → ports B ≤ contended_wire B t st
  free_place free = let e = (contended_none_exact B t st ok).0 free in omega (arith, e)

  module _ (free : NoContention B t st) where
    unread_place : NoDisabledCarry B t st → ports B ≤ carry_read_wire B t st
    unread_place unread = let e = (carry_read_none_exact B t st ok free).0 unread in omega (arith, e)

    straight_place : NoLoop B t st → ports B ≤ loop_wire (graph B t st) (ports B)
    straight_place straight =
        ⊎_elim
        (λ (l : loop_wire (graph B t st) (ports B) < ports B).
        absurd (straight _ ((loop_lowest_exact B t st ok free (loop_wire (graph B t st) (ports B))).1
        (l, loop_wire_lowest (graph B t st) (ports B) (rows_closed B t st ok))).here))
        (λ l. l) (lt_or_le (loop_wire (graph B t st) (ports B)) (ports B))

  -- an answer that says so is the one that is computed
  list_told : (r : Result ℕ Refusal) → ListSays B t st r → r ≡ list_answer B t st
  list_told (Ok rows) (e, accepted) =
      let free = accepted.no_contention in
      let straight = accepted.no_loop in
      list_listed B t st (free_place free) (unread_place free accepted.no_carry) (straight_place free straight) (tiles B)
      (sym ((clocked_none_exact B t st ok free straight).0 accepted.no_clock)) (omega arith) rows e
  list_told (Err refusal) says = told says
    where
      told : {r : Refusal} → ListNo B t st r → Err r ≡ list_answer B t st
      told (contention w low) = let e = (contended_exact B t st ok w).0 low in list_contended B t st w (sym e.1) e.0
      told (disabled_carry w free low) =
          let e = (carry_read_exact B t st ok free w).0 low in list_carry B t st (free_place free) w (sym e.1) e.0
      told (loop w free unread low) =
          let e = (loop_lowest_exact B t st ok free w).0 low in
          list_loop B t st (free_place free) (unread_place free unread) w (loop_wire_is (graph B t st) (ports B) (rows_closed B t st ok) w e.1) e.0
      told (cell_clock T free unread straight low) =
          let e = (clocked_exact B t st ok free straight T).0 low in
          list_clocked B t st (free_place free) (unread_place free unread) (straight_place free straight) T (sym e.1) e.0

  pub list_exact : (r q : Result ℕ Refusal) → ListSays B t st r → ListSays B t st q → r ≡ q
  list_exact r q x y = list_told r x ∙ sym (list_told q y)

-- ---- building

module _ (B : Block) (t bits : List ℕ) (lent : BuildLent) where
  abbrev built : Result ℕ Refusal
  built = build_answer B t (tiles_of bits) (build_exact B lent)

  -- grounds 1 and 2 are not given
  lent_built : Sized B → BuildLong B lent → bits_answer B t (tiles_of bits) ≡ built
  lent_built size long = build_bits B t bits (build_exact B lent) (sized_true B size) ((build_long_exact B lent).1 long)

  -- nor 3 and 4
  read_built : Readable B t bits lent → (r : Result ℕ Refusal) → ListSays B t (decoded t (tiles_of bits) (tiles B)) r → r ≡ built
  read_built read r says =
      let clean : logic_tile.positions * tiles B ≤ fault_place t (tiles_of bits) (tiles B) =
      let e = decodable_no_fault t bits read.rules (tiles B) read.tiles_read_lem.decodable in omega (arith, e) in
      list_told B t (decoded t (tiles_of bits) (tiles B)) (routed_of_read B t bits read.size read.rules clean) r says
      ∙ bits_list B t bits (rules_pass t read.rules) clean ∙ lent_built read.size read.lengths

  no_built : {refusal : Refusal} → BuildNo B t bits lent refusal → Err refusal ≡ built
  no_built (wrong_size none) = build_size B t bits (build_exact B lent) (test_false (sized B) (sized_exact B).0 none)
  no_built (wrong_length size none) =
      build_length B t bits (build_exact B lent) (sized_true B size) (test_false (build_exact B lent) (build_long_exact B lent).0 none)
  no_built (broken part size long broke) =
      let few = broke.counted in
      bits_table B t bits part (sym ((faulty_part_exact logic_tile t part).1 broke).0) (λ e. absurd (omega arith)) ∙ lent_built size long
  no_built (undecodable place size long rules low) =
      let e = (fault_place_exact t bits rules (tiles B) place).0 low in
      bits_undecodable B t bits (rules_pass t rules) place e.0 e.1 ∙ lent_built size long
  no_built (unlisted refusal read says) = read_built read (Err refusal) says

  says_built : (r : Result ℕ Refusal) → BuildSays B t bits lent r → r ≡ built
  says_built (Ok rows) x = read_built x.0 (Ok rows) (x.1, x.2)
  says_built (Err refusal) says = no_built says

  -- one answer only
  pub build_exact_lem : (r q : Result ℕ Refusal) → BuildSays B t bits lent r → BuildSays B t bits lent q → r ≡ q
  build_exact_lem r q x y = says_built r x ∙ sym (says_built q y)

-- ---- following

module _ (B : Block) (t st : List ℕ) (tile port : ℕ) (wires sources marks : List ℕ) where
  abbrev room : FollowLent
  room = follow_lent t st wires sources marks

  abbrev told : Result Driver Refusal
  told = follow_answer B t st tile port (follow_exact B room)

  -- grounds 1 and 2 are not given
  lent_told : Sized B → FollowLong B room → settings_answer B t st tile port ≡ told
  lent_told size long = follow_settings B t st tile port (follow_exact B room) (sized_true B size) ((follow_long_exact B room).1 long)

  -- nor 3 and 9
  module _ (can : Followable B t st tile port room) where
    clean : tiles B ≤ bitless_tile t st (tiles B)
    clean = let e = bits_none t st (tiles B) can.rules can.lengths.settings_long can.has_bits in omega (arith, e)

    routed : Routed B t st
    routed = routed_of_fit B t st can.size can.rules can.lengths.settings_long clean

    port_told : port_answer B t st tile port ≡ told
    port_told = settings_port B t st tile port (rules_pass t can.rules) clean ∙ lent_told can.size can.lengths

    out_told : (number : ℕ) → NoContention B t st → OutOfBlock B tile port number → Err (OutOfRange number) ≡ port_answer B t st tile port
    out_told number free (inl (over, e)) = ap (λ (n : ℕ). Err (OutOfRange n)) e ∙ port_no_tile B t st tile port (free_place B t st routed free) over
    out_told number free (inr (l, over, e)) =
        ap (λ (n : ℕ). Err (OutOfRange n)) e ∙ port_no_port B t st tile port (free_place B t st routed free) l over

  no_followed : {refusal : Refusal} → FollowNo B t st tile port room refusal → Err refusal ≡ told
  no_followed (following.wrong_size none) = follow_size B t st tile port (follow_exact B room) (test_false (sized B) (sized_exact B).0 none)
  no_followed (following.wrong_length size none) =
      follow_length B t st tile port (follow_exact B room) (sized_true B size) (test_false (follow_exact B room) (follow_long_exact B room).0 none)
  no_followed (following.broken part size long broke) =
      let few = broke.counted in
      settings_table B t st tile port part (sym ((faulty_part_exact logic_tile t part).1 broke).0) (λ e. absurd (omega arith)) ∙ lent_told size long
  no_followed (following.bitless T size long rules low) =
      settings_bitless B t st tile port (rules_pass t rules) T (bitless_is t st (tiles B) rules long.settings_long T low) low.within
      ∙ lent_told size long
  no_followed (following.contention x can low) =
      let e = (contended_exact B t st (routed can) x).0 low in port_contended B t st tile port x (sym e.1) e.0 ∙ port_told can
  no_followed (following.out_of_range number can free out) = out_told can number free out ∙ port_told can

  says_followed : (r : Result Driver Refusal) → FollowSays B t st tile port room r → r ≡ told
  says_followed (Ok driver) (can, to) =
      let free = to.no_contention in
      let l = port_of_lt B tile port to.tile_within to.port_within in
      ap Ok (driven_unique B t st (routed can) free to.driven
      (driven_exact B t st (routed can) free (wire B tile port) (wire_within B _ l) (wire_idempotent B _ l)))
      ∙ port_driven B t st tile port (free_place B t st (routed can) free) to.tile_within to.port_within ∙ port_told can
  says_followed (Err refusal) says = no_followed says

  -- one answer only
  pub follow_exact_lem : (r q : Result Driver Refusal) → FollowSays B t st tile port (follow_lent t st wires sources marks) r
      → FollowSays B t st tile port (follow_lent t st wires sources marks) q → r ≡ q
  follow_exact_lem r q x y = says_followed r x ∙ sym (says_followed q y)
