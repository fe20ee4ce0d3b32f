-- Settings to bits and back. Main laws: `settings_back`: settings that are written are read back the same; `encode_decodable`: what is
-- written can be decoded. Assumes nothing.
use mathlib.Core.Path.{◌≡◌, sym, ap, ◌∙◌}
use mathlib.Core.List.{List}
use Prim.Native.Nat.{ℕ, ◌+◌, ◌*◌, ◌/◌, ◌%◌, ◌^◌, ◌<◌}
use native.Mathlib.Omega.{arith}
use borrow.Author.Tests.{eq-eqb}
use lib.ListN.{get_or}
use lib.Seq.{ext_get_or}
use Rattle.lists.proofs.CaseLaws.{clash, and_true}
use Rattle.digits.specs.Digits.{from_digits}
use Rattle.routing.specs.TileKind.{bits_per_cell}
use Rattle.routing.specs.LogicTile.{logic_tile, cell_position, carry_in_set, carry_chain}
use Rattle.ports.specs.Lengths.{max_passives, max_groups, max_positions}
use Rattle.routing.specs.Table.{field_at, passive_count, passive_at, group_count, width_of, position_at}
use Rattle.routing.specs.Slots.{slots_of, field_slots, passive_slots, group_slot}
use Rattle.routing.proofs.LogicTileLaws.{logic_tile_once}
use Rattle.routing.proofs.TableOnceLaws.{table_once}
use Rattle.words.proofs.FormsLaws.{past_none}
use Rattle.codec.specs.Bits.{bit_at, tile_of}
use Rattle.codec.specs.Settings.{field_setting, passive_setting, group_setting, cell_table, cell_flags}
use Rattle.codec.specs.Groups.{setting_of_pattern, read_group, pattern_of}
use Rattle.codec.specs.Cells.{cell_value, value_in}
use Rattle.codec.specs.Decode.{setting_number, decode}
use Rattle.codec.specs.Fault.{is_unlisted}
use Rattle.codec.specs.Encode.{slot_value, encode}
use Rattle.codec.specs.Limits.{both_carries}
use Rattle.codec.specs.Writing.{Writable}
use Rattle.codec.specs.Reading.{unlisted, unclaimed, carry_pair_lem, past_columns_lem, Decodable}
use Rattle.codec.specs.declared.groups.GroupRead.TheVariants.{Setting}
use Rattle.codec.proofs.SetBitsLaws.{from_digits_one}
use Rattle.codec.proofs.GroupLaws.{setting_back, pattern_fits}
use Rattle.codec.proofs.EncodeLaws.{encode_unclaimed, encode_fits}
use Rattle.codec.proofs.LimitLaws.{fit_carries, fit_field, fit_passive, fit_passive_rest, fit_group, fit_group_rest, fit_table, fit_flags}
use Rattle.codec.proofs.RunLaws.{Run, run_back}
use Rattle.codec.proofs.TileRunLaws.{slot_value_lt, cell_run, field_run, passive_run, group_run}
use Rattle.codec.proofs.DecodeLaws.{setting_kinds, decode_length, decode_field, decode_passive, decode_passive_rest, decode_group, decode_group_rest, decode_table, decode_flags}
use Rattle.codec.proofs.ListedLaws.{unlisted_exact}
use Rattle.codec.proofs.FaultyLaws.{unclaimed_owner}

module _ (table settings : List ℕ) (C : Writable table settings) where
  abbrev E : List ℕ
  E = encode table settings

  -- what a run of slots holds is read back
  back : (m w n : ℕ) (at : ℕ → ℕ) (v : ℕ) → Run (slots_of logic_tile table) (slot_value table settings) m w n at v → v < 2 ^ n
      → from_digits (λ (k : ℕ). bit_at E (at k)) n ≡ v
  back m w n at v R h =
      run_back (slots_of logic_tile table) (slot_value table settings) m w n at v R (table_once logic_tile table logic_tile_once C.rules)
      (slot_value_lt table settings) h

  cell_trip : (i : ℕ) → i < 8 → value_in (bit_at E) i ≡ cell_value (cell_table logic_tile settings i) (cell_flags logic_tile settings i)
  cell_trip i h =
      back (bits_per_cell * i) bits_per_cell bits_per_cell (cell_position i) (cell_value (cell_table logic_tile settings i) (cell_flags logic_tile settings i))
      (cell_run table settings i h)
      (omega (arith, fit_flags table settings C.fit i h, fit_table table settings C.fit i h))

  pub field_trip : (f : ℕ) → f < 3 → bit_at E (field_at table f) ≡ field_setting settings f
  field_trip f h =
      sym (from_digits_one (λ (k : ℕ). bit_at E (field_at table f)))
      ∙ back (field_slots logic_tile + f) 1 1 (λ (k : ℕ). field_at table f) (field_setting settings f) (field_run table settings C.rules f h)
      (fit_field table settings C.fit f h)

  passive_trip : (j : ℕ) → j < max_passives → j < passive_count logic_tile table → bit_at E (passive_at logic_tile table j) ≡ passive_setting logic_tile settings j
  passive_trip j few h =
      sym (from_digits_one (λ (k : ℕ). bit_at E (passive_at logic_tile table j)))
      ∙ back (passive_slots logic_tile + j) 1 1 (λ (k : ℕ). passive_at logic_tile table j) (passive_setting logic_tile settings j)
      (passive_run table settings C.rules j h)
      (fit_passive table settings C.fit j few h)

  pub group_trip : (g : ℕ) → g < group_count logic_tile table → read_group logic_tile table (bit_at E) g ≡ Setting (group_setting logic_tile settings g)
  group_trip g h =
      let few : g < max_groups = omega (arith, C.rules.few_groups) in
      let fits = fit_group table settings C.fit g few h in
      ap (setting_of_pattern logic_tile table g)
      (back (group_slot logic_tile g) max_positions (width_of logic_tile table g) (position_at logic_tile table g)
      (pattern_of logic_tile table g (group_setting logic_tile settings g))
      (group_run table settings C.rules g h) (pattern_fits logic_tile table g (C.rules.groups g h) (group_setting logic_tile settings g) fits))
      ∙ setting_back logic_tile table g (C.rules.groups g h) (group_setting logic_tile settings g) fits

  -- settings that are written are read back the same
  pub settings_back : decode table (bit_at (encode table settings)) ≡ settings
  settings_back =
      ext_get_or 0 (decode table (bit_at E)) settings (decode_length table E ∙ sym C.long)
      (λ i h. setting_kinds table (λ (n : ℕ). get_or (decode table (bit_at E)) n 0 ≡ get_or settings n 0)
      (λ f l. decode_field table E f l ∙ field_trip f l)
      (λ j few l. decode_passive table E j few l ∙ passive_trip j few l)
      (λ j few l. decode_passive_rest table E j few l ∙ sym (fit_passive_rest table settings C.fit j few l))
      (λ g few l. decode_group table E g few l ∙ ap setting_number (group_trip g l))
      (λ g few l. decode_group_rest table E g few l ∙ sym (fit_group_rest table settings C.fit g few l))
      (λ k l. decode_table table E k l ∙ ap (λ (x : ℕ). x % 2 ^ 16) (cell_trip k l)
      ∙ omega (arith, fit_flags table settings C.fit k l, fit_table table settings C.fit k l))
      (λ k l. decode_flags table E k l ∙ ap (λ (x : ℕ). x / 2 ^ 16) (cell_trip k l)
      ∙ omega (arith, fit_flags table settings C.fit k l, fit_table table settings C.fit k l))
      i (omega (arith, decode_length table E)))

  -- what is written can be decoded
  pub encode_decodable : Decodable table (tile_of (encode table settings))
  unfolding both_carries
  encode_decodable p (unlisted g h n m) =
      clash ((unlisted_exact table E g (C.rules.groups g h)).1 (n, m)) (ap is_unlisted (group_trip g h))
  encode_decodable p (unclaimed q h n e) =
      let z : bit_at E p ≡ 0 = encode_unclaimed (slots_of logic_tile table) (slot_value table settings) (slot_value_lt table settings) p h
      (omega (arith, unclaimed_owner table C.rules p n)) in
      omega arith
  encode_decodable p (carry_pair_lem q) =
      clash
      (and_true (eq-eqb (field_setting settings carry_in_set) 1 (sym (field_trip carry_in_set (omega arith)) ∙ q.0))
      (eq-eqb (field_setting settings carry_chain) 1 (sym (field_trip carry_chain (omega arith)) ∙ q.1)))
      (fit_carries table settings C.fit)
  encode_decodable p (past_columns_lem r h e) =
      clash e (past_none E (encode_fits (slots_of logic_tile table) (slot_value table settings) (slot_value_lt table settings)) r)
