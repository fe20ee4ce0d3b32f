-- Bits to settings and back. Main laws: `bits_back`: bits that are read are written back the same; `decodable_listed`. Assumes nothing.
use mathlib.Core.Path.{◌≡◌, refl, sym, ap, ◌∙◌, subst}
use mathlib.Core.Logic.{⊎_elim}
use mathlib.Core.Bool.{true, false}
use mathlib.Core.List.{List}
use Prim.Native.Nat.{ℕ, zero, suc, ◌+◌, ◌*◌, ◌/◌, ◌%◌, ◌^◌, ◌<◌, ◌≤◌}
use native.Mathlib.Omega.{arith}
use borrow.Author.Tests.{leb-false}
use lib.Dec.{leb}
use lib.ListN.{length, get_or, get_or-eq_default}
use Rattle.lists.proofs.CaseLaws.{cases, lt_or_le}
use Rattle.digits.specs.Digits.{from_digits}
use Rattle.routing.specs.TileKind.{bits_per_cell}
use Rattle.routing.specs.LogicTile.{logic_tile, cell_position}
use Rattle.ports.specs.Lengths.{columns, max_positions, tile_numbers}
use Rattle.routing.specs.Table.{field_at, passive_at, group_count, width_of, position_at}
use Rattle.routing.specs.Rules.{TableRules}
use Rattle.routing.specs.Slots.{owner, slots_of, slot_at, slot_used, field_slots, passive_slots, group_slot, slot_count}
use Rattle.routing.proofs.SlotLaws.{slot_cases}
use Rattle.codec.specs.Bits.{unit, bit_at, Fits, tile_of}
use Rattle.codec.specs.Settings.{field_setting, passive_setting, group_setting, cell_table, cell_flags}
use Rattle.codec.specs.Groups.{group_pattern, read_group, pattern_of}
use Rattle.codec.specs.Cells.{cell_value, value_in}
use Rattle.codec.specs.Decode.{decode}
use Rattle.codec.specs.Fault.{is_unlisted}
use Rattle.codec.specs.Encode.{slot_value, encode}
use Rattle.codec.specs.Reading.{unlisted, unclaimed, past_columns_lem, Decodable}
use Rattle.codec.proofs.BitLaws.{bit_lt}
use Rattle.codec.proofs.SetBitsLaws.{from_digits_one}
use Rattle.codec.proofs.GroupLaws.{pattern_back}
use Rattle.codec.proofs.EncodeLaws.{encode_is}
use Rattle.codec.proofs.RunLaws.{Run, run_held}
use Rattle.codec.proofs.TileRunLaws.{slot_value_lt, cell_run, field_run, passive_run, group_run}
use Rattle.codec.proofs.DecodeLaws.{decode_field, decode_passive, decode_group, decode_table, decode_flags}
use Rattle.codec.proofs.ListedLaws.{unlisted_exact}
use Rattle.codec.proofs.FaultyLaws.{owner_unclaimed}

module _ (table bits : List ℕ) (T : TableRules logic_tile table) (D : Decodable table (tile_of bits)) where
  abbrev S : List ℕ
  S = decode table (bit_at bits)

  -- no group of decodable bits is unlisted, and no unclaimed bit is set
  pub decodable_listed : (g : ℕ) → g < group_count logic_tile table → is_unlisted (read_group logic_tile table (bit_at bits) g) ≡ false
  decodable_listed g h =
      ⊎_elim (λ u. let n = (unlisted_exact table bits g (T.groups g h)).0 u in absurd
      (D (position_at logic_tile table g 0) (unlisted g h n.0 n.1))) (λ u. u)
      (cases (is_unlisted (read_group logic_tile table (bit_at bits) g)))

  decodable_clear : (p : ℕ) → p < 864 → slot_count logic_tile ≤ owner (slots_of logic_tile table) p → bit_at bits p ≡ 0
  decodable_clear p h l = go (bit_at bits p) refl (bit_lt bits p)
    where
      go : (b : ℕ) → bit_at bits p ≡ b → b < 2 → b ≡ 0
      go zero e a = refl
      go (suc zero) e a = absurd (D p (unclaimed p h (owner_unclaimed table T p l) e))
      go (suc (suc b)) e a = absurd (omega arith)

  cell_value_lem : (i : ℕ) → i < 8 → cell_value (cell_table logic_tile S i) (cell_flags logic_tile S i) ≡ value_in (bit_at bits) i
  cell_value_lem i h = omega (arith, decode_table table bits i h, decode_flags table bits i h)

  group_value : (g : ℕ) → g < group_count logic_tile table → pattern_of logic_tile table g (group_setting logic_tile S g) ≡ group_pattern logic_tile table (bit_at bits) g
  group_value g h =
      ap (pattern_of logic_tile table g) (decode_group table bits g (omega (arith, T.few_groups)) h)
      ∙ pattern_back logic_tile table g (group_pattern logic_tile table (bit_at bits) g) (decodable_listed g h)

  -- a used slot's bit is what the settings put there
  held : (m w n : ℕ) (at : ℕ → ℕ) (v : ℕ) → Run (slots_of logic_tile table) (slot_value table S) m w n at v → v ≡ from_digits (λ (k : ℕ). bit_at bits (at k)) n
      → (k : ℕ) → k < n → bit_at bits (slot_at logic_tile table (m + k)) ≡ slot_value table S (m + k)
  held m w n at v R e k l = run_held (slots_of logic_tile table) (slot_value table S) m w n at v R bits e k l

  all_held : (s : ℕ) → slot_used logic_tile table s ≡ true → bit_at bits (slot_at logic_tile table s) ≡ slot_value table S s
  all_held =
      slot_cases logic_tile table P
      (λ s h. subst P (let e : bits_per_cell * (s / bits_per_cell) + s % bits_per_cell ≡ s = omega arith in e)
      (held (bits_per_cell * (s / bits_per_cell)) bits_per_cell bits_per_cell (cell_position (s / bits_per_cell))
      (cell_value (cell_table logic_tile S (s / bits_per_cell)) (cell_flags logic_tile S (s / bits_per_cell)))
      (cell_run table S (s / bits_per_cell) (omega arith)) (cell_value_lem (s / bits_per_cell) (omega arith)) (s % bits_per_cell) (omega arith)))
      (λ f h. subst P (let e : field_slots logic_tile + f + 0 ≡ field_slots logic_tile + f = omega arith in e)
      (held (field_slots logic_tile + f) 1 1 (λ (k : ℕ). field_at table f) (field_setting S f) (field_run table S T f h)
      (decode_field table bits f h ∙ sym (from_digits_one (λ (k : ℕ). bit_at bits (field_at table f)))) 0 (omega arith)))
      (λ j few h. subst P (let e : passive_slots logic_tile + j + 0 ≡ passive_slots logic_tile + j = omega arith in e)
      (held (passive_slots logic_tile + j) 1 1 (λ (k : ℕ). passive_at logic_tile table j) (passive_setting logic_tile S j) (passive_run table S T j h)
      (decode_passive table bits j few h ∙ sym (from_digits_one (λ (k : ℕ). bit_at bits (passive_at logic_tile table j)))) 0 (omega arith)))
      (λ g k h few l. held (group_slot logic_tile g) max_positions (width_of logic_tile table g) (position_at logic_tile table g)
      (pattern_of logic_tile table g (group_setting logic_tile S g))
      (group_run table S T g h) (group_value g h) k l)
    where
      P : ℕ → Type 0
      P s = bit_at bits (slot_at logic_tile table s) ≡ slot_value table S s

  -- what can be decoded has nothing past its columns
  pub decodable_fits : length bits ≡ tile_numbers → Fits bits
  decodable_fits n i = ⊎_elim inside outside (lt_or_le i tile_numbers)
    where
      inside : i < tile_numbers → get_or bits i 0 < 2 ^ unit
      inside l =
          ⊎_elim (λ e. absurd (D (columns * i + 53) (past_columns_lem i l e))) (λ e. leb-false (2 ^ unit) (get_or bits i 0) e)
          (cases (leb (2 ^ unit) (get_or bits i 0)))

      outside : tile_numbers ≤ i → get_or bits i 0 < 2 ^ unit
      outside l = subst (λ (x : ℕ). x < 2 ^ unit) (sym (get_or-eq_default bits 0 (omega arith))) (omega arith)

  -- bits that are read are written back the same
  pub bits_back : length bits ≡ tile_numbers → encode table (decode table (bit_at bits)) ≡ bits
  bits_back n =
      sym (encode_is (slots_of logic_tile table) (slot_value table S) (slot_value_lt table S) bits n (decodable_fits n) (λ s h u. all_held s u) decodable_clear)
