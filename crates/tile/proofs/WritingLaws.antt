-- The turns of the loops that write a tile: each takes the bits one run of slots further. Main laws: `cells_end`; `field_turn`,
-- `passive_turn`, `group_turn`; `passive_end`, `group_end`; groups that are off: `off_four`, `groups_off`. Assumes nothing.
use mathlib.Core.Path.{◌≡◌, sym, ap, ◌∙◌, subst}
use mathlib.Core.Logic.{⊎_elim}
use mathlib.Core.List.{List}
use Prim.Native.Nat.{ℕ, zero, suc, ◌+◌, ◌-◌, ◌*◌, ◌<◌, ◌≤◌}
use native.Mathlib.Omega.{arith}
use native.Mathlib.Nat.{eq-or-lt_of_le}
use lib.Bits.{bit_or, or_add_and, and_le_r, or_comm}
use lib.ListN.{get_or}
use Rattle.lists.specs.Tables.{zeros}
use Rattle.lists.proofs.TableLaws.{tabulate_zero}
use Rattle.cell.proofs.SettingsLaws.{flags_of_cell}
use Rattle.routing.specs.TileKind.{bits_per_cell}
use Rattle.routing.specs.LogicTile.{logic_tile, cell_position}
use Rattle.ports.specs.Lengths.{max_passives, max_groups, max_positions, tile_numbers}
use Rattle.routing.specs.Table.{field_at, passive_count, passive_at, group_count, width_of, position_at}
use Rattle.routing.specs.Slots.{slots_of, field_slots, passive_slots, group_slots, group_slot, slot_count}
use Rattle.routing.proofs.SlotLaws.{slot_unused_passive, slot_unused_group}
use Rattle.routing.proofs.LogicTileLaws.{logic_tile_once}
use Rattle.routing.proofs.TableOnceLaws.{table_once}
use Rattle.codec.specs.Bits.{set_bit, set_bits, bit_at}
use Rattle.codec.specs.Settings.{field_setting, passive_setting, groups_from, group_setting, cell_table, cell_flags}
use Rattle.codec.specs.Groups.{group_bit, pattern_of}
use Rattle.codec.specs.Cells.{cell_value, cell_number, cell_setting, cell_settings, empty_cell, write_cells}
use Rattle.codec.specs.Encode.{slot_value}
use Rattle.codec.specs.Writing.{TileWritten, Writable}
use Rattle.codec.proofs.SetBitsLaws.{set_bits_one, set_bits_clear}
use Rattle.codec.proofs.LimitLaws.{fit_field, fit_passive, fit_flags}
use Rattle.codec.proofs.RunLaws.{Run, run_clear, run_written, none_written, skip_written}
use Rattle.codec.proofs.TileRunLaws.{cell_run, field_run, passive_run, group_run}

-- the same bits at the same slot, otherwise spelt
moved : (table settings : List ℕ) {m n : ℕ} (bits : List ℕ) → m ≡ n → TileWritten table settings m bits → TileWritten table settings n bits
moved table settings bits e W = subst (λ (x : ℕ). TileWritten table settings x bits) e W

or_none : (a b : ℕ) → bit_or a b ≡ 0 → (a ≡ 0) × (b ≡ 0)
or_none a b e =
    (omega (arith, e, or_add_and a b, and_le_r a b), omega (arith, e, or_comm a b, or_add_and b a, and_le_r b a))

-- the groups from g on and before r are off
abbrev pub Off : List ℕ → ℕ → ℕ → Type 0
Off settings g r = (j : ℕ) → g ≤ j → j < r → group_setting logic_tile settings j ≡ 0

module _ (settings : List ℕ) (g : ℕ) where
  -- one more, whose setting stands at n
  off_one : (at r n : ℕ) → Off settings g at → r ≡ at + 1 → n ≡ groups_from logic_tile + at → get_or settings n 0 ≡ 0 → Off settings g r
  off_one at r n off e m z j a b =
      ⊎_elim (λ (q : j ≡ at). ap (λ (x : ℕ). get_or settings x 0) (let i : groups_from logic_tile + j ≡ n = omega (arith, q, m) in i) ∙ z)
      (λ (l : j < at). off j a l) (eq-or-lt_of_le (let l : j ≤ at = omega (arith, b, e) in l))

  pub off_here : group_setting logic_tile settings g ≡ 0 → Off settings g (g + 1)
  off_here z = off_one g (g + 1) (groups_from logic_tile + g) (λ j a b. absurd (omega arith)) (omega arith) (omega arith) z

  -- four more, whose settings stand from n on and have no bit set
  pub off_four : (at n : ℕ) → Off settings g at → n ≡ groups_from logic_tile + at
      → bit_or (bit_or (bit_or (get_or settings n 0) (get_or settings (n + 1) 0)) (get_or settings (n + 2) 0)) (get_or settings (n + 3) 0) ≡ 0
      → Off settings g (at + 4)
  off_four at n off m z =
      let d = or_none _ (get_or settings (n + 3) 0) z in
      let c = or_none _ (get_or settings (n + 2) 0) d.0 in
      let b = or_none (get_or settings n 0) (get_or settings (n + 1) 0) c.0 in
      off_one (at + 3) (at + 4) (n + 3)
      (off_one (at + 2) (at + 3) (n + 2)
      (off_one (at + 1) (at + 2) (n + 1) (off_one at (at + 1) n off (omega arith) m b.0) (omega arith) (omega (arith, m)) b.1)
      (omega arith) (omega (arith, m)) c.1)
      (omega arith) (omega (arith, m)) d.1

module _ (table settings bits new : List ℕ) (C : Writable table settings) where
  ran : (m w n : ℕ) (at : ℕ → ℕ) (v : ℕ) → Run (slots_of logic_tile table) (slot_value table settings) m w n at v → TileWritten table settings m bits
      → new ≡ set_bits bits at v n → TileWritten table settings (m + w) new
  ran m w n at v R W e =
      subst (TileWritten table settings (m + w)) (sym e)
      (run_written (slots_of logic_tile table) (slot_value table settings) m w n at v R (table_once logic_tile table logic_tile_once C.rules) bits W)

  pub field_turn : (f : ℕ) → TileWritten table settings (field_slots logic_tile + f) bits → new ≡ set_bit bits (field_at table f) (field_setting settings f) → f < 3
      → TileWritten table settings (field_slots logic_tile + (f + 1)) new
  field_turn f W e h =
      moved table settings new (omega arith)
      (ran (field_slots logic_tile + f) 1 1 (λ (k : ℕ). field_at table f) (field_setting settings f) (field_run table settings C.rules f h) W
      (e ∙ set_bits_one bits (field_at table f) (field_setting settings f) (fit_field table settings C.fit f h)))

  pub passive_turn : (j : ℕ) → TileWritten table settings (passive_slots logic_tile + j) bits
      → new ≡ set_bit bits (passive_at logic_tile table j) (passive_setting logic_tile settings j) → j < passive_count logic_tile table
      → TileWritten table settings (passive_slots logic_tile + (j + 1)) new
  passive_turn j W e h =
      moved table settings new (omega arith)
      (ran (passive_slots logic_tile + j) 1 1 (λ (k : ℕ). passive_at logic_tile table j) (passive_setting logic_tile settings j)
      (passive_run table settings C.rules j h) W
      (e ∙ set_bits_one bits (passive_at logic_tile table j) (passive_setting logic_tile settings j)
      (fit_passive table settings C.fit j (omega (arith, C.rules.passives.few)) h)))

  pub group_turn : (g : ℕ) → TileWritten table settings (group_slot logic_tile g) bits
      → new ≡ set_bits bits (position_at logic_tile table g) (pattern_of logic_tile table g (group_setting logic_tile settings g)) (width_of logic_tile table g)
      → g < group_count logic_tile table → TileWritten table settings (group_slot logic_tile (g + 1)) new
  group_turn g W e h =
      moved table settings new (omega arith)
      (ran (group_slot logic_tile g) max_positions (width_of logic_tile table g) (position_at logic_tile table g)
      (pattern_of logic_tile table g (group_setting logic_tile settings g)) (group_run table settings C.rules g h) W e)

module _ (table settings bits : List ℕ) (C : Writable table settings) where
  -- the slots past the passive list, and past the last group
  pub passive_end : (j : ℕ) → TileWritten table settings (passive_slots logic_tile + j) bits → j ≡ passive_count logic_tile table
      → TileWritten table settings (group_slots logic_tile) bits
  passive_end j W e =
      moved table settings bits (let z : passive_slots logic_tile + j + (max_passives - j) ≡ group_slots logic_tile = omega (arith, C.rules.passives.few) in z)
      (skip_written (slots_of logic_tile table) (slot_value table settings) (passive_slots logic_tile + j) (max_passives - j) bits
      (λ s a b. slot_unused_passive logic_tile table s (omega arith) (omega (arith, C.rules.passives.few))) W)

  pub group_end : (g : ℕ) → TileWritten table settings (group_slot logic_tile g) bits → g ≡ group_count logic_tile table
      → TileWritten table settings (slot_count logic_tile) bits
  group_end g W e =
      moved table settings bits (let z : group_slot logic_tile g + max_positions * (max_groups - g) ≡ slot_count logic_tile = omega
      (arith, C.rules.few_groups) in z)
      (skip_written (slots_of logic_tile table) (slot_value table settings) (group_slot logic_tile g) (max_positions * (max_groups - g)) bits
      (λ s a b. slot_unused_group logic_tile table s (omega arith)) W)

  -- a group's bits are clear until it is written
  pub group_clear : (g : ℕ) → TileWritten table settings (group_slot logic_tile g) bits → g < group_count logic_tile table
      → (k : ℕ) → k < width_of logic_tile table g → group_bit logic_tile table (bit_at bits) g k ≡ 0
  group_clear g W h k l =
      run_clear (slots_of logic_tile table) (slot_value table settings) (group_slot logic_tile g) max_positions (width_of logic_tile table g)
      (position_at logic_tile table g) (pattern_of logic_tile table g (group_setting logic_tile settings g)) (group_run table settings C.rules g h)
      (table_once logic_tile table logic_tile_once C.rules) bits W k l

  -- a group that is off needs no writing, nor do all from g to r
  group_off : (g : ℕ) → TileWritten table settings (group_slot logic_tile g) bits → g < group_count logic_tile table → group_setting logic_tile settings g ≡ 0
      → TileWritten table settings (group_slot logic_tile (g + 1)) bits
  group_off g W h z =
      group_turn table settings bits bits C g W
      (sym (ap (λ (s : ℕ). set_bits bits (position_at logic_tile table g) (pattern_of logic_tile table g s) (width_of logic_tile table g)) z
      ∙ set_bits_clear bits (position_at logic_tile table g) (width_of logic_tile table g) (group_clear g W h))) h

  more_off : (g : ℕ) → TileWritten table settings (group_slot logic_tile g) bits → (d : ℕ) → g + d ≤ group_count logic_tile table
      → Off settings g (g + d) → TileWritten table settings (group_slot logic_tile (g + d)) bits
  more_off g W zero h off = moved table settings bits (omega arith) W
  more_off g W (suc d) h off =
      moved table settings bits (omega arith)
      (group_off (g + d) (more_off g W d (omega arith) (λ j a b. off j a (omega arith))) (omega arith) (off (g + d) (omega arith) (omega arith)))

  pub groups_off : (g r : ℕ) → TileWritten table settings (group_slot logic_tile g) bits → g ≤ r → r ≤ group_count logic_tile table
      → Off settings g r → TileWritten table settings (group_slot logic_tile r) bits
  groups_off g r W l h off =
      moved table settings bits (omega arith) (more_off g W (r - g) (omega arith) (λ j a b. off j a (omega arith)))

  -- the number of a cell that the settings hold
  cell_number_lem : (i : ℕ) → i < 8 → cell_number (get_or (cell_settings settings) i empty_cell) ≡ cell_value (cell_table logic_tile settings i)
      (cell_flags logic_tile settings i)
  unfolding cell_settings
  cell_number_lem i h =
      ap cell_number (tabulate_zero (cell_setting settings) empty_cell 8 i h)
      ∙ ap (cell_value (cell_table logic_tile settings i)) (flags_of_cell (cell_table logic_tile settings i) (cell_flags logic_tile settings i)
      (fit_flags table settings C.fit i h))

  -- the first n cells written
  pub cells_written : TileWritten table settings 0 bits → (n : ℕ) → n ≤ 8 → TileWritten table settings (bits_per_cell * n)
      (write_cells bits (cell_settings settings) n)
  unfolding write_cells
  cells_written W zero h = W
  cells_written W (suc n) h =
      moved table settings (write_cells bits (cell_settings settings) (suc n)) (omega arith)
      (ran table settings (write_cells bits (cell_settings settings) n) (write_cells bits (cell_settings settings) (suc n)) C
      (bits_per_cell * n) bits_per_cell bits_per_cell (cell_position n) (cell_value (cell_table logic_tile settings n) (cell_flags logic_tile settings n))
      (cell_run table settings n (omega arith))
      (cells_written W n (omega arith))
      (ap (λ (v : ℕ). set_bits (write_cells bits (cell_settings settings) n) (cell_position n) v bits_per_cell) (cell_number_lem n (omega arith))))

  -- all eight, to bits that are clear
  pub cells_end : (n : ℕ) (new : List ℕ) → n ≡ tile_numbers → bits ≡ zeros n → new ≡ write_cells bits (cell_settings settings) 8
      → TileWritten table settings (field_slots logic_tile) new
  cells_end n new l z e =
      subst (TileWritten table settings (field_slots logic_tile)) (sym e)
      (cells_written (none_written (slots_of logic_tile table) (slot_value table settings) bits n l z) 8 (omega arith))
