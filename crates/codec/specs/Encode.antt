-- Writing a tile: the bits of its settings. Each claimed position has what its owner's setting puts there, every other is 0.
use Rattle.std.specs.Prelude.{ℕ, ◌-◌, ◌/◌, ◌%◌, cond, List, ltb}
use Rattle.digits.specs.Digits.{digit}
use Rattle.routing.specs.TileKind.{bits_per_cell}
use Rattle.routing.specs.LogicTile.{logic_tile}
use Rattle.ports.specs.Lengths.{max_positions, tile_numbers}
use Rattle.routing.specs.Slots.{Slots, owner, slots_of, field_slots, passive_slots, group_slots}
use Rattle.words.specs.Packed.{packed}
use Rattle.codec.specs.Bits.{unit}
use Rattle.codec.specs.Settings.{field_setting, passive_setting, group_setting, cell_table, cell_flags}
use Rattle.codec.specs.Groups.{pattern_of}
use Rattle.codec.specs.Cells.{cell_value}

-- what the settings put at slot s: a digit of a cell's value, a field, a passive bit, or a digit of a group's pattern
unfoldable pub slot_value : List ℕ → List ℕ → ℕ → ℕ
slot_value table settings s =
    cond (ltb s (field_slots logic_tile))
    (digit (cell_value (cell_table logic_tile settings (s / bits_per_cell)) (cell_flags logic_tile settings (s / bits_per_cell))) (s % bits_per_cell))
    (cond (ltb s (passive_slots logic_tile)) (digit (field_setting settings (s - field_slots logic_tile)) 0)
    (cond (ltb s (group_slots logic_tile)) (digit (passive_setting logic_tile settings (s - passive_slots logic_tile)) 0)
    (digit (pattern_of logic_tile table ((s - group_slots logic_tile) / max_positions) (group_setting logic_tile settings ((s - group_slots logic_tile) / max_positions)))
    ((s - group_slots logic_tile) % max_positions))))

-- the bit at p of a tile whose slots hold `value`
abbrev pub owned_bit : Slots → (ℕ → ℕ) → ℕ → ℕ
owned_bit S value p = cond (ltb (owner S p) S.count) (value (owner S p)) 0

unfoldable pub bits_of : Slots → (ℕ → ℕ) → List ℕ
bits_of S value = packed unit (owned_bit S value) tile_numbers

abbrev pub encode : List ℕ → List ℕ → List ℕ
encode table settings = bits_of (slots_of logic_tile table) (slot_value table settings)
