-- What the lines on local_g0_0 assume can be met: a list of numbers has the group as the chip database's frame gives it, and bits have the
-- patterns. The list has that group alone and is no lent table: its fields are one position. Main laws: `frame_has_group`, `pattern_somewhere`.
use Prim.Native.Nat.{ℕ}
use mathlib.Core.Path.{◌≡◌, refl}
use mathlib.Core.List.{List, [], ◌∷◌, ◌++◌}
use lib.Dec.{lit<}
use lib.ListN.{get_or}
use Rattle.lists.specs.Tables.{tabulate, zeros}
use Rattle.digits.specs.Digits.{digit, set_digit}
use Rattle.routing.specs.LogicTile.{logic_tile}
use Rattle.routing.specs.Table.{position_at, pattern_at, source_at}
use Rattle.ports.specs.Lengths.{tile_numbers}
use Rattle.words.specs.Packed.{bit_in}
use Rattle.codec.specs.Bits.{bit_at, set_bits, set_bit_in}
use Rattle.names.specs.NamedGroup.{HasGroup, HasPattern, patterns, sources, local_g00}
use Rattle.names.proofs.Agreeing.{agree_below}

-- a table with that frame alone: "03 destination, position count, positions, entry count, entries" (tests/data/1k.tab)
pub frame_table : List ℕ
frame_table =
    zeros 68
    ++ (1 ∷ 0x0150 ∷ 0x05 ∷ 0x000E ∷ 0x0044 ∷ 0x0045 ∷ 0x0046 ∷ 0x0047 ∷ 0 ∷ 0 ∷ 0 ∷ 0x10
    ∷ 0x10 ∷ 0x00D8 ∷ 0x18 ∷ 0x0110 ∷ 0x14 ∷ 0x01A4 ∷ 0x1C ∷ 0x00A0 ∷ 0x12 ∷ 0x00E3 ∷ 0x1A ∷ 0x0118 ∷ 0x16 ∷ 0x01CC ∷ 0x1E ∷ 0x0030
    ∷ 0x11 ∷ 0x0194 ∷ 0x19 ∷ 0x0090 ∷ 0x15 ∷ 0x01B4 ∷ 0x1D ∷ 0x0038 ∷ 0x13 ∷ 0x01AC ∷ 0x1B ∷ 0x0098 ∷ 0x17 ∷ 0x0108 ∷ 0x1F ∷ 0x0040
    ∷ [])

pub frame_has_group : HasGroup frame_table 0 local_g00
unfolding frame_table tabulate
frame_has_group = record {
  there = lit< tt;
  destination = refl;
  width = refl;
  position = agree_below 0 (position_at logic_tile frame_table 0) (λ k. get_or local_g00.positions k 0) 5 refl;
  count = refl;
  pattern = agree_below 0 (pattern_at logic_tile frame_table 0) (λ e. get_or (patterns local_g00) e 0) 16 refl;
  source = agree_below 0 (source_at logic_tile frame_table 0) (λ e. get_or (sources local_g00) e 0) 16 refl;
}

-- bits with pattern v there
abbrev pattern_bits : ℕ → List ℕ
pattern_bits v = set_bits (zeros tile_numbers) (λ k. get_or local_g00.positions k 0) v 5

pub pattern_somewhere : HasPattern (pattern_bits 16) local_g00 16 × HasPattern (pattern_bits 31) local_g00 31 × HasPattern (pattern_bits 1) local_g00 1
unfolding tabulate bit_in set_bits set_bit_in set_digit
pattern_somewhere = (there 16 refl, there 31 refl, there 1 refl)
  where
    there : (v : ℕ) → tabulate (λ k. bit_at (pattern_bits v) (get_or local_g00.positions k 0)) 0 5 ≡ tabulate (digit v) 0 5 → HasPattern (pattern_bits v) local_g00 v
    there v e = agree_below 0 (λ k. bit_at (pattern_bits v) (get_or local_g00.positions k 0)) (digit v) 5 e
