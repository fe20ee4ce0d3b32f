-- The ten columns of a row that its cell has. Main laws: `column_taken`: a set bit there is taken, whatever the settings; `without_cell_is`: a row
-- without them. Assumes nothing.
use mathlib.Core.Path.{◌≡◌, refl, sym, ap, ◌∙◌}
use mathlib.Core.Logic.{⊎_elim}
use mathlib.Core.Bool.{Bool}
use mathlib.Core.List.{List}
use Prim.Native.Nat.{ℕ, ◌+◌, ◌-◌, ◌*◌, ◌/◌, ◌%◌, ◌^◌, ◌<◌, ◌≤◌}
use native.Mathlib.Omega.{arith}
use borrow.Author.Tests.{eqb-true, ltb-true}
use lib.Dec.{eqb, ltb}
use lib.Pow.{shr-shr}
use Rattle.lists.specs.Search.{first, all_from}
use Rattle.lists.proofs.CaseLaws.{clash, lt_or_le}
use Rattle.lists.proofs.SearchLaws.{first_true, first_before, all_at}
use Rattle.digits.specs.Digits.{digit}
use Rattle.digits.proofs.DigitLaws.{digit_mod, digit_past, digit_below, digit_above}
use Rattle.routing.specs.TileKind.{bits_per_cell}
use Rattle.routing.specs.LogicTile.{logic_tile, lc_position, cell_position}
use Rattle.routing.specs.Slots.{claims, owner, slots_of, field_slots}
use Rattle.routing.proofs.LogicTileLaws.{lc_bit, lc_position_left, lc_position_right}
use Rattle.routing.proofs.OwnerLaws.{claims_it}
use Rattle.routing.proofs.SlotLaws.{slot_at_cell, slot_used_cell}
use Rattle.ports.specs.Lengths.{tile_numbers}
use Rattle.codec.specs.Bits.{unit}
use Rattle.tile.specs.Taking.{Taken, WithoutCell}

-- ---- each of a cell's twenty logic cell bits is one of its bits, computed

is_lc_bit : ℕ → ℕ → Bool
is_lc_bit k j = eqb (lc_bit j) k

-- the bit that logic cell bit k is
bit_of : ℕ → ℕ
bit_of k = first (is_lc_bit k) 0 20

found : ℕ → Bool
found k = ltb (bit_of k) 20

bit_of_lt : (k : ℕ) → k < 20 → bit_of k < bits_per_cell
unfolding found bit_of is_lc_bit all_from first
bit_of_lt k h = ltb-true (bit_of k) 20 (all_at found 0 20 k refl (omega arith) (omega arith))

bit_of_is : (k : ℕ) → k < 20 → lc_bit (bit_of k) ≡ k
unfolding bit_of is_lc_bit
bit_of_is k h = eqb-true (lc_bit (bit_of k)) k (first_true (is_lc_bit k) 0 20 (omega (arith, bit_of_lt k h)))

-- ---- so a cell's columns are its bits, and its slots claim them

-- a position that cell c has is owned by a slot of a cell, whatever else claims it
owner_cell : (table : List ℕ) (c j p : ℕ) → c < 8 → j < bits_per_cell → cell_position c j ≡ p → owner (slots_of logic_tile table) p < field_slots logic_tile
owner_cell table c j p hc hj e =
    let s : ℕ = bits_per_cell * c + j in
    ⊎_elim
    (λ (l : s < owner (slots_of logic_tile table) p).
    clash (claims_it (slots_of logic_tile table) p s (slot_used_cell logic_tile table c j hc hj) (slot_at_cell logic_tile table c j hc hj ∙ e))
    (first_before (claims (slots_of logic_tile table) p) 0 _ s (omega arith) l))
    (λ (l : owner (slots_of logic_tile table) p ≤ s). omega arith)
    (lt_or_le s (owner (slots_of logic_tile table) p))

-- column k of row i is logic cell bit k - 36 or k - 26 of cell i / 2
column_position : (i k : ℕ) → 36 ≤ k → k < 46 → lc_position (i / 2) (k - 36 + 10 * (i % 2)) ≡ unit * i + k
column_position i k a b =
    ⊎_elim
    (λ (l : i % 2 < 1). sym (lc_position_left (i / 2) (k - 36 + 10 * (i % 2)) (omega arith)) ∙ omega arith)
    (λ (l : 1 ≤ i % 2). sym (lc_position_right (i / 2) (k - 36 + 10 * (i % 2)) (omega arith)) ∙ omega arith)
    (lt_or_le (i % 2) 1)

pub column_taken : (table settings : List ℕ) (i : ℕ) → i < tile_numbers → (k : ℕ) → 36 ≤ k → k < 46 → Taken table settings (unit * i + k)
unfolding cell_position
column_taken table settings i h k a b =
    let m : ℕ = k - 36 + 10 * (i % 2) in
    let few : m < 20 = omega arith in
    let e : cell_position (i / 2) (bit_of m) ≡ unit * i + k = ap (lc_position (i / 2)) (bit_of_is m few) ∙ column_position i k a b in
    let o : owner (slots_of logic_tile table) (unit * i + k) < field_slots logic_tile =
    owner_cell table (i / 2) (bit_of m) (unit * i + k) (omega arith) (bit_of_lt m few) e in
    record { claimed = omega arith; single = λ n q l. absurd (omega arith); group = λ g j q l. absurd (omega arith) }

-- ---- a row without them

pub without_cell_is : (row : ℕ) → WithoutCell row (row / 2 ^ 46 * 2 ^ 46 + row % 2 ^ 36)
without_cell_is row = record {
  cell = λ k a b. digit_below (row / 2 ^ 46) 46 k small b ∙ digit_past (row % 2 ^ 36) 36 k (omega arith) a;
  below = λ k a. digit_below (row / 2 ^ 46) 46 k small (omega arith) ∙ digit_mod row 36 k a;
  above = λ k a.
      let e : k ≡ 46 + (k - 46) = omega arith in
      ap (digit (row / 2 ^ 46 * 2 ^ 46 + row % 2 ^ 36)) e ∙ digit_above (row / 2 ^ 46) 46 (k - 46) small
      ∙ ap (λ (x : ℕ). x % 2) (shr-shr row 46 (k - 46)) ∙ ap (digit row) (sym e);
}
  where
    small : row % 2 ^ 36 < 2 ^ 46
    small = omega arith
