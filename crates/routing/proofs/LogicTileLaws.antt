-- The logic tile's own cell bits: in the tile and all different. Main laws: `cell_position_lt`, `cell_position_once`, `logic_tile_once`.
-- Assumes nothing.
use mathlib.Core.Path.{◌≡◌, refl, sym, ap, ◌∙◌}
use mathlib.Core.Bool.{Bool, true, false, cond}
use Prim.Native.Nat.{ℕ, ◌+◌, ◌-◌, ◌*◌, ◌/◌, ◌%◌, ◌^◌, ◌<◌, ◌≤◌}
use native.Mathlib.Omega.{arith}
use borrow.Author.Tests.{eqb-true, ltb-true, lt-ltb, le-ltb}
use lib.Bits.{bit_and, and_mask}
use lib.Dec.{eqb, ltb}
use lib.ListN.{get_or}
use Rattle.lists.specs.Search.{first, all_from}
use Rattle.lists.proofs.SearchLaws.{all_at}
use Rattle.routing.specs.TileKind.{CellBitsOnce, bits_per_cell}
use Rattle.routing.specs.LogicTile.{lc_bits, lc_position, cell_position, logic_tile}

-- the logic cell bit that a cell's bit j is
abbrev pub lc_bit : ℕ → ℕ
lc_bit j = get_or lc_bits j 0

-- ---- two tests over the twenty, computed

small : ℕ → Bool
small j = ltb (lc_bit j) 20

is_lc_bit : ℕ → ℕ → Bool
is_lc_bit k j = eqb (lc_bit j) k

found_first : ℕ → Bool
unfolding is_lc_bit
found_first j = eqb (first (is_lc_bit (lc_bit j)) 0 20) j

pub lc_bit_lt : (j : ℕ) → j < bits_per_cell → lc_bit j < 20
unfolding small all_from
lc_bit_lt j h = ltb-true (lc_bit j) 20 (all_at small 0 20 j refl (omega arith) (omega arith))

pub lc_bit_once : (j l : ℕ) → j < bits_per_cell → l < bits_per_cell → lc_bit j ≡ lc_bit l → j ≡ l
unfolding found_first all_from first is_lc_bit
lc_bit_once j l a b e = sym (found j a) ∙ ap (λ (k : ℕ). first (is_lc_bit k) 0 20) e ∙ found l b
  where
    found : (k : ℕ) → k < bits_per_cell → first (is_lc_bit (lc_bit k)) 0 20 ≡ k
    found k h = eqb-true (first (is_lc_bit (lc_bit k)) 0 20) k (all_at found_first 0 20 k refl (omega arith) (omega arith))

-- ---- the twenty as the code has them, five digits each in two numbers

in_first : ℕ → Bool
in_first j = eqb (86029347607199172 / 2 ^ (5 * j) % 32) (lc_bit j)

in_last : ℕ → Bool
in_last j = eqb (672472770913 / 2 ^ (5 * j) % 32) (lc_bit (12 + j))

pub lc_bit_first : (j : ℕ) → j < 12 → bit_and (86029347607199172 / 2 ^ (5 * j)) 31 ≡ lc_bit j
unfolding in_first all_from
lc_bit_first j h =
    and_mask (86029347607199172 / 2 ^ (5 * j)) 5
    ∙ eqb-true (86029347607199172 / 2 ^ (5 * j) % 32) (lc_bit j) (all_at in_first 0 12 j refl (omega arith) (omega arith))

pub lc_bit_last : (j : ℕ) → 12 ≤ j → j < bits_per_cell → bit_and (672472770913 / 2 ^ (5 * (j - 12))) 31 ≡ lc_bit j
unfolding in_last all_from
lc_bit_last j h l =
    and_mask (672472770913 / 2 ^ (5 * (j - 12))) 5
    ∙ eqb-true (672472770913 / 2 ^ (5 * (j - 12)) % 32) (lc_bit (12 + (j - 12))) (all_at in_last 0 8 (j - 12) refl (omega arith) (omega arith))
    ∙ ap lc_bit (let e : 12 + (j - 12) ≡ j = omega arith in e)

-- ---- a cell has two rows, 108 positions

pub lc_position_left : (i k : ℕ) → k < 10 → 54 * (2 * i) + (36 + k) ≡ lc_position i k
lc_position_left i k h = rw (lt-ltb k 10 h)

pub lc_position_right : (i k : ℕ) → 10 ≤ k → 54 * (2 * i + 1) + (26 + k) ≡ lc_position i k
lc_position_right i k h = rw (le-ltb k 10 h)

-- the place of logic cell bit k in them
place : ℕ → ℕ
place k = cond (ltb k 10) (36 + k) (80 + k)

lc_position_place : (i k : ℕ) → lc_position i k ≡ 2 * 54 * i + place k
unfolding place
lc_position_place i k = go (ltb k 10)
  where
    go : (b : Bool) → cond b (54 * (2 * i) + (36 + k)) (54 * (2 * i + 1) + (26 + k)) ≡ 2 * 54 * i + cond b (36 + k) (80 + k)
    go true = omega arith
    go false = omega arith

place_lt : (k : ℕ) → k < 20 → place k < 100
unfolding place
place_lt k h = go (ltb k 10)
  where
    go : (b : Bool) → cond b (36 + k) (80 + k) < 100
    go true = omega arith
    go false = omega arith

place_once : (k m : ℕ) → k < 20 → m < 20 → place k ≡ place m → k ≡ m
unfolding place
place_once k m a b e = go (ltb k 10) (ltb m 10) refl refl e
  where
    go : (x y : Bool) → ltb k 10 ≡ x → ltb m 10 ≡ y → cond x (36 + k) (80 + k) ≡ cond y (36 + m) (80 + m) → k ≡ m
    go true true p q e = omega arith
    go true false p q e = omega (arith, ltb-true k 10 p)
    go false true p q e = omega (arith, ltb-true m 10 q)
    go false false p q e = omega arith

-- ---- the positions

pub cell_position_lt : (i j : ℕ) → i < 8 → j < bits_per_cell → cell_position i j < 864
unfolding cell_position
cell_position_lt i j h l = omega (arith, lc_position_place i (lc_bit j), place_lt (lc_bit j) (lc_bit_lt j l))

-- no bit of a cell is that of another, or another of its own
pub cell_position_once : (i j k l : ℕ) → j < bits_per_cell → l < bits_per_cell → cell_position i j ≡ cell_position k l → (i ≡ k) × (j ≡ l)
unfolding cell_position
cell_position_once i j k l hj hl e =
    let a = lc_bit_lt j hj in
    let b = lc_bit_lt l hl in
    let p : 2 * 54 * i + place (lc_bit j) ≡ 2 * 54 * k + place (lc_bit l) = sym (lc_position_place i (lc_bit j)) ∙ e ∙ lc_position_place k (lc_bit l) in
    let q = place_lt (lc_bit j) a in
    let r = place_lt (lc_bit l) b in
    (omega arith, lc_bit_once j l hj hl (place_once (lc_bit j) (lc_bit l) a b (omega arith)))

pub logic_tile_once : CellBitsOnce logic_tile
logic_tile_once = record { within = cell_position_lt; differ = λ i j k l hi hk hj hl e. cell_position_once i j k l hj hl e }
