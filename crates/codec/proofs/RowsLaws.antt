-- A cell's bits added to its two rows while these are held as numbers. Main laws: `rows_start`, `rows_left`, `rows_right`: bit by bit; `rows_all`. Assumes
-- nothing.
use mathlib.Core.Path.{◌≡◌, refl, sym, ap, ap₂, ◌∙◌, subst, subst₂}
use mathlib.Core.List.{List}
use Prim.Native.Nat.{ℕ, ◌+◌, ◌*◌, ◌/◌, ◌%◌, ◌^◌, ◌<◌, ◌≤◌}
use native.Mathlib.Omega.{arith}
use lib.Bits.{bit_and}
use lib.Pow.{shl_exact}
use lib.ListN.{length, get_or, set, length-set}
use lib.Seq.{get_or-set_same, get_or-set_other, set-get_or, set-set, set_comm}
use Rattle.digits.proofs.MaskLaws.{and_one}
use Rattle.routing.specs.TileKind.{bits_per_cell}
use Rattle.routing.specs.LogicTile.{cell_position}
use Rattle.routing.proofs.LogicTileLaws.{lc_bit, lc_bit_lt, lc_position_left, lc_position_right, cell_position_once}
use Rattle.ports.specs.Lengths.{tile_numbers}
use Rattle.codec.specs.Bits.{unit, bit_at, set_bit, set_bit_in, set_bits}
use Rattle.codec.specs.Cells.{cell_bit_in, low_ten, high_ten}
use Rattle.codec.proofs.BitLaws.{add_clear, add_clear_lt}
use Rattle.codec.proofs.SetBitsLaws.{set_bits_next, set_bits_turn}

-- a bit in a column of a word is there as it is
column_is : {a : ℕ} (k : ℕ) → a < 2 → 1 + k ≤ 64 → (a * 2 ^ k) % 2 ^ 64 ≡ a * 2 ^ k
column_is k h l = shl_exact 1 k 64 h l

-- ten bits, each in its column, and the number that they make, moved to the first of these columns
ten_linear : (f a b c d e g h k l m x0 x1 x2 x3 x4 x5 x6 x7 x8 x9 y0 y1 y2 y3 y4 y5 y6 y7 y8 y9 : ℕ)
    → x0 ≡ a * 2 ^ (36 + 4) → x1 ≡ b * 2 ^ (36 + 5) → x2 ≡ c * 2 ^ (36 + 6) → x3 ≡ d * 2 ^ (36 + 7) → x4 ≡ e * 2 ^ (36 + 3)
    → x5 ≡ g * 2 ^ (36 + 2) → x6 ≡ h * 2 ^ (36 + 1) → x7 ≡ k * 2 ^ (36 + 0) → x8 ≡ l * 2 ^ (36 + 8) → x9 ≡ m * 2 ^ (36 + 9)
    → y0 ≡ a * 2 ^ 4 → y1 ≡ b * 2 ^ 5 → y2 ≡ c * 2 ^ 6 → y3 ≡ d * 2 ^ 7 → y4 ≡ e * 2 ^ 3 → y5 ≡ g * 2 ^ 2 → y6 ≡ h * 2 ^ 1 → y7 ≡ k * 2 ^ 0
    → y8 ≡ l * 2 ^ 8 → y9 ≡ m * 2 ^ 9
    → f + x0 + x1 + x2 + x3 + x4 + x5 + x6 + x7 + x8 + x9 ≡ f + (y0 + y1 + y2 + y3 + y4 + y5 + y6 + y7 + y8 + y9) * 2 ^ 36
ten_linear f a b c d e g h k l m x0 x1 x2 x3 x4 x5 x6 x7 x8 x9 y0 y1 y2 y3 y4 y5 y6 y7 y8 y9 ex0 ex1 ex2 ex3 ex4 ex5 ex6 ex7 ex8 ex9
    ey0 ey1 ey2 ey3 ey4 ey5 ey6 ey7 ey8 ey9 = omega arith

ten_few : (a b c d e g h k l m y0 y1 y2 y3 y4 y5 y6 y7 y8 y9 : ℕ) → a < 2 → b < 2 → c < 2 → d < 2 → e < 2 → g < 2 → h < 2 → k < 2 → l < 2 → m < 2
    → y0 ≡ a * 2 ^ 4 → y1 ≡ b * 2 ^ 5 → y2 ≡ c * 2 ^ 6 → y3 ≡ d * 2 ^ 7 → y4 ≡ e * 2 ^ 3 → y5 ≡ g * 2 ^ 2 → y6 ≡ h * 2 ^ 1 → y7 ≡ k * 2 ^ 0
    → y8 ≡ l * 2 ^ 8 → y9 ≡ m * 2 ^ 9 → y0 + y1 + y2 + y3 + y4 + y5 + y6 + y7 + y8 + y9 < 2 ^ 10
ten_few a b c d e g h k l m y0 y1 y2 y3 y4 y5 y6 y7 y8 y9 a₂ b₂ c₂ d₂ e₂ g₂ h₂ k₂ l₂ m₂ ey0 ey1 ey2 ey3 ey4 ey5 ey6 ey7 ey8 ey9 = omega arith

ten_sum : (f a b c d e g h k l m : ℕ) → a < 2 → b < 2 → c < 2 → d < 2 → e < 2 → g < 2 → h < 2 → k < 2 → l < 2 → m < 2
    → f + (a * 2 ^ (36 + 4)) % 2 ^ 64 + (b * 2 ^ (36 + 5)) % 2 ^ 64 + (c * 2 ^ (36 + 6)) % 2 ^ 64 + (d * 2 ^ (36 + 7)) % 2 ^ 64
    + (e * 2 ^ (36 + 3)) % 2 ^ 64 + (g * 2 ^ (36 + 2)) % 2 ^ 64 + (h * 2 ^ (36 + 1)) % 2 ^ 64 + (k * 2 ^ (36 + 0)) % 2 ^ 64
    + (l * 2 ^ (36 + 8)) % 2 ^ 64 + (m * 2 ^ (36 + 9)) % 2 ^ 64
    ≡ f + (((a * 2 ^ 4) % 2 ^ 64 + (b * 2 ^ 5) % 2 ^ 64 + (c * 2 ^ 6) % 2 ^ 64 + (d * 2 ^ 7) % 2 ^ 64 + (e * 2 ^ 3) % 2 ^ 64
    + (g * 2 ^ 2) % 2 ^ 64 + (h * 2 ^ 1) % 2 ^ 64 + (k * 2 ^ 0) % 2 ^ 64 + (l * 2 ^ 8) % 2 ^ 64 + (m * 2 ^ 9) % 2 ^ 64) * 2 ^ 36) % 2 ^ 64
ten_sum f a b c d e g h k l m a₂ b₂ c₂ d₂ e₂ g₂ h₂ k₂ l₂ m₂ =
    ten_linear f a b c d e g h k l m _ _ _ _ _ _ _ _ _ _ _ _ _ _ _ _ _ _ _ _
    (column_is (36 + 4) a₂ (omega arith)) (column_is (36 + 5) b₂ (omega arith)) (column_is (36 + 6) c₂ (omega arith))
    (column_is (36 + 7) d₂ (omega arith)) (column_is (36 + 3) e₂ (omega arith)) (column_is (36 + 2) g₂ (omega arith))
    (column_is (36 + 1) h₂ (omega arith)) (column_is (36 + 0) k₂ (omega arith)) (column_is (36 + 8) l₂ (omega arith))
    (column_is (36 + 9) m₂ (omega arith))
    (column_is 4 a₂ (omega arith)) (column_is 5 b₂ (omega arith)) (column_is 6 c₂ (omega arith)) (column_is 7 d₂ (omega arith))
    (column_is 3 e₂ (omega arith)) (column_is 2 g₂ (omega arith)) (column_is 1 h₂ (omega arith)) (column_is 0 k₂ (omega arith))
    (column_is 8 l₂ (omega arith)) (column_is 9 m₂ (omega arith))
    ∙ ap (λ (t : ℕ). f + t) (sym (shl_exact 10 36 64 (ten_few a b c d e g h k l m _ _ _ _ _ _ _ _ _ _ a₂ b₂ c₂ d₂ e₂ g₂ h₂ k₂ l₂ m₂
    (column_is 4 a₂ (omega arith)) (column_is 5 b₂ (omega arith)) (column_is 6 c₂ (omega arith)) (column_is 7 d₂ (omega arith))
    (column_is 3 e₂ (omega arith)) (column_is 2 g₂ (omega arith)) (column_is 1 h₂ (omega arith)) (column_is 0 k₂ (omega arith))
    (column_is 8 l₂ (omega arith)) (column_is 9 m₂ (omega arith))) (omega arith)))

module _ (bits : List ℕ) (i value : ℕ) where
  -- the tile with these two rows for cell i
  abbrev rows_set : ℕ → ℕ → List ℕ
  rows_set first second = set (set bits (2 * i) first) (2 * i + 1) second

  -- the first j bits are in
  pub record Rows (j first second : ℕ) : Type 0 where
    pub upto : j ≤ bits_per_cell
    pub is : rows_set first second ≡ set_bits bits (cell_position i) value j
    pub first_fits : first < 2 ^ 64
    pub second_fits : second < 2 ^ 64

  pub rows_start : get_or bits (2 * i) 0 < 2 ^ 64 → get_or bits (2 * i + 1) 0 < 2 ^ 64 → Rows 0 (get_or bits (2 * i) 0) (get_or bits (2 * i + 1) 0)
  unfolding set_bits
  rows_start a b = record {
    upto = omega arith;
    is = ap (λ (l : List ℕ). set l (2 * i + 1) (get_or bits (2 * i + 1) 0)) (set-get_or bits (2 * i) 0) ∙ set-get_or bits (2 * i + 1) 0;
    first_fits = a;
    second_fits = b;
  }

  module _ (long : length bits ≡ tile_numbers) (few : i < 8) (clear : (j : ℕ) → j < bits_per_cell → cell_bit_in (bit_at bits) i j ≡ 0)
      (j first second k : ℕ) (R : Rows j first second) (l : j < bits_per_cell) (e : k ≡ lc_bit j) where
    abbrev bit : ℕ
    bit = bit_and (value / 2 ^ j) 1

    two : bit < 2
    two = omega (arith, and_one (value / 2 ^ j))

    abbrev here : List ℕ
    here = rows_set first second

    abbrev p : ℕ
    p = cell_position i j

    first_is : get_or here (2 * i) 0 ≡ first
    first_is =
        get_or-set_other (set bits (2 * i) first) (2 * i + 1) (2 * i) second 0 (λ z. omega arith)
        ∙ get_or-set_same bits (2 * i) first 0 (omega arith)

    second_is : get_or here (2 * i + 1) 0 ≡ second
    second_is = get_or-set_same (set bits (2 * i) first) (2 * i + 1) second 0 (omega (arith, length-set bits (2 * i) first))

    free : bit_at here p ≡ 0
    free = set_bits_next bits (cell_position i) value j p here R.is refl (clear j l) (λ m q z. omega (arith, (cell_position_once i j i m l (omega arith) z).1))

    written : set_bit here p bit ≡ set_bits bits (cell_position i) value (j + 1)
    written = ap (set_bit here p) (and_one (value / 2 ^ j)) ∙ set_bits_turn bits (cell_position i) value j p here R.is refl

    -- a bit of the first row
    module _ (h : k < 10) where
      left_place : p ≡ 54 * (2 * i) + (36 + k)
      unfolding cell_position
      left_place = sym (lc_position_left i (lc_bit j) (omega arith)) ∙ omega arith

      left_row : p / unit ≡ 2 * i
      left_row = omega (arith, left_place)

      left_column : p % unit ≡ 36 + k
      left_column = omega (arith, left_place)

      left_sum : first + (bit * 2 ^ (36 + k)) % 2 ^ 64 ≡ get_or here (p / unit) 0 + (bit * 2 ^ (p % unit)) % 2 ^ 64
      left_sum = ap₂ (λ (a b : ℕ). a + (bit * 2 ^ b) % 2 ^ 64) (sym (ap (λ (r : ℕ). get_or here r 0) left_row ∙ first_is)) (sym left_column)

      pub left_fits : first + (bit * 2 ^ (36 + k)) % 2 ^ 64 < 2 ^ 64
      left_fits =
          subst (λ (x : ℕ). x < 2 ^ 64) (sym left_sum)
          (add_clear_lt here p bit two free (subst (λ (x : ℕ). x < 2 ^ 64) (sym (ap (λ (r : ℕ). get_or here r 0) left_row ∙ first_is)) R.first_fits))

      pub rows_left : Rows (j + 1) (first + (bit * 2 ^ (36 + k)) % 2 ^ 64) second
      unfolding set_bit_in
      rows_left = record {
        upto = omega arith;
        is =
            ap (λ (l : List ℕ). set l (2 * i + 1) second) (sym (set-set bits (2 * i) first _))
            ∙ set_comm (set bits (2 * i) first) (2 * i) (2 * i + 1) _ second (λ z. omega arith)
            ∙ ap₂ (λ (r x : ℕ). set here r x) (sym left_row) (left_sum ∙ add_clear here p bit two free)
            ∙ written;
        first_fits = left_fits;
        second_fits = R.second_fits;
      }

    -- a bit of the second row
    module _ (h : 10 ≤ k) where
      right_place : p ≡ 54 * (2 * i + 1) + (26 + k)
      unfolding cell_position
      right_place = sym (lc_position_right i (lc_bit j) (omega arith)) ∙ omega arith

      right_row : p / unit ≡ 2 * i + 1
      right_row = let b = lc_bit_lt j l in omega (arith, right_place)

      right_column : p % unit ≡ 26 + k
      right_column = let b = lc_bit_lt j l in omega (arith, right_place)

      right_sum : second + (bit * 2 ^ (26 + k)) % 2 ^ 64 ≡ get_or here (p / unit) 0 + (bit * 2 ^ (p % unit)) % 2 ^ 64
      right_sum = ap₂ (λ (a b : ℕ). a + (bit * 2 ^ b) % 2 ^ 64) (sym (ap (λ (r : ℕ). get_or here r 0) right_row ∙ second_is)) (sym right_column)

      pub right_fits : second + (bit * 2 ^ (26 + k)) % 2 ^ 64 < 2 ^ 64
      right_fits =
          subst (λ (x : ℕ). x < 2 ^ 64) (sym right_sum)
          (add_clear_lt here p bit two free (subst (λ (x : ℕ). x < 2 ^ 64) (sym (ap (λ (r : ℕ). get_or here r 0) right_row ∙ second_is)) R.second_fits))

      pub rows_right : Rows (j + 1) first (second + (bit * 2 ^ (26 + k)) % 2 ^ 64)
      unfolding set_bit_in
      rows_right = record {
        upto = omega arith;
        is =
            sym (set-set (set bits (2 * i) first) (2 * i + 1) second _)
            ∙ ap₂ (λ (r x : ℕ). set here r x) (sym right_row) (right_sum ∙ add_clear here p bit two free)
            ∙ written;
        first_fits = R.first_fits;
        second_fits = right_fits;
      }

  -- all of them: each row is written once
  module _ (long : length bits ≡ tile_numbers) (few : i < 8) (clear : (j : ℕ) → j < bits_per_cell → cell_bit_in (bit_at bits) i j ≡ 0)
      (a : get_or bits (2 * i) 0 < 2 ^ 64) (b : get_or bits (2 * i + 1) 0 < 2 ^ 64) where
    left : {first second : ℕ} (j k : ℕ) → k ≡ lc_bit j → j < bits_per_cell → k < 10 → Rows j first second
        → Rows (j + 1) (first + (bit_and (value / 2 ^ j) 1 * 2 ^ (36 + k)) % 2 ^ 64) second
    left {first} {second} j k e l h R = rows_left long few clear j first second k R l e h

    right : {first second : ℕ} (j k : ℕ) → k ≡ lc_bit j → j < bits_per_cell → 10 ≤ k → Rows j first second
        → Rows (j + 1) first (second + (bit_and (value / 2 ^ j) 1 * 2 ^ (26 + k)) % 2 ^ 64)
    right {first} {second} j k e l h R = rows_right long few clear j first second k R l e h

    bit_two : (j : ℕ) → bit_and (value / 2 ^ j) 1 < 2
    bit_two j = omega (arith, and_one (value / 2 ^ j))

    abbrev first_row : ℕ
    first_row = get_or bits (2 * i) 0 + (low_ten value * 2 ^ 36) % 2 ^ 64

    abbrev second_row : ℕ
    second_row = get_or bits (2 * i + 1) 0 + (high_ten value * 2 ^ 36) % 2 ^ 64

    pub rows_all : Rows bits_per_cell first_row second_row
    rows_all =
        let none = rows_start a b in
        let r1 = left 0 4 refl (omega arith) (omega arith) none in
        let r2 = right 1 14 refl (omega arith) (omega arith) r1 in
        let r3 = right 2 15 refl (omega arith) (omega arith) r2 in
        let r4 = left 3 5 refl (omega arith) (omega arith) r3 in
        let r5 = left 4 6 refl (omega arith) (omega arith) r4 in
        let r6 = right 5 16 refl (omega arith) (omega arith) r5 in
        let r7 = right 6 17 refl (omega arith) (omega arith) r6 in
        let r8 = left 7 7 refl (omega arith) (omega arith) r7 in
        let r9 = left 8 3 refl (omega arith) (omega arith) r8 in
        let r10 = right 9 13 refl (omega arith) (omega arith) r9 in
        let r11 = right 10 12 refl (omega arith) (omega arith) r10 in
        let r12 = left 11 2 refl (omega arith) (omega arith) r11 in
        let r13 = left 12 1 refl (omega arith) (omega arith) r12 in
        let r14 = right 13 11 refl (omega arith) (omega arith) r13 in
        let r15 = right 14 10 refl (omega arith) (omega arith) r14 in
        let r16 = left 15 0 refl (omega arith) (omega arith) r15 in
        let r17 = left 16 8 refl (omega arith) (omega arith) r16 in
        let r18 = left 17 9 refl (omega arith) (omega arith) r17 in
        let r19 = right 18 18 refl (omega arith) (omega arith) r18 in
        let r20 = right 19 19 refl (omega arith) (omega arith) r19 in
        subst₂ (λ (x y : ℕ). Rows bits_per_cell x y)
        (ten_sum (get_or bits (2 * i) 0) (bit_and (value / 2 ^ 0) 1) (bit_and (value / 2 ^ 3) 1) (bit_and (value / 2 ^ 4) 1)
        (bit_and (value / 2 ^ 7) 1) (bit_and (value / 2 ^ 8) 1) (bit_and (value / 2 ^ 11) 1) (bit_and (value / 2 ^ 12) 1)
        (bit_and (value / 2 ^ 15) 1) (bit_and (value / 2 ^ 16) 1) (bit_and (value / 2 ^ 17) 1) (bit_two 0) (bit_two 3) (bit_two 4) (bit_two 7)
        (bit_two 8) (bit_two 11) (bit_two 12) (bit_two 15) (bit_two 16) (bit_two 17))
        (ten_sum (get_or bits (2 * i + 1) 0) (bit_and (value / 2 ^ 1) 1) (bit_and (value / 2 ^ 2) 1) (bit_and (value / 2 ^ 5) 1)
        (bit_and (value / 2 ^ 6) 1) (bit_and (value / 2 ^ 9) 1) (bit_and (value / 2 ^ 10) 1) (bit_and (value / 2 ^ 13) 1)
        (bit_and (value / 2 ^ 14) 1) (bit_and (value / 2 ^ 18) 1) (bit_and (value / 2 ^ 19) 1) (bit_two 1) (bit_two 2) (bit_two 5) (bit_two 6)
        (bit_two 9) (bit_two 10) (bit_two 13) (bit_two 14) (bit_two 18) (bit_two 19))
        r20
