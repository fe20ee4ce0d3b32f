-- Bits past a row's columns, computed and meant. Main laws: `stray_exact`; `first_stray_exact`, `first_stray_none`; `lowest_stray_same`. Assumes nothing.
use mathlib.Core.Path.{◌≡◌, sym, ap, ◌∙◌, subst}
use mathlib.Core.Logic.{⊎_elim}
use mathlib.Core.Bool.{true, false}
use mathlib.Core.List.{List}
use Prim.Native.Nat.{ℕ, zero, suc, ◌+◌, ◌*◌, ◌/◌, ◌%◌, ◌^◌, ◌<◌, ◌≤◌}
use native.Mathlib.Omega.{arith}
use native.Mathlib.Nat.{zero-div, pow-suc, le-div_iff_mul-le}
use borrow.Author.Tests.{eqb-true, eqb-false, le-leb, lt-leb, leb-true}
use lib.Dec.{eqb}
use lib.Pow.{pow_pos, shr-shr}
use lib.ListN.{length, get_or}
use Rattle.lists.specs.Search.{all_from}
use Rattle.lists.proofs.CaseLaws.{cases, clash, lt_or_le}
use Rattle.lists.proofs.SearchLaws.{first_true, first_before, first_none, all_at, all_not}
use Rattle.digits.specs.Digits.{digit}
use Rattle.digits.proofs.DigitLaws.{digit_past, digits_same}
use Rattle.ports.specs.Lengths.{rows, columns}
use Rattle.words.specs.Packed.{FitsIn}
use Rattle.words.specs.Forms.{past_columns}
use Rattle.words.specs.Stray.{Stray, LowestStray, first_stray, stray_place}

below_power : (n : ℕ) → n < 2 ^ n
below_power zero = omega arith
below_power (suc n) = omega (arith, below_power n, pow-suc 2 n)

-- a number that is not 0 has a set digit
some_digit : (n : ℕ) → 0 < n → (k : ℕ) × (digit n k ≡ 1)
some_digit n l = ⊎_elim none one (cases (all_from (λ (k : ℕ). eqb (digit n k) 0) 0 n))
  where
    none : all_from (λ (k : ℕ). eqb (digit n k) 0) 0 n ≡ true → (k : ℕ) × (digit n k ≡ 1)
    none e =
        let z : n ≡ 0 = digits_same n n 0 (below_power n) (pow_pos n)
        (λ k m. eqb-true (digit n k) 0 (all_at (λ (j : ℕ). eqb (digit n j) 0) 0 n k e (omega arith) (omega arith)) ∙ sym (ap (λ (x : ℕ). x % 2) (zero-div (2 ^ k)))) in
        absurd (omega arith)

    one : all_from (λ (k : ℕ). eqb (digit n k) 0) 0 n ≡ false → (k : ℕ) × (digit n k ≡ 1)
    one e =
        let f = all_not (λ (j : ℕ). eqb (digit n j) 0) 0 n e in
        (f.0, (let h = eqb-false (digit n f.0) 0 f.3 in let r : digit n f.0 ≡ 1 = omega arith in r))

module _ (words : List ℕ) where
  -- the test of the code
  pub stray_exact : (i : ℕ) → (past_columns words i ≡ true → Stray words i) × (Stray words i → past_columns words i ≡ true)
  stray_exact i = (from, back)
    where
      from : past_columns words i ≡ true → Stray words i
      from e =
          let l : 2 ^ columns ≤ get_or words i 0 = leb-true (2 ^ columns) (get_or words i 0) e in
          let some : 1 ≤ get_or words i 0 / 2 ^ columns = (le-div_iff_mul-le (pow_pos columns)).1 (omega (arith, l)) in
          let d = some_digit (get_or words i 0 / 2 ^ columns) some in
          record { column = columns + d.0; beyond = omega arith; set = ap (λ (x : ℕ). x % 2) (sym (shr-shr (get_or words i 0) columns d.0)) ∙ d.1 }

      back : Stray words i → past_columns words i ≡ true
      back s =
          ⊎_elim
          (λ (l : get_or words i 0 < 2 ^ columns).
          let e = digit_past (get_or words i 0) columns s.column l s.beyond in let f = s.set in absurd (omega arith))
          (λ (l : 2 ^ columns ≤ get_or words i 0). le-leb (2 ^ columns) (get_or words i 0) l) (lt_or_le (get_or words i 0) (2 ^ columns))

  -- the first such row, and its place
  pub first_stray_exact : first_stray words < length words → LowestStray words (stray_place (first_stray words))
  first_stray_exact l =
      let i : ℕ = first_stray words in
      let split : rows * (i / rows) + i % rows ≡ i = omega arith in
      record {
        tile = i / rows;
        row = i % rows;
        in_tile = omega arith;
        here = subst (Stray words) (sym split) ((stray_exact i).0 (first_true (past_columns words) 0 (length words) (omega (arith, l))));
        lowest = λ j m s. clash ((stray_exact j).1 s) (first_before (past_columns words) 0 (length words) j (omega arith) (omega (arith, m, split)));
        is_place = omega (arith, split);
      }

  -- words that fit have none (the other way: `no_stray_fits`)
  pub first_stray_none : FitsIn columns words → first_stray words ≡ length words
  first_stray_none fits = first_none (past_columns words) (length words) (λ k l. lt-leb (2 ^ columns) (get_or words k 0) (fits k))

  pub fits_no_stray : FitsIn columns words → (i : ℕ) → Stray words i → ⊥
  fits_no_stray fits i s = let e = digit_past (get_or words i 0) columns s.column (fits i) s.beyond in let f = s.set in absurd (omega arith)

  -- one place only
  pub lowest_stray_same : (p q : ℕ) → LowestStray words p → LowestStray words q → p ≡ q
  lowest_stray_same p q x y =
      ⊎_elim (λ (l : rows * x.tile + x.row < rows * y.tile + y.row). absurd (y.lowest (rows * x.tile + x.row) l x.here))
      (λ l.
      ⊎_elim (λ (m : rows * y.tile + y.row < rows * x.tile + x.row). absurd (x.lowest (rows * y.tile + y.row) m y.here))
      (λ m. omega (arith, l, m, x.is_place, y.is_place)) (lt_or_le (rows * y.tile + y.row) (rows * x.tile + x.row)))
      (lt_or_le (rows * x.tile + x.row) (rows * y.tile + y.row))
