-- Rows in a list: one read where it was written and elsewhere, and a list filled row by row. Main laws: `row_set_same`, `row_set_other`,
-- `row_rows`; `written_start`, `-step`, `-end`, `-zeros`.
use mathlib.Core.Path.{◌≡◌, refl, sym, ap, ◌∙◌}
use mathlib.Core.Logic.{◌⊎◌, inl, inr, ◌≢◌}
use mathlib.Core.List.{List, [], ◌∷◌}
use Prim.Native.Nat.{ℕ, zero, suc, ◌+◌, ◌-◌, ◌*◌, ◌<◌, ◌≤◌}
use native.Mathlib.Omega.{arith}
use native.Mathlib.Nat.{add-zero}
use borrow.Author.Count.{below_more}
use lib.ListN.{length, get_or, set, drop, length-set}
use borrow.Rule.Slice.PartMut.{put_mid, mid_of}
use lib.Seq.{get_or-set_same, get_or-set_other, get_or-take, get_or-drop, ext_get_or, sets, length-sets}
use Rattle.lists.specs.Parts.{part}
use Rattle.lists.specs.Tables.{zeros}
use Rattle.lists.proofs.TableLaws.{zeros_at}
use Rattle.lists.proofs.FillLaws.{zeroed_length, zeroed_front, zeroed_back}
use Rattle.lists.proofs.PartLaws.{part_joined, part_length, joined_is, joined_length}
use Rattle.lists.proofs.CaseLaws.{lt_or_le, eq_or_ne}
use Rattle.netlist.specs.Rows.{row_length, row_at, Inside, set_row, numbers_of, rows_of, zero_row}
use Rattle.netlist.specs.declared.row.Row.{Row}

-- ---- rows are equal by their numbers

-- number j of row i
row_number : (list : List ℕ) (i j : ℕ) → j < row_length → get_or (numbers_of (row_at list i)) j 0 ≡ get_or list (row_length * i + j) 0
unfolding row_at
row_number list i zero l = ap (λ (p : ℕ). get_or list p 0) (let e : 7 * i ≡ 7 * i + 0 = omega arith in e)
row_number list i (suc zero) l = refl
row_number list i (suc (suc zero)) l = refl
row_number list i (suc (suc (suc zero))) l = refl
row_number list i (suc (suc (suc (suc zero)))) l = refl
row_number list i (suc (suc (suc (suc (suc zero))))) l = refl
row_number list i (suc (suc (suc (suc (suc (suc zero)))))) l = refl
row_number list i (suc (suc (suc (suc (suc (suc (suc j))))))) l = absurd (omega arith)

-- two rows with equal numbers
pub row_ext : (r s : Row) → ((j : ℕ) → j < row_length → get_or (numbers_of r) j 0 ≡ get_or (numbers_of s) j 0) → r ≡ s
row_ext r s h = λ t. record {
  kind = h 0 (omega arith) t;
  wire = h 1 (omega arith) t;
  a = h 2 (omega arith) t;
  b = h 3 (omega arith) t;
  c = h 4 (omega arith) t;
  d = h 5 (omega arith) t;
  table = h 6 (omega arith) t;
}

-- row i of one list is row k of another
row_same : (xs ys : List ℕ) (i k : ℕ) → ((j : ℕ) → j < row_length → get_or xs (row_length * i + j) 0 ≡ get_or ys (row_length * k + j) 0) → row_at xs i ≡ row_at ys k
row_same xs ys i k h = row_ext (row_at xs i) (row_at ys k) (λ j l. row_number xs i j l ∙ h j l ∙ sym (row_number ys k j l))

-- ---- numbers put in one after another

sets_other : (vs l : List ℕ) (i p : ℕ) → (p < i) ⊎ (i + length vs ≤ p) → get_or (sets l i vs) p 0 ≡ get_or l p 0
sets_other [] l i p out = refl
sets_other (v ∷ vs) l i p out = sets_other vs (set l i v) (suc i) p (past out) ∙ get_or-set_other l i p v 0 (apart out)
  where
    past : (p < i) ⊎ (i + suc (length vs) ≤ p) → (p < suc i) ⊎ (suc i + length vs ≤ p)
    past (inl a) = inl (omega arith)
    past (inr a) = inr (omega arith)

    apart : (p < i) ⊎ (i + suc (length vs) ≤ p) → p ≢ i
    apart (inl a) e = absurd (omega arith)
    apart (inr a) e = absurd (omega arith)

sets_same : (vs l : List ℕ) (i j : ℕ) → i + length vs ≤ length l → j < length vs → get_or (sets l i vs) (i + j) 0 ≡ get_or vs j 0
sets_same [] l i j h lj = absurd (omega arith)
sets_same (v ∷ vs) l i zero h lj =
    ap (λ (p : ℕ). get_or (sets (set l i v) (suc i) vs) p 0) (add-zero i) ∙ sets_other vs (set l i v) (suc i) i (inl (omega arith))
    ∙ get_or-set_same l i v 0 (omega arith)
sets_same (v ∷ vs) l i (suc j) h lj =
    ap (λ (p : ℕ). get_or (sets (set l i v) (suc i) vs) p 0) (let e : i + suc j ≡ suc i + j = omega arith in e)
    ∙ sets_same vs (set l i v) (suc i) j (omega (arith, length-set l i v)) (omega arith)

-- seven stores, one for each number
pub row_stores : (list : List ℕ) (at : ℕ) (row : Row)
    → set (set (set (set (set (set (set list at row.kind) (at + 1) row.wire) (at + 2) row.a) (at + 3) row.b) (at + 4) row.c) (at + 5) row.d) (at + 6) row.table
    ≡ sets list at (numbers_of row)
row_stores list at row =
    let e1 : at + 1 ≡ suc at = omega arith in
    let e2 : at + 2 ≡ suc (suc at) = omega arith in
    let e3 : at + 3 ≡ suc (suc (suc at)) = omega arith in
    let e4 : at + 4 ≡ suc (suc (suc (suc at))) = omega arith in
    let e5 : at + 5 ≡ suc (suc (suc (suc (suc at)))) = omega arith in
    let e6 : at + 6 ≡ suc (suc (suc (suc (suc (suc at))))) = omega arith in
    rw (e1, e2, e3, e4, e5, e6)

module _ (list : List ℕ) (i : ℕ) (row : Row) where
  pub set_row_length : length (set_row list i row) ≡ length list
  unfolding set_row
  set_row_length = length-sets list (row_length * i) (numbers_of row)

  pub row_set_same : Inside list i → row_at (set_row list i row) i ≡ row
  unfolding set_row
  row_set_same l =
      row_ext (row_at (sets list (row_length * i) (numbers_of row)) i) row
      (λ j lj. row_number (sets list (row_length * i) (numbers_of row)) i j lj ∙ sets_same (numbers_of row) list (row_length * i) j l lj)

  pub row_set_other : (k : ℕ) → k ≢ i → row_at (set_row list i row) k ≡ row_at list k
  unfolding set_row
  row_set_other k ne =
      row_same (sets list (row_length * i) (numbers_of row)) list k k
      (λ j lj. sets_other (numbers_of row) list (row_length * i) (row_length * k + j) (out j lj (lt_or_le k i)))
    where
      out : (j : ℕ) → j < row_length → (k < i) ⊎ (i ≤ k) → (row_length * k + j < row_length * i) ⊎ (row_length * i + row_length ≤ row_length * k + j)
      out j lj (inl a) = inl (omega arith)
      out j lj (inr a) = inr (let b : i < k = elim (eq_or_ne k i) [ inl e ↦ absurd (ne e) | inr d ↦ omega arith ] in omega arith)

-- ---- a list as its rows

part_number : (list : List ℕ) (i j : ℕ) → j < row_length → get_or (part row_length i list) j 0 ≡ get_or list (row_length * i + j) 0
part_number list i j l = get_or-take row_length (drop (row_length * i) list) j 0 l ∙ get_or-drop (row_length * i) list j 0

module _ (f : ℕ → Row) (n : ℕ) where
  pub rows_length_lem : length (rows_of f n) ≡ row_length * n
  rows_length_lem = joined_length row_length (λ i. numbers_of (f i)) n (λ i l. refl)

  pub row_rows : (i : ℕ) → i < n → row_at (rows_of f n) i ≡ f i
  row_rows i l =
      row_ext (row_at (rows_of f n) i) (f i)
      (λ j lj. row_number (rows_of f n) i j lj ∙ sym (part_number (rows_of f n) i j lj)
      ∙ ap (λ (xs : List ℕ). get_or xs j 0) (part_joined row_length (λ i. numbers_of (f i)) n i l (λ k lk. refl)))

  -- a list of n rows, of which the first i are f's
  pub record RowsWritten (i : ℕ) (list : List ℕ) : Type 0 where
    pub upto : i ≤ n
    pub long : length list ≡ row_length * n
    pub written : (k : ℕ) → k < i → row_at list k ≡ f k

  pub written_start : (list : List ℕ) → length list ≡ row_length * n → RowsWritten 0 list
  written_start list e = record { upto = omega arith; long = e; written = λ k l. absurd (omega arith) }

  pub written_step : (i : ℕ) (list : List ℕ) (row : Row) → RowsWritten i list → i < n → row ≡ f i → RowsWritten (i + 1) (set_row list i row)
  written_step i list row h l e = record {
    upto = omega arith;
    long = set_row_length list i row ∙ h.long;
    written =
        below_more (λ k. row_at (set_row list i row) k ≡ f k) i (λ k lk. row_set_other list i row k (λ q. absurd (omega arith)) ∙ h.written k lk)
        (row_set_same list i row (let q = h.long in omega arith) ∙ e);
  }

  pub written_end : (i : ℕ) (list : List ℕ) → RowsWritten i list → n ≤ i → list ≡ rows_of f n
  written_end i list h l =
      sym
      (joined_is row_length n (λ i. numbers_of (f i)) list h.long
      (λ k lk. ext_get_or 0 (numbers_of (f k)) (part row_length k list) (sym (part_length row_length k n list h.long (omega arith)))
      (λ j lj. ap (λ (r : Row). get_or (numbers_of r) j 0) (sym (h.written k (omega arith))) ∙ row_number list k j lj ∙ sym (part_number list k j lj))))

  -- zeros behind the first i rows, where f has the unused row
  module _ (i : ℕ) (list tail : List ℕ) (h : RowsWritten i list) (is : tail ≡ zeros (length (mid_of (row_length * i) (length list - row_length * i) list)))
      (unused : (k : ℕ) → i ≤ k → f k ≡ zero_row) where
    abbrev filled : List ℕ
    filled = put_mid (row_length * i) (length list - row_length * i) list tail

    whole : row_length * i + (length list - row_length * i) ≡ length list
    whole = let e = h.long in let u = h.upto in omega arith

    inside : row_length * i + (length list - row_length * i) ≤ length list
    inside = let e = whole in omega arith

    row_filled : (k : ℕ) → (k < i) ⊎ (i ≤ k) → row_at filled k ≡ f k
    row_filled k (inl l) =
        row_same filled list k k (λ j lj. zeroed_front list tail (row_length * i) (length list - row_length * i) inside is (row_length * k + j) (omega arith)) ∙ h.written k l
    row_filled k (inr l) =
        row_ext (row_at filled k) zero_row
        (λ j lj. row_number filled k j lj ∙ zeroed_back list tail (row_length * i) (length list - row_length * i) whole is (row_length * k + j) (omega arith) ∙ sym (zeros_at row_length j))
        ∙ sym (unused k l)

    pub written_zeros : filled ≡ rows_of f n
    written_zeros =
        written_end n filled
        (record {
          upto = omega arith;
          long = zeroed_length list tail (row_length * i) (length list - row_length * i) inside is ∙ h.long;
          written = λ k l. row_filled k (lt_or_le k i);
        })
        (omega arith)
