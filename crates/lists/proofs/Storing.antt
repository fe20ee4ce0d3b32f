-- The loop that stores rows in a lent list, from `from` on (`StoredRows`). Main laws: `stored_start`, `-hit`, `-skip`, `-room`; `stored_more`,
-- `-more-room`: the same for a loop that has those of some numbers stored at a time; `stored_part`, `-part-room`: of one that goes by equal parts.
use mathlib.Core.Path.{◌≡◌, refl, sym, ap, ◌∙◌, subst}
use mathlib.Core.Bool.{Bool, true, false}
use mathlib.Core.List.{List}
use Prim.Native.Nat.{ℕ, ◌+◌, ◌*◌, ◌<◌, ◌≤◌}
use native.Mathlib.Nat.{mul-le-mul_left, mul-add}
use native.Mathlib.Omega.{arith}
use lib.ListN.{length}
use lib.Seq.{sets, length-sets}
use Rattle.lists.specs.Search.{count_below}
use Rattle.lists.specs.Listing.{rows_where}
use Rattle.lists.proofs.RowLaws.{count_mono, count_pass, rows_length_lem, rows_hit, rows_skip, count_hit, count_skip, count_more, rows_more, next_part, count_gap, rows_gap}

-- of the numbers below j, the rows of those that pass are stored in `old`, and `at` is where they end
pub record StoredRows (p : ℕ → Bool) (row : ℕ → List ℕ) (k from : ℕ) (old : List ℕ) (j at : ℕ) (list : List ℕ) : Type 0 where
  pub long : length list ≡ length old
  pub end : at ≡ from + k * count_below p j
  pub stored : list ≡ sets old from (rows_where p row j)

pub stored_start : (p : ℕ → Bool) (row : ℕ → List ℕ) (k from : ℕ) (old : List ℕ) → StoredRows p row k from old 0 from old
unfolding count_below rows_where
stored_start p row k from old = record { long = refl; end = omega arith; stored = refl }

module _ {p : ℕ → Bool} {row : ℕ → List ℕ} {k from : ℕ} {old : List ℕ} {j at : ℕ} {list : List ℕ} (S : StoredRows p row k from old j at list)
    (each : (i : ℕ) → length (row i) ≡ k) where
  place : at ≡ from + length (rows_where p row j)
  place = S.end ∙ ap (λ (x : ℕ). from + x) (sym (rows_length_lem p row k j (λ i l. each i)))

  pub stored_hit : (next : List ℕ) (then : ℕ) → next ≡ sets list at (row j) → then ≡ at + k → p j ≡ true → StoredRows p row k from old (j + 1) then next
  stored_hit next then e f h = record {
    long = ap length e ∙ length-sets list at (row j) ∙ S.long;
    end =
        let m = mul-add k (count_below p j) 1 in
        omega (arith, S.end, ap (λ (x : ℕ). k * x) (count_hit p j (count_below p j) refl h));
    stored = e ∙ rows_hit p row from j old list S.stored at place h;
  }

  pub stored_skip : (next : List ℕ) (then : ℕ) → next ≡ list → then ≡ at → p j ≡ false → StoredRows p row k from old (j + 1) then next
  stored_skip next then e f h = record {
    long = ap length e ∙ S.long;
    end = f ∙ S.end ∙ ap (λ (x : ℕ). from + k * x) (count_skip p j (count_below p j) refl h);
    stored = e ∙ rows_skip p row from j old list S.stored h;
  }

  -- where all have room, the next one has
  pub stored_room : (n : ℕ) → j < n → p j ≡ true → from + k * count_below p n ≤ length old → at + k ≤ length list
  stored_room n l h fits = let m = mul-le-mul_left k (count_pass p j n l h) in omega (arith, S.end, S.long)

-- the m numbers from j on have their own test and rows
module _ {p : ℕ → Bool} {row : ℕ → List ℕ} {k from : ℕ} {old : List ℕ} {j at : ℕ} {list : List ℕ} (S : StoredRows p row k from old j at list) (m : ℕ)
    (q : ℕ → Bool) (r : ℕ → List ℕ) (same : (i : ℕ) → i < m → p (j + i) ≡ q i) where
  pub stored_more : ((i : ℕ) → length (row i) ≡ k) → ((i : ℕ) → i < m → row (j + i) ≡ r i) → (next : List ℕ) (then : ℕ)
      → next ≡ sets list at (rows_where q r m) → then ≡ at + k * count_below q m → StoredRows p row k from old (j + m) then next
  stored_more each also next then e f = record {
    long = ap length e ∙ length-sets list at (rows_where q r m) ∙ S.long;
    end =
        let a = mul-add k (count_below p j) (count_below q m) in
        omega (arith, S.end, ap (λ (x : ℕ). k * x) (count_more p j m q same (count_below p j) (count_below q m) refl refl));
    stored = e
        ∙ rows_more p j m q same row r also from at old list S.stored
        (S.end ∙ ap (λ (x : ℕ). from + x) (sym (rows_length_lem p row k j (λ i l. each i))));
  }

  -- where all have room, these have
  pub stored_more_room : (n : ℕ) → j + m ≤ n → from + k * count_below p n ≤ length old → at + k * count_below q m ≤ length list
  stored_more_room n l fits =
      let a = mul-add k (count_below p j) (count_below q m) in
      let d = mul-le-mul_left k (count_mono p (j + m) n l) in
      omega (arith, S.end, S.long, ap (λ (x : ℕ). k * x) (count_more p j m q same (count_below p j) (count_below q m) refl refl))

-- part t of m numbers has its own test and rows
module _ {p : ℕ → Bool} {row : ℕ → List ℕ} {k from : ℕ} {old : List ℕ} (m t : ℕ) {at : ℕ} {list : List ℕ}
    (S : StoredRows p row k from old (m * t) at list) (q : ℕ → Bool) (r : ℕ → List ℕ) (same : (i : ℕ) → i < m → p (m * t + i) ≡ q i) where
  pub stored_part : ((i : ℕ) → length (row i) ≡ k) → ((i : ℕ) → i < m → row (m * t + i) ≡ r i) → (next : List ℕ) (then : ℕ)
      → next ≡ sets list at (rows_where q r m) → then ≡ at + k * count_below q m → StoredRows p row k from old (m * (t + 1)) then next
  stored_part each also next then e f =
      subst (λ (x : ℕ). StoredRows p row k from old x then next) (next_part m t) (stored_more S m q r same each also next then e f)

  pub stored_part_room : (n : ℕ) → t < n → from + k * count_below p (m * n) ≤ length old → at + k * count_below q m ≤ length list
  stored_part_room n l fits =
      let b : m * (t + 1) ≤ m * n = mul-le-mul_left m (let c : t + 1 ≤ n = omega arith in c) in
      stored_more_room S m q r same (m * n) (omega (arith, next_part m t)) fits

-- numbers of which none passes: a list that holds the rows of the lower ones holds these too
pub stored_gap : (p : ℕ → Bool) (j i : ℕ) → j ≤ i → ((k : ℕ) → j ≤ k → k < i → p k ≡ false) → {row : ℕ → List ℕ} {k from : ℕ} {old : List ℕ} {at : ℕ}
    {list : List ℕ} → StoredRows p row k from old j at list → StoredRows p row k from old i at list
stored_gap p j i l none {row} {k} {from} {old} {at} {list} S = record {
  long = S.long;
  end = S.end ∙ ap (λ (x : ℕ). from + k * x) (count_gap p j i l none);
  stored = S.stored ∙ ap (sets old from) (rows_gap p j i l none row);
}
