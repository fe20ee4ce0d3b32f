-- The rows of the numbers that pass a test, end to end: how many, where each stands, and the loop that stores them. Main laws: `rows_at`,
-- `row_reached`; `rows_hit`, `rows_skip`, `count_hit`, `count_skip`: a turn of the loop; `rows_more`, `count_more`: a turn of one that takes some
-- numbers at a time; `rows_gap`, `count_gap`: numbers of which none passes.
use mathlib.Core.Path.{◌≡◌, refl, sym, ap, ap₂, ◌∙◌, subst}
use mathlib.Core.Bool.{Bool, true, false, cond}
use mathlib.Core.List.{List, [], ◌∷◌, ◌++◌, append_assoc, append-nil}
use mathlib.Core.Logic.{⊎_elim}
use Prim.Native.Nat.{ℕ, zero, suc, ◌+◌, ◌-◌, ◌*◌, ◌<◌, ◌≤◌}
use native.Mathlib.Nat.{mul-le-mul_left, mul-zero, mul-add, add-zero, add-suc, eq-or-lt_of_le, le_of_suc-le-suc}
use native.Mathlib.Numerals.{add-one}
use native.Mathlib.Omega.{arith}
use lib.ListN.{length, take, drop, set, length-append, length-drop}
use lib.Seq.{sets, take_all, take-append-le, drop-append-le, drop_at}
use Rattle.lists.specs.Search.{count_below}
use Rattle.lists.specs.Parts.{part}
use Rattle.lists.specs.Listing.{rows_where}
use Rattle.lists.proofs.CaseLaws.{lt_or_le}
use Rattle.lists.proofs.CountLaws.{count_add, count_ext, count_none}

-- ---- how many pass: a number that passes, and the places between

pub count_mono : (p : ℕ → Bool) (i n : ℕ) → i ≤ n → count_below p i ≤ count_below p n
unfolding count_below
count_mono p i zero h = let e : i ≡ 0 = omega arith in rw e (omega arith)
count_mono p i (suc n) h =
    ⊎_elim (λ (e : i ≡ suc n). rw e (omega arith)) (λ (l : i < suc n). let r = count_mono p i n (omega arith) in omega arith) (eq-or-lt_of_le h)

pub count_pass : (p : ℕ → Bool) (i n : ℕ) → i < n → p i ≡ true → count_below p i < count_below p n
unfolding count_below
count_pass p i n l e =
    let a = count_mono p (suc i) n l in let b : cond {A = ℕ} (p i) 1 0 ≡ 1 = rw e in
    omega arith

-- every place below the count is that of a number that passes
pub row_reached : (p : ℕ → Bool) (n j : ℕ) → j < count_below p n → (i : ℕ) × (i < n) × (p i ≡ true) × (count_below p i ≡ j)
unfolding count_below
row_reached p zero j l = absurd (omega arith)
row_reached p (suc n) j l = go (p n) refl l (λ m. let r = row_reached p n j m in (r.0, omega arith, r.2, r.3))
  where
    go : (b : Bool) → p n ≡ b → j < cond b 1 0 + count_below p n → (j < count_below p n → (i : ℕ) × (i < suc n) × (p i ≡ true) × (count_below p i ≡ j))
        → (i : ℕ) × (i < suc n) × (p i ≡ true) × (count_below p i ≡ j)
    go true e m lower = ⊎_elim lower (λ (h : count_below p n ≤ j). (n, omega arith, e, omega arith)) (lt_or_le j (count_below p n))
    go false e m lower = lower (omega arith)

-- ---- where each row stands

-- a part of what stands in front
pub part_append : (k t : ℕ) (xs ys : List ℕ) → k * t + k ≤ length xs → part k t (xs ++ ys) ≡ part k t xs
part_append k t xs ys h =
    ap (take k) (drop-append-le (k * t) xs ys (omega arith)) ∙ take-append-le k (drop (k * t) xs) ys (rw (length-drop (k * t) xs) (omega arith))

module _ (p : ℕ → Bool) (row : ℕ → List ℕ) where
  pub rows_length_lem : (k n : ℕ) → ((i : ℕ) → i < n → length (row i) ≡ k) → length (rows_where p row n) ≡ k * count_below p n
  unfolding rows_where count_below
  rows_length_lem k zero h = sym (mul-zero k)
  rows_length_lem k (suc n) h = go (p n) (rows_length_lem k n (λ i l. h i (omega arith)))
    where
      go : (b : Bool) → length (rows_where p row n) ≡ k * count_below p n → length (rows_where p row n ++ cond b (row n) []) ≡ k * (cond b 1 0 + count_below p n)
      go true r = let m = mul-add k 1 (count_below p n) in omega (arith, length-append (rows_where p row n) (row n), h n (omega arith))
      go false r = let z : 0 + count_below p n ≡ count_below p n = omega arith in ap length (append-nil (rows_where p row n)) ∙ r ∙ ap (λ (x : ℕ). k * x) (sym z)

  -- the row of a number that passes stands behind those of the lower ones
  pub rows_at : (k n i : ℕ) → ((i : ℕ) → i < n → length (row i) ≡ k) → i < n → p i ≡ true → part k (count_below p i) (rows_where p row n) ≡ row i
  unfolding rows_where
  rows_at k zero i h l e = absurd (omega arith)
  rows_at k (suc n) i h l e = ⊎_elim here (λ m. lower m (rows_at k n i (λ j q. h j (omega arith)) m e)) (eq-or-lt_of_le (le_of_suc-le-suc l))
    where
      long : length (rows_where p row n) ≡ k * count_below p n
      long = rows_length_lem k n (λ j m. h j (omega arith))

      lower : i < n → part k (count_below p i) (rows_where p row n) ≡ row i → part k (count_below p i) (rows_where p row n ++ cond (p n) (row n) []) ≡ row i
      lower m r =
          let a = mul-le-mul_left k (count_pass p i n m e) in
          part_append k (count_below p i) (rows_where p row n) (cond (p n) (row n) []) (omega (arith, long)) ∙ r

      here : i ≡ n → part k (count_below p i) (rows_where p row n ++ cond (p n) (row n) []) ≡ row i
      here q =
          let pn : p n ≡ true = subst (λ (x : ℕ). p x ≡ true) q e in
          rw (q, pn) (ap (take k) (drop_at (rows_where p row n) (row n) (k * count_below p n) long) ∙ take_all k (row n) (omega (arith, h n (omega arith))))

  pub rows_add : (n m : ℕ) → rows_where p row (n + m) ≡ rows_where p row n ++ rows_where (λ (j : ℕ). p (n + j)) (λ (j : ℕ). row (n + j)) m
  unfolding rows_where
  rows_add n zero = ap (rows_where p row) (add-zero n) ∙ sym (append-nil (rows_where p row n))
  rows_add n (suc m) =
      rw (add-suc n m, rows_add n m)
      (append_assoc (rows_where p row n) (rows_where (λ (j : ℕ). p (n + j)) (λ (j : ℕ). row (n + j)) m) (cond (p (n + m)) (row (n + m)) []))

pub rows_ext : (p q : ℕ → Bool) (row other : ℕ → List ℕ) (n : ℕ) → ((i : ℕ) → i < n → p i ≡ q i) → ((i : ℕ) → i < n → row i ≡ other i)
    → rows_where p row n ≡ rows_where q other n
unfolding rows_where
rows_ext p q row other zero h g = refl
rows_ext p q row other (suc n) h g =
    ap₂ ◌++◌ (rows_ext p q row other n (λ i l. h i (omega arith)) (λ i l. g i (omega arith)))
    (let a = h n (omega arith) in let b = g n (omega arith) in rw (a, b))

-- ---- the loop that stores them: the list is the old one with the rows so far stored from `at` on

pub sets_append : (l : List ℕ) (i : ℕ) (vs ws : List ℕ) → sets l i (vs ++ ws) ≡ sets (sets l i vs) (i + length vs) ws
sets_append l i [] ws = rw (add-zero i)
sets_append l i (v ∷ vs) ws =
    sets_append (set l i v) (suc i) vs ws
    ∙ ap (λ (x : ℕ). sets (sets (set l i v) (suc i) vs) x ws) (let e : suc i + length vs ≡ i + suc (length vs) = omega arith in e)

module _ (p : ℕ → Bool) (row : ℕ → List ℕ) (at n : ℕ) (old list : List ℕ) (inv : list ≡ sets old at (rows_where p row n)) where
  pub rows_hit : (place : ℕ) → place ≡ at + length (rows_where p row n) → p n ≡ true → sets list place (row n) ≡ sets old at (rows_where p row (n + 1))
  unfolding rows_where
  rows_hit place q e = rw (inv, q, add-one n, e) (sym (sets_append old at (rows_where p row n) (row n)))

  pub rows_skip : p n ≡ false → list ≡ sets old at (rows_where p row (n + 1))
  unfolding rows_where
  rows_skip e = inv ∙ rw (add-one n, e, append-nil (rows_where p row n))

-- ---- the turns of the loop that counts them

module _ (p : ℕ → Bool) (n c : ℕ) (inv : c ≡ count_below p n) where
  pub count_hit : p n ≡ true → c + 1 ≡ count_below p (n + 1)
  unfolding count_below
  count_hit e = rw (add-one n, e) (omega arith)

  pub count_skip : p n ≡ false → c ≡ count_below p (n + 1)
  unfolding count_below
  count_skip e = rw (add-one n, e) (omega arith)

-- ---- the turns of loops that do so some numbers at a time: the m numbers from j on have their own test and rows

module _ (p : ℕ → Bool) (j m : ℕ) (q : ℕ → Bool) (same : (i : ℕ) → i < m → p (j + i) ≡ q i) where
  pub count_more : (c d : ℕ) → c ≡ count_below p j → d ≡ count_below q m → c + d ≡ count_below p (j + m)
  count_more c d inv e =
      let b = count_ext (λ (i : ℕ). p (j + i)) q m same in
      ap₂ ◌+◌ inv (e ∙ sym b) ∙ sym (count_add p j m)

  module _ (row r : ℕ → List ℕ) (also : (i : ℕ) → i < m → row (j + i) ≡ r i) where
    rows_next : rows_where p row (j + m) ≡ rows_where p row j ++ rows_where q r m
    rows_next =
        rows_add p row j m
        ∙ ap (λ (x : List ℕ). rows_where p row j ++ x) (rows_ext (λ (i : ℕ). p (j + i)) q (λ (i : ℕ). row (j + i)) r m same also)

    pub rows_more : (at place : ℕ) (old list : List ℕ) → list ≡ sets old at (rows_where p row j) → place ≡ at + length (rows_where p row j)
        → sets list place (rows_where q r m) ≡ sets old at (rows_where p row (j + m))
    rows_more at place old list inv e = rw (inv, e, rows_next) (sym (sets_append old at (rows_where p row j) (rows_where q r m)))

-- a part of k numbers after t of them
pub next_part : (k t : ℕ) → k * t + k ≡ k * (t + 1)
next_part k t = omega (arith, mul-add k t 1)

-- ---- numbers of which none passes

pub rows_none : (p : ℕ → Bool) (row : ℕ → List ℕ) (n : ℕ) → ((i : ℕ) → i < n → p i ≡ false) → rows_where p row n ≡ []
unfolding rows_where
rows_none p row zero h = refl
rows_none p row (suc n) h = ap₂ ◌++◌ (rows_none p row n (λ i l. h i (omega arith))) (let a = h n (omega arith) in rw a)

module _ (p : ℕ → Bool) (j i : ℕ) (l : j ≤ i) (none : (k : ℕ) → j ≤ k → k < i → p k ≡ false) where
  rest : j + (i - j) ≡ i
  rest = omega arith

  pub count_gap : count_below p j ≡ count_below p i
  count_gap =
      let a = count_add p j (i - j) in
      let b = count_none (λ (k : ℕ). p (j + k)) (i - j) (λ k h. none (j + k) (omega arith) (omega arith)) in
      sym (ap (count_below p) (sym rest) ∙ a ∙ ap (λ (x : ℕ). count_below p j + x) b ∙ add-zero (count_below p j))

  pub rows_gap : (row : ℕ → List ℕ) → rows_where p row j ≡ rows_where p row i
  rows_gap row =
      let a = rows_add p row j (i - j) in
      let b = rows_none (λ (k : ℕ). p (j + k)) (λ (k : ℕ). row (j + k)) (i - j) (λ k h. none (j + k) (omega arith) (omega arith)) in
      sym (ap (rows_where p row) (sym rest) ∙ a ∙ ap (λ (x : List ℕ). rows_where p row j ++ x) b ∙ append-nil (rows_where p row j))

-- none are below 0
pub count_none_yet : (p : ℕ → Bool) → 0 ≡ count_below p 0
unfolding count_below
count_none_yet p = refl
