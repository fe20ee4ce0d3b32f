-- A listing, proved once: the rows of a rising enumeration, filled up with zeros, are everything that is asked for, in order. Main laws: `rows_listed`;
-- `listed_once`: no row stands twice; `listed_unique`: no other list and no other count would do; `listed_empty`; `listed_as`.
use mathlib.Core.Path.{◌≡◌, refl, sym, ap, ap₂, ◌∙◌, subst}
use mathlib.Core.Bool.{Bool, true}
use mathlib.Core.List.{List, [], ◌∷◌, ◌++◌, append-nil}
use mathlib.Core.Logic.{⊎_elim, ◌↔◌}
use Prim.Native.Nat.{ℕ, zero, suc, ◌+◌, ◌-◌, ◌*◌, ◌/◌, ◌%◌, ◌<◌, ◌≤◌}
use native.Mathlib.Nat.{mul-le-mul_left, mul_comm, mod-lt, div-add-mod, div-lt_iff_lt-mul}
use native.Mathlib.Omega.{arith}
use lib.ListN.{length, get_or, take, drop, length-append, length-drop}
use lib.Seq.{sets, sets-eq, take_all, take_at, drop_at, drop-length, get_or-append-add, get_or-take, get_or-drop, ext_get_or}
use borrow.Rule.Slice.PartMut.{put_mid}
use Rattle.lists.specs.Search.{count_below}
use Rattle.lists.specs.Tables.{zeros}
use Rattle.lists.specs.Parts.{part}
use Rattle.lists.specs.Listing.{Precedes, here, later, Lists, rows_where, zero_filled}
use Rattle.lists.proofs.CaseLaws.{lt_or_le}
use Rattle.lists.proofs.TableLaws.{zeros_length, zeros_at}
use Rattle.lists.proofs.RowLaws.{count_mono, count_pass, row_reached, part_append, rows_length_lem, rows_at}

-- ---- the order of rows

precedes_apart : (a b : List ℕ) → a ≡ b → Precedes a b → ⊥
precedes_apart [] b _ h = elim h [ ]
precedes_apart (x ∷ a) [] _ h = elim h [ ]
precedes_apart (x ∷ a) (y ∷ b) e (here l) = let same : x ≡ y = ap (λ (xs : List ℕ). get_or xs 0 0) e in absurd (omega (arith, same, l))
precedes_apart (x ∷ a) (y ∷ b) e (later h) = precedes_apart a b (ap (drop 1) e) h

pub precedes_self : (a : List ℕ) → Precedes a a → ⊥
precedes_self a h = precedes_apart a a refl h

pub precedes_trans : (a b c : List ℕ) → Precedes a b → Precedes b c → Precedes a c
precedes_trans [] b c h _ = elim h [ ]
precedes_trans (x ∷ a) [] c h _ = elim h [ ]
precedes_trans (x ∷ a) (y ∷ b) [] _ h = elim h [ ]
precedes_trans (x ∷ a) (y ∷ b) (z ∷ c) (here l) (here m) = here (let q : x < z = omega arith in q)
precedes_trans (x ∷ a) (y ∷ b) (z ∷ c) (here l) (later h) = here l
precedes_trans (x ∷ a) (y ∷ b) (z ∷ c) (later g) (here m) = here m
precedes_trans (x ∷ a) (y ∷ b) (z ∷ c) (later g) (later h) = later (precedes_trans a b c g h)

-- ---- filled up with zeros

pub filled_length : (n : ℕ) (rows : List ℕ) → length rows ≤ n → length (zero_filled n rows) ≡ n
unfolding zero_filled
filled_length n rows h = omega (arith, length-append rows (zeros (n - length rows)), zeros_length (n - length rows))

drop_zeros : (j n : ℕ) → drop j (zeros n) ≡ zeros (n - j)
drop_zeros zero n = ap zeros (let e : n ≡ n - 0 = omega arith in e)
drop_zeros (suc j) zero = ap zeros (let e : 0 ≡ 0 - suc j = omega arith in e)
drop_zeros (suc j) (suc n) = drop_zeros j n ∙ ap zeros (let e : n - j ≡ suc n - suc j = omega arith in e)

-- what the loop leaves in a cleared list
pub filled_stored : (n : ℕ) (rows : List ℕ) → length rows ≤ n → sets (zeros n) 0 rows ≡ zero_filled n rows
unfolding zero_filled
filled_stored n rows h =
    sets-eq rows (zeros n) 0 (omega (arith, zeros_length n))
    ∙ ap (λ (x : List ℕ). rows ++ x) (ap (λ (x : ℕ). drop x (zeros n)) (let e : 0 + length rows ≡ length rows = omega arith in e) ∙ drop_zeros (length rows) n)

-- the same where the rows were stored in an old list, and what lies behind them was cleared, as the code lends it
pub filled_rest : (old list rest rows : List ℕ) (end : ℕ) → list ≡ sets old 0 rows → end ≡ length rows → length rows ≤ length old
    → rest ≡ zeros (length (take (length old - end) (drop end list))) → put_mid end (length old - end) list rest ≡ zero_filled (length old) rows
unfolding zero_filled
filled_rest old list rest rows end e f h r =
    ap₂ ◌++◌ front (ap₂ ◌++◌ (r ∙ ap zeros size) none ∙ append-nil (zeros (length old - length rows)))
  where
    behind : List ℕ
    behind = drop (length rows) old

    stored : list ≡ rows ++ behind
    stored =
        e ∙ sets-eq rows old 0 (omega arith)
        ∙ ap (λ (x : ℕ). rows ++ drop x old) (let z : 0 + length rows ≡ length rows = omega arith in z)

    front : take end list ≡ rows
    front = ap (take end) stored ∙ take_at rows behind end (sym f)

    back : drop end list ≡ behind
    back = ap (drop end) stored ∙ drop_at rows behind end (sym f)

    left : length behind ≡ length old - end
    left = length-drop (length rows) old ∙ ap (λ (x : ℕ). length old - x) (sym f)

    size : length (take (length old - end) (drop end list)) ≡ length old - length rows
    size =
        ap (λ (x : List ℕ). length (take (length old - end) x)) back
        ∙ ap length (take_all (length old - end) behind (let z : length behind ≤ length old - end = omega (arith, left) in z))
        ∙ length-drop (length rows) old

    none : drop (length old - end) (drop end list) ≡ []
    none = ap₂ drop (sym left) back ∙ drop-length behind

-- ---- the listing

-- an enumeration of what is asked for: n rows of k numbers, rising, of which those that pass are
pub record Enumerates (Is : List ℕ → Type 0) (k : ℕ) (p : ℕ → Bool) (row : ℕ → List ℕ) (n : ℕ) : Type 0 where
  pub long : (i : ℕ) → i < n → length (row i) ≡ k
  pub rising : (i j : ℕ) → i < j → j < n → Precedes (row i) (row j)
  pub only : (i : ℕ) → i < n → p i ≡ true → Is (row i)
  pub every : (x : List ℕ) → Is x → (i : ℕ) × (i < n) × (p i ≡ true) × (row i ≡ x)

module _ (Is : List ℕ → Type 0) (k : ℕ) (p : ℕ → Bool) (row : ℕ → List ℕ) (n : ℕ) (E : Enumerates Is k p row n) (m : ℕ) (fits : k * count_below p n ≤ m) where
  rows_long : length (rows_where p row n) ≡ k * count_below p n
  rows_long = rows_length_lem p row k n E.long

  -- the row of a number that passes, in the filled list
  filled_at : (i : ℕ) → i < n → p i ≡ true → part k (count_below p i) (zero_filled m (rows_where p row n)) ≡ row i
  unfolding zero_filled
  filled_at i l e =
      let a = mul-le-mul_left k (count_pass p i n l e) in
      part_append k (count_below p i) (rows_where p row n) (zeros (m - length (rows_where p row n))) (omega (arith, rows_long)) ∙ rows_at p row k n i E.long l e

  -- what stands at place j is the row of the number with j lower ones
  place : (j : ℕ) → j < count_below p n → (i : ℕ) × (i < n) × (p i ≡ true) × (count_below p i ≡ j) × (part k j (zero_filled m (rows_where p row n)) ≡ row i)
  place j l =
      let (i, li, e, c) = row_reached p n j l in
      (i, li, e, c, subst (λ (x : ℕ). part k x (zero_filled m (rows_where p row n)) ≡ row i) c (filled_at i li e))

  past : (x : ℕ) → k * count_below p n ≤ x → get_or (zero_filled m (rows_where p row n)) x 0 ≡ 0
  unfolding zero_filled
  past x h =
      let d = x - length (rows_where p row n) in
      let q : x ≡ length (rows_where p row n) + d = omega (arith, rows_long) in
      ap (λ (y : ℕ). get_or (rows_where p row n ++ zeros (m - length (rows_where p row n))) y 0) q
      ∙ get_or-append-add (rows_where p row n) (zeros (m - length (rows_where p row n))) d 0 ∙ zeros_at (m - length (rows_where p row n)) d

  pub rows_listed : Lists Is k (zero_filled m (rows_where p row n)) (count_below p n)
  rows_listed = record {
    room = omega (arith, filled_length m (rows_where p row n) (omega (arith, rows_long)));
    only = λ j l. let (i, li, e, c, q) = place j l in subst Is (sym q) (E.only i li e);
    every = λ x h. let (i, li, e, q) = E.every x h in (count_below p i, count_pass p i n li e, filled_at i li e ∙ q);
    rising = λ i j l lj.
        let (a, la, ea, ca, qa) = place i (let z : i < count_below p n = omega arith in z) in
        let (b, lb, eb, cb, qb) = place j lj in
        subst (λ (x : List ℕ). Precedes x (part k j (zero_filled m (rows_where p row n)))) (sym qa) (subst (λ (x : List ℕ). Precedes (row a) x) (sym qb)
        (E.rising a b (⊎_elim (λ z. z) (λ (z : b ≤ a). absurd (omega (arith, count_mono p b a z))) (lt_or_le a b)) lb));
    rest = past;
  }

-- ---- what a listing says

module _ {Is : List ℕ → Type 0} {k : ℕ} {list : List ℕ} {count : ℕ} (L : Lists Is k list count) where
  -- "each once"
  pub listed_once : (i j : ℕ) → i < count → j < count → part k i list ≡ part k j list → i ≡ j
  listed_once i j li lj e = ⊎_elim below (λ g. ⊎_elim above (λ (h : i ≤ j). let q : i ≡ j = omega arith in q) (lt_or_le j i)) (lt_or_le i j)
    where
      below : i < j → i ≡ j
      below l = absurd (precedes_self _ (subst (λ (x : List ℕ). Precedes x (part k j list)) e (L.rising i j l lj)))

      above : j < i → i ≡ j
      above l = absurd (precedes_self _ (subst (λ (x : List ℕ). Precedes (part k j list) x) e (L.rising j i l li)))

  -- nothing is listed exactly if there is nothing
  pub listed_empty : (count ≡ 0) ↔ ((row : List ℕ) → Is row → ⊥)
  listed_empty = (
    (λ e row h. let (i, l, q) = L.every row h in absurd (omega arith)),
    λ none. ⊎_elim (λ (l : 0 < count). absurd (none (part k 0 list) (L.only 0 l))) (λ (h : count ≤ 0). let q : count ≡ 0 = omega arith in q) (lt_or_le 0 count),
  )

-- what is listed, said in another way
pub listed_as : {Is Other : List ℕ → Type 0} {k : ℕ} {list : List ℕ} {count : ℕ} → ((row : List ℕ) → Is row → Other row)
    → ((row : List ℕ) → Other row → Is row) → Lists Is k list count → Lists Other k list count
listed_as there back L = record {
  room = L.room;
  only = λ i l. there _ (L.only i l);
  every = λ row h. L.every row (back row h);
  rising = L.rising;
  rest = L.rest;
}

-- ---- no other list and no other count would do

-- the rows of two listings of the same agree, place by place
module _ {Is : List ℕ → Type 0} {k : ℕ} {list other : List ℕ} {c d : ℕ} (L : Lists Is k list c) (M : Lists Is k other d) where
  abbrev Agrees : ℕ → Type 0
  Agrees i = i < c → (i < d) × (part k i list ≡ part k i other)

  -- where all lower rows agree, the next one does
  agrees_next : (i : ℕ) → ((h : ℕ) → h < i → Agrees h) → Agrees i
  agrees_next i lower l =
      let (j, lj, q) = M.every (part k i list) (L.only i l) in
      ⊎_elim (below j lj q)
      (λ z. ⊎_elim (above j lj q) (λ y. here_it j lj q (let w : j ≡ i = omega arith in w)) (lt_or_le i j)) (lt_or_le j i)
    where
      here_it : (j : ℕ) → j < d → part k j other ≡ part k i list → j ≡ i → (i < d) × (part k i list ≡ part k i other)
      here_it j lj q w = (omega arith, sym q ∙ ap (λ (x : ℕ). part k x other) w)

      -- a row of the other list that stands lower is the same row here, which would stand twice
      below : (j : ℕ) → j < d → part k j other ≡ part k i list → j < i → (i < d) × (part k i list ≡ part k i other)
      below j lj q z = absurd (let e = listed_once L j i (let y : j < c = omega arith in y) l ((lower j z (omega arith)).1 ∙ q) in omega arith)

      -- one that stands higher leaves room for a row that is missing here
      above : (j : ℕ) → j < d → part k j other ≡ part k i list → i < j → (i < d) × (part k i list ≡ part k i other)
      above j lj q z =
          let (h, lh, e) = L.every (part k i other) (M.only i (let y : i < d = omega arith in y)) in
          let first : Precedes (part k h list) (part k i list) =
          subst (λ (x : List ℕ). Precedes x (part k i list)) (sym e) (subst (λ (x : List ℕ). Precedes (part k i other) x) q (M.rising i j z lj)) in
          ⊎_elim
          (λ (y : h < i). absurd (let w = listed_once M h i (lower h y lh).0 (let y : i < d = omega arith in y) (sym (lower h y lh).1 ∙ e) in omega arith))
          (λ (y : i ≤ h). absurd (⊎_elim
          (λ (w : i < h). precedes_self _ (precedes_trans _ _ _ first (L.rising i h w lh)))
          (λ (w : h ≤ i). let v : h ≡ i = omega arith in precedes_self _ (subst (λ (x : ℕ). Precedes (part k x list) (part k i list)) v first)) (lt_or_le i h)))
          (lt_or_le h i)

  agrees_below : (n : ℕ) → (i : ℕ) → i < n → Agrees i
  agrees_below zero i l = absurd (omega arith)
  agrees_below (suc n) i l = agrees_next i (λ h lh. agrees_below n h (omega arith))

  pub rows_agree : (i : ℕ) → i < c → (i < d) × (part k i list ≡ part k i other)
  rows_agree i l = agrees_below (suc i) i (omega arith) l

count_le_of : {Is : List ℕ → Type 0} {k : ℕ} {list other : List ℕ} (c d : ℕ) → Lists Is k list c → Lists Is k other d → c ≤ d
count_le_of zero d L M = omega arith
count_le_of (suc c) d L M = (rows_agree L M c (omega arith)).0

module _ {Is : List ℕ → Type 0} {k : ℕ} {list other : List ℕ} {c d : ℕ} (L : Lists Is k list c) (M : Lists Is k other d) where
  pub count_unique : c ≡ d
  count_unique = let a = count_le_of c d L M in let b = count_le_of d c M L in omega arith

  pub listed_unique : 0 < k → length list ≡ length other → list ≡ other
  listed_unique positive e = ext_get_or 0 list other e (λ m l. ⊎_elim (λ z. inside m z) (λ z. L.rest m z ∙ sym (M.rest m (rw (← count_unique) z))) (lt_or_le m (k * c)))
    where
      at : (xs : List ℕ) (m : ℕ) → get_or (part k (m / k) xs) (m % k) 0 ≡ get_or xs m 0
      at xs m =
          get_or-take k (drop (k * (m / k)) xs) (m % k) 0 (mod-lt m positive) ∙ get_or-drop (k * (m / k)) xs (m % k) 0
          ∙ ap (λ (x : ℕ). get_or xs x 0) (div-add-mod m k)

      inside : (m : ℕ) → m < k * c → get_or list m 0 ≡ get_or other m 0
      inside m z =
          let y : m / k < c = (div-lt_iff_lt-mul positive).1 (subst (λ (x : ℕ). m < x) (mul_comm k c) z) in
          sym (at list m) ∙ ap (λ (x : List ℕ). get_or x (m % k) 0) (rows_agree L M (m / k) y).1 ∙ at other m
