-- std's words for what an iterator answers (`position`, `find`, `list_all`, `list_any`, `count_by`, `fold`), as the words of
-- specs/Search.antt. A test p of the elements is the test `λ k. p (get_or xs k d)` of the places. Main laws: `position-is`, `list_all-is`,
-- `list_any-is`, `count_by-is`; of two lists `list_all_zip-is`; of the numbers a .. a + n `find_range-is`, `all_range-is`, `any_range-is`,
-- `count_range-is`, and of a find over them `found_or`, `found_between`, `found_below`; of a list from a place on `position_from-is`,
-- `position_or_from-is`, `all_from-is`; `fold_and-is`, `fold_or-is`, `fold_bits-zero`; `from_bool-is`, `sum_tests-is`; `copied_at-is`; `from_fn-is` of
-- an array.
use Prim.Native.Nat.{ℕ, zero, suc, ◌+◌, ◌-◌, ◌<◌, ◌≤◌}
use mathlib.Core.Path.{◌≡◌, refl, sym, ap, ap₂, subst, ◌∙◌}
use mathlib.Core.Bool.{Bool, true, false, cond, not, ◌&&◌, ◌||◌}
use mathlib.Core.List.{List, [], ◌∷◌, ◌++◌, append_assoc}
use mathlib.Core.Logic.{⊎_elim}
use native.Mathlib.Omega.{arith}
use native.Mathlib.Numerals.{add-one}
use native.Mathlib.Nat.{sub-zero}
use lib.ListN.{length, get_or, take, drop, length-drop}
use borrow.Rule.Slice.PartMut.{put_mid}
use lib.Seq.{sets, sets-eq, get_or-drop, drop-drop, take_all}
use Rattle.std.specs.Prelude.{Option, Some, None, MatchOption, unwrap_or, option_map, position, find, count_by, sum_by, fold}
use Rattle.std.specs.Int.{from_bool}
use denote.Param.Members.{Mut, Called}
use Rattle.std.specs.Array.{IsFromFnResult, IsFromFnResultFrom}
use Rattle.std.proofs.lemmas.Slice.Zip.{length-zip, get_or-zip}
use Rattle.std.specs.List.{zip, list_all, list_any, range_with_len, position_or_len}
use Rattle.std.proofs.lemmas.List.Sums.{position_or_len_is, sum_by_more, sum_by-cons}
use Rattle.std.proofs.lemmas.List.FromFn.{length-range_with_len, get_or-range_with_len}
use lib.Bits.{bit_or, or_add_and, and_le_r, or_comm}
use Rattle.lists.proofs.GrowingSearch.{or_false}
use Rattle.lists.specs.Tables.{tabulate}
use Rattle.lists.proofs.TableLaws.{tabulate_is}
use Rattle.lists.specs.Search.{first, all_from, some_below, count_below, below}
use Rattle.lists.proofs.CaseLaws.{lt_or_le}
use Rattle.lists.proofs.SearchLaws.{first_at, first_none, first_le, first_true, first_before, first_ext, first_past, first_hit, first_end, all_ext}
use Rattle.lists.proofs.CountLaws.{count_ext}
use Rattle.lists.proofs.BelowLaws.{below_is, below_past, below_or}

-- ---- a search that begins at a place is a search from 0 of the shifted test

module _ (q : ℕ → Bool) where
  first_suc : (i n : ℕ) → first q (suc i) n ≡ suc (first (λ k. q (suc k)) i n)
  unfolding first
  first_suc i zero = refl
  first_suc i (suc n) = go (q (suc i)) (first_suc (suc i) n)
    where
      go : (b : Bool) → first q (suc (suc i)) n ≡ suc (first (λ k. q (suc k)) (suc i) n)
          → cond b (suc i) (first q (suc (suc i)) n) ≡ suc (cond b i (first (λ k. q (suc k)) (suc i) n))
      go true e = refl
      go false e = e

  all_suc : (i n : ℕ) → all_from q (suc i) n ≡ all_from (λ k. q (suc k)) i n
  unfolding all_from
  all_suc i zero = refl
  all_suc i (suc n) = ap (λ b. cond (q (suc i)) b false) (all_suc (suc i) n)

pub first_shift : (q : ℕ → Bool) (a n : ℕ) → first q a n ≡ a + first (λ k. q (a + k)) 0 n
first_shift q zero n = let e = first_ext q (λ k. q (0 + k)) n (λ k l. ap q (let f : k ≡ 0 + k = omega arith in f)) in omega arith
first_shift q (suc a) n =
    let e = first_suc q a n in
    let r = first_shift (λ k. q (suc k)) a n in
    let x = first_ext (λ k. q (suc (a + k))) (λ k. q (suc a + k)) n (λ k l. ap q (let f : suc (a + k) ≡ suc a + k = omega arith in f)) in
    omega arith

pub all_shift : (q : ℕ → Bool) (a n : ℕ) → all_from q a n ≡ all_from (λ k. q (a + k)) 0 n
all_shift q zero n = all_ext q (λ k. q (0 + k)) 0 n (λ k h l. ap q (let f : k ≡ 0 + k = omega arith in f))
all_shift q (suc a) n =
    all_suc q a n ∙ all_shift (λ k. q (suc k)) a n
    ∙ all_ext (λ k. q (suc (a + k))) (λ k. q (suc a + k)) 0 n (λ k h l. ap q (let f : suc (a + k) ≡ suc a + k = omega arith in f))

-- ---- a whole list

all_step : (b u v : Bool) → u ≡ v → b && u ≡ cond b v false
all_step true u v e = e
all_step false u v e = refl

module _ {X : Type 0} (p : X → Bool) (d : X) where
  pub position_or_len-is : (xs : List X) → position_or_len p xs ≡ first (λ k. p (get_or xs k d)) 0 (length xs)
  position_or_len-is xs =
      let q : ℕ → Bool = λ k. p (get_or xs k d) in
      position_or_len_is p xs (first q 0 (length xs)) d (let l = first_le q 0 (length xs) in omega arith)
      (λ k l. first_before q 0 (length xs) k (omega arith) l) (λ l. first_true q 0 (length xs) (omega arith))

  pub position-is : (xs : List X) → position p xs ≡ below (length xs) (first (λ k. p (get_or xs k d)) 0 (length xs))
  position-is xs = ap (below (length xs)) (position_or_len-is xs)

  -- with the length in place of None
  pub position_or-is : (xs : List X) → unwrap_or (position p xs) (length xs) ≡ first (λ k. p (get_or xs k d)) 0 (length xs)
  position_or-is xs =
      let q : ℕ → Bool = λ k. p (get_or xs k d) in
      ap (λ o. unwrap_or o (length xs)) (position-is xs) ∙ below_or (length xs) (first q 0 (length xs)) (let l = first_le q 0 (length xs) in omega arith)

  pub list_all-is : (xs : List X) → list_all p xs ≡ all_from (λ k. p (get_or xs k d)) 0 (length xs)
  unfolding all_from
  list_all-is [] = refl
  list_all-is (x ∷ xs) =
      all_step (p x) (list_all p xs) (all_from (λ k. p (get_or (x ∷ xs) k d)) 1 (length xs))
      (list_all-is xs ∙ sym (all_suc (λ k. p (get_or (x ∷ xs) k d)) 0 (length xs)))

-- two lists of n, element by element
pub list_all_zip-is : {X Y : Type 0} (p : X × Y → Bool) (d : X) (e : Y) (xs : List X) (ys : List Y) (n : ℕ) → length xs ≡ n → length ys ≡ n
    → list_all p (zip xs ys) ≡ all_from (λ k. p (get_or xs k d, get_or ys k e)) 0 n
list_all_zip-is p d e xs ys n lx ly =
    let long : length (zip xs ys) ≡ n = omega (arith, length-zip xs ys) in
    list_all-is p (d, e) (zip xs ys) ∙ ap (all_from (λ k. p (get_or (zip xs ys) k (d, e))) 0) long
    ∙ all_ext (λ k. p (get_or (zip xs ys) k (d, e))) (λ k. p (get_or xs k d, get_or ys k e)) 0 n
    (λ k a l. ap p (get_or-zip xs ys k (d, e) (omega arith) (omega arith)))

list_any-not : {X : Type 0} (p : X → Bool) (xs : List X) → list_any p xs ≡ not (list_all (λ x. not (p x)) xs)
list_any-not p [] = refl
list_any-not p (x ∷ xs) = go (p x) (list_any p xs) (list_all (λ x. not (p x)) xs) (list_any-not p xs)
  where
    go : (b u v : Bool) → u ≡ not v → b || u ≡ not (not b && v)
    go true u v e = refl
    go false u v e = e

module _ {X : Type 0} (p : X → Bool) (d : X) where
  pub list_any-is : (xs : List X) → list_any p xs ≡ some_below (λ k. p (get_or xs k d)) (length xs)
  list_any-is xs = list_any-not p xs ∙ ap not (list_all-is (λ x. not (p x)) d xs)

  count_taken : (xs : List X) (n : ℕ) → n ≤ length xs → count_by p (take n xs) ≡ count_below (λ k. p (get_or xs k d)) n
  unfolding count_below
  count_taken xs zero l = refl
  count_taken xs (suc n) l =
      let r = count_taken xs n (omega arith) in
      let m = sum_by_more (λ x. cond (p x) 1 0) xs n d (omega arith) in
      ap (λ k. count_by p (take k xs)) (sym (add-one n)) ∙ omega arith

  pub count_by-is : (xs : List X) → count_by p xs ≡ count_below (λ k. p (get_or xs k d)) (length xs)
  count_by-is xs = ap (count_by p) (sym (take_all (length xs) xs (omega arith))) ∙ count_taken xs (length xs) (omega arith)

-- ---- a list from a place on

shifted : (a m n i f : ℕ) → a + m ≡ n → a + i ≡ f → option_map (λ k. a + k) (below m i) ≡ below n f
shifted a m n i f e g =
    ⊎_elim
    (λ l. ap (option_map (λ k. a + k)) (below_is m i l) ∙ ap Some g ∙ sym (below_is n f (omega arith)))
    (λ l. ap (option_map (λ k. a + k)) (below_past m i l) ∙ sym (below_past n f (omega arith))) (lt_or_le i m)

module _ {X : Type 0} (p : X → Bool) (d : X) (xs : List X) (from : ℕ) (l : from ≤ length xs) where
  dropped : (k : ℕ) → p (get_or (drop from xs) k d) ≡ p (get_or xs (from + k) d)
  dropped k = ap p (get_or-drop from xs k d)

  rest : length (drop from xs) ≡ length xs - from
  rest = omega (arith, length-drop from xs)

  place : from + first (λ k. p (get_or (drop from xs) k d)) 0 (length (drop from xs)) ≡ first (λ k. p (get_or xs k d)) from (length xs - from)
  place =
      ap (λ n. from + first (λ k. p (get_or (drop from xs) k d)) 0 n) rest
      ∙ ap (λ k. from + k) (first_ext (λ k. p (get_or (drop from xs) k d)) (λ k. p (get_or xs (from + k) d)) (length xs - from) (λ k h. dropped k))
      ∙ sym (first_shift (λ k. p (get_or xs k d)) from (length xs - from))

  pub position_from-is : option_map (λ k. from + k) (position p (drop from xs)) ≡ below (length xs) (first (λ k. p (get_or xs k d)) from (length xs - from))
  position_from-is =
      ap (option_map (λ k. from + k)) (position-is p d (drop from xs))
      ∙ shifted from (length (drop from xs)) (length xs) (first (λ k. p (get_or (drop from xs) k d)) 0 (length (drop from xs)))
      (first (λ k. p (get_or xs k d)) from (length xs - from)) (omega (arith, rest)) place

  -- with the length in place of None
  pub position_or_from-is : from + unwrap_or (position p (drop from xs)) (length xs - from) ≡ first (λ k. p (get_or xs k d)) from (length xs - from)
  position_or_from-is = ap (λ n. from + unwrap_or (position p (drop from xs)) n) (sym rest) ∙ ap (λ k. from + k) (position_or-is p d (drop from xs)) ∙ place

  pub all_from-is : list_all p (drop from xs) ≡ all_from (λ k. p (get_or xs k d)) from (length xs - from)
  all_from-is =
      list_all-is p d (drop from xs)
      ∙ ap (λ n. all_from (λ k. p (get_or (drop from xs) k d)) 0 n) rest
      ∙ all_ext (λ k. p (get_or (drop from xs) k d)) (λ k. p (get_or xs (from + k) d)) 0 (length xs - from) (λ k h m. dropped k)
      ∙ sym (all_shift (λ k. p (get_or xs k d)) from (length xs - from))

-- ---- the n numbers from a on

module _ (p : ℕ → Bool) where
  find_step : (b : Bool) (a n f : ℕ) (o : Option ℕ) → o ≡ below (a + 1 + n) f → cond b (Some a) o ≡ below (a + suc n) (cond b a f)
  find_step true a n f o e = sym (below_is (a + suc n) a (omega arith))
  find_step false a n f o e = e ∙ ap (λ m. below m f) (let q : a + 1 + n ≡ a + suc n = omega arith in q)

  pub find_range-is : (a n : ℕ) → find p (range_with_len a n) ≡ below (a + n) (first p a n)
  unfolding first
  find_range-is a zero = sym (below_past (a + 0) a (omega arith))
  find_range-is a (suc n) =
      find_step (p a) a n (first p (suc a) n) (find p (range_with_len (a + 1) n))
      (find_range-is (a + 1) n ∙ ap (λ m. below (a + 1 + n) (first p m n)) (add-one a))

  -- what std's `first_from_Range` says of a `find` over the numbers below n, with n in place of None
  pub found_or : (n : ℕ) (r : Option ℕ)
      → MatchOption r ((k : ℕ) → 0 ≤ k → k < n → p k ≡ false) (λ i. (0 ≤ i) × (i < n) × (p i ≡ true) × ((k : ℕ) → 0 ≤ k → k < i → p k ≡ false))
      → unwrap_or r n ≡ first p 0 n
  found_or n None h = sym (first_none p n (λ k l. h k (omega arith) l))
  found_or n (Some i) h = sym (first_at p i n h.1 h.2 (λ k l. h.3 k (omega arith) l))

  -- the same of the numbers from a on, below b, where None is an answer of its own
  pub found_between : (a b : ℕ) (r : Option ℕ)
      → MatchOption r ((k : ℕ) → a ≤ k → k < b → p k ≡ false) (λ i. (a ≤ i) × (i < b) × (p i ≡ true) × ((k : ℕ) → a ≤ k → k < i → p k ≡ false))
      → r ≡ below b (first p a (b - a))
  found_between a b None h =
      ⊎_elim
      (λ (l : a < b). let e = first_past p b a b (omega arith) (omega arith) h in let f = first_end p b b (omega arith) in sym (below_past b _ (omega arith)))
      (λ (l : b ≤ a). let e = first_end p a b l in sym (below_past b _ (omega arith))) (lt_or_le a b)
  found_between a b (Some i) h =
      sym (ap (below b) (first_past p b a i h.0 (let l = h.1 in omega arith) h.3 ∙ first_hit p i b h.1 h.2) ∙ below_is b i h.1)

  pub found_below : (n : ℕ) (r : Option ℕ)
      → MatchOption r ((k : ℕ) → 0 ≤ k → k < n → p k ≡ false) (λ i. (0 ≤ i) × (i < n) × (p i ≡ true) × ((k : ℕ) → 0 ≤ k → k < i → p k ≡ false))
      → r ≡ below n (first p 0 n)
  found_below n r h = found_between 0 n r h ∙ ap (λ k. below n (first p 0 k)) (sub-zero n)

  pub all_range-is : (a n : ℕ) → list_all p (range_with_len a n) ≡ all_from p a n
  unfolding all_from
  all_range-is a zero = refl
  all_range-is a (suc n) =
      all_step (p a) (list_all p (range_with_len (a + 1) n)) (all_from p (suc a) n) (all_range-is (a + 1) n ∙ ap (λ m. all_from p m n) (add-one a))

module _ (p : ℕ → Bool) (n : ℕ) where
  pub any_range-is : list_any p (range_with_len 0 n) ≡ some_below p n
  any_range-is = list_any-not p (range_with_len 0 n) ∙ ap not (all_range-is (λ k. not (p k)) 0 n)

  pub count_range-is : count_by p (range_with_len 0 n) ≡ count_below p n
  count_range-is =
      count_by-is p 0 (range_with_len 0 n)
      ∙ ap (count_below (λ k. p (get_or (range_with_len 0 n) k 0))) (length-range_with_len 0 n)
      ∙ count_ext (λ k. p (get_or (range_with_len 0 n) k 0)) p n (λ k l. ap p (omega (arith, get_or-range_with_len 0 n k 0 l)))

-- ---- folds that give no early answer

-- each element's test is joined to what was found
pub fold_or-is : {X : Type 0} (p : X → Bool) (b : Bool) (xs : List X) → fold (λ a x. a || p x) b xs ≡ (b || list_any p xs)
fold_or-is p b [] = sym (or_false b)
fold_or-is p b (x ∷ xs) = fold_or-is p (b || p x) xs ∙ go b (p x) (list_any p xs)
  where
    go : (b u v : Bool) → (b || u) || v ≡ b || (u || v)
    go true u v = refl
    go false u v = refl

pub fold_and-is : {X : Type 0} (p : X → Bool) (b : Bool) (xs : List X) → fold (λ a x. a && p x) b xs ≡ (b && list_all p xs)
fold_and-is p b [] = go b
  where
    go : (b : Bool) → b ≡ b && true
    go true = refl
    go false = refl
fold_and-is p b (x ∷ xs) = fold_and-is p (b && p x) xs ∙ go b (p x) (list_all p xs)
  where
    go : (b u v : Bool) → (b && u) && v ≡ b && (u && v)
    go true u v = refl
    go false u v = refl

-- numbers or-ed: none is higher than the whole
pub fold_bits-above : (a : ℕ) (xs : List ℕ) → a ≤ fold (λ b x. bit_or b x) a xs
fold_bits-above a [] = omega arith
fold_bits-above a (x ∷ xs) = omega (arith, fold_bits-above (bit_or a x) xs, or_add_and a x, and_le_r a x)

pub fold_bits-at : (a : ℕ) (xs : List ℕ) (k : ℕ) → get_or xs k 0 ≤ fold (λ b x. bit_or b x) a xs
fold_bits-at a [] k = omega arith
fold_bits-at a (x ∷ xs) zero = omega (arith, fold_bits-above (bit_or a x) xs, or_comm a x, or_add_and x a, and_le_r x a)
fold_bits-at a (x ∷ xs) (suc k) = fold_bits-at (bit_or a x) xs k

-- an or of 0 is of zeros
pub fold_bits-zero : (xs : List ℕ) → fold (λ b x. bit_or b x) 0 xs ≡ 0 → (k : ℕ) → get_or xs k 0 ≡ 0
fold_bits-zero xs e k = omega (arith, fold_bits-at 0 xs k)

-- ---- tests summed as numbers, which vectorises where a filter that is counted does not

pub from_bool-is : (b : Bool) → from_bool b ≡ cond {A = ℕ} b 1 0
from_bool-is true = refl
from_bool-is false = refl

pub sum_tests-is : {X : Type 0} (p : X → Bool) (xs : List X) → sum_by (λ x. from_bool (p x)) xs ≡ count_by p xs
sum_tests-is p [] = refl
sum_tests-is p (x ∷ xs) =
    sum_by-cons (λ x. from_bool (p x)) x xs ∙ ap₂ ◌+◌ (from_bool-is (p x)) (sum_tests-is p xs) ∙ sym (sum_by-cons (λ x. cond (p x) 1 0) x xs)

-- ---- numbers that are copied to a place, as the code lends it, stand there one after another

pub copied_at-is : (xs vs new : List ℕ) (at k : ℕ) → new ≡ vs → k ≡ length vs → at + length vs ≤ length xs → put_mid at k xs new ≡ sets xs at vs
copied_at-is xs vs new at k q e l =
    let d : drop k (drop at xs) ≡ drop (at + length vs) xs = drop-drop k at xs ∙ ap (λ n. drop (at + n) xs) e in
    ap₂ (λ s t. take at xs ++ (s ++ t)) q d ∙ sym (append_assoc (take at xs) vs (drop (at + length vs) xs)) ∙ sym (sets-eq vs xs at l)

-- ---- an array of what a closure gives at each place

-- where each call leaves the closure as it was, and computes f
module _ {A F : Type 0} {g : Mut F (ℕ × Unit {0}) A} (f : ℕ → A) (d : A) (m : ℕ) (closure : F)
    (gives : (i : ℕ) (y : A) (q : F) → i < m → Called g closure (i, tt) y q → (q ≡ closure) × (y ≡ f i)) where
  from_fn_at : (xs : List A) (n i : ℕ) → i + n ≤ m → IsFromFnResultFrom g closure xs i n → (k : ℕ) → i ≤ k → k < i + n → get_or xs k d ≡ f k
  from_fn_at xs zero i e made k h l = absurd (omega arith)
  from_fn_at xs (suc n) i e made k h l =
      let called = gives i made.1 made.0 (omega arith) made.3 in
      ⊎_elim
      (λ (below : i < k).
      from_fn_at xs n (i + 1) (omega arith) (subst (λ (s : F). IsFromFnResultFrom g s xs (i + 1) n) called.0 made.4) k (omega arith) (omega arith))
      (λ (here : k ≤ i).
      let same : i ≡ k = omega arith in
      ap (λ (j : ℕ). get_or xs j d) (sym same) ∙ made.2.1 d ∙ called.1 ∙ ap f same)
      (lt_or_le i k)

  pub from_fn-is : (xs : List A) → IsFromFnResult g closure xs m → xs ≡ tabulate f 0 m
  from_fn-is xs made = tabulate_is f d m xs made.long (λ k l. from_fn_at xs m 0 (omega arith) made.each k (omega arith) (omega arith))
