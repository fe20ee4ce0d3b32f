-- Ground 10 over joined lists: the first byte above 1, and that there is none.
-- Main laws: `bad_byte_here`, `bad_byte_next`, `joined_first`, `joined_second`, `joined_third`, `joined_found`, `bits_of_joined`, `joined_of_bits`.
use Prim.Native.Nat.{ℕ, ◌+◌, ◌-◌, ◌<◌, ◌≤◌}
use mathlib.Core.Path.{◌≡◌, sym, ◌∙◌, ap, ap₂}
use mathlib.Core.Bool.{false}
use mathlib.Core.Logic.{⊎_elim}
use mathlib.Core.List.{List, ◌++◌}
use native.Mathlib.Omega.{arith}
use borrow.Author.Tests.{ltb-true, ltb-false, le-ltb}
use lib.Dec.{ltb}
use lib.ListN.{length, get_or, length-append, get_or-append, get_or-eq_default}
use lib.Seq.{get_or-append-add}
use Rattle.std.specs.Prelude.{Option, Some, None, MatchOption, option_map}
use Rattle.lists.specs.Search.{below}
use Rattle.lists.proofs.BelowLaws.{below_is, below_past, below_some, below_none}
use Rattle.lists.proofs.CaseLaws.{lt_or_le}
use Rattle.lists.proofs.SearchLaws.{first_le, first_at, first_none, first_true, first_before}
use Rattle.netlist.specs.Running.{Bits}
use Rattle.sim.specs.Stepping.{above_one, bad_byte}

pub bad_byte_le : (xs : List ℕ) → bad_byte xs ≤ length xs
bad_byte_le xs = let l = first_le (above_one xs) 0 (length xs) in omega arith

-- where no byte is higher than x, which is below 2
pub low_bytes : (xs : List ℕ) (x : ℕ) → ((k : ℕ) → k < length xs → get_or xs k 0 ≤ x) → x < 2 → length xs ≡ bad_byte xs
low_bytes xs x h l = sym (first_none (above_one xs) (length xs) (λ k lk. le-ltb 1 (get_or xs k 0) (omega (arith, h k lk))))

-- ---- two lists joined

module _ (xs ys : List ℕ) where
  above_left : (i : ℕ) → i < length xs → above_one (xs ++ ys) i ≡ above_one xs i
  above_left i l = ap (λ (n : ℕ). ltb 1 n) (get_or-append xs ys 0 i l)

  above_right : (i : ℕ) → above_one (xs ++ ys) (length xs + i) ≡ above_one ys i
  above_right i = ap (λ (n : ℕ). ltb 1 n) (get_or-append-add xs ys i 0)

  pub bad_byte_here : bad_byte xs < length xs → bad_byte (xs ++ ys) ≡ bad_byte xs
  bad_byte_here l =
      let n = length-append xs ys in
      first_at (above_one (xs ++ ys)) (bad_byte xs) (length (xs ++ ys)) (omega arith)
      (above_left (bad_byte xs) l ∙ first_true (above_one xs) 0 (length xs) (omega arith))
      (λ k lk. above_left k (omega arith) ∙ first_before (above_one xs) 0 (length xs) k (omega arith) lk)

  module _ (none : length xs ≤ bad_byte xs) where
    -- below length xs + j where ys has none below j
    before : (j : ℕ) → ((k : ℕ) → k < j → above_one ys k ≡ false) → (i : ℕ) → i < length xs + j → above_one (xs ++ ys) i ≡ false
    before j h i l =
        ⊎_elim (λ (a : i < length xs). above_left i a ∙ first_before (above_one xs) 0 (length xs) i (omega arith) (omega arith))
        (λ (a : length xs ≤ i).
        let e : i ≡ length xs + (i - length xs) = omega arith in
        ap (above_one (xs ++ ys)) e ∙ above_right (i - length xs) ∙ h (i - length xs) (omega arith)) (lt_or_le i (length xs))

    pub bad_byte_next : bad_byte (xs ++ ys) ≡ length xs + bad_byte ys
    bad_byte_next =
        let n = length-append xs ys in
        let le = bad_byte_le ys in
        ⊎_elim
        (λ (l : bad_byte ys < length ys).
        first_at (above_one (xs ++ ys)) (length xs + bad_byte ys) (length (xs ++ ys)) (omega arith)
        (above_right (bad_byte ys) ∙ first_true (above_one ys) 0 (length ys) (omega arith))
        (before (bad_byte ys) (λ k lk. first_before (above_one ys) 0 (length ys) k (omega arith) lk)))
        (λ (l : length ys ≤ bad_byte ys).
        first_none (above_one (xs ++ ys)) (length (xs ++ ys))
        (λ k lk. before (length ys) (λ j lj. first_before (above_one ys) 0 (length ys) j (omega arith) (omega arith)) k (omega arith)) ∙ (omega arith))
        (lt_or_le (bad_byte ys) (length ys))

  pub bits_left : Bits (xs ++ ys) → Bits xs
  bits_left h i =
      ⊎_elim (λ (l : i < length xs). rw (sym (get_or-append xs ys 0 i l)) (h i))
      (λ (l : length xs ≤ i). rw (get_or-eq_default xs 0 l) (omega arith)) (lt_or_le i (length xs))

  pub bits_right : Bits (xs ++ ys) → Bits ys
  bits_right h i = rw (sym (get_or-append-add xs ys i 0)) (h (length xs + i))

-- ---- three lists joined

module _ (xs ys zs : List ℕ) where
  pub joined_first : bad_byte xs < length xs → bad_byte (xs ++ ys ++ zs) ≡ bad_byte xs
  joined_first l =
      let e = bad_byte_here xs ys l in
      let n = length-append xs ys in
      bad_byte_here (xs ++ ys) zs (omega arith) ∙ e

  module _ (none : length xs ≤ bad_byte xs) where
    pub joined_second : bad_byte ys < length ys → bad_byte (xs ++ ys ++ zs) ≡ length xs + bad_byte ys
    joined_second l =
        let e = bad_byte_next xs ys none in
        let n = length-append xs ys in
        bad_byte_here (xs ++ ys) zs (omega arith) ∙ e

    pub joined_third : length ys ≤ bad_byte ys → bad_byte (xs ++ ys ++ zs) ≡ length xs + length ys + bad_byte zs
    joined_third l =
        let e = bad_byte_next xs ys none in
        let n = length-append xs ys in
        bad_byte_next (xs ++ ys) zs (omega arith) ∙ ap (λ (m : ℕ). m + bad_byte zs) n

pub joined_length : (xs ys zs : List ℕ) → length (xs ++ ys ++ zs) ≡ length xs + length ys + length zs
joined_length xs ys zs = length-append (xs ++ ys) zs ∙ ap (λ (m : ℕ). m + length zs) (length-append xs ys)

-- ---- the search of the code, which goes from one list to the next

shifted : (n m i : ℕ) → option_map (λ k. n + k) (below m i) ≡ below (n + m) (n + i)
shifted n m i =
    ⊎_elim (λ (l : i < m). ap (option_map (λ k. n + k)) (below_is m i l) ∙ sym (below_is (n + m) (n + i) (omega arith)))
    (λ (l : m ≤ i). ap (option_map (λ k. n + k)) (below_past m i l) ∙ sym (below_past (n + m) (n + i) (omega arith))) (lt_or_le i m)

-- r is what the search in xs finds, t what stands for it or for what the search in ys finds, n places further on
pub joined_found : (xs ys : List ℕ) (n : ℕ) (r t : Option ℕ) (P : Type 0) → n ≡ length xs → r ≡ below (length xs) (bad_byte xs)
    → MatchOption r P (λ x. t ≡ Some x) → (P → t ≡ option_map (λ k. n + k) (below (length ys) (bad_byte ys)))
    → t ≡ below (length (xs ++ ys)) (bad_byte (xs ++ ys))
joined_found xs ys n None t P e is m f =
    let none = below_none (length xs) (bad_byte xs) (sym is) in
    f m ∙ shifted n (length ys) (bad_byte ys)
    ∙ ap₂ below (let l = length-append xs ys in omega arith) (let b = bad_byte_next xs ys none in omega arith)
joined_found xs ys n (Some x) t P e is m f =
    let here = below_some (length xs) (bad_byte xs) x (sym is) in
    let l = length-append xs ys in
    let b = bad_byte_here xs ys here.1 in
    m ∙ ap Some (omega arith) ∙ sym (below_is (length (xs ++ ys)) (bad_byte (xs ++ ys)) (omega arith))

-- ---- no byte above 1

pub bits_of : (xs : List ℕ) → length xs ≤ bad_byte xs → Bits xs
bits_of xs none i =
    ⊎_elim
    (λ (l : i < length xs). let b : get_or xs i 0 ≤ 1 = ltb-false 1 (get_or xs i 0) (first_before (above_one xs) 0 (length xs) i (omega arith) (omega arith)) in omega arith)
    (λ (l : length xs ≤ i). rw (get_or-eq_default xs 0 l) (omega arith)) (lt_or_le i (length xs))

pub bits_of_joined : (xs ys zs : List ℕ) → length (xs ++ ys ++ zs) ≤ bad_byte (xs ++ ys ++ zs) → Bits xs × Bits ys × Bits zs
bits_of_joined xs ys zs none =
    let all = bits_of (xs ++ ys ++ zs) none in
    let two = bits_left (xs ++ ys) zs all in
    (bits_left xs ys two, bits_right xs ys two, bits_right (xs ++ ys) zs all)

-- ---- the other way

pub bits_append : (xs ys : List ℕ) → Bits xs → Bits ys → Bits (xs ++ ys)
bits_append xs ys hx hy i =
    ⊎_elim (λ (l : i < length xs). rw (get_or-append xs ys 0 i l) (hx i))
    (λ (l : length xs ≤ i).
    let e : i ≡ length xs + (i - length xs) = omega arith in
    let g = ap (λ (k : ℕ). get_or (xs ++ ys) k 0) e ∙ get_or-append-add xs ys (i - length xs) 0 in
    rw g (hy (i - length xs))) (lt_or_le i (length xs))

pub none_of_bits : (xs : List ℕ) → Bits xs → length xs ≤ bad_byte xs
none_of_bits xs h =
    ⊎_elim
    (λ (l : bad_byte xs < length xs).
    let above : 1 < get_or xs (bad_byte xs) 0 = ltb-true 1 (get_or xs (bad_byte xs) 0) (first_true (above_one xs) 0 (length xs) (omega arith)) in
    let bit = h (bad_byte xs) in
    absurd (omega arith)) (λ l. l) (lt_or_le (bad_byte xs) (length xs))

pub joined_of_bits : (xs ys zs : List ℕ) → Bits xs → Bits ys → Bits zs → length (xs ++ ys ++ zs) ≤ bad_byte (xs ++ ys ++ zs)
joined_of_bits xs ys zs hx hy hz = none_of_bits (xs ++ ys ++ zs) (bits_append (xs ++ ys) zs (bits_append xs ys hx hy) hz)
