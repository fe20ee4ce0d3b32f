-- The test of two texts. Main laws: `same_true`, `same_refl`, `same_false`; `same_eq`: it is what `==` says.
use Prim.Native.Nat.{ℕ}
use mathlib.Core.Path.{◌≡◌, refl, sym, ◌∙◌, subst}
use mathlib.Core.Bool.{true, false}
use mathlib.Core.Logic.{⊎_elim, ◌≢◌}
use mathlib.Core.List.{List}
use native.Mathlib.Omega.{arith}
use borrow.Author.Tests.{eqb-true, eq-eqb, ne_eqb}
use lib.Dec.{eqb}
use lib.ListN.{length, get_or}
use lib.Seq.{ext_get_or}
use Rattle.std.specs.Str.{bytes_eq}
use Rattle.std.proofs.lemmas.Slice.Eq.{bytes_eq-Decides}
use Rattle.lists.specs.Search.{all_from}
use Rattle.lists.proofs.CaseLaws.{cases, clash, equal_and, and_equal}
use Rattle.lists.proofs.SearchLaws.{all_at, all_of}
use Rattle.texts.specs.Lines.{same}

pub same_true : (xs ys : List ℕ) → same xs ys ≡ true → xs ≡ ys
unfolding same
same_true xs ys e =
    let r = equal_and (length xs) (length ys) (all_from (λ k. eqb (get_or xs k 0) (get_or ys k 0)) 0 (length xs)) e in
    ext_get_or 0 xs ys r.0
    (λ i h. eqb-true (get_or xs i 0) (get_or ys i 0) (all_at (λ k. eqb (get_or xs k 0) (get_or ys k 0)) 0 (length xs) i r.1 (omega arith) (omega arith)))

pub same_refl : (xs : List ℕ) → same xs xs ≡ true
unfolding same
same_refl xs =
    and_equal (length xs) (length xs) refl
    (all_of (λ k. eqb (get_or xs k 0) (get_or xs k 0)) 0 (length xs) (λ k a b. eq-eqb (get_or xs k 0) (get_or xs k 0) refl))

pub same_false : (xs ys : List ℕ) → xs ≢ ys → same xs ys ≡ false
same_false xs ys h = ⊎_elim (λ e. absurd (h (same_true xs ys e))) (λ e. e) (cases (same xs ys))

-- by the lengths first: texts of one length are the same where each byte is, and texts of two lengths never are
pub same_long : (xs ys : List ℕ) → length xs ≡ length ys → same xs ys ≡ all_from (λ k. eqb (get_or xs k 0) (get_or ys k 0)) 0 (length xs)
unfolding same
same_long xs ys e = rw (eq-eqb (length xs) (length ys) e)

pub same_short : (xs ys : List ℕ) → length xs ≢ length ys → same xs ys ≡ false
unfolding same
same_short xs ys h = rw (ne_eqb (length xs) (length ys) h)

-- what `==` says of two slices
pub same_eq : (xs ys : List ℕ) → bytes_eq xs ys ≡ same xs ys
same_eq xs ys =
    let d = bytes_eq-Decides xs ys in
    ⊎_elim (λ t. t ∙ sym (subst (λ (zs : List ℕ). same xs zs ≡ true) (d.0 t) (same_refl xs)))
    (λ f. f ∙ sym (same_false xs ys (λ e. clash (d.1 e) f))) (cases (bytes_eq xs ys))
