-- What stands in a list from one position up to another (`Spans`): pieces one behind the other, and the numbers of a piece. Main laws:
-- `spans_append`, `spans_left`, `spans_right`, `spans_at`, `spans_one`.
use Prim.Native.Nat.{ℕ, ◌+◌, ◌<◌}
use mathlib.Core.Path.{◌≡◌, refl, sym, ap, ap₂, ◌∙◌, subst}
use mathlib.Core.Logic.{⊎_elim, ◌≢◌}
use mathlib.Core.List.{List, [], ◌∷◌, ◌++◌}
use native.Mathlib.Omega.{arith}
use native.Mathlib.Nat.{add-zero}
use lib.ListN.{length, get_or, take, drop, length-append, get_or-eq_default}
use lib.Seq.{take-add, take-take, take-append_seam, drop-append_seam, drop-drop, drop-cons, get_or-take, get_or-drop}
use Rattle.lists.proofs.CaseLaws.{lt_or_le}
use Rattle.texts.specs.Pieces.{Stands}

pub record Spans (s : List ℕ) (a : ℕ) (xs : List ℕ) (b : ℕ) : Type 0 where
  pub stands : Stands s a xs
  pub ends : a + length xs ≡ b

-- a byte that is not 0 stands inside the list
pub inside : (s : List ℕ) (i : ℕ) → get_or s i 0 ≢ 0 → i < length s
inside s i h = ⊎_elim (λ l. l) (λ g. absurd (h (get_or-eq_default s 0 g))) (lt_or_le i (length s))

module _ (s : List ℕ) (a : ℕ) where
  pub spans_nil : Spans s a [] a
  spans_nil = record { stands = refl; ends = add-zero a }

  pub spans_one : get_or s a 0 ≢ 0 → Spans s a (get_or s a 0 ∷ []) (a + 1)
  spans_one h = record { stands = ap (take 1) (drop-cons s a 0 (inside s a h)); ends = refl }

  pub spans_at : (xs : List ℕ) (b : ℕ) → Spans s a xs b → (k : ℕ) → k < length xs → get_or s (a + k) 0 ≡ get_or xs k 0
  spans_at xs b h k l =
      sym (get_or-drop a s k 0) ∙ sym (get_or-take (length xs) (drop a s) k 0 l) ∙ ap (λ (l : List ℕ). get_or l k 0) h.stands

-- the same in other words
pub spans_to : {s : List ℕ} {a : ℕ} {xs ys : List ℕ} {b c : ℕ} → Spans s a xs b → xs ≡ ys → b ≡ c → Spans s a ys c
spans_to {s} {a} {xs} {ys} {b} {c} p q e = record { stands = subst (Stands s a) q p.stands; ends = ap (λ (l : List ℕ). a + length l) (sym q) ∙ p.ends ∙ e }

pub spans_from : {s : List ℕ} {a d : ℕ} {xs : List ℕ} {b : ℕ} → Spans s a xs b → a ≡ d → Spans s d xs b
spans_from {s} {a} {d} {xs} {b} p e = subst (λ (x : ℕ). Spans s x xs b) e p

module _ {s : List ℕ} {a : ℕ} {c : ℕ} where
  pub spans_append : {xs ys : List ℕ} {b : ℕ} → Spans s a xs b → Spans s b ys c → Spans s a (xs ++ ys) c
  spans_append {xs} {ys} {b} p q = record {
    stands =
        ap (λ (n : ℕ). take n (drop a s)) (length-append xs ys) ∙ take-add (length xs) (length ys) (drop a s)
        ∙ ap₂ ◌++◌ p.stands (ap (take (length ys)) (drop-drop (length xs) a s ∙ ap (λ (n : ℕ). drop n s) p.ends) ∙ q.stands);
    ends = omega (arith, length-append xs ys, p.ends, q.ends);
  }

  pub spans_left : (xs ys : List ℕ) → Spans s a (xs ++ ys) c → Spans s a xs (a + length xs)
  spans_left xs ys p = record {
    stands =
        sym (take-take (length xs) (length (xs ++ ys)) (drop a s) (omega (arith, length-append xs ys)))
        ∙ ap (take (length xs)) p.stands ∙ take-append_seam xs ys;
    ends = refl;
  }

  pub spans_right : (xs ys : List ℕ) → Spans s a (xs ++ ys) c → Spans s (a + length xs) ys c
  spans_right xs ys p = record {
    stands =
        ap (take (length ys)) (sym (drop-drop (length xs) a s))
        ∙ sym (drop-append_seam xs (take (length ys) (drop (length xs) (drop a s))))
        ∙ ap (λ (l : List ℕ). drop (length xs) (l ++ take (length ys) (drop (length xs) (drop a s)))) (sym (spans_left xs ys p).stands)
        ∙ ap (drop (length xs)) (sym (take-add (length xs) (length ys) (drop a s)) ∙ ap (λ (n : ℕ). take n (drop a s)) (sym (length-append xs ys)) ∙ p.stands)
        ∙ drop-append_seam xs ys;
    ends = omega (arith, length-append xs ys, p.ends);
  }
