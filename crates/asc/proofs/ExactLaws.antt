-- What an answer of `read` says fits one answer, and one content of the bits, only. Main law: `asc_exact`. Assumes nothing.
use Rattle.std.specs.Prelude.{Result, Ok, Err}
use Prim.Native.Nat.{ℕ, ◌<◌, ◌≤◌}
use mathlib.Core.Path.{◌≡◌, refl, sym, ap, ◌∙◌, subst}
use mathlib.Core.Bool.{false}
use mathlib.Core.Logic.{⊎_elim}
use mathlib.Core.List.{List, [], ◌∷◌, ◌++◌, append_assoc, append-nil}
use native.Mathlib.Omega.{arith}
use lib.ListN.{length, length-append}
use Rattle.lists.proofs.CaseLaws.{lt_or_le, clash}
use Rattle.refusal.specs.declared.Refusal.{Refusal}
use Rattle.refusal.specs.declared.Refusal.TheVariants.{AscLine}
use Rattle.asc.specs.Area.{Area, tiles_of, sized}
use Rattle.asc.specs.Stages.{Stage, Turn, Begins, Whole}
use Rattle.asc.specs.Content.{rows_packed}
use Rattle.asc.specs.Meaning.{content_of, line_number, StuckSays, AllSays, YesSays, Lent, ReadNo, by_size, by_length, by_line, AscSays}
use Rattle.asc.proofs.AreaLaws.{Sized, sized_of}
use Rattle.asc.proofs.BeginsLaws.{begins_same, begins_front}

-- a text that goes on is not at its end
not_nil : {A : Type 0} (l r : List ℕ) → [] ≡ l ++ (10 ∷ r) → A
not_nil l r e = let q = ap length e in absurd (omega (arith, length-append l (10 ∷ r)))

module _ (a : Area) (size : Sized a) (s : List ℕ) where
  -- so many lines, and no more: another reading has no more
  stuck_last : {n m : ℕ} → StuckSays a s n → (f r : List ℕ) (st : Stage) → s ≡ f ++ r → Begins a f m st → m ≤ n
  stuck_last {n} {m} z f r st e b =
      ⊎_elim
      (λ (l : n < m).
      let g = begins_front a b n l in
      let q = begins_same a size z.begins g.begins z.rest (g.line ++ (10 ∷ (g.behind ++ r)))
      (sym z.parts ∙ e ∙ ap (λ (x : List ℕ). x ++ r) g.parts ∙ append_assoc g.front (g.line ++ (10 ∷ g.behind)) r
      ∙ ap (λ (x : List ℕ). g.front ++ x) (append_assoc g.line (10 ∷ g.behind) r)) in
      absurd (z.stuck.none_due g.line (g.behind ++ r) g.next q.rest g.plain (subst (λ (x : Stage). Turn a x g.line g.next) (sym q.st) g.turn)))
      (λ (l : m ≤ n). l) (lt_or_le n m)

  -- the whole text: no reading of a part has more lines
  all_last : {c : List ℕ} (z : AllSays a s c) {m : ℕ} → (f r : List ℕ) (st : Stage) → s ≡ f ++ r → Begins a f m st → m ≤ z.n
  all_last z {m} f r st e b =
      ⊎_elim
      (λ (l : z.n < m).
      let g = begins_front a b z.n l in
      let q = begins_same a size z.begins g.begins [] (g.line ++ (10 ∷ (g.behind ++ r)))
      (append-nil s ∙ e ∙ ap (λ (x : List ℕ). x ++ r) g.parts ∙ append_assoc g.front (g.line ++ (10 ∷ g.behind)) r
      ∙ ap (λ (x : List ℕ). g.front ++ x) (append_assoc g.line (10 ∷ g.behind) r)) in
      not_nil g.line (g.behind ++ r) q.rest)
      (λ (l : m ≤ z.n). l) (lt_or_le z.n m)

  stuck_same : {n m : ℕ} → StuckSays a s n → StuckSays a s m → n ≡ m
  stuck_same {n} {m} z u =
      let p = stuck_last z u.front u.rest u.st u.parts u.begins in
      let q = stuck_last u z.front z.rest z.st z.parts z.begins in
      omega arith

  stuck_or_all : {A : Type 0} {n : ℕ} {c : List ℕ} → StuckSays a s n → AllSays a s c → A
  stuck_or_all {A} {n} {c} z u =
      let p = stuck_last z s [] u.st (sym (append-nil s)) u.begins in
      let q = all_last u z.front z.rest z.st z.parts z.begins in
      let e : u.n ≡ n = omega arith in
      let w = begins_same a size z.begins (subst (λ (i : ℕ). Begins a s i u.st) e u.begins) z.rest [] (sym z.parts ∙ sym (append-nil s)) in
      absurd (z.stuck.missing w.rest (subst (Whole a) (sym w.st) u.all_there))

  all_same : {c d : List ℕ} → AllSays a s c → AllSays a s d → c ≡ d
  all_same {c} {d} z u =
      let p = all_last z s [] u.st (sym (append-nil s)) u.begins in
      let q = all_last u s [] z.st (sym (append-nil s)) z.begins in
      let e : u.n ≡ z.n = omega arith in
      let w = begins_same a size z.begins (subst (λ (i : ℕ). Begins a s i u.st) e u.begins) [] [] refl in
      sym z.digits_are ∙ ap content_of w.st ∙ u.digits_are

-- ---- any two answers

module _ (a : Area) (s : List ℕ) (bits : ℕ) where
  -- which ground it is goes by the lent things alone, before the text
  size_only : {A : Type 0} → sized a ≡ false → Lent a bits → A
  size_only e l = clash l.right_size e

  no_same : {q r : Refusal} → ReadNo a s bits q → ReadNo a s bits r → q ≡ r
  no_same (by_size e) (by_size f) = refl
  no_same (by_size e) (by_length f h) = clash f e
  no_same (by_size e) (by_line l z) = size_only e l
  no_same (by_length e h) (by_size f) = clash e f
  no_same (by_length e h) (by_length f k) = refl
  no_same (by_length e h) (by_line l z) = absurd (h l.right_length)
  no_same (by_line l z) (by_size e) = size_only e l
  no_same (by_line l z) (by_length e h) = absurd (h l.right_length)
  no_same (by_line l z) (by_line m u) =
      ap AscLine (z.place_is ∙ ap line_number (stuck_same a (sized_of a l.right_size) s z.says u.says) ∙ sym u.place_is)

  -- a yes leaves no ground
  yes_or_no : {A : Type 0} {r : Refusal} {after : List ℕ} → Lent a bits → YesSays a s after → ReadNo a s bits r → A
  yes_or_no lent u (by_size e) = size_only e lent
  yes_or_no lent u (by_length e h) = absurd (h lent.right_length)
  yes_or_no lent u (by_line l z) = stuck_or_all a (sized_of a lent.right_size) s z.says u.all_says

pub asc_exact : (a : Area) (s before : List ℕ) (u v : List ℕ) (q r : Result (Unit {0}) Refusal) → AscSays a s before u q → AscSays a s before v r → (q ≡ r) × (u ≡ v)
asc_exact a s before u v (Ok _) (Ok _) x y =
    (refl, x.1.bits_are ∙ ap (λ (c : List ℕ). rows_packed c (tiles_of a)) (all_same a (sized_of a x.0.right_size) s x.1.all_says y.1.all_says) ∙ sym y.1.bits_are)
asc_exact a s before u v (Ok _) (Err r) x y = yes_or_no a s (length before) x.0 x.1 y.1
asc_exact a s before u v (Err q) (Ok _) x y = yes_or_no a s (length before) y.0 y.1 x.1
asc_exact a s before u v (Err q) (Err r) x y = (ap Err (no_same a s (length before) x.1 y.1), x.0 ∙ sym y.0)
