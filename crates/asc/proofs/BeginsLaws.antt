-- So many lines are in order in one way only. Main laws: `begins_same`, `begins_front`.
use Prim.Native.Nat.{ℕ, ◌<◌}
use mathlib.Core.Path.{◌≡◌, refl, sym, ap, ◌∙◌, subst, subst₂}
use mathlib.Core.Logic.{⊎_elim}
use mathlib.Core.List.{List, [], ◌∷◌, ◌++◌, append_assoc}
use native.Mathlib.Omega.{arith}
use Rattle.lists.proofs.CaseLaws.{lt_or_le}
use Rattle.texts.specs.Lines.{Plain}
use Rattle.texts.proofs.PlainLaws.{split_same}
use Rattle.asc.specs.Area.{Area}
use Rattle.asc.specs.Stages.{Stage, Turn, Begins, nothing, one_more}
use Rattle.asc.proofs.AreaLaws.{Sized}
use Rattle.asc.proofs.TurnLaws.{turn_same}

regroup : (f l r : List ℕ) → (f ++ (l ++ (10 ∷ []))) ++ r ≡ f ++ (l ++ (10 ∷ r))
regroup f l r = simp append_assoc

pub record Same (f₁ f₂ : List ℕ) (s₁ s₂ : Stage) (r₁ r₂ : List ℕ) : Type 0 where
  pub front : f₁ ≡ f₂
  pub st : s₁ ≡ s₂
  pub rest : r₁ ≡ r₂

module _ (a : Area) (size : Sized a) where
  pub begins_same : {f₁ f₂ : List ℕ} {n : ℕ} {s₁ s₂ : Stage} → Begins a f₁ n s₁ → Begins a f₂ n s₂ → (r₁ r₂ : List ℕ) → f₁ ++ r₁ ≡ f₂ ++ r₂ → Same f₁ f₂ s₁ s₂ r₁ r₂
  begins_same nothing nothing r₁ r₂ e = record { front = refl; st = refl; rest = e }
  begins_same (one_more {front = g₁} {line = l₁} b₁ p₁ v₁) (one_more {front = g₂} {line = l₂} {next = u₂} b₂ p₂ v₂) r₁ r₂ e =
      let z = begins_same b₁ b₂ (l₁ ++ (10 ∷ r₁)) (l₂ ++ (10 ∷ r₂)) (sym (regroup g₁ l₁ r₁) ∙ e ∙ regroup g₂ l₂ r₂) in
      let s = split_same l₁ l₂ r₁ r₂ p₁ p₂ z.rest in
      let f = z.front in
      let l = s.0 in
      record {
        front = cc;
        st = turn_same a size v₁ (subst₂ (λ (st : Stage) (line : List ℕ). Turn a st line u₂) (sym z.st) (sym s.0) v₂);
        rest = s.1;
      }

-- the first n lines of more, and the line behind them
pub record GoesOn (a : Area) (f : List ℕ) (n : ℕ) : Type 0 where
  pub front : List ℕ
  pub line : List ℕ
  pub behind : List ℕ
  pub st : Stage
  pub next : Stage
  pub begins : Begins a front n st
  pub parts : f ≡ front ++ (line ++ (10 ∷ behind))
  pub plain : Plain line
  pub turn : Turn a st line next

pub begins_front : (a : Area) {f : List ℕ} {m : ℕ} {st : Stage} → Begins a f m st → (n : ℕ) → n < m → GoesOn a f n
begins_front a nothing n l = absurd (omega arith)
begins_front a (one_more {front = g} {line = line} {n = m} {st = st} {next = next} b p t) n l =
    ⊎_elim
    (λ (k : n < m).
    let z = begins_front a b n k in
    record {
      front = z.front;
      line = z.line;
      behind = z.behind ++ (line ++ (10 ∷ []));
      st = z.st;
      next = z.next;
      begins = z.begins;
      parts = ap (λ (x : List ℕ). x ++ (line ++ (10 ∷ []))) z.parts ∙ append_assoc z.front (z.line ++ (10 ∷ z.behind)) (line ++ (10 ∷ []))
          ∙ ap (λ (x : List ℕ). z.front ++ x) (append_assoc z.line (10 ∷ z.behind) (line ++ (10 ∷ [])));
      plain = z.plain;
      turn = z.turn;
    })
    (λ k.
    let q : m ≡ n = omega arith in
    record {
      front = g;
      line = line;
      behind = [];
      st = st;
      next = next;
      begins = subst (λ (i : ℕ). Begins a g i st) q b;
      parts = refl;
      plain = p;
      turn = t;
    })
    (lt_or_le n m)
