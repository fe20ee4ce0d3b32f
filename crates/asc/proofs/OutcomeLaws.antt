-- What the lines of a text come to, computed byte by byte, is what specs/Meaning.antt says. Main law: `outcome_says`. Assumes nothing.
use Prim.Native.Nat.{ℕ, suc}
use mathlib.Core.Path.{◌≡◌, refl, sym, ap, ◌∙◌, subst}
use mathlib.Core.Bool.{Bool, true, false, cond}
use mathlib.Core.Logic.{⊎_elim, ◌≢◌}
use mathlib.Core.List.{List, [], ◌∷◌, ◌++◌, append_assoc, append-nil}
use native.Mathlib.Omega.{arith}
use borrow.Author.Tests.{eq-eqb, ne_eqb}
use lib.ListN.{get_or}
use Rattle.lists.proofs.CaseLaws.{eq_or_ne}
use Rattle.texts.specs.Lines.{Plain}
use Rattle.texts.proofs.PlainLaws.{plain_append}
use Rattle.asc.specs.Area.{Area}
use Rattle.asc.specs.Stages.{Stage, Begins, one_more}
use Rattle.asc.specs.Next.{Next, goes, fault, next_of, is_whole}
use Rattle.asc.specs.Meaning.{content_of, StuckSays, AllSays}
use Rattle.asc.specs.Answers.{Outcome, complete, stuck_after, after_line, outcome}
use Rattle.asc.proofs.AreaLaws.{Sized}
use Rattle.asc.proofs.TurnLaws.{next_turn}
use Rattle.asc.proofs.StuckLaws.{all_come, stuck_missing, stuck_open, stuck_line}

abbrev pub OutcomeSays : Area → List ℕ → Outcome → Type 0
OutcomeSays a s (complete content) = AllSays a s content
OutcomeSays a s (stuck_after n) = StuckSays a s n

module _ (a : Area) (size : Sized a) (s : List ℕ) where
  pub outcome_says : (rest front : List ℕ) (n : ℕ) (st : Stage) (line : List ℕ) → s ≡ front ++ (line ++ rest) → Begins a front n st → Plain line
      → OutcomeSays a s (outcome a st n line rest)
  unfolding outcome
  outcome_says [] front n st [] e begins plain = at_end_lem (is_whole a st) refl
    where
      at_end_lem : (b : Bool) → is_whole a st ≡ b → OutcomeSays a s (cond b (complete (content_of st)) (stuck_after n))
      at_end_lem true w = all_come a s front n st begins (e ∙ append-nil front) w
      at_end_lem false w = stuck_missing a s front n st begins (e ∙ append-nil front) w
  outcome_says [] front n st (x ∷ line) e begins plain =
      stuck_open a s front n st begins (x ∷ line) (e ∙ ap (λ (l : List ℕ). front ++ l) (append-nil (x ∷ line))) plain (λ q. absurd (omega arith))
  outcome_says (b ∷ rest) front n st line e begins plain =
      ⊎_elim
      (λ (q : b ≡ 10).
      subst (λ (t : Bool). OutcomeSays a s (cond t (ended (next_of a st line)) more)) (sym (eq-eqb b 10 q))
      (on_end (next_of a st line) refl (e ∙ ap (λ (c : ℕ). front ++ (line ++ (c ∷ rest))) q)
      (λ next f parts.
      outcome_says rest (front ++ (line ++ (10 ∷ []))) (suc n) next []
      (parts ∙ ap (λ (l : List ℕ). front ++ l) (sym (append_assoc line (10 ∷ []) rest)) ∙ sym (append_assoc front (line ++ (10 ∷ [])) rest))
      (one_more begins plain (next_turn a st line next f)) (λ k l. absurd (omega arith)))))
      (λ (h : b ≢ 10).
      subst (λ (t : Bool). OutcomeSays a s (cond t (ended (next_of a st line)) more)) (sym (ne_eqb b 10 h))
      (outcome_says rest front n st (line ++ (b ∷ [])) (e ∙ ap (λ (l : List ℕ). front ++ l) (sym (append_assoc line (b ∷ []) rest))) begins
      (plain_append line (b ∷ []) plain (one_plain h))))
      (eq_or_ne b 10)
    where
      ended : Next → Outcome
      ended next = after_line next (λ (st : Stage). outcome a st (suc n) [] rest) (stuck_after n)

      more : Outcome
      more = outcome a st n (line ++ (b ∷ [])) rest

      one_plain : b ≢ 10 → Plain (b ∷ [])
      one_plain h k l = let z : k ≡ 0 = omega arith in subst (λ (i : ℕ). get_or (b ∷ []) i 0 ≢ 10) (sym z) h

      on_end : (next : Next) → next_of a st line ≡ next → s ≡ front ++ (line ++ (10 ∷ rest))
          → ((st' : Stage) → next_of a st line ≡ goes st' → s ≡ front ++ (line ++ (10 ∷ rest)) → OutcomeSays a s (outcome a st' (suc n) [] rest)) → OutcomeSays a s (ended next)
      on_end (goes st') f q later = later st' f q
      on_end fault f q later = stuck_line a s front n st begins size line rest q plain f
