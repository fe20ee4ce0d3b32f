-- The answer and the bits of `read` that specs/Answers.antt computes are those that specs/Meaning.antt means. Main law: `read_told`. Assumes nothing.
use Rattle.refusal.specs.declared.Refusal.{Refusal}
use Rattle.std.specs.Prelude.{Result}
use Prim.Native.Nat.{ℕ, ◌*◌}
use mathlib.Core.Path.{◌≡◌, refl, sym, ap, ◌∙◌}
use mathlib.Core.List.{List, []}
use native.Mathlib.Omega.{arith}
use borrow.Author.Tests.{eqb-true, eqb-false}
use lib.Dec.{eqb}
use lib.ListN.{length}
use Rattle.ports.specs.Lengths.{tile_numbers}
use Rattle.refusal.specs.Grounds.{answer_number}
use Rattle.refusal.specs.Memory.{output}
use Rattle.refusal.proofs.GroundsLaws.{unless_cases}
use Rattle.asc.specs.Area.{Area, tiles_of, sized}
use Rattle.asc.specs.Stages.{begun, nothing}
use Rattle.asc.specs.Meaning.{Lent, by_size, by_length, by_line, AscSays}
use Rattle.asc.specs.Answers.{Outcome, complete, stuck_after, outcome_of, outcome_answer, outcome_bits, read_answer, bits_read}
use Rattle.asc.proofs.AreaLaws.{sized_of}
use Rattle.asc.proofs.ExactLaws.{asc_exact}
use Rattle.asc.proofs.OutcomeLaws.{OutcomeSays, outcome_says}

module _ (a : Area) (s before : List ℕ) where
  outcome_answer_lem : Lent a (length before) → (o : Outcome) → OutcomeSays a s o
      → AscSays a s before (output (answer_number (outcome_answer o)) before (outcome_bits a o)) (outcome_answer o)
  outcome_answer_lem lent (complete content) says = (lent, record { content = content; all_says = says; bits_are = refl })
  outcome_answer_lem lent (stuck_after n) says = (refl, by_line lent (record { n = n; says = says; place_is = refl }))

  -- what is computed says so
  pub answer_says : AscSays a s before (output (answer_number (read_answer a s (length before))) before (bits_read a s)) (read_answer a s (length before))
  unfolding read_answer bits_read
  answer_says =
      unless_cases P (sized a) _ _ (λ e. (refl, by_size e))
      (λ size.
      unless_cases P (eqb (length before) (tile_numbers * tiles_of a)) _ _ (λ e. (refl, by_length size (eqb-false (length before) (tile_numbers * tiles_of a) e)))
      (λ e.
      outcome_answer_lem (record { right_size = size; right_length = eqb-true (length before) (tile_numbers * tiles_of a) e }) (outcome_of a s)
      (outcome_says a (sized_of a size) s s [] 0 (begun a) [] refl nothing (λ k l. absurd (omega arith)))))
    where
      P : Result (Unit {0}) Refusal → Type 0
      P r = AscSays a s before (output (answer_number r) before (outcome_bits a (outcome_of a s))) r

  -- and so an answer that says so is the one that is computed
  pub read_told : (after : List ℕ) (r : Result (Unit {0}) Refusal) → AscSays a s before after r
      → (r ≡ read_answer a s (length before)) × ((after ≡ output (answer_number r) before (bits_read a s)) × AscSays a s before after r)
  read_told after r says =
      let e = asc_exact a s before after _ r (read_answer a s (length before)) says answer_says in
      (e.0, (e.1 ∙ ap (λ (q : Result (Unit {0}) Refusal). output (answer_number q) before (bits_read a s)) (sym e.0), says))
