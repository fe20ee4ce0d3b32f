-- The answer of `write` that specs/Answers.antt computes is the one that specs/WriteMeaning.antt means, and no other fits. Main laws: `write_says`, `write_exact`,
-- `write_told`; `write_passed`: what a yes leaves, and `write_yes`: that it leaves nothing else. Assumes nothing.
use Rattle.std.specs.Prelude.{Result, Ok, Err}
use Prim.Native.Nat.{ℕ, ◌*◌, ◌<◌, ◌≤◌}
use mathlib.Core.Path.{◌≡◌, refl, sym, ap, ◌∙◌, subst}
use mathlib.Core.Bool.{◌&&◌}
use mathlib.Core.List.{List}
use native.Mathlib.Omega.{arith}
use borrow.Author.Tests.{eqb-true, eqb-false, eq-eqb}
use lib.Dec.{eqb}
use lib.ListN.{length}
use Rattle.lists.proofs.CaseLaws.{clash, equal_and, and_equal}
use Rattle.lists.proofs.SearchLaws.{first_le}
use Rattle.ports.specs.Lengths.{columns, tile_numbers}
use Rattle.refusal.specs.declared.Refusal.{Refusal}
use Rattle.refusal.specs.declared.Refusal.TheVariants.{Undecodable}
use Rattle.refusal.specs.Grounds.{answer_number}
use Rattle.refusal.specs.Memory.{output}
use Rattle.refusal.proofs.GroundsLaws.{unless_cases}
use Rattle.words.specs.Packed.{FitsIn}
use Rattle.words.specs.Forms.{past_columns}
use Rattle.words.specs.Stray.{LowestStray, first_stray, stray_place}
use Rattle.words.proofs.FormsLaws.{no_stray_fits}
use Rattle.asc.specs.Area.{Area, tiles_of, sized}
use Rattle.asc.specs.Content.{written, text_length}
use Rattle.asc.specs.WriteMeaning.{WriteLent, WriteNo, by_size, by_length, by_stray, WriteSays}
use Rattle.asc.specs.Answers.{write_answer}
use Rattle.words.proofs.StrayLaws.{first_stray_exact, fits_no_stray, lowest_stray_same}

module _ (a : Area) (bits before : List ℕ) where
  abbrev file : List ℕ
  file = written a bits

  -- what is computed says so
  pub write_says : WriteSays a bits before (output (answer_number (write_answer a bits (length before))) before file) (write_answer a bits (length before))
  unfolding write_answer
  write_says =
      unless_cases P (sized a) _ _ (λ e. (refl, by_size e))
      (λ size.
      unless_cases P (eqb (length bits) (tile_numbers * tiles_of a) && eqb (length before) (text_length a)) _ _
      (λ e.
      (refl, by_length size (λ l. clash (and_equal (length bits) (tile_numbers * tiles_of a) l.bits_long (eq-eqb (length before) (text_length a) l.text_long)) e)))
      (λ e.
      let q = equal_and (length bits) (tile_numbers * tiles_of a) (eqb (length before) (text_length a)) e in
      let lent : WriteLent a (length bits) (length before) =
      record { right_size = size; bits_long = q.0; text_long = eqb-true (length before) (text_length a) q.1 } in
      unless_cases P (eqb (first_stray bits) (length bits)) _ _
      (λ f. let h = eqb-false (first_stray bits) (length bits) f in let m = first_le (past_columns bits) 0 (length bits) in (refl, by_stray lent (first_stray_exact bits (omega arith))))
      (λ f. (lent, no_stray_fits bits (eqb-true (first_stray bits) (length bits) f), refl))))
    where
      P : Result (Unit {0}) Refusal → Type 0
      P r = WriteSays a bits before (output (answer_number r) before file) r

  -- the last test, as the code makes it: i is the first stray row
  module _ (lent : WriteLent a (length bits) (length before)) (i : ℕ) (e : i ≡ first_stray bits) where
    pub write_stray : (place : ℕ) → i < length bits → place ≡ stray_place i → WriteSays a bits before before (Err (Undecodable place))
    write_stray place l p =
        (refl, by_stray lent (subst (LowestStray bits) (sym (p ∙ ap stray_place e)) (first_stray_exact bits (subst (λ (k : ℕ). k < length bits) e l))))

    pub write_done : (after : List ℕ) → length bits ≤ i → after ≡ file → WriteSays a bits before after (Ok tt)
    write_done after l w = (lent, no_stray_fits bits (let m = first_le (past_columns bits) 0 (length bits) in omega arith), w)

  -- two noes are one, and a yes leaves none
  no_same : {q r : Refusal} → WriteNo a bits (length before) q → WriteNo a bits (length before) r → q ≡ r
  no_same (by_size e) (by_size f) = refl
  no_same (by_size e) (by_length f h) = clash f e
  no_same (by_size e) (by_stray l z) = clash l.right_size e
  no_same (by_length e h) (by_size f) = clash e f
  no_same (by_length e h) (by_length f k) = refl
  no_same (by_length e h) (by_stray l z) = absurd (h l)
  no_same (by_stray l z) (by_size e) = clash l.right_size e
  no_same (by_stray l z) (by_length e h) = absurd (h l)
  no_same (by_stray {place = p} l z) (by_stray {place = q} m u) = ap Undecodable (lowest_stray_same bits p q z u)

  yes_or_no : {A : Type 0} {r : Refusal} → WriteLent a (length bits) (length before) → FitsIn columns bits → WriteNo a bits (length before) r → A
  yes_or_no lent fits (by_size e) = clash lent.right_size e
  yes_or_no lent fits (by_length e h) = absurd (h lent)
  yes_or_no lent fits (by_stray l z) = absurd (fits_no_stray bits fits _ z.here)

  -- one answer, and one text, only
  pub write_exact : (u v : List ℕ) (q r : Result (Unit {0}) Refusal) → WriteSays a bits before u q → WriteSays a bits before v r → (q ≡ r) × (u ≡ v)
  write_exact u v (Ok _) (Ok _) x y = (refl, x.2 ∙ sym y.2)
  write_exact u v (Ok _) (Err r) x y = yes_or_no x.0 x.1 y.1
  write_exact u v (Err q) (Ok _) x y = yes_or_no y.0 y.1 x.1
  write_exact u v (Err q) (Err r) x y = (ap Err (no_same x.1 y.1), x.0 ∙ sym y.0)

  -- and so an answer that says so is the one that is computed
  pub write_told : (after : List ℕ) (r : Result (Unit {0}) Refusal) → WriteSays a bits before after r
      → (r ≡ write_answer a bits (length before)) × ((after ≡ output (answer_number r) before file) × WriteSays a bits before after r)
  write_told after r says =
      let e = write_exact after _ r (write_answer a bits (length before)) says write_says in
      (e.0, (e.1 ∙ ap (λ (q : Result (Unit {0}) Refusal). output (answer_number q) before file) (sym e.0), says))

  -- a yes of `write` says that size and lengths are right, and that no bit is stray
  pub write_passed : write_answer a bits (length before) ≡ (Ok tt) → WriteLent a (length bits) (length before) × FitsIn columns bits
  write_passed done =
      let says : WriteSays a bits before (output 0 before file) (Ok tt) =
      subst (λ (r : Result (Unit {0}) Refusal). WriteSays a bits before (output (answer_number r) before file) r) done write_says in
      (says.0, says.1)

  -- and that is all it asks for
  pub write_yes : WriteLent a (length bits) (length before) → FitsIn columns bits → write_answer a bits (length before) ≡ (Ok tt)
  write_yes lent fits = sym (write_told file (Ok tt) (lent, fits, refl)).0
