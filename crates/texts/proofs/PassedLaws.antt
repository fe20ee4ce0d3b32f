-- A search for a line feed that passes over eight bytes at a time while none of them is one. Main laws: `passed_plain`, `line_end_is`.
use Prim.Native.Nat.{ℕ, zero, suc, ◌+◌, ◌-◌, ◌*◌, ◌<◌, ◌≤◌}
use mathlib.Core.Path.{◌≡◌, refl, sym, ap, ◌∙◌, subst}
use mathlib.Core.Bool.{Bool, true, false, not}
use mathlib.Core.Logic.{⊎_elim}
use mathlib.Core.List.{List, [], ◌∷◌, ◌++◌}
use native.Mathlib.Omega.{arith}
use native.Mathlib.Nat.{add_assoc}
use denote.Param.Members.{Mut}
use denote.Ref.{Bor}
use lib.Dec.{eqb}
use lib.ListN.{length, get_or, take, drop, length-drop}
use lib.Seq.{get_or-drop, get_or-append-add}
use Rattle.std.specs.Prelude.{Option, Some, None, position, unwrap_or}
use Rattle.std.specs.Bool.{MatchBool}
use Rattle.std.specs.Option.{MatchOption}
use Rattle.std.specs.Fn.{CalledAt}
use Rattle.std.specs.List.{list_any}
use Rattle.std.specs.Iterator.{Yields}
use Rattle.std.specs.Iterator.Adapters.{take_while_steps, take_while_source, take_while_callee, take_while_done}
use Rattle.std.specs.Slice.Iter.{chunks_exact_steps, chunks_exact_rest, chunks_exact_size}
use Rattle.std.specs.declared.iter.TakeWhile.{TakeWhile}
use Rattle.std.specs.declared.slice.ChunksExact.{ChunksExact}
use Rattle.std.proofs.lemmas.List.{get_or_append_left, take_rest}
use Rattle.lists.specs.Search.{first}
use Rattle.lists.proofs.CaseLaws.{lt_or_le, or_false_left, or_false_right}
use Rattle.lists.proofs.SearchLaws.{first_from, first_ext}
use Rattle.lists.proofs.StdLaws.{first_shift, position_or_from-is}
use Rattle.texts.proofs.LineEndLaws.{feed}

none_in : (p : ℕ → Bool) (xs : List ℕ) → list_any p xs ≡ false → (k : ℕ) → k < length xs → p (get_or xs k 0) ≡ false
none_in p [] e k l = absurd (omega arith)
none_in p (x ∷ xs) e zero l = or_false_left (p x) (list_any p xs) e
none_in p (x ∷ xs) e (suc k) l = none_in p xs (or_false_right (p x) (list_any p xs) e) k (omega arith)

is_none : (b : Bool) → true ≡ not b → b ≡ false
is_none true e = cc
is_none false e = refl

module _ {F : Type 0} (g : Mut F (Bor (Bor (List ℕ)) × Unit {0}) Bool) (f : F) where
  -- what the test answers of eight bytes
  abbrev pub Tests : Type 0
  Tests = (x : Bor (List ℕ)) (b : Bool) (q : F) → CalledAt g f x b q → (q ≡ f) × (b ≡ not (list_any (λ y. eqb y 10) x.now))

  module _ (tests : Tests) (s j : TakeWhile (ChunksExact ℕ) F) (x : Bor (List ℕ)) (callee : take_while_callee s ≡ f) where
    -- eight bytes that came are the next, and have no line feed
    abbrev pub Took : Type 0
    Took = chunks_exact_steps (take_while_source s) (Some x) (take_while_source j) × (take_while_callee j ≡ f) × (list_any (λ y. eqb y 10) x.now ≡ false)

    asked : (y : Bor (List ℕ)) (b : Bool) → chunks_exact_steps (take_while_source s) (Some y) (take_while_source j)
        → CalledAt g (take_while_callee s) y b (take_while_callee j)
        → MatchBool b ((Some x ≡ Some y) × (take_while_done j ≡ false)) ((Some x ≡ None) × (take_while_done j ≡ true)) → Took
    asked y true st call m =
        let e : y ≡ x = cc in
        let a = tests y true (take_while_callee j) (subst (λ (h : F). CalledAt g h y true (take_while_callee j)) callee call) in
        subst
        (λ (z : Bor (List ℕ)). chunks_exact_steps (take_while_source s) (Some z) (take_while_source j) × (take_while_callee j ≡ f) × (list_any (λ c. eqb c 10) z.now ≡ false)) e
        (st, a.0, is_none (list_any (λ c. eqb c 10) y.now) a.1)
    asked y false st call m = let e : Some x ≡ None = m.0 in cc

    took : take_while_steps chunks_exact_steps g s (Some x) j → Took
    took st = going (take_while_done s) st
      where
        item : (o : Option (Bor (List ℕ))) → chunks_exact_steps (take_while_source s) o (take_while_source j)
            → MatchOption o ((Some x ≡ None) × (take_while_done j ≡ false))
            (λ y. (b : Bool) × CalledAt g (take_while_callee s) y b (take_while_callee j)
            × MatchBool b ((Some x ≡ Some y) × (take_while_done j ≡ false)) ((Some x ≡ None) × (take_while_done j ≡ true))) → Took
        item None st m = let e : Some x ≡ None = m.0 in cc
        item (Some y) st m = asked y m.0 st m.1 m.2

        going : (d : Bool) → MatchBool d ((Some x ≡ None) × (j ≡ s))
            ((o : Option (Bor (List ℕ))) × chunks_exact_steps (take_while_source s) o (take_while_source j)
            × MatchOption o ((Some x ≡ None) × (take_while_done j ≡ false))
            (λ y. (b : Bool) × CalledAt g (take_while_callee s) y b (take_while_callee j)
            × MatchBool b ((Some x ≡ Some y) × (take_while_done j ≡ false)) ((Some x ≡ None) × (take_while_done j ≡ true)))) → Took
        going true m = let e : Some x ≡ None = m.0 in cc
        going false m = item m.0 m.1 m.2

  -- none of the bytes that were passed over is a line feed
  pub passed_plain : Tests → (xs : List (Bor (List ℕ))) (s u : TakeWhile (ChunksExact ℕ) F) → take_while_callee s ≡ f → chunks_exact_size (take_while_source s) ≡ 8
      → Yields (take_while_steps chunks_exact_steps g) s xs u → (k : ℕ) → k < 8 * length xs → feed (chunks_exact_rest (take_while_source s)) k ≡ false
  passed_plain tests [] s u callee size y k l = absurd (omega arith)
  passed_plain tests (x ∷ xs) s u callee size (j, st, more) k l =
      let t = took tests s j x callee st in
      let long : length x.now ≡ 8 = t.0.1.1 ∙ size in
      let rest = chunks_exact_rest (take_while_source j) in
      ap (λ (bytes : List ℕ). feed bytes k) t.0.1.0
      ∙ ⊎_elim
      (λ near. ap (λ (c : ℕ). eqb c 10) (get_or_append_left x.now rest 0 k (omega arith)) ∙ none_in (λ c. eqb c 10) x.now t.2 k (omega arith))
      (λ far.
      let e : k ≡ length x.now + (k - 8) = omega arith in
      ap (λ (i : ℕ). feed (x.now ++ rest) i) e ∙ ap (λ (c : ℕ). eqb c 10) (get_or-append-add x.now rest (k - 8) 0)
      ∙ passed_plain tests xs j u t.1 (t.0.0 ∙ size) more (k - 8) (omega arith))
      (lt_or_le k 8)

-- what the code takes from a position on, and again from a position of that on
pub taken_twice : (text : List ℕ) (at n : ℕ) → let rest = take (length text - at) (drop at text) in take (length rest - n) (drop n rest) ≡ drop n (drop at text)
taken_twice text at n =
    ap (λ (rest : List ℕ). take (length rest - n) (drop n rest)) (take_rest text at) ∙ take_rest (drop at text) n

module _ (text : List ℕ) (at n : ℕ) (inside : n ≤ length (drop at text)) (none : (k : ℕ) → k < n → feed (drop at text) k ≡ false) where
  -- the line's end, where the first n bytes from a position on have no line feed and the others are searched
  pub line_end_is : at + n + unwrap_or (position (λ c. eqb c 10) (drop n (drop at text))) (length (drop n (drop at text))) ≡ first (feed text) at (length text - at)
  line_end_is =
      add_assoc at n _ ∙ ap (λ (k : ℕ). at + k)
      (ap (λ (k : ℕ). n + unwrap_or (position (λ c. eqb c 10) (drop n (drop at text))) k) (length-drop n (drop at text))
      ∙ position_or_from-is (λ c. eqb c 10) 0 (drop at text) n inside ∙ first_from (feed (drop at text)) (length (drop at text)) n inside none
      ∙ ap (first (feed (drop at text)) 0) (length-drop at text)
      ∙ first_ext (feed (drop at text)) (λ k. feed text (at + k)) (length text - at) (λ k lk. ap (λ (c : ℕ). eqb c 10) (get_or-drop at text k 0)))
      ∙ sym (first_shift (feed text) at (length text - at))
