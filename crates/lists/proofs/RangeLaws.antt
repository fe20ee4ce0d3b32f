-- Searches over a range by an iterator: `find_range` for `(a..b).find(..)`, `all_range` for `.all(..)`; from 0 on `find_below`, `all_below`,
-- `any_below`. `find_range`, of a test p, takes four `_`, the call's clause `ran`, and that each call of the closure computes p and changes nothing that it
-- holds, mostly `λ x b q k. search (rules, tests)`. Those from 0 on take two tests, four `_`, `refl`, the same two facts of p, the code's test, and that q,
-- the contract's, agrees with it (`λ k l. refl` where they are one).
use Prim.Native.Nat.{ℕ, ◌-◌, ◌<◌}
use mathlib.Core.Path.{◌≡◌, refl, sym, ap, ◌∙◌}
use mathlib.Core.Bool.{Bool, true, false, not}
use mathlib.Core.List.{List}
use native.Mathlib.Omega.{arith}
use native.Mathlib.Nat.{sub-zero}
use denote.Param.Members.{Mut}
use denote.Ref.{Bor}
use Rattle.std.specs.Prelude.{Option, MatchOption, ⊤}
use Rattle.std.specs.Fn.{Called, CalledAt}
use Rattle.std.specs.Iterator.{YieldsThen}
use Rattle.std.specs.List.{FoldsTo}
use Rattle.std.specs.declared.ops.Range.{Range}
use Rattle.std.proofs.iter.Yields.{nat_range_steps}
use Rattle.std.proofs.lemmas.Iterator.{first_from_Range, YieldsList-from_range}
use Rattle.std.proofs.lemmas.Iterator.Search.{all_from_yields_List, any_from_yields_List}
use Rattle.lists.specs.Search.{first, all_from, some_below, below}
use Rattle.lists.proofs.StdLaws.{found_between, all_range-is, any_range-is}
use Rattle.lists.proofs.SearchLaws.{first_ext, all_ext}
use Rattle.lists.proofs.SomeLaws.{some_ext}

-- a call of the closure, over what it holds
abbrev Find : {F : Type 0} → Mut F (Bor ℕ × Unit {0}) Bool → Range ℕ → Range ℕ → F → Option ℕ → Type 0
Find {F} g s u f r =
    (xs : List ℕ) × (j : F) × YieldsThen nat_range_steps s xs r u × FoldsTo (λ p x q. CalledAt g p x false q) f xs j
    × MatchOption r ⊤ (λ x. (h : F) × CalledAt g j x true h)

-- stop is what the closure answers at the item that ends the search
abbrev Tells : {F : Type 0} → Mut F (ℕ × Unit {0}) Bool → Bool → Range ℕ → Range ℕ → F → Bool → Type 0
Tells {F} g stop s u f r =
    (xs : List ℕ) × (o : Option ℕ) × (j : F) × YieldsThen nat_range_steps s xs o u × FoldsTo (λ p x q. Called g p (x, tt) (not stop) q) f xs j
    × MatchOption o (r ≡ not stop) (λ x. (r ≡ stop) × ((h : F) × Called g j (x, tt) stop h))

module _ {F : Type 0} {g : Mut F (Bor ℕ × Unit {0}) Bool} where
  pub find_range : (p : ℕ → Bool) (s u : Range ℕ) (f : F) (r : Option ℕ) → Find g s u f r
      → ((x : ℕ) (b : Bool) (q : F) → CalledAt g f x b q → (q ≡ f) × (b ≡ p x)) → r ≡ below s.end (first p s.start (s.end - s.start))
  find_range p s u f r ran calls =
      found_between p s.start s.end r
      (first_from_Range s u f r (λ k. p k ≡ true) (λ k. p k ≡ false) ran (λ x q k. sym (calls x true q k).1)
      (λ x q k. let c = calls x false q k in (c.0, sym c.1)))

  pub find_below : (p q : ℕ → Bool) (s u : Range ℕ) (f : F) (r : Option ℕ) → s.start ≡ 0 → Find g s u f r
      → ((x : ℕ) (b : Bool) (h : F) → CalledAt g f x b h → (h ≡ f) × (b ≡ p x)) → ((k : ℕ) → k < s.end → p k ≡ q k) → r ≡ below s.end (first q 0 s.end)
  find_below p q s u f r zero ran calls same =
      find_range p s u f r ran calls ∙ rw (zero, sub-zero s.end) (ap (below s.end) (first_ext p q s.end same))

module _ {F : Type 0} {g : Mut F (ℕ × Unit {0}) Bool} where
  pub all_range : (p : ℕ → Bool) (s u : Range ℕ) (f : F) (r : Bool) → Tells g false s u f r
      → ((x : ℕ) (b : Bool) (q : F) → Called g f (x, tt) b q → (q ≡ f) × (b ≡ p x)) → r ≡ all_from p s.start (s.end - s.start)
  all_range p s u f r ran calls =
      all_from_yields_List p u f r ran (YieldsList-from_range s.start s.end _ refl refl) calls ∙ all_range-is p s.start (s.end - s.start)

  pub all_below : (p q : ℕ → Bool) (s u : Range ℕ) (f : F) (r : Bool) → s.start ≡ 0 → Tells g false s u f r
      → ((x : ℕ) (b : Bool) (h : F) → Called g f (x, tt) b h → (h ≡ f) × (b ≡ p x)) → ((k : ℕ) → k < s.end → p k ≡ q k) → r ≡ all_from q 0 s.end
  all_below p q s u f r zero ran calls same =
      all_range p s u f r ran calls ∙ rw (zero, sub-zero s.end) (all_ext p q 0 s.end (λ k a b. same k (omega arith)))

  pub any_below : (p q : ℕ → Bool) (s u : Range ℕ) (f : F) (r : Bool) → s.start ≡ 0 → Tells g true s u f r
      → ((x : ℕ) (b : Bool) (h : F) → Called g f (x, tt) b h → (h ≡ f) × (b ≡ p x)) → ((k : ℕ) → k < s.end → p k ≡ q k) → r ≡ some_below q s.end
  any_below p q s u f r zero ran calls same =
      any_from_yields_List p u f r ran (YieldsList-from_range s.start s.end s.end refl (omega arith)) calls
      ∙ rw zero (any_range-is p s.end ∙ some_ext p q s.end same)
