-- The loop that wakes a chain: what holds each time that it comes to a wire (`Waking`), and that fewer are asleep each time.
-- Main laws: `waking_start`, `waking_step`, `waking_end`, `waking_less`.
use mathlib.Core.Path.{◌≡◌, refl, sym, ap, subst, ◌∙◌}
use mathlib.Core.Bool.{true, false, not}
use mathlib.Core.Logic.{◌⊎◌, inl, inr, ⊎_elim, ◌≢◌}
use mathlib.Core.List.{List, [], ◌∷◌}
use Prim.Native.Nat.{ℕ, ◌-◌, ◌<◌, ◌≤◌}
use native.Mathlib.Omega.{arith}
use borrow.Author.Tests.{not-true}
use lib.ListN.{length, get_or}
use Rattle.lists.specs.Search.{count_below}
use Rattle.lists.proofs.CaseLaws.{cases, clash, eq_or_ne}
use Rattle.lists.proofs.CountLaws.{count_lt}
use Rattle.bitset.specs.Bitset.{has, numbers}
use Rattle.scheduling.specs.Waiting.{Among, Chain}
use Rattle.scheduling.specs.Due.{Asleep, Woken}
use Rattle.scheduling.proofs.WaitingLaws.{chain_unique}

-- the first of a chain, and the rest
chain_more : (links : List ℕ) (mark : ℕ) (ks : List ℕ) → Chain links mark ks → 1 < mark
    → (js : List ℕ) × ((ks ≡ (mark - 2) ∷ js) × ((Among (mark - 2) js → ⊥) × Chain links (get_or links (mark - 2) 0) js))
chain_more links mark [] c l = absurd (omega arith)
chain_more links mark (k ∷ ks) c l =
    let a = c.0 in
    let e : k ≡ mark - 2 = omega arith in
    (ks, (ap (λ (x : ℕ). x ∷ ks) e, rw (← e) c.1))

chain_none : (links : List ℕ) (mark : ℕ) (ks : List ℕ) → Chain links mark ks → mark ≤ 1 → ks ≡ []
chain_none links mark [] c l = refl
chain_none links mark (k ∷ ks) c l = absurd (let a = c.0 in omega arith)

-- the chain from `mark` on is woken up to `at`
pub record Waking (links : List ℕ) (mark : ℕ) (woken₀ woken : List ℕ) (at : ℕ) : Type 0 where
  pub rest : Asleep links at woken
  pub kept : (k : ℕ) → has woken₀ k ≡ true → has woken k ≡ true
  pub all : (ks : List ℕ) → Chain links mark ks → (k : ℕ) → Among k ks → (has woken k ≡ true) ⊎ Among k rest.members
  pub only : (ks : List ℕ) → Chain links mark ks → (k : ℕ) → has woken k ≡ true → (has woken₀ k ≡ true) ⊎ Among k ks
  pub part : (ks : List ℕ) → Chain links mark ks → (k : ℕ) → Among k rest.members → Among k ks

module _ (links : List ℕ) (mark : ℕ) (woken₀ : List ℕ) where
  pub waking_start : Asleep links mark woken₀ → Waking links mark woken₀ woken₀ mark
  waking_start a = record {
    rest = a;
    kept = λ k t. t;
    all = λ ks c k m. inr (subst (Among k) (chain_unique links mark ks a.members c a.chain) m);
    only = λ ks c k t. inl t;
    part = λ ks c k m. subst (Among k) (chain_unique links mark a.members ks a.chain c) m;
  }

  module _ (woken : List ℕ) (at : ℕ) (h : Waking links mark woken₀ woken at) where
    pub waking_end : at ≤ 1 → Woken links mark woken₀ woken
    waking_end l = record {
      kept = h.kept;
      all = λ ks c k m.
          ⊎_elim (λ t. t) (λ r. absurd (subst (Among k) (chain_none links at h.rest.members h.rest.chain l) r)) (h.all ks c k m);
      only = h.only;
    }

    module _ (l : 1 < at) where
      more : (js : List ℕ) × ((h.rest.members ≡ (at - 2) ∷ js) × ((Among (at - 2) js → ⊥) × Chain links (get_or links (at - 2) 0) js))
      more = chain_more links at h.rest.members h.rest.chain l

      is_first : Among (at - 2) h.rest.members
      is_first = subst (Among (at - 2)) (sym more.1.0) (inl refl)

      pub waking_lt : (at - 2 < length links) × (has woken (at - 2) ≡ false)
      waking_lt = h.rest.asleep (at - 2) is_first

      pub waking_within : at - 2 < numbers
      waking_within = let a = waking_lt.0 in let b = h.rest.few in omega arith

      -- the first of the rest is woken
      module _ (woken' : List ℕ) (here : has woken' (at - 2) ≡ true) (others : (k : ℕ) → k ≢ at - 2 → has woken' k ≡ has woken k) where
        still : (k : ℕ) → has woken k ≡ true → has woken' k ≡ true
        still k t = others k (λ q. clash t (rw q waking_lt.1)) ∙ t

        split : (k : ℕ) → Among k h.rest.members → (k ≡ at - 2) ⊎ Among k more.0
        split k m = subst (Among k) more.1.0 m

        join : (k : ℕ) → Among k more.0 → Among k h.rest.members
        join k m = subst (Among k) (sym more.1.0) (inr m)

        pub waking_step : Waking links mark woken₀ woken' (get_or links (at - 2) 0)
        waking_step = record {
          rest = record {
            few = h.rest.few;
            members = more.0;
            chain = more.1.1.1;
            asleep = λ k m.
                let a = h.rest.asleep k (join k m) in
                (a.0, others k (λ q. absurd (more.1.1.0 (subst (λ (x : ℕ). Among x more.0) q m))) ∙ a.1);
          };
          kept = λ k t. still k (h.kept k t);
          all = λ ks c k m.
              ⊎_elim (λ t. inl (still k t)) (λ r. ⊎_elim (λ (q : k ≡ at - 2). inl (rw q here)) inr (split k r)) (h.all ks c k m);
          only = λ ks c k t.
              ⊎_elim (λ (q : k ≡ at - 2). inr (h.part ks c k (rw q is_first))) (λ (ne : k ≢ at - 2). h.only ks c k (sym (others k ne) ∙ t))
              (eq_or_ne k (at - 2));
          part = λ ks c k m. h.part ks c k (join k m);
        }

        -- those that are not woken are fewer
        pub waking_less : count_below (λ k. not (has woken' k)) numbers < count_below (λ k. not (has woken k)) numbers
        waking_less =
            count_lt _ _ numbers (at - 2) (λ k t. asleep_before k t (cases (has woken k))) waking_within (rw here) (rw waking_lt.1)
          where
            asleep_before : (k : ℕ) → not (has woken' k) ≡ true → (has woken k ≡ true) ⊎ (has woken k ≡ false) → not (has woken k) ≡ true
            asleep_before k t (inl u) = clash (still k u) (not-true _ t)
            asleep_before k t (inr f) = rw f
