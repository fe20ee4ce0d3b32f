-- The loop that follows readings from one wire on, into no listed one: what holds each time that it takes the next wire of its queue
-- (`Reaching`), and at each operand of that wire (`Taking`).
use mathlib.Core.Path.{◌≡◌, refl, sym, subst, ◌∙◌}
use mathlib.Core.Bool.{true, false}
use mathlib.Core.Logic.{◌⊎◌, inl, inr, ⊎_elim, ◌≢◌}
use mathlib.Core.List.{List}
use Prim.Native.Nat.{ℕ, ◌+◌, ◌<◌, ◌≤◌}
use native.Mathlib.Omega.{arith}
use lib.ListN.{length, get_or, set, length-set}
use lib.Seq.{get_or-set_same, get_or-set_other}
use borrow.Author.Count.{below_more}
use Rattle.lists.proofs.CaseLaws.{eq_or_ne, clash, below_suc}
use Rattle.netlist.specs.Graph.{Graph, Reads, DependsOn, reads, via}
use Rattle.netlist.specs.Marks.{listed, Unlisted, unmarked}
use Rattle.netlist.specs.Order.{Settled}
use Rattle.netlist.proofs.MarkLaws.{unmarked_set, unmarked_le, listed_false, unlisted_zero, listed_set_same, listed_set_other, listed_set_kept}
use Rattle.netlist.proofs.LoopLaws.{depends_then}

module _ (g : Graph) where
  -- no reading, or a chain of them
  abbrev pub Reach : ℕ → ℕ → Type 0
  Reach s v = (s ≡ v) ⊎ DependsOn g s v

  pub reach_then : (s v d : ℕ) → Reach s v → Reads g v d → DependsOn g s d
  reach_then s v d (inl e) r = rw e (reads r)
  reach_then s v d (inr h) r = depends_then g h r

-- `old` marks the listed wires: they are marked from the start, and never queued
module _ (g : Graph) (n s : ℕ) (old : List ℕ) where
  pub record Reaching (marks queue : List ℕ) (head tail : ℕ) : Type 0 where
    pub long : length marks ≡ n
    pub room : n ≤ length queue
    pub front : head ≤ tail
    pub left : tail + unmarked marks ≤ n
    pub start : listed marks s ≡ true
    pub below : (i : ℕ) → i < tail → get_or queue i 0 < n
    pub reach : (i : ℕ) → i < tail → Reach g s (get_or queue i 0)
    pub kept : (d : ℕ) → listed old d ≡ true → listed marks d ≡ true
    pub queued : (d : ℕ) → listed marks d ≡ true → (listed old d ≡ true) ⊎ ((i : ℕ) × (i < tail) × (get_or queue i 0 ≡ d))
    pub done : (i : ℕ) → i < head → (d : ℕ) → Reads g (get_or queue i 0) d → (listed marks d ≡ true) × (d ≢ s)

  pub reaching_start : (q : List ℕ) → length old ≡ n → Unlisted old s → s < n → n ≤ length q → Reaching (set old s 1) (set q 0 s) 0 1
  reaching_start q e new l room =
      let u = unmarked_le old in
      let f = unmarked_set old s (omega arith) new in
      let at : get_or (set q 0 s) 0 0 ≡ s = get_or-set_same q 0 s 0 (omega arith) in
      record {
        long = length-set old s 1 ∙ e;
        room = omega (arith, length-set q 0 s);
        front = omega arith;
        left = omega arith;
        start = listed_set_same old s (omega arith);
        below = below_suc (λ i. get_or (set q 0 s) i 0 < n) 0 (λ i li. absurd (omega arith)) (rw at l);
        reach = below_suc (λ i. Reach g s (get_or (set q 0 s) i 0)) 0 (λ i li. absurd (omega arith)) (rw at (inl refl));
        kept = λ d h. listed_set_kept old s d (omega arith) h;
        queued = λ d h. ⊎_elim (λ (e : d ≡ s). inr (0, omega arith, at ∙ sym e)) (λ ne. inl (sym (listed_set_other old s d ne) ∙ h)) (eq_or_ne d s);
        done = λ i li. absurd (omega arith);
      }

  module _ (m q : List ℕ) (head tail : ℕ) (h : Reaching m q head tail) where
    -- an operand that was not marked goes to the end of the queue
    pub reaching_push : (d : ℕ) → d < n → listed m d ≡ false → Reach g s d → Reaching (set m d 1) (set q tail d) head (tail + 1)
    reaching_push d l new r =
        let f = unmarked_set m d (omega arith) (unlisted_zero m d new) in
        let same_at : (i : ℕ) → i < tail → get_or (set q tail d) i 0 ≡ get_or q i 0 = λ i li. get_or-set_other q tail i d 0 (λ e. absurd (omega arith)) in
        let end_at : get_or (set q tail d) tail 0 ≡ d = get_or-set_same q tail d 0 (omega arith) in
        record {
          long = length-set m d 1 ∙ h.long;
          room = omega (arith, length-set q tail d);
          front = omega arith;
          left = omega arith;
          start = listed_set_kept m d s (omega arith) h.start;
          below = below_more (λ i. get_or (set q tail d) i 0 < n) tail (λ i li. rw (same_at i li) (h.below i li)) (rw end_at l);
          reach = below_more (λ i. Reach g s (get_or (set q tail d) i 0)) tail (λ i li. rw (same_at i li) (h.reach i li)) (rw end_at r);
          kept = λ x hx. listed_set_kept m d x (omega arith) (h.kept x hx);
          queued = λ x hx. ⊎_elim (λ (e : x ≡ d). inr (tail, omega arith, end_at ∙ sym e))
              (λ ne. ⊎_elim (λ o. inl o) (λ o. inr (o.0, omega arith, same_at o.0 o.1 ∙ o.2)) (h.queued x (sym (listed_set_other m d x ne) ∙ hx))) (eq_or_ne x d);
          done = λ i li x rd. let o = h.done i li x (rw (same_at i (omega arith)) at rd) in (listed_set_kept m d x (omega arith) o.0, o.1);
        }

    -- with all its operands marked, the wire at the head is done
    pub reaching_next : head < tail → ((d : ℕ) → Reads g (get_or q head 0) d → (listed m d ≡ true) × (d ≢ s)) → Reaching m q (head + 1) tail
    reaching_next lt all = record {
      long = h.long;
      room = h.room;
      front = omega arith;
      left = h.left;
      start = h.start;
      below = h.below;
      reach = h.reach;
      kept = h.kept;
      queued = h.queued;
      done = below_more (λ i. (d : ℕ) → Reads g (get_or q i 0) d → (listed m d ≡ true) × (d ≢ s)) head h.done all;
    }

    -- with all done, the marks are closed, and s is not met again
    module _ (settled : Settled g old) (new : Unlisted old s) (e : tail ≤ head) where
      -- by `Settled` where v is listed
      next : (v d : ℕ) → listed m v ≡ true → Reads g v d → (listed m d ≡ true) × (d ≢ s)
      next v d lv r =
          ⊎_elim (λ o. let t = settled.reads_listed v d o r in (h.kept d t, λ q. clash t (rw q (listed_false old s new))))
          (λ o. h.done o.0 (omega arith) d (rw o.2 r)) (h.queued v lv)

      closed : {v d : ℕ} → listed m v ≡ true → DependsOn g v d → (listed m d ≡ true) × (d ≢ s)
      closed lv (reads r) = next _ _ lv r
      closed lv (via r t) = closed (next _ _ lv r).0 t

      pub reaching_end : DependsOn g s s → ⊥
      reaching_end t = (closed h.start t).1 refl

  -- ---- the operands of the wire v at the head, of which j are looked at

  pub record Taking (marks queue : List ℕ) (head tail v j : ℕ) : Type 0 where
    pub base : Reaching marks queue head tail
    pub more : head < tail
    pub here : get_or queue head 0 ≡ v
    pub upto : (k : ℕ) → k < j → (listed marks (g.operand v k) ≡ true) × (g.operand v k ≢ s)

  pub taking_start : (m q : List ℕ) (head tail v : ℕ) → Reaching m q head tail → head < tail → v ≡ get_or q head 0 → Taking m q head tail v 0
  taking_start m q head tail v h lt e = record { base = h; more = lt; here = sym e; upto = λ k l. absurd (omega arith) }

  module _ (m q : List ℕ) (head tail v j : ℕ) (h : Taking m q head tail v j) where
    pub taking_reach : j < g.arity v → DependsOn g s (g.operand v j)
    taking_reach l = reach_then g s v _ (rw h.here at (h.base.reach head h.more)) (j, l, refl)

    pub taking_keep : listed m (g.operand v j) ≡ true → (g.operand v j ≢ s) → Taking m q head tail v (j + 1)
    taking_keep old ne = record { base = h.base; more = h.more; here = h.here; upto = below_more _ j h.upto (old, ne) }

    -- the operand, d, is marked at d and queued
    pub taking_room : (d : ℕ) → d < n → listed m d ≡ false → tail < n
    taking_room d l new = let e = h.base.long in let f = h.base.left in omega (arith, unmarked_set m d (omega arith) (unlisted_zero m d new))

    pub taking_push : (d x : ℕ) → j < g.arity v → d ≡ g.operand v j → d ≡ x → d < n → listed m d ≡ false → d ≢ s
        → Taking (set m d 1) (set q tail x) head (tail + 1) v (j + 1)
    taking_push d x l e same below new ne =
        subst (λ (y : ℕ). Taking (set m d 1) (set q tail y) head (tail + 1) v (j + 1)) same
        (record {
          base = reaching_push m q head tail h.base d below new (inr (rw e (taking_reach l)));
          more = let t = h.more in omega arith;
          here = get_or-set_other q tail head d 0 (λ q. absurd (let t = h.more in omega arith)) ∙ h.here;
          upto =
              below_more _ j (λ k lk. let o = h.upto k lk in (listed_set_kept m d _ (let e = h.base.long in omega arith) o.0, o.1))
              (rw (← e) (listed_set_same m d (let e = h.base.long in omega arith)), λ t. ne (e ∙ t));
        })

    pub taking_done : g.arity v ≤ j → Reaching m q (head + 1) tail
    taking_done all =
        reaching_next m q head tail h.base h.more
        (subst (λ (x : ℕ). (d : ℕ) → Reads g x d → (listed m d ≡ true) × (d ≢ s)) (sym h.here)
        (λ d r. let lt = r.1 in subst (λ (x : ℕ). (listed m x ≡ true) × (x ≢ s)) r.2 (h.upto r.0 (omega arith))))
