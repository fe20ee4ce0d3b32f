-- What is kept of who waits (`Watched`) while a wire is looked at, made to wait, or listed.
-- Main laws: `watched_start`, `watched_drop`, `watched_wait`, `watched_list`; `watched_idle`: who is not due is not ready.
use mathlib.Core.Path.{◌≡◌, sym, subst, ◌∙◌}
use mathlib.Core.Bool.{Bool, true, false}
use mathlib.Core.Logic.{◌⊎◌, inl, inr, ⊎_elim, ◌≢◌}
use mathlib.Core.List.{List, [], ◌∷◌}
use Prim.Native.Nat.{ℕ, ◌+◌, ◌<◌}
use native.Mathlib.Omega.{arith}
use lib.ListN.{length, get_or, set, length-set}
use lib.Seq.{get_or-set_same, get_or-set_other}
use Rattle.lists.specs.Tables.{zeros}
use Rattle.lists.proofs.CaseLaws.{cases, clash, eq_or_ne}
use Rattle.lists.proofs.TableLaws.{zeros_length, zeros_at}
use Rattle.netlist.specs.Graph.{Graph}
use Rattle.netlist.specs.Order.{ready}
use Rattle.netlist.specs.Marks.{only_listed}
use Rattle.scheduling.specs.Waiting.{Among, Chain, Stuck, Idle, no_wire, done, waits, Watched}
use Rattle.netlist.proofs.ReadyLaws.{ready_no_wire, ready_listed}
use Rattle.netlist.proofs.MarkLaws.{only_listed_true}
use Rattle.scheduling.proofs.WaitingLaws.{chain_unique, chain_set, stuck_false, stuck_unique, stuck_wait, stuck_list}

module _ (g : Graph) (n : ℕ) where
  -- at the start every wire is due
  pub watched_start : (links : List ℕ) (due : ℕ → Bool) → length links ≡ n → ((k : ℕ) → k < n → due k ≡ true) → Watched g n (zeros n) links due
  watched_start links due e all = record {
    long = zeros_length n;
    linked = e;
    chains = λ d l ne. ([], (zeros_at n d, λ k none. absurd none));
    idle = λ k l no. clash (all k l) no;
  }

  module _ (m links : List ℕ) (due : ℕ → Bool) (h : Watched g n m links due) where
    -- those on a chain are not due, and stuck where it belongs
    chain_members : (d : ℕ) → d < n → get_or m d 0 ≢ 1 → (ks : List ℕ) → Chain links (get_or m d 0) ks → (k : ℕ) → Among k ks
        → (k < n) × ((due k ≡ false) × Stuck g m k d)
    chain_members d l ne ks c k a =
        let own = h.chains d l ne in
        own.1.1 k (subst (λ (js : List ℕ). Among k js) (chain_unique links (get_or m d 0) ks own.0 c own.1.0) a)

    idle_false : (k : ℕ) → Idle g n m links k → ready g (only_listed m) k ≡ false
    idle_false k (no_wire e) = ready_no_wire g (only_listed m) k e
    idle_false k (done e) = ready_listed g (only_listed m) k (only_listed_true m k e)
    idle_false k (waits d ks l ne c a) = stuck_false g m k d (chain_members d l ne ks c k a).1.1

    -- who is not due is not ready
    pub watched_idle : (k : ℕ) → k < n → due k ≡ false → ready g (only_listed m) k ≡ false
    watched_idle k l f = idle_false k (h.idle k l f)

    pub watched_ext : (due' : ℕ → Bool) → ((k : ℕ) → k < n → due k ≡ due' k) → Watched g n m links due'
    watched_ext due' same = record {
      long = h.long;
      linked = h.linked;
      chains = λ d l ne.
          let own = h.chains d l ne in
          (own.0, (own.1.0, λ k a. let f = own.1.1 k a in (f.0, (sym (same k f.0) ∙ f.1.0, f.1.1))));
      idle = λ k l no. h.idle k l (same k l ∙ no);
    }

    -- w, which was due, is no longer
    module _ (due' : ℕ → Bool) (w : ℕ) (yes : due w ≡ true) (no : due' w ≡ false) (others : (k : ℕ) → k < n → k ≢ w → due k ≡ due' k) where
      still : (k : ℕ) → k < n → due k ≡ false → due' k ≡ false
      still k l f = sym (others k l (λ q. clash (rw (← q) at yes) f)) ∙ f

      -- it is idle
      pub watched_drop : Idle g n m links w → Watched g n m links due'
      watched_drop i = record {
        long = h.long;
        linked = h.linked;
        chains = λ d l ne.
            let own = h.chains d l ne in
            (own.0, (own.1.0, λ k a. let f = own.1.1 k a in (f.0, (still k f.0 f.1.0, f.1.1))));
        idle = λ k l f.
            ⊎_elim (λ (q : k ≡ w). subst (Idle g n m links) (sym q) i) (λ (ne : k ≢ w). h.idle k l (others k l ne ∙ f)) (eq_or_ne k w);
      }

      -- it waits for d, where it is stuck
      module _ (d : ℕ) (lw : w < n) (ld : d < n) (s : Stuck g m w d) where
        marks' : List ℕ
        marks' = set m d (w + 2)

        links' : List ℕ
        links' = set links w (get_or m d 0)

        d_in : d < length m
        d_in = let e = h.long in omega arith

        not_one : w + 2 ≢ 1
        not_one q = absurd (omega arith)

        out : (e : ℕ) → e < n → get_or m e 0 ≢ 1 → (ks : List ℕ) → Chain links (get_or m e 0) ks → Among w ks → ⊥
        out e l ne ks c a = clash yes (chain_members e l ne ks c w a).1.0

        here : (ks : List ℕ) → Chain links (get_or m d 0) ks → Chain links' (get_or marks' d 0) (w ∷ ks)
        unfolding marks' links'
        here ks c =
            let e : get_or links' w 0 ≡ get_or m d 0 = get_or-set_same links w (get_or m d 0) 0 (let q = h.linked in omega arith) in
            let o = out d ld s.new ks c in
            (get_or-set_same m d (w + 2) 0 d_in, (o, rw e (chain_set links w (get_or m d 0) (get_or m d 0) ks o c)))

        elsewhere : (e : ℕ) → e < n → e ≢ d → get_or m e 0 ≢ 1 → (ks : List ℕ) → Chain links (get_or m e 0) ks → Chain links' (get_or marks' e 0) ks
        unfolding marks' links'
        elsewhere e l other ne ks c =
            rw (get_or-set_other m d e (w + 2) 0 other) (chain_set links w (get_or m d 0) (get_or m e 0) ks (out e l ne ks c) c)

        kept : (k e : ℕ) → Stuck g m k e → Stuck g marks' k e
        unfolding marks'
        kept k e t = stuck_wait g m k d e (w + 2) d_in s.new not_one t

        joined : (k : ℕ) → Idle g n m links k → Idle g n marks' links' k
        unfolding marks'
        joined k (no_wire e) = no_wire e
        joined k (done e) = done (get_or-set_other m d k (w + 2) 0 (λ q. s.new (rw (← q) e)) ∙ e)
        joined k (waits e ks l ne c a) =
            ⊎_elim
            (λ (q : e ≡ d).
            waits d (w ∷ ks) ld (kept w d s).new (here ks (subst (λ (x : ℕ). Chain links (get_or m x 0) ks) q c)) (inr a))
            (λ (other : e ≢ d). waits e ks l (λ one. ne (sym (get_or-set_other m d e (w + 2) 0 other) ∙ one)) (elsewhere e l other ne ks c) a)
            (eq_or_ne e d)

        pub watched_wait : Watched g n (set m d (w + 2)) (set links w (get_or m d 0)) due'
        unfolding marks' links'
        watched_wait = record {
          long = length-set m d (w + 2) ∙ h.long;
          linked = length-set links w (get_or m d 0) ∙ h.linked;
          chains = λ e l ne.
              ⊎_elim
              (λ (q : e ≡ d).
              let own = h.chains d ld s.new in (
                w ∷ own.0,
                (
                  rw q (here own.0 own.1.0),
                  λ k a.
                      ⊎_elim (λ (r : k ≡ w). rw (r, q) (lw, (no, kept w d s)))
                      (λ b. let f = own.1.1 k b in (f.0, (still k f.0 f.1.0, rw q (kept k d f.1.1)))) a,
                ),
              ))
              (λ (other : e ≢ d).
              let old : get_or m e 0 ≢ 1 = λ one. ne (get_or-set_other m d e (w + 2) 0 other ∙ one) in
              let own = h.chains e l old in (
                own.0,
                (elsewhere e l other old own.0 own.1.0, λ k a. let f = own.1.1 k a in (f.0, (still k f.0 f.1.0, kept k e f.1.1))),
              ))
              (eq_or_ne e d);
          idle = λ k l f.
              ⊎_elim
              (λ (q : k ≡ w).
              let own = h.chains d ld s.new in
              waits d (w ∷ own.0) ld (kept w d s).new (here own.0 own.1.0) (inl q))
              (λ (ne : k ≢ w). joined k (h.idle k l (others k l ne ∙ f))) (eq_or_ne k w);
        }

    -- w, which was not listed, is listed, and those that waited for it are due
    module _ (due' : ℕ → Bool) (w : ℕ) (lw : w < n) (old : get_or m w 0 ≢ 1)
        (more : (k : ℕ) → k < n → k ≢ w → due k ≡ true → due' k ≡ true)
        (woken : (ks : List ℕ) → Chain links (get_or m w 0) ks → (k : ℕ) → Among k ks → due' k ≡ true)
        (only : (ks : List ℕ) → Chain links (get_or m w 0) ks → (k : ℕ) → k < n → due' k ≡ true → (due k ≡ true) ⊎ Among k ks) where
      w_in : w < length m
      w_in = let e = h.long in omega arith

      -- those that wait for another are not due
      waiting : (d k : ℕ) → d ≢ w → k < n → due k ≡ false → Stuck g m k d → due' k ≡ false
      waiting d k other l f s =
          let own = h.chains w lw old in
          ⊎_elim
          (λ t.
          ⊎_elim (λ u. clash u f) (λ a. absurd (other (stuck_unique g m k d w s (own.1.1 k a).1.1))) (only own.0 own.1.0 k l t))
          (λ u. u) (cases (due' k))

      passed : (k : ℕ) → k < n → k ≢ w → due' k ≡ false → Idle g n m links k → Idle g n (set m w 1) links k
      passed k l ne f (no_wire e) = no_wire e
      passed k l ne f (done e) = done (get_or-set_other m w k 1 0 ne ∙ e)
      passed k l ne f (waits d ks ld new c a) =
          let other : d ≢ w = λ q. clash (woken ks (subst (λ (x : ℕ). Chain links (get_or m x 0) ks) q c) k a) f in
          let e : get_or (set m w 1) d 0 ≡ get_or m d 0 = get_or-set_other m w d 1 0 other in
          waits d ks ld (λ one. new (sym e ∙ one)) (subst (λ (x : ℕ). Chain links x ks) (sym e) c) a

      pub watched_list : Watched g n (set m w 1) links due'
      watched_list = record {
        long = length-set m w 1 ∙ h.long;
        linked = h.linked;
        chains = λ d l ne.
            let other : d ≢ w = λ q. ne (rw q (get_or-set_same m w 1 0 w_in)) in
            let e : get_or (set m w 1) d 0 ≡ get_or m d 0 = get_or-set_other m w d 1 0 other in
            let own = h.chains d l (λ one. ne (e ∙ one)) in (
              own.0,
              (
                subst (λ (x : ℕ). Chain links x own.0) (sym e) own.1.0,
                λ k a.
                    let f = own.1.1 k a in
                    (f.0, (waiting d k other f.0 f.1.0 f.1.1, stuck_list g m k w d w_in other f.1.1)),
              ),
            );
        idle = λ k l f.
            ⊎_elim (λ (q : k ≡ w). done (rw q (get_or-set_same m w 1 0 w_in)))
            (λ (ne : k ≢ w).
            passed k l ne f (h.idle k l (⊎_elim (λ t. clash (more k l ne t) f) (λ u. u) (cases (due k))))) (eq_or_ne k w);
      }
