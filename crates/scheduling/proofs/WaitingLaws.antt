-- Who waits while the order is made: chains, and where a wire is stuck. Main laws: `chain_unique`, `chain_set`; `stuck_unique`, `stuck_false`,
-- `row_stuck`.
use mathlib.Core.Path.{◌≡◌, refl, sym, ap, ap₂, subst, ◌∙◌}
use mathlib.Core.Bool.{false}
use mathlib.Core.Logic.{inl, inr, ⊎_elim, ◌≢◌}
use mathlib.Core.List.{List, [], ◌∷◌}
use Prim.Native.Nat.{ℕ, ◌<◌, ◌≤◌}
use native.Mathlib.Omega.{arith}
use lib.ListN.{length, get_or, set}
use lib.Seq.{get_or-set_same, get_or-set_other}
use Rattle.lists.proofs.CaseLaws.{eq_or_ne, lt_or_le}
use Rattle.netlist.specs.Graph.{Graph}
use Rattle.netlist.specs.Marks.{only_listed}
use Rattle.netlist.specs.Order.{ready}
use Rattle.netlist.specs.Rows.{row_at, operand_of, arity_of, graph_of}
use Rattle.netlist.specs.declared.row.Row.{Row}
use Rattle.scheduling.specs.Waiting.{Among, Chain, Stuck, StuckRow}
use Rattle.netlist.proofs.MarkLaws.{only_listed_false}
use Rattle.netlist.proofs.ReadyLaws.{ready_waiting}

-- ---- Chain

pub chain_unique : (links : List ℕ) (mark : ℕ) (ks js : List ℕ) → Chain links mark ks → Chain links mark js → ks ≡ js
chain_unique links mark [] [] a b = refl
chain_unique links mark [] (j ∷ js) a b = absurd (let e = b.0 in omega arith)
chain_unique links mark (k ∷ ks) [] a b = absurd (let e = a.0 in omega arith)
chain_unique links mark (k ∷ ks) (j ∷ js) a b =
    let e : k ≡ j = let p = a.0 in let q = b.0 in omega arith in
    ap₂ ◌∷◌ e (chain_unique links (get_or links k 0) ks js a.1.1 (rw e b.1.1))

-- a link elsewhere changes
pub chain_set : (links : List ℕ) (w v mark : ℕ) (ks : List ℕ) → (Among w ks → ⊥) → Chain links mark ks → Chain (set links w v) mark ks
chain_set links w v mark [] out c = c
chain_set links w v mark (k ∷ ks) out c =
    let e : get_or (set links w v) k 0 ≡ get_or links k 0 = get_or-set_other links w k v 0 (λ q. out (inl (sym q))) in
    (c.0, (c.1.0, rw e (chain_set links w v (get_or links k 0) ks (λ a. out (inr a)) c.1.1)))

-- ---- Stuck

module _ (g : Graph) (m : List ℕ) (k : ℕ) where
  pub stuck_false : (d : ℕ) → Stuck g m k d → ready g (only_listed m) k ≡ false
  stuck_false d s = ready_waiting g (only_listed m) k s.place s.within (rw s.here (only_listed_false m d s.new))

  earlier : (d e : ℕ) (s : Stuck g m k d) (t : Stuck g m k e) → s.place < t.place → ⊥
  earlier d e s t l = s.new (rw (← s.here) (t.before s.place l))

  pub stuck_unique : (d e : ℕ) → Stuck g m k d → Stuck g m k e → d ≡ e
  stuck_unique d e s t =
      ⊎_elim (λ (l : s.place < t.place). absurd (earlier d e s t l))
      (λ (l : t.place ≤ s.place).
      ⊎_elim (λ (q : t.place < s.place). absurd (earlier e d t s q))
      (λ (q : s.place ≤ t.place). let p : s.place ≡ t.place = omega arith in sym s.here ∙ ap (g.operand k) p ∙ t.here) (lt_or_le t.place s.place))
      (lt_or_le s.place t.place)

  -- a wire that is not listed may remember anything
  pub stuck_wait : (d e v : ℕ) → d < length m → get_or m d 0 ≢ 1 → v ≢ 1 → Stuck g m k e → Stuck g (set m d v) k e
  stuck_wait d e v l old new s = record {
    place = s.place;
    within = s.within;
    here = s.here;
    before = λ j lj. get_or-set_other m d (g.operand k j) v 0 (λ q. old (rw (← q) (s.before j lj))) ∙ s.before j lj;
    new = λ one.
        ⊎_elim (λ (q : e ≡ d). new (sym (get_or-set_same m d v 0 l) ∙ (rw q at one)))
        (λ (ne : e ≢ d). s.new (sym (get_or-set_other m d e v 0 ne) ∙ one)) (eq_or_ne e d);
  }

  -- another wire is listed
  pub stuck_list : (w e : ℕ) → w < length m → e ≢ w → Stuck g m k e → Stuck g (set m w 1) k e
  stuck_list w e l ne s = record {
    place = s.place;
    within = s.within;
    here = s.here;
    before = λ j lj.
        ⊎_elim (λ (q : g.operand k j ≡ w). rw q (get_or-set_same m w 1 0 l))
        (λ other. get_or-set_other m w (g.operand k j) 1 0 other ∙ s.before j lj) (eq_or_ne (g.operand k j) w);
    new = λ one. s.new (sym (get_or-set_other m w e 1 0 ne) ∙ one);
  }

-- where a row's wire is stuck
pub row_stuck : (rows : List ℕ) (w : ℕ) (row : Row) → row ≡ row_at rows w → (m : List ℕ) (d : ℕ) → StuckRow row m d → Stuck (graph_of rows) m w d
row_stuck rows w row is m d s = record {
  place = s.place;
  within = subst (λ (r : Row). s.place < arity_of r) is s.within;
  here = subst (λ (r : Row). operand_of r s.place ≡ d) is (sym s.here);
  before = λ k lk. subst (λ (r : Row). get_or m (operand_of r k) 0 ≡ 1) is (s.before k lk);
  new = s.new;
}
