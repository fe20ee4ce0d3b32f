-- One step of running the order: the equations of the listed wires hold, and any solution agrees with the values so far.
use mathlib.Core.Path.{◌≡◌, sym, ◌∙◌}
use mathlib.Core.Bool.{true, false}
use mathlib.Core.Logic.{⊎_elim, ◌≢◌}
use mathlib.Core.List.{List}
use Prim.Native.Nat.{ℕ, ◌<◌}
use lib.ListN.{length, get_or, set}
use lib.Seq.{get_or-set_same, get_or-set_other}
use Rattle.lists.proofs.CaseLaws.{clash, eq_or_ne}
use Rattle.netlist.specs.Graph.{Graph, reads}
use Rattle.netlist.specs.Marks.{listed}
use Rattle.netlist.specs.Order.{ready}
use Rattle.netlist.specs.Equations.{Local}
use Rattle.netlist.proofs.MarkLaws.{listed_set_other}
use Rattle.netlist.proofs.ReadyLaws.{ready_reads, ready_unlisted}
use Rattle.netlist.proofs.LoopLaws.{Safe}

-- a store at a wire that is not listed is not seen at those that are
unseen : (m : List ℕ) (w d a : ℕ) (x : List ℕ) → listed m w ≡ false → listed m d ≡ true → get_or (set x w a) d 0 ≡ get_or x d 0
unseen m w d a x new old = get_or-set_other x w d a 0 (λ (e : d ≡ w). clash old (rw e new))

-- the listed wires have the same values in both
abbrev pub Agree : List ℕ → List ℕ → List ℕ → Type 0
Agree m x y = (w : ℕ) → listed m w ≡ true → get_or x w 0 ≡ get_or y w 0

module _ (g : Graph) (value : List ℕ → ℕ → ℕ) (local : Local g value) where
  -- the equations of the listed wires hold
  abbrev pub Solved : List ℕ → List ℕ → Type 0
  Solved m x = (w : ℕ) → listed m w ≡ true → get_or x w 0 ≡ value x w

  pub solved_step : (m x : List ℕ) (w : ℕ) → w < length x → ready g m w ≡ true → Safe g m → Solved m x → Solved (set m w 1) (set x w (value x w))
  solved_step m x w lx r safe sol v h = ⊎_elim here there (eq_or_ne v w)
    where
      new : listed m w ≡ false
      new = ready_unlisted g m w r

      here : v ≡ w → get_or (set x w (value x w)) v 0 ≡ value (set x w (value x w)) v
      here q = rw q (get_or-set_same x w _ 0 lx ∙ local w _ _ (λ d s. sym (unseen m w d _ x new (ready_reads g m w r d s))))

      there : v ≢ w → get_or (set x w (value x w)) v 0 ≡ value (set x w (value x w)) v
      there ne =
          let old = sym (listed_set_other m w v ne) ∙ h in
          unseen m w v _ x new old ∙ sol v old ∙ local v _ _ (λ d s. sym (unseen m w d _ x new (safe v d old (reads s)).0))

  pub agree_step : (m x y : List ℕ) (w : ℕ) → w < length x → ready g m w ≡ true → get_or y w 0 ≡ value y w → Agree m x y
      → Agree (set m w 1) (set x w (value x w)) y
  agree_step m x y w lx r eqn ag v h = ⊎_elim here there (eq_or_ne v w)
    where
      here : v ≡ w → get_or (set x w (value x w)) v 0 ≡ get_or y v 0
      here q = rw q (get_or-set_same x w _ 0 lx ∙ local w _ _ (λ d s. ag d (ready_reads g m w r d s)) ∙ sym eqn)

      there : v ≢ w → get_or (set x w (value x w)) v 0 ≡ get_or y v 0
      there ne = let old = sym (listed_set_other m w v ne) ∙ h in unseen m w v _ x (ready_unlisted g m w r) old ∙ ag v old
