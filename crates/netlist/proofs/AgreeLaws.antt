-- Induction over the order by what is read: a fact that the equation of each wire hands on from the wires that it reads holds of every wire. Main
-- laws: `by_order`, `agree`. Assumes nothing.
use mathlib.Core.Path.{◌≡◌, subst}
use mathlib.Core.Bool.{true}
use mathlib.Core.Logic.{⊎_elim}
use mathlib.Core.List.{List}
use Prim.Native.Nat.{ℕ, zero, suc, ◌<◌}
use native.Mathlib.Omega.{arith}
use lib.ListN.{length, get_or}
use Rattle.lists.proofs.CaseLaws.{clash}
use Rattle.netlist.specs.Graph.{Graph, Reads}
use Rattle.netlist.specs.Order.{order, AllListed}
use Rattle.netlist.proofs.MarkLaws.{zeros_unlisted}
use Rattle.netlist.proofs.OrderLaws.{order_placed, order_member}

module _ (g : Graph) (n : ℕ) (all : AllListed g n) (Q : ℕ → Type 0)
    (hands_on : (w : ℕ) → w < n → g.wire w ≡ true → ((d : ℕ) → Reads g w d → Q d) → Q w) where
  -- of the wires at the k first places of the order
  placed_first : (k i : ℕ) → i < k → i < length (order g n) → Q (get_or (order g n) i 0)
  placed_first zero i l h = absurd (omega arith)
  placed_first (suc k) i l h =
      hands_on (get_or (order g n) i 0) ((order_placed g n).wire_lt i h) ((order_placed g n).is_wire i h)
      (λ d r.
      ⊎_elim (λ z. clash z (zeros_unlisted n d))
      (λ s. let a = s.1 in subst Q s.2 (placed_first k s.0 (omega arith) (omega arith)))
      ((order_placed g n).reads_before i d h r))

  pub by_order : (w : ℕ) → w < n → g.wire w ≡ true → Q w
  by_order w l iw =
      let h = (order_member g n w).0 (all w l iw) in
      subst Q h.2 (placed_first (suc h.0) h.0 (omega arith) h.1)

-- two choices of values agree on the wires of a part P that is closed under reading, where each equation of the part hands agreement on
module _ (g : Graph) (n : ℕ) (all : AllListed g n) (P : ℕ → Type 0) (closed : (w d : ℕ) → P w → Reads g w d → P d) (x y : List ℕ)
    (hands_on : (w : ℕ) → w < n → g.wire w ≡ true → P w → ((d : ℕ) → Reads g w d → get_or x d 0 ≡ get_or y d 0) → get_or x w 0 ≡ get_or y w 0) where
  pub agree : (w : ℕ) → w < n → g.wire w ≡ true → P w → get_or x w 0 ≡ get_or y w 0
  agree =
      by_order g n all (λ w. P w → get_or x w 0 ≡ get_or y w 0)
      (λ w l iw lower p. hands_on w l iw p (λ d r. lower d r (closed w d p r)))
