-- The computed wire number is the number by the joins. Main law: `wire_exact`.
use Prim.Native.Nat.{ℕ, ◌≤◌, ◌<◌}
use mathlib.Core.Path.{◌≡◌, sym, ap, ◌∙◌}
use mathlib.Core.Bool.{true}
use mathlib.Core.Logic.{◌↔◌}
use mathlib.Core.List.{List}
use native.Mathlib.Omega.{arith}
use native.Mathlib.Nat.{le_antisymm}
use borrow.Author.Tests.{eq-eqb, eqb-true}
use lib.ListN.{length, get_or}
use Rattle.lists.proofs.TableLaws.{tabulate_length, tabulate_zero}
use Rattle.ports.specs.declared.size.Block.{Block}
use Rattle.ports.specs.Block.{Sized}
use Rattle.ports.specs.Lengths.{ports}
use Rattle.fabric.specs.Joins.{Linked, Lowest, back, on}
use Rattle.fabric.specs.Wire.{wire_of, wires_of}
use Rattle.fabric.specs.Count.{own_wire}
use Rattle.ports.proofs.BlockLaws.{ports_le}
use Rattle.fabric.proofs.JoinLaws.{linked_same, linked_within}
use Rattle.fabric.proofs.PortReach.{reach}

module _ (B : Block) where
  -- it is no higher than the port
  pub wire_low : (p : ℕ) → p < ports B → wire_of B p ≤ p
  wire_low p h = (reach B p h).low

  -- it is a port of the block
  pub wire_within : (p : ℕ) → p < ports B → wire_of B p < ports B
  wire_within p h = omega (arith, wire_low p h)

  -- it fits 16 bits
  pub wire_fits : Sized B → (p : ℕ) → p < ports B → wire_of B p < 65536
  wire_fits s p h = omega (arith, wire_low p h, ports_le B s)

  -- it is a port of the wire
  pub wire_linked : (p : ℕ) → p < ports B → Linked B p (wire_of B p)
  wire_linked p h = (reach B p h).linked

  -- "Two port names are one wire exactly if the published joins inside the block link them."
  pub wire_exact : (p q : ℕ) → p < ports B → q < ports B → Linked B p q ↔ (wire_of B p ≡ wire_of B q)
  wire_exact p q hp hq = (linked_same B, λ e. on {r = q} (wire_linked p hp) (rw e (back (wire_linked q hq))))

  -- "A wire's number is its lowest port number."
  pub wire_lowest : (p : ℕ) → p < ports B → Lowest B p (wire_of B p)
  wire_lowest p hp = record {
    linked = wire_linked p hp;
    least = λ q l. rw (linked_same B l) (wire_low q ((linked_within B l).0 hp));
  }

  -- there is no other lowest
  pub lowest_unique : (p w : ℕ) → p < ports B → Lowest B p w → w ≡ wire_of B p
  lowest_unique p w hp l = le_antisymm (l.least (wire_of B p) (wire_linked p hp)) ((wire_lowest p hp).least w l.linked)

  pub wire_idempotent : (p : ℕ) → p < ports B → wire_of B (wire_of B p) ≡ wire_of B p
  wire_idempotent p h = sym (linked_same B (wire_linked p h))

  -- a port is counted as a wire exactly if it is the lowest of its wire
  pub wire_own_exact : (p : ℕ) → p < ports B → (own_wire B p ≡ true) ↔ Lowest B p p
  unfolding own_wire
  wire_own_exact p h = (λ t. rw (eqb-true (wire_of B p) p t) at (wire_lowest p h), λ l. eq-eqb _ _ (sym (lowest_unique p p h l)))

  -- every wire number is counted, and only ports are
  pub wire_own : (p : ℕ) → p < ports B → own_wire B (wire_of B p) ≡ true
  unfolding own_wire
  wire_own p h = eq-eqb _ _ (wire_idempotent p h)

-- ---- the list of all of them

module _ (B : Block) (wires : List ℕ) (is : wires ≡ wires_of B) where
  pub wires_length : length wires ≡ ports B
  unfolding wires_of
  wires_length = ap length is ∙ tabulate_length (wire_of B) 0 (ports B)

  pub wires_at : (p : ℕ) → p < ports B → get_or wires p 0 ≡ wire_of B p
  unfolding wires_of
  wires_at p l = ap (λ (x : List ℕ). get_or x p 0) is ∙ tabulate_zero (wire_of B) 0 (ports B) p l
