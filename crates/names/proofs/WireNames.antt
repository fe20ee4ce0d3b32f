-- The lines on wires, from the computed wire numbers. Main laws: `linked_is`, `apart_is`, `numbered_is`, `alone_1x1`, `count_1x1`. Assumes nothing.
use Prim.Native.Nat.{ℕ, ◌<◌}
use mathlib.Core.Path.{◌≡◌, refl, sym, ◌∙◌}
use mathlib.Core.Logic.{◌≢◌}
use mathlib.Core.Bool.{false}
use lib.Dec.{eqb, lit<}
use borrow.Author.Tests.{eq-eqb, eqb-true}
use Rattle.lists.specs.Search.{count_below}
use Rattle.lists.specs.Tables.{tabulate}
use Rattle.ports.specs.declared.size.Block.{Block}
use Rattle.ports.specs.Block.{block}
use Rattle.ports.specs.Lengths.{ports, ports_per_tile}
use Rattle.ports.specs.Ports.{port_at}
use Rattle.fabric.specs.Span.{walk, flip}
use Rattle.fabric.specs.Joins.{Linked}
use Rattle.fabric.specs.Wire.{wire_of, wire_at}
use Rattle.fabric.specs.Count.{wires, own_wire}
use Rattle.fabric.proofs.WireLaws.{wire_exact, wire_lowest}
use Rattle.fabric.proofs.JoinLaws.{linked_same, linked_within}
use Rattle.names.specs.Names.{Numbered}
use Rattle.names.proofs.Agreeing.{agree_below}

module _ (B : Block) (p : ℕ) (hp : p < ports B) where
  pub linked_is : (q : ℕ) → q < ports B → wire_of B p ≡ wire_of B q → Linked B p q
  linked_is q hq e = (wire_exact B p q hp hq).1 e

  pub numbered_is : (n : ℕ) → wire_of B p ≡ n → Numbered B p n
  numbered_is n e = record { lowest = rw e at (wire_lowest B p hp); computed = e }

pub apart_is : (B : Block) (p q : ℕ) → wire_of B p ≢ wire_of B q → Linked B p q → ⊥
apart_is B p q d l = d (linked_same B l)

-- of the ports of one tile only port 262, sp12_h_l_22, has its wire's number ..
only_262 : tabulate (λ (q : ℕ). eqb (wire_of (block 1 1 0) q) 262) 0 ports_per_tile ≡ tabulate (λ (q : ℕ). eqb q 262) 0 ports_per_tile
unfolding tabulate wire_of wire_at port_at walk flip
only_262 = refl

-- .. so no chain of joins leads from it to another
pub alone_1x1 : (q : ℕ) → Linked (block 1 1 0) 262 q → q ≡ 262
unfolding wire_of wire_at port_at walk flip
alone_1x1 q l =
    eqb-true q 262
    (sym (agree_below false _ _ ports_per_tile only_262 q ((linked_within (block 1 1 0) l).0 (lit< tt)))
    ∙ eq-eqb (wire_of (block 1 1 0) q) 262 (sym (linked_same (block 1 1 0) l)))

pub count_1x1 : wires (block 1 1 0) ≡ 390
unfolding wires count_below own_wire wire_of wire_at port_at walk flip
count_1x1 = refl
