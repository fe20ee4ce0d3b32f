-- The starred lines of document 01, 'Names to try', hold: `names_hold`. Each line is one of the laws below it and a computation. Assumes nothing.
use mathlib.Core.Path.{refl}
use mathlib.Core.List.{List, [], ◌∷◌}
use native.Mathlib.Omega.{arith}
use lib.Dec.{lit<}
use Rattle.lists.specs.Search.{first}
use Rattle.lists.specs.Tables.{tabulate}
use Rattle.cell.specs.NextState.{next_state, next_sync}
use Rattle.ports.specs.Block.{block}
use Rattle.ports.specs.Ports.{port_at}
use Rattle.fabric.specs.Span.{walk, flip}
use Rattle.fabric.specs.Wire.{wire_of, wire_at}
use Rattle.ports.specs.declared.Port.TheVariants.{Sp4RVB, Sp4HR}
use Rattle.routing.specs.LogicTile.{cell_position}
use Rattle.names.specs.NamedGroup.{local_g00}
use Rattle.names.specs.Names.{Example, All, none, more, Holds, names_to_try}
use Rattle.names.proofs.WireNames.{linked_is, apart_is, numbered_is, alone_1x1, count_1x1}
use Rattle.names.proofs.GroupNames.{pattern_enables, pattern_undecodable, no_entry_1}
use Rattle.names.proofs.CellNames.{cell_sets}

infixr 20 ◌and◌
-- the first line and the others
◌and◌ : {P : Example → Type 0} {e : Example} {es : List Example} → P e → All P es → All P (e ∷ es)
◌and◌ {P} {e} {es} line lines = more {e = e} {es = es} line lines

-- the lines in the table's order: six on wires, the count, three on the group, the cell, the flip-flop, four on what stands outside
pub names_hold : All Holds names_to_try
unfolding wire_of wire_at port_at walk flip first tabulate cell_position next_state next_sync
names_hold =
    (linked_is (block 5 1 0) _ (lit< tt) _ (lit< tt) refl, numbered_is (block 5 1 0) _ (lit< tt) _ refl)
    and apart_is (block 5 1 0) _ _ (omega arith)
    and (linked_is (block 2 5 0) _ (lit< tt) _ (lit< tt) refl, numbered_is (block 2 5 0) _ (lit< tt) _ refl)
    and linked_is (block 2 1 0) _ (lit< tt) _ (lit< tt) refl
    and alone_1x1
    and numbered_is (block 2 2 0) _ (lit< tt) _ refl
    and count_1x1
    and (λ table bits g has at. pattern_enables table bits g local_g00 has 16 (lit< tt) at (Sp4RVB 24) 0 (lit< tt) refl refl)
    and (λ table bits g has at. pattern_enables table bits g local_g00 has 31 (lit< tt) at (Sp4HR 16) 15 (lit< tt) refl refl)
    and (λ table bits g has at. pattern_undecodable table bits g local_g00 has 1 (lit< tt) at (omega arith) no_entry_1)
    and cell_sets 0xF0F0 (36 ∷ 37 ∷ 42 ∷ 43 ∷ 90 ∷ 91 ∷ 96 ∷ 97 ∷ []) refl
    and (λ lut carry set after lookup state. refl)
    and linked_is (block 1 2 1) _ (lit< tt) _ (lit< tt) refl
    and apart_is (block 1 2 0) _ _ (omega arith)
    and linked_is (block 2 1 0) _ (lit< tt) _ (lit< tt) refl
    and apart_is (block 2 1 0) _ _ (omega arith)
    and none
