-- Spans (document 01, 'Joins'): wires that run from edge to edge along a row or a column. A tile has an edge on each side and shares
-- it with the tile there, so the join between two tiles is one name at one edge, and the join in a tile a step of a walk.
use Rattle.std.specs.Prelude.{ℕ, zero, suc, ◌+◌, ◌-◌, ◌*◌, ◌%◌, ◌≤◌, ◌≡◌, Bool, true, false, ltb, leb}
use Rattle.ports.specs.Lengths.{ports_per_tile}
use Rattle.ports.specs.PortIndex.{sp4_hl, sp4_hr, sp4_vt, sp4_vb, sp12_hl, sp12_hr, sp12_vt, sp12_vb}
use Rattle.fabric.specs.declared.span.Span.{Span}
use Rattle.fabric.specs.declared.span.Edge.{Edge}

-- "k with its lowest bit flipped"
unfoldable pub flip : ℕ → ℕ
flip k = k + 1 - 2 * (k % 2)

-- through, shift, near and far: names below `through` on the near side go on to the far side as the crossed name plus `shift`; `near`
-- and `far` are the ports of name 0 on the two sides
abbrev pub span : ℕ → ℕ → ℕ → ℕ → Span
span through shift near far = record { through = through; shift = shift; near = near; far = far }

-- "m = (k with its lowest bit flipped) + 12, for k 0 to 35"
abbrev pub span4_row : Span
span4_row = span 36 12 (sp4_hl 0) (sp4_hr 0)

abbrev pub span4_column : Span
span4_column = span 36 12 (sp4_vt 0) (sp4_vb 0)

-- "span-12 likewise, in one tile k 0 to 21 with + 2 for + 12"
abbrev pub span12_row : Span
span12_row = span 22 2 (sp12_hl 0) (sp12_hr 0)

abbrev pub span12_column : Span
span12_column = span 22 2 (sp12_vt 0) (sp12_vb 0)

-- how many names a side has
abbrev pub names : Span → ℕ
names s = s.through + s.shift

-- what the numbers of every span keep to: the crossing stays among the names that go through, and a tile has both sides, near first
pub record Proper (s : Span) : Type 0 where
  pub even : s.through % 2 ≡ 0
  pub shifts : 1 ≤ s.shift
  pub near_first : s.near + names s ≤ s.far
  pub in_tile : s.far + names s ≤ ports_per_tile

-- a place of a walk: an edge, and the name there
abbrev pub edge : ℕ → ℕ → Edge
edge e k = record { at = e; name = k }

-- where the wire with name k at edge e comes from: the edge before, where its name is `next k`, as long as there is an edge
-- before and the wire goes on there (`on k`)
unfoldable pub walk : (ℕ → Bool) → (ℕ → ℕ) → ℕ → ℕ → Edge
walk on next zero k = edge zero k
walk on next (suc e) k = elim (on k) [ true ↦ walk on next e (next k) | false ↦ edge (suc e) k ]

-- along a row, for a crossing f: in one tile name j of the near (west) side is name f j + shift of the far (east) side, so a name
-- from shift on goes on to the west
abbrev pub westward : (ℕ → ℕ) → Span → ℕ → ℕ → Edge
westward f s e k = walk (λ j. leb s.shift j) (λ j. f (j - s.shift)) e k

-- along a column the near side is the north: a name below through goes on to the south
abbrev pub southward : (ℕ → ℕ) → Span → ℕ → ℕ → Edge
southward f s e k = walk (λ j. ltb j s.through) (λ j. f j + s.shift) e k
