-- The wires of spans, computed: the lowest port of the wire that has name k at edge e of a row or a column.
use Rattle.std.specs.Prelude.{ℕ, zero, suc, ◌+◌, ◌-◌, cond, ltb, leb, eqb}
use Rattle.ports.specs.declared.size.Block.{Block}
use Rattle.fabric.specs.declared.span.Edge.{Edge}
use Rattle.fabric.specs.declared.span.Span.{Span}
use Rattle.ports.specs.Block.{port}
use Rattle.ports.specs.PortIndex.{sp4_rvb}
use Rattle.fabric.specs.Span.{flip, westward, southward, span4_column, span12_column}

-- what a rule for edges says of one
abbrev pub ends : (ℕ → ℕ → ℕ) → Edge → ℕ
ends rule r = rule r.at r.name

-- the lowest port at an edge of row y: the far name of the tile to the west of it, or at the block's rim the near name
abbrev pub row_port : Span → Block → ℕ → ℕ → ℕ → ℕ
row_port s B y zero k = port B 0 y (s.near + k)
row_port s B y (suc x) k = port B x y (s.far + k)

-- the lowest port at an edge of column x: the near name of the tile to the south of it, or `rim` at the block's rim
abbrev pub column_port : (ℕ → ℕ) → Span → Block → ℕ → ℕ → ℕ → ℕ
column_port rim s B x zero k = rim k
column_port rim s B x (suc y) k = port B x y (s.near + k)

-- the wire of name k at edge e: the lowest port where the walk ends
abbrev pub row_wire : (ℕ → ℕ) → Span → Block → ℕ → ℕ → ℕ → ℕ
row_wire f s B y e k = ends (row_port s B y) (westward f s e k)

abbrev pub column_wire : (ℕ → ℕ) → (ℕ → ℕ) → Span → Block → ℕ → ℕ → ℕ → ℕ
column_wire f rim s B x e k = ends (column_port rim s B x) (southward f s e k)

-- at the south rim, in the column's own tile: the near name, which comes first, where the wire crosses that tile, else the far name
abbrev pub foot : (ℕ → ℕ) → Span → Block → ℕ → ℕ → ℕ
foot f s B x k = cond (leb s.shift k) (port B x 0 (s.near + f (k - s.shift))) (port B x 0 (s.far + k))

-- for span-4 the tile to the west has a right-neighbour name of the same wire, and comes first
abbrev pub sp4_foot : Block → ℕ → ℕ → ℕ
sp4_foot B zero k = foot flip span4_column B 0 k
sp4_foot B (suc x) k = port B x 0 (sp4_rvb k)

-- span-4 and span-12 along a column
abbrev pub sp4_column : Block → ℕ → ℕ → ℕ → ℕ
sp4_column B x e k = column_wire flip (sp4_foot B x) span4_column B x e k

abbrev pub sp12_column : Block → ℕ → ℕ → ℕ → ℕ
sp12_column B x e k = column_wire flip (foot flip span12_column B x) span12_column B x e k

-- of the column outside, to the east of column x, the block has the name sp4_r_v_b at each edge and nothing else
abbrev pub east_port : Block → ℕ → ℕ → ℕ → ℕ
east_port B x e k = port B x e (sp4_rvb k)

abbrev pub east_wire : Block → ℕ → ℕ → ℕ → ℕ
east_wire B x e k = ends (east_port B x) (southward flip span4_column e k)

-- sp4_r_v_b_k is on a wire of the column to the east, where the block has one, or where the column outside is logic or RAM
abbrev pub right_wire : Block → ℕ → ℕ → ℕ → ℕ
right_wire B x y k = cond (ltb (suc x) B.w) (sp4_column B (suc x) y k) (cond (eqb B.east 1) (east_wire B x y k) (port B x y (sp4_rvb k)))
