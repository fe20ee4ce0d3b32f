-- Filling a slice with the wires of a block's ports from the front: how far it is filled (`Wired`), and what the code that fills a range of ports
-- asks of that range: ports q, q + 1, .. of the tile (x, y), `count` of them.
use Rattle.std.specs.Prelude.{ℕ, ◌+◌, ◌-◌, ◌%◌, ◌≤◌, ◌<◌, ◌≡◌, List}
use Rattle.lists.specs.Tables.{Filled}
use Rattle.ports.specs.declared.size.Block.{Block}
use Rattle.fabric.specs.declared.span.Span.{Span}
use Rattle.ports.specs.Block.{port}
use Rattle.ports.specs.Lengths.{ports, ports_per_tile}
use Rattle.ports.specs.PortIndex.{sp4_rvb}
use Rattle.fabric.specs.Span.{flip, names}
use Rattle.fabric.specs.Wire.{wire_of}

-- the first i ports have their wires
abbrev pub Wired : Block → ℕ → List ℕ → Type 0
Wired B i wires = Filled (wire_of B) 0 (ports B) i wires

-- the range is one of the tile's, and the tile one of the block's
pub record Range (B : Block) (x y q count : ℕ) : Type 0 where
  pub x_lt : x < B.w
  pub y_lt : y < B.h
  pub some : 0 < count
  pub fits : q + count ≤ ports_per_tile

-- its ports are on the wires of ports p, p + 1, .. of the tile (u, v), which come before
pub record Copies (B : Block) (u v p x y q count : ℕ) : Type 0 where
  pub from : Range B u v p count
  pub to : Range B x y q count
  pub before : port B u v p + count ≤ port B x y q
  pub same : (k : ℕ) → k < count → wire_of B (port B x y (q + k)) ≡ wire_of B (port B u v (p + k))

-- the same with the crossing between
pub record Crosses (B : Block) (u v p x y q count : ℕ) : Type 0 where
  pub from : Range B u v p count
  pub to : Range B x y q count
  pub before : port B u v p + count ≤ port B x y q
  pub even : count % 2 ≡ 0
  pub same : (k : ℕ) → k < count → wire_of B (port B x y (q + k)) ≡ wire_of B (port B u v (p + flip k))

-- its ports are on the wires `first`, first + 1, ..
pub record Numbers (B : Block) (first x y q count : ℕ) : Type 0 where
  pub to : Range B x y q count
  pub same : (k : ℕ) → k < count → wire_of B (port B x y (q + k)) ≡ first + k

-- each of its ports is the lowest of its wire
abbrev pub Owns : Block → ℕ → ℕ → ℕ → ℕ → Type 0
Owns B x y q count = Numbers B (port B x y q) x y q count

-- ---- spans

-- the far side of a tile, from its near side, which comes before: the names below shift start there, the others cross the tile
pub record FarSide (B : Block) (s : Span) (x y : ℕ) : Type 0 where
  pub beside : s.near + names s ≡ s.far
  pub starts : Owns B x y s.far s.shift
  pub crosses : Crosses B x y s.near x y (s.far + s.shift) s.through

-- both sides of a tile in a column, where port p of the tile (u, v) is name 0 at the edge to the south
pub record FromSouth (B : Block) (s : Span) (u v p x y : ℕ) : Type 0 where
  pub beside : s.near + names s ≡ s.far
  pub crosses : Crosses B u v (p + s.shift) x y s.near s.through
  pub starts : Owns B x y (s.near + s.through) s.shift
  pub copies : Copies B u v p x y s.far (names s)

-- a span along a row
pub record RowSpan (B : Block) (s : Span) : Type 0 where
  pub from_west : (x y : ℕ) → 0 < x → x < B.w → y < B.h → Copies B (x - 1) y s.far x y s.near (names s)
  pub from_rim : (x y : ℕ) → x ≤ 0 → x < B.w → y < B.h → Owns B x y s.near (names s)
  pub far_side : (x y : ℕ) → x < B.w → y < B.h → FarSide B s x y

-- sp4_r_v_b at the east column, from the row to the south, where the column outside runs on
pub record EastSpan (B : Block) (x y : ℕ) : Type 0 where
  pub above : 0 < y
  pub crosses : Crosses B x (y - 1) (sp4_rvb 12) x y (sp4_rvb 0) 36
  pub starts : Owns B x y (sp4_rvb 36) 12
