-- What joins and wires are. A reader starts with Joins.
pub mod Span  -- believed: flip; the walk is computed: wire_exact. A wire's walk from edge to edge; the four spans
pub mod Joins  -- believed. Sees: the neigh_op names; Join: a constructor for each published join; Linked: a chain of them; Lowest
pub mod SpanWire  -- computed: wire_exact. row_wire, sp4_column, sp12_column, east_wire, right_wire: the wires of spans
pub mod OutputWire  -- computed: wire_exact. output_wire: the wires of outputs, of tiles inside and outside
pub mod Wire  -- computed: wire_exact, wire_lowest, wires_at. wire_of: the lowest port of a wire; wires_of: that of each port
pub mod Count  -- believed, but for own_wire (computed: wire_own_exact). wires: how many a block has
pub mod WireNumber  -- believed. wire_number, IsWire: what `wire_number` answers, refusals in their order
