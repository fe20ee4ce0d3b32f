-- The laws of `fabric` that its callers cite, and below them what they rest on.
pub mod WireLaws  -- wire_exact: one wire exactly if linked by joins. wire_low, -within, -fits, -linked, -lowest, -idempotent, -own-exact; wires_at: the list of all wires
pub mod PlaceLaws  -- wire_port, wire_name: the wire of a port from its place and from its name
pub mod WireNumberLaws  -- the cases of `wire_number`
pub mod FlipLaws  -- flip_flip, flip_lt, xor_flip
pub mod WalkLaws  -- walk_reach: what each step gives the whole walk gives
pub mod Reaching  -- Reach: a port of the same wire that is no higher
pub mod RowLaws  -- a span along a row, for any length, offset and crossing
pub mod ColumnLaws  -- the same along a column
pub mod SpanLaws  -- span-4 and span-12 as instances
pub mod OutputLaws  -- the nine ports that show one output
pub mod JoinLaws  -- join_same: a join keeps the computed number. join_within: it stays in the block
pub mod PortReach  -- reach: every port reaches its computed number
pub mod NeighbourLaws  -- the ports of an output by where its tile stands
pub mod EdgeLaws  -- the lowest port at an edge, in the code's terms
pub mod WireAtLaws  -- the arms of `wire_at`
