-- The laws of `ports` that its callers cite.
pub mod BlockLaws  -- allowed_exact, sized_exact; tiles_le, ports_le: a block has few tiles and ports; port_of_lt
pub mod PlaceLaws  -- port_lt: a port's number is the block's; port_place: its place, from its number
pub mod PortLaws  -- index_back, port_at_back: the table of ports read forth and back. port_at_within: its numbers are in their ranges
pub mod FindLaws  -- find_range, find_all: what stands in a table of ranges
