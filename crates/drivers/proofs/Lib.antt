-- The laws of `drivers` that its callers cite, and below them what they and the code rest on.
pub mod FollowingLaws  -- driven_exact, driven_unique: following a driver has one answer, the computed one. no_ring: without a loop it is no ring
pub mod CarryReadLaws  -- carry_read_exact, carry_read_none_exact: ground 6. The lowest disabled carry that is read, or none
pub mod ClockLaws  -- clocked_exact, clocked_none_exact: ground 8. The lowest tile with a clock or reset from a cell, or none
pub mod LeadLaws  -- goes_leads, leads_goes: the map of sources and the switches. sources_length, sources_bounded: what the code asks of the map
pub mod StandingLaws  -- stands_at, stands_drive: what stands where no switch ends. drive_at_lem: a wire's drive by one of its ports
pub mod WalkLaws  -- gets_linear: a walk from source to source is a line. ring_or_end: it meets a ring or an end. end_unique
pub mod Walking  -- traced_walked: what a walk with marks answers
pub mod Tracing  -- the loop of `walk`. end_traced: an end that a walk gets to is its answer
pub mod CarryPass  -- the loops of `carry_read_wire`
pub mod CarryPorts  -- low_port_no_carry: a port before carry_in has no cout's wire
pub mod SwitchTurns  -- the switch of a tile's group; sourced_tile: a tile's switches are done
pub mod ClockTurns  -- the parts of the clock check: the arms of `clock_ok`, a search for a cell, what decides of a tile
