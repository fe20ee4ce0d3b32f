-- What a logic cell does.
pub mod Settings  -- believed. cell_of, flags_of: a cell's settings and its flags as a number
pub mod Lookup  -- believed. lookup_bit, looked_up, majority
pub mod Halves  -- inner. halved, ByHalves: the lookup as four choices
pub mod NextState  -- believed. ticked, next_sync, next_async, next_state: how a flip-flop moves in one step
