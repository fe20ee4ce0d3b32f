-- The laws of `loops`. Callers cite LoopWireLaws.
pub mod LoopWireLaws  -- loop_at_exact, loop_wire_is: the computed place of a loop is the lowest wire that depends on itself
pub mod RankLaws  -- lower_no_loop: a wire that reads only lower ranks and listed wires does not depend on itself
pub mod Descending  -- the steps that rank wires stay in the work room
pub mod Reaching  -- the loop that follows readings from a wire on
