-- The place of a loop (ground 7). What a loop is stands in `netlist`.
pub mod Loops  -- computed: loop_at_exact, loop_wire_is. loop_at, loop_wire: ground 7's place
pub mod Ranks  -- inner. Ranked, ReadsLower, FirstLevel: ranks that show a wire free of loops; Descending: what bounds the work room while they are found
