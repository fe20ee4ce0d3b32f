-- The starred lines of 'Names to try', proved together.
pub mod NamesLaws  -- names_hold: every line of the table
pub mod WireNames  -- linked_is, apart_is, numbered_is: a line on wires, from the computed numbers; alone_1x1, count_1x1
pub mod GroupNames  -- pattern_enables, pattern_undecodable: a pattern of a group that is given by port names
pub mod GroupFrame  -- frame_has_group: local_g0_0 by names is the frame of the chip database
pub mod CellNames  -- cell_sets: the bits of a tile with a table in cell 0 and nothing else
pub mod Agreeing  -- agree_below: two functions that have the same values below n
