-- The laws of `tile`.
pub mod WritingLaws  -- cells_written, field_turn, passive_turn, group_turn, groups_off: a tile written run by run
pub mod TakingLaws  -- learned-.., taken-.., refused_stray: the set bits of a tile taken one after another
pub mod FindingLaws  -- found-.., unfound_here: the patterns of a tile's groups looked up one after another
pub mod CellColumns  -- column_taken, without_cell_is: a row's columns that its cell has, and the row without them
pub mod Passing  -- passed_turn, taken_turn: the loops over them
pub mod TakenLaws  -- taken_right, taken_exact: a tile all of whose set bits are taken is read, and can be decoded without the carry pair; refused_exact
