-- The laws of `equations` that its callers cite, and below them what they rest on.
pub mod SettlingLaws  -- settles: running the list gives the one choice of values that the equations allow. count_wires, block_fits
pub mod LoopLaws  -- loop_exact: the order lists every wire exactly if none depends on itself. loop_lowest_exact: ground 7's place
pub mod EqualLaws  -- meets_solves, solves_meets: values meet the equations exactly if they solve the rows
pub mod ChainLaws  -- reads_exact: the rows read what the equations read. rows_closed
pub mod InfluenceLaws  -- same_value: wires with the same equations and the same lent values have the same values. says_row: a wire has one equation. lent_open, open_row: a lent row is an open wire's
pub mod SourceLaws  -- contended_exact, contended_none_exact: ground 5. rows_from_sources: the rows by the map of sources
pub mod Sourcing  -- sourced_start, -skip, -new, -lower, -higher, -end: the pass over the switches
pub mod Example  -- sample_rows, looping_depends: the paper's sample
pub mod WireRowLaws  -- row_is, rows_named: the list of rows, row by row
pub mod RowReasons  -- row_says: the row of each wire is the one of specs/RowMeaning.antt. row_switch, row_port_lem, row_cell: the row that a sentence gives
pub mod SwitchLaws  -- driver_ends, driver_none, driver_is: the switch that drives a wire. cell_free: none ends where a cell does
pub mod DriveLaws  -- drive_wire: a wire's drive is that of each of its ports. join_drive: each join keeps it
pub mod RoleLaws  -- role_all: what a port's drive says of the port. span_drive, input_drive: the drives of spans and inputs
pub mod PortKindLaws  -- open and constant ports; ports that a switch may end on, and those that none may
pub mod DriveAtLaws  -- the arms of `drive_at`
pub mod RowFromLaws  -- the cases of `row_of`
