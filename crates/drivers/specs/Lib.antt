-- Who drives each wire of a block: following a driver, disabled carries, clocks. Contention is in `equations`.
pub mod Following  -- believed, but for driver_of (computed: driven_exact, driven_unique). DrivenBy: where following a driver ends, in the paper's words
pub mod CarryReads  -- computed: carry_read_exact, carry_read_none_exact. carry_read_wire: the lowest disabled carry that is read (ground 6)
pub mod Clocks  -- believed, but for clocked_tile (computed: clocked_exact, clocked_none_exact). FromCell: a clock or reset that comes from a cell (ground 8)
