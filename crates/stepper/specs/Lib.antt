-- What a step gives.
pub mod Settling  -- believed, but for bad_row (computed: first_bad_exact). settled_by: running a list on a state and lent values; port_values; Runnable: what the checks show of a list
pub mod Clocking  -- believed. next_states: how every cell's state moves, from the values before and after
