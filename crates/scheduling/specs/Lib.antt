-- How the order of the rows is found (document 01, 'The list and a step'). What the order is stands in `netlist`.
pub mod Scheduling  -- inner. Answers, Queued: what scheduling answers
pub mod Waiting  -- inner. Stuck, Chain, Idle, Watched: who waits for whom while the order is made
pub mod Due  -- inner. Resting, Taken, Found, Woken: which wires are due to be looked at, and how that changes
