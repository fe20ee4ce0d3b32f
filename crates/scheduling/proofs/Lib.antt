-- The laws of `scheduling`. Callers cite SchedulingLaws.
pub mod SchedulingLaws  -- answers_unique: the promise determines the answer; whether a wire is left over; the rows written are the order's
pub mod WaitingLaws  -- chain_unique, stuck_unique, row_stuck: who waits for whom
pub mod WatchLaws  -- watched_wait, watched_list, watched_idle: what is kept of that while the order is made
pub mod DueLaws  -- taken_woken, taken_new: which wires are due to be looked at
pub mod Waking  -- the loop that wakes those that waited
pub mod Searching  -- the loop that searches the next wire
pub mod Listing  -- the loop that lists the wires
