-- The laws of the listing of contentions.
pub mod ContentionLaws  -- contentions_listed: the computed rows are just the contentions; empty_exact: there are none exactly if there is no contention
pub mod RefusalLaws  -- five_exact: building refuses with 5 exactly if there is a contention
pub mod Chaining  -- chained_start, -hit, -skip: the chains, one switch more
pub mod Walking  -- a wire's chain, walked: links-.., its first two links, filed-.., with the switches' rows
pub mod WireLaws  -- the rows wire by wire: wire-.., count_next, store-..
pub mod Tallying  -- tallied-..: the chains with the count of their rows, one switch more; rows_all: the count is that of the contentions
pub mod LengthLaws  -- contention_long_exact: the test of the lengths is the facts
pub mod EntryLaws  -- rows-.., bits-.., answer-..: the answers, ground by ground; room_cleared: the work room
pub mod MeaningLaws  -- contentions_say: every answer says what specs/Meaning.antt has
pub mod ExactLaws  -- contentions_exact: no second answer, and no second list, fits what is said
