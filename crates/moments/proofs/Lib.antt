-- The laws of `moments`. Callers cite SettleMeaning and ClockMeaning.
pub mod SettleMeaning  -- settle_says: every answer of settling says what specs/Meaning.antt has; settle_exact_lem: that fits one answer only
pub mod ClockMeaning  -- clock_says, clock_exact_lem: the same of clocking
pub mod SettleLaws  -- run-.., settle-..: the answers of settling, ground by ground, and what a yes shows; settle_cleared
pub mod ClockLaws  -- clock-..: the answers of clocking; three_bits, bits_done: ground 10 of what is joined; bytes_clockable
pub mod ChecksLaws  -- settings-..: grounds 3 and 9 in front of later checks
pub mod ByteLaws  -- bytes-..: what ground 10 answers; first_above, above_is: its place in the paper's words
pub mod LengthLaws  -- settle_long_exact, clock_long_exact: ground 2 as facts
pub mod SpreadLaws  -- the loop of `spread_values`. port_values_at, port_values_bits: every port's value, as a list
pub mod ClockingLaws  -- states_same: only the values of a tile's own ports move its cells. clock_of_settled, step_clocked: clocking settled values is what the step does
