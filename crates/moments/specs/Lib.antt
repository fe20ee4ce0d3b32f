-- Settling and clocking a block. What settling gives stands in stepper/specs/Settling.antt, what clocking gives here.
pub mod Checks  -- computed: settle_says, clock_says. Grounds 3 and 9, and ground 10, which both calls make
pub mod Settling  -- computed: settle_says. settle_answer: grounds 1, 2, 3, 9, 12, 10 in their order
pub mod Clocking  -- believed, but for clock_answer (computed: clock_says): grounds 1, 2, 3, 9, 10 in their order. next_states: how every cell's state moves, from what its tile's ports have before and after; handed, of_wires; Clockable
pub mod Lengths  -- believed; the tests are computed: settle_long_exact, clock_long_exact. What is lent to both calls, and how long it must be
pub mod Meaning  -- believed. SettleSays, ClockSays: what each answer says
