-- Building a block's list and following a driver: the entry points.
pub mod Lengths  -- believed; the tests are computed: build_long_exact, follow_long_exact. What is lent to `build` and `follow`, and how long it must be
pub mod Building  -- computed: build_says. build_answer: grounds 1 to 8 in their order
pub mod Drivers  -- believed, but for follow_answer (computed: follow_says). The number of a driver's kind, its wire; grounds 1, 2, 3, 9, 5, 20 in their order
pub mod Meaning  -- believed. BuildSays: what each answer of building says, in the paper's words
pub mod DriverMeaning  -- believed. FollowSays: what each answer of following says, in the paper's words
