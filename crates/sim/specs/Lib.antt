-- A step of a block. What it gives stands in `stepper`.
pub mod Stepping  -- computed: step_says. step_answer: grounds 1, 2, 3, 9, 12, 10 in their order
pub mod Lengths  -- believed; the tests are computed: step_long_exact. What is lent to `step`, and how long it must be
pub mod Meaning  -- believed. StepSays: what each answer says
