-- The laws of `refusal` that entry points cite.
pub mod MemoryLaws  -- output_refused, output_kept: an output after a no
pub mod GroundsLaws  -- unless_cases, unless_passed: one check of a chain
