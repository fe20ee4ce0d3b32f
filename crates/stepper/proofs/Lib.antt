-- The laws of `stepper`.
pub mod SettledLaws  -- runnable_fits, settled_bits: a list that passed ground 12 can be run; marks_count: as many rows as wires
