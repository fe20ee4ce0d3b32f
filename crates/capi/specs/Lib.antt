-- Answers for C.
pub mod Packed  -- believed. packed: an answer as one 64-bit number; ground_in: its ground
