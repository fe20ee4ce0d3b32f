-- The report of an input: bytes to bytes.
pub mod Report  -- believed: accepted_lines, the lines of an accepted block; report_of is computed: report_exact. What is printed for an input
pub mod Meaning  -- believed. WireSays: the lines 06, switch by switch
