-- The lines of a report.
pub mod Lines  -- believed. switch_line, cell_line, answer_line: the lines 06, 07, 08
pub mod Listing  -- believed, but for switch_part (computed: wire_says). switch_lines, cell_lines: those of an accepted block
