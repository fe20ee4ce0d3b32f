-- Frames on lines: what document 01 says of an input, and reading one.
pub mod Frames  -- believed. Frame, line, Proper: the frames and the line of each
pub mod Whole  -- believed. Input, its frames and text; Holds: what a routing table filled from it holds
pub mod Lines  -- computed: line_exact, parsed_exact. is_line and a test for each kind of frame, by position
pub mod Input  -- computed: parsed_says, parsed_exact. parsed; group_at, group_count, tile_count; the grounds as they are met
pub mod Contents  -- computed: table_holds, bits_flat. table_of, bits_of: what the frames say, as routing table and bits
pub mod Meaning  -- believed. Turn, Begins, Stuck; ParsedSays: what each answer means
