-- IceStorm's ASCII files (document 02, W1): what a file says, reading one and writing one.
pub mod Area  -- believed. Area: the corner and the size that the caller names; tiles_of, sized
pub mod Site  -- inner. area_of: the area as the code has it
pub mod Spelling  -- believed: device_line, tile_line, how lines are spelt; the other way is computed: turn_next, next_turn. line_x, line_y, is_tile_line, is_row
pub mod Stages  -- believed. Stage; Turn: the lines that are due, a constructor a sentence; Begins, Whole
pub mod Next  -- computed: turn_next, next_turn. next_of, is_whole: what a line leads to, and whether nothing is missing
pub mod Content  -- believed. rows_packed: the digits that were read as the block's numbers; written: a block as a file
pub mod Meaning  -- believed. Stuck, ReadNo, AscSays: what each answer of `read` says
pub mod WriteMeaning  -- believed. WriteNo, WriteSays: what each answer of `write` says
pub mod Answers  -- believed: length_answer; the rest is computed: read_told, write_told. outcome, read_answer, bits_read; write_answer
