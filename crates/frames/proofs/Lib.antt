-- The laws of `frames`: what the tests, counts and readings of specs/ mean in the paper's words.
pub mod ListReadLaws  -- fours_read, twos_read, entries_read_lem: the lists that are read, written again, stand there; counted: a list's length stands before it
pub mod LineLaws  -- line_exact: what is_line tests; line_spans: digits and a line end are a line
pub mod FrameLineLaws  -- frame_line: the line of any frame has its number, only digits and a line end; digits_few: 512 digits at most
pub mod FrameLaws  -- fields-, passives-, group-, size-, tile_reads: where a test of Lines passes, a proper frame of that kind stands
pub mod FrameTestLaws  -- fields-, passives-, group-, size-, tile_passes: where a proper frame stands, the test of its kind passes
pub mod TurnLaws  -- begins_groups, begins_size, begins_tiles: the lines that are in order; begins_text: they are the beginning of the input
pub mod StuckLaws  -- stuck-..: where a test of Lines fails no frame that is due stands there
pub mod SmallLaws  -- small_of, small_passes: the test of W and H; small_due: at most nine tiles
pub mod ContentsLaws  -- table_head, table_group: the numbers of table_of by place; position_number, pattern_number, source_number; table_long, bits_long: the exact lengths
pub mod WholeLaws  -- input_read: the input that was read; table_holds, bits_flat: table and bits hold what its frames say
pub mod MeaningLaws  -- parsed_says: every answer says what specs/Meaning.antt has it say; east_few: the byte that is read is 0 or 1
pub mod AgreeLaws  -- Agree: two inputs with one beginning; pair_same, line_same, group_same: a test that looks there says the same of both
pub mod PrefixLaws  -- parsed_prefix: an input of any length has the answer of its first 131,072 bytes
pub mod ComeLaws  -- Come: how far an input has come at a stage; size_same: W and H of a size in its turn
pub mod ComeStepLaws  -- begins_come: whatever frames have begun, they have come to where group_at and tile_at say; begins_sizes
pub mod WholeTurnLaws  -- whole_begins: the frames of a whole input are in their turn up to its end
pub mod ExactLaws  -- parsed_exact: an answer says what it has to exactly if it is the one that is given
pub mod BoundLaws  -- group_digits_le, group_at_le, size_at_le: how far positions reach, whatever the bytes
pub mod InputLaws  -- Counting with its start, skip, stop and end: the loop that counts groups; group_at_next
pub mod ParsedLaws  -- parsed-..: what is answered, ground by ground; due_le: at most 9 tiles
pub mod FillLaws  -- Filling with its start, turns and end: the loop that fills the groups of a table
