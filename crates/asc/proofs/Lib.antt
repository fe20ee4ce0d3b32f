-- The laws of `asc`: what the tests and the text of specs/ mean, that an answer is the only one, and the round trip.
pub mod AreaLaws  -- Sized, sized_of: what ground 1 leaves
pub mod SpellingLaws  -- line_x_back, line_y_back: the numbers of a tile's line; tile_line_word, device_word_lem
pub mod SpeltLaws  -- line_x_is, line_y_is, row_long: lines as the code looks at them
pub mod ContentLaws  -- packed_bit: the bit at a position is the digit that came there; six_sum, six_turn: digits as a number, as the code adds them
pub mod StepLaws  -- dot-.., device-.., tile-.., row-.., next-..: what a line leads to, by the tests that the code makes
pub mod NextLaws  -- turn_next: a turn is what is computed; in_block, tile_at_lt
pub mod TurnLaws  -- next_turn: what is computed is a turn; turn_same: one turn only
pub mod BeginsLaws  -- begins_same: so many lines in one way only; begins_front: the lines before
pub mod RoomLaws  -- Fits, turn_fits: the rooms of marks and digits stay long enough
pub mod StuckLaws  -- all_come, stuck_missing, stuck_open, stuck_line: where the lines stop being in order, or the end comes
pub mod ScanLaws  -- Going with its start, turn and ends: the loop over the lines
pub mod ReadLaws  -- read_stuck, read_all: the answer from what going through the lines says
pub mod ExactLaws  -- asc_exact: what an answer says fits one answer only
pub mod OutcomeLaws  -- outcome_says: what the lines of a text come to, computed, is so
pub mod AnswerLaws  -- read_told: an answer that says so is the one that is computed
pub mod WriteAnswerLaws  -- write_told: an answer of `write` that says so is the one that is computed; write_exact; write_passed, write_yes
pub mod LengthLaws  -- tile_of_lem: where tile t stands; tile_text_length, written_length; Counted with its start, turn and end
pub mod WriteLaws  -- RowsPut, TilesPut with their start, turn and end: a file written piece by piece
pub mod BackLaws  -- plain_tile, row_is, row_back: the lines of a written file, one by one
pub mod RoundTrip  -- asc_back, read_written, write_read: a written file read back at its corner and size gives the same block
pub mod AgainLaws  -- read_again: a file that was read, and is written, reads the same; read_fits, read_writes: what is read can be written
