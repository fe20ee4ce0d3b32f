-- The laws of `texts` that readers and writers of lines cite.
pub mod EachLaws  -- each_append, each_length: what is made of each; holds_tabulate, holds_append: what holds of each; tabulate_last
pub mod HexLaws  -- digit_back, value_back: a digit and its value; pair_of, quad_high, quad_low: numbers of two and four digits
pub mod DecimalLaws  -- decimal_form: one, two or three digits; decimal_digits, number_back
pub mod StandsLaws  -- Spans: what stands from one position up to another; spans_append, -left, -right, -at, -one
pub mod ReadingLaws  -- Digits: only digits stand there; two_spans, four_spans, each_spans: the numbers read there, written again, stand there
pub mod PlacedLaws  -- put_is, placed_more: a piece put in, one behind another; placed_before, placed_inside: what stands where
pub mod PutsLaws  -- Puts: where the next piece goes and what stands there; puts_none, puts_line, puts_more, puts_turn; filled_whole
pub mod SameLaws  -- same_true, same_refl, same_false: the test of two texts
pub mod WordLaws  -- word_at, word_is: the first word of a line
pub mod PlainLaws  -- plain_append, plain_check: no line feed inside; split_same: the first line feed parts a text in one way
pub mod LineEndLaws  -- LineTo: the line from a position up to the next line feed; line_plain, line_split, front_more
mod PassedLaws  -- passed_plain: eight bytes at a time without a line feed are passed over; line_end_is: where the search behind them ends
