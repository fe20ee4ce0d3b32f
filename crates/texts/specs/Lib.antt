-- Bytes of text: digits, what stands at a position, what is put in at one, lines and words.
pub mod Hex  -- believed: two, four; the other way is computed: digit_back, value_back. Digits of a number, and the number of digits
pub mod Decimal  -- believed: decimal, a number's digits; number, the other way, is computed: number_back
pub mod Each  -- believed. each, Each, EachFrom: what is made of each of a list, and what holds of each
pub mod Pieces  -- believed. line_end; Stands: a piece stands at a position; placed: a text with a piece put in
pub mod Lines  -- believed. Plain: no line feed inside; same: two texts; word: what stands before the first space
