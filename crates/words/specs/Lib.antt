-- Bits kept in numbers of one width, and a tile's bits in both their forms. A reader starts with Forms.
pub mod Packed  -- believed. bit_in: bit p of numbers of u bits each; packed: such numbers made of bits
pub mod Forms  -- believed: TileBits, of_words, of_bytes, SameBits; past_columns, words_of and bytes_of are computed: stray_exact, words_same, bytes_same
pub mod Stray  -- believed: Stray, LowestStray; first_stray and stray_place are computed: first_stray_exact, first_stray_none
pub mod Meaning  -- believed. WordsSay, BytesSay: what each answer of the two conversions says
pub mod Answers  -- computed: words_say, bytes_say. words_answer, bytes_answer
