-- Reading and writing the bits of a block.
pub mod Blocks  -- believed: a block as its tiles, one after another; the rest is computed: decoded_at_lem, encoded_reads, fault_place_exact, bitless_lowest. decoded, encoded: what a yes writes
pub mod Entry  -- believed: bit_count_answer; read_answer and write_answer are computed: read_says, write_says. The grounds in their orders
pub mod Bytes  -- believed. read_bytes_answer, count_bytes_answer: document 01's answers on bytes, which those on words are held against
pub mod Facts  -- believed. What each ground and a yes say, sentence by sentence
pub mod Meaning  -- believed. ReadSays: what each answer of reading says
pub mod WriteMeaning  -- believed. WriteSays: what each answer of writing says
