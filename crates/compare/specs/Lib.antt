-- What differs between two blocks of one size under one table.
pub mod Difference  -- believed. Difference: a constructor for each kind of row; DiffersIn: the same for a block
pub mod Lengths  -- believed; the tests are computed: same_size_exact, compare_long_exact. One size, and what is lent to `compare`
pub mod Places  -- believed: row_length; the rest is computed: differences_listed. The places of a tile in the paper's order, and what stands there
pub mod Rows  -- computed: differences_listed. differences, difference_count: the rows of a block
pub mod Entry  -- believed, but for compare_answer and compared_list (computed: compare_says). The grounds in their orders; what an answer comes with and leaves
pub mod Meaning  -- believed. CompareSays: what each answer of comparing says, in the paper's words
