-- Every contention of a block: the listing of document 02, W6.
pub mod Contentions  -- believed: ContentionRow, row_length; the rest is computed: contentions_listed. The rows of the listing
pub mod Chains  -- inner. Chained: the switches of each wire as a chain, from the last switch down; Tallied: with the count of their rows
pub mod Lengths  -- believed; the test is computed: contention_long_exact. What is lent to `contentions`, and how long it must be
pub mod Entry  -- believed, but for contentions_answer and contentions_list (computed: contentions_say). Grounds 1 to 4, then 15
pub mod Meaning  -- believed. ContentionsSay: what each answer says, in the paper's words
