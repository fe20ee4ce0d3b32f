-- A set of numbers as binary digits, in three levels of words.
pub mod Bitset  -- inner. has: which numbers are members. Bitset: the words above the leaves say which words are not 0
