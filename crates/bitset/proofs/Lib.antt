-- The laws of a set of numbers.
pub mod WordLaws  -- digit_written_same, digit_written_other, has_written_same, has_written_other: what is read after a digit was written; zeros_bitset
pub mod LevelLaws  -- pending_start, -step, -end, -kept: the words above follow a write, level by level
pub mod ChangeLaws  -- inserted; removed_leaf, -middle, -top: a number inserted or removed by a write at each level
pub mod LowestLaws  -- lowest_is, lowest_none: the lowest set digit of each level leads to the lowest member
pub mod UniqueLaws  -- words_unique: the members determine the words
