-- The laws of binary digits.
pub mod DigitLaws  -- digit_set_same, digit_set_other, digit_from_digits, from_digits_all; digit_join, from_digits_shift: a number in two parts, and digits from one on
pub mod MaskLaws  -- what the code's &, ^, << are in plain arithmetic
pub mod WriteLaws  -- write_is, raise_is, lower_is: a digit written by two shifts and a sum, by |, by &, in a number of any width
pub mod OnesLaws  -- ones_count: the language's count of ones is the count of the set digits
pub mod LowestLaws  -- trailing_lowest: the count of trailing zeros is the lowest set digit; lower_lt: without a set digit a number is smaller
