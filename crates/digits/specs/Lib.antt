-- Binary digits of numbers.
pub mod Digits  -- believed. digit, is_set, from_digits; set_digit and LowestDigit serve the code
