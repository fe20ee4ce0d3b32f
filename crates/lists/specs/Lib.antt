-- Searches, counts and tables over plain numbers and lists.
pub mod Search  -- believed: count_below; first, all_from and some_below stand in computed definitions only. The numbers that pass a test
pub mod Tables  -- believed. tabulate, zeros: the list of the values of a function. Filled: a list that is filled from the front
pub mod Parts  -- believed. part, joined: a list as equal parts, one after another
pub mod Listing  -- believed: Precedes, Lists, rows in order, each once, counted, zeros behind; rows_where and zero_filled are computed: rows_listed
