-- The laws that every loop cites. A search, a count or a fill of another crate is an instance of one of these.
pub mod CaseLaws  -- cases, lt_or_le, eq_or_ne: a choice with its fact; test_false: a test whose fact does not hold; and_true, and_left, and_right, or_is, or_false_left
pub mod SearchLaws  -- first_at, first_none, first_true, first_before: what the first is; first_turn_hit, -skip, -end: a turn of a loop that searches; the same for all
pub mod StdLaws  -- position-is, list_all-is, list_any-is, count_by-is, find_range-is, found_below, ..: std's words for a search, a test or a count, as ours
pub mod RangeLaws  -- find_range, all_range; find_below, all_below, any_below: an iterator that searches a range
pub mod BelowLaws  -- below_some, below_none, below_is, below_past, below_found, below_missed: what a search that answers its bound where there is none says as an Option
pub mod SomeLaws  -- some_is, some_true, some_last: one number passes
pub mod LowestLaws  -- lowest_exact, lowest_none_exact: the first is the lowest number with a property that a test decides
pub mod GrowingSearch  -- grow-..: one number more to look at; more-..: a test that passes one number more
pub mod CountLaws  -- count_ext, count_one_more, count_lt, count_add, count_none, count_le
pub mod TableLaws  -- tabulate_at, tabulate_is; Filled with its start, step and end: a slice filled from the front
pub mod PartLaws  -- part_joined; joined_step, joined_end: a slice filled part by part
pub mod Clearing  -- cleared_start, -step, -end: a slice set to zeros from the front, place by place
pub mod FillLaws  -- zeroed_is, zeroed_front, zeroed_back: a list after zeros were written from a place on
pub mod Copying  -- Copied: a slice filled with what stands in a list
pub mod RowLaws  -- rows_at, row_reached: where the row of a number that passes stands; rows_hit, -skip, -more, -gap and the same for the count: turns of the loops
pub mod Storing  -- StoredRows with stored_start, -hit, -skip, -room, -more, -part, -gap: rows stored one by one, and some at a time
pub mod ListingLaws  -- rows_listed: an enumeration's rows are a listing; listed_once, listed_unique, count_unique, listed_empty, listed_as; filled_stored, filled_rest
