-- The laws of the comparison.
pub mod PlaceLaws  -- by_field, by_group, by_cell, by_passive: which kind place j is; value-..: what stands there
pub mod KindLaws  -- count_zip: how many settings of a kind differ; changed_true, changed_false, number_row_is: the test and the row of one
pub mod TileLaws  -- fields_shown, groups_shown, cells_shown, passives_shown; kind_count, kind_stored: the differences of a tile, kind by kind
pub mod BlockLaws  -- tile_differs, tile_row: place j of tile t; count_tile_part, store_tile_part: turns over the tiles
pub mod DifferenceLaws  -- differences_listed: the computed rows are just the differences
pub mod EmptyLaws  -- empty_exact: nothing is listed exactly if the bits are equal
pub mod LengthLaws  -- same_size_exact, compare_long_exact: the tests and the facts; sizes_test: what `!=` answers
pub mod EntryLaws  -- one law for each way through compare_answer; compare_cleared: the work room
pub mod PartLaws  -- the same for part_answer; part_passed: what a yes has passed; part_is: the part handed back
pub mod ListLaws  -- rows_few, list_filled: what list_settings has when the rows are stored
pub mod MeaningLaws  -- compare_says: what every answer says
pub mod ExactLaws  -- compare_exact_lem: no second answer, and no second list, fits what is said
