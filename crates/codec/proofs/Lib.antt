-- The laws of `codec` that its callers cite.
pub mod BitLaws  -- bit_set_same, bit_set_other: a bit written and read; bits_ext: lists that agree at each bit are equal
pub mod SetBitsLaws  -- set_bits_at, set_bits_other, set_bits_back: a number's digits at a run of positions
pub mod HeldLaws  -- held_there, held_added: a row held as it stands, and a clear bit added to it
pub mod TenLaws  -- ten_is: ten bits side by side; value_of_tens: a cell is two tens
pub mod GroupLaws  -- setting_back, pattern_back: a group's setting and its pattern
pub mod EncodeLaws  -- encode_slot: written, then read; encode_is: read, then written
pub mod LimitLaws  -- limit-..: the largest value of each setting; fit-..: settings that fit keep to it
pub mod RowsLaws  -- rows_left, rows_right, rows_all: a cell's bits added to its two rows
pub mod RunLaws  -- run_written, run_back: a run of slots that holds a number
pub mod TileRunLaws  -- cell_run, field_run, passive_run, group_run: the runs of a tile
pub mod CellLaws  -- put-cells-..: cells put into settings; no_cells_written: no cell, nothing to write
pub mod SettingAtLaws  -- setting-..: what is read to each setting, one law for each way
pub mod DecodeLaws  -- decode_field, .. decode_flags: the decoding, kind by kind; setting_kinds; decode_filled
pub mod FaultLaws  -- fault-..: a position at fault, by what claims it; map-..: by the ownership map
pub mod ListedLaws  -- unlisted_exact, points_exact: a group's pattern is zero, listed, or neither, and then its first position is at fault
pub mod FaultyLaws  -- fault_exact, tile_fault_exact, tile_fault_lowest: ground 4 is what specs/Reading.antt says
pub mod SettingsBack  -- settings_back: settings written and read back; encode_decodable
pub mod BitsBack  -- bits_back: decodable bits read and written back
pub mod ReadingLaws  -- decode_reads, reads_unique: the decoding is what the bits read to; settings_fit_exact: ground 9 is what it says
