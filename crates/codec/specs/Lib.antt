-- A tile's bits and its settings.
pub mod Bits  -- believed. bit_at: the bit at a position; bit_count. set_bit: a bit written
pub mod Held  -- inner. with_held: the bits of a tile of which one row is held apart; ClearFrom, DigitsWritten: a run of digits half written
pub mod Settings  -- believed. The layout of a tile's settings
pub mod Groups  -- believed: group_pattern; the rest is computed: points_exact. read_group: the setting that a group's bits give, or the position at fault
pub mod Cells  -- believed: cell_value; the rest is computed: decode_reads, bits_back. The eight cells, by value
pub mod Reading  -- believed. Decodable, ReadsTo: reading, sentence by sentence; HasBits
pub mod Decode  -- computed: decode_reads, reads_unique. decode: reading
pub mod Fault  -- computed: tile_fault_exact. tile_fault: the lowest faulty position (ground 4)
pub mod Encode  -- computed: encode_decodable, settings_back, bits_back. encode: the bits of settings
pub mod Limits  -- computed: settings_fit_exact. settings_fit: settings that some bits have (ground 9)
pub mod Writing  -- inner. Written: the first slots hold their values, everything else is 0
