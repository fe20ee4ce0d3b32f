-- The laws of `config` that its callers cite.
pub mod MeaningLaws  -- read_means, write_means: every answer says what specs/Meaning.antt has it say
pub mod ExactLaws  -- read_exact, write_exact: one answer, and one content of the lent memory, only
pub mod RoundTrip  -- written_reads, read_writes: both round trips of a block
pub mod KeptLaws  -- output_not_done: an output after an answer that is not done
pub mod PassedLaws  -- read_passed, read_clean, write_passed, write_fit: what a yes has passed
pub mod EntryLaws  -- read-.., write-..: the answers, ground by ground; lengths_exact
pub mod BitCountLaws  -- count-..: the same of a bit count
pub mod BlocksLaws  -- decoded_at_lem, encoded_at_lem: a block's tiles; tiles_read_one, decoded_is, encoded_is: one settings, one bits; bitless_lowest, bitless_is, bits_none: ground 9
pub mod FaultPlaceLaws  -- fault_place_exact, fault_unique: the place of ground 4; no_fault_decodable, decodable_no_fault: where there is none
pub mod FormsLaws  -- settings_same, read_same, count_same: bytes and their words carry the same settings and answers
pub mod SettingsLaws  -- settings_no, settings_yes, settings_shows: grounds 3 and 9 in front of later checks
