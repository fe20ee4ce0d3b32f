-- The laws of `capi`.
pub mod PackedLaws  -- code-..: the value that following gives, case by case
pub mod PartLaws  -- part_fits, part_yes, part_no: a tile's part as C gets it
