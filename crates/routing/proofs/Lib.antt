-- The laws of `routing` that its callers cite.
pub mod OwnerLaws  -- owner_is: with `Once`, the owner of a used slot's position is that slot; owned_start, -claim, -skip: the map
pub mod SlotLaws  -- slot_at_cell, -field, -passive, -group; slot-used-..; slot_cases: every used slot is one of these
pub mod LogicTileLaws  -- logic_tile_once: the 160 cell positions of the logic tile are in the tile and differ
pub mod PositionLaws  -- position_exact: the test of one position and its rule; the turns of claiming it
pub mod EntryLaws  -- the ways through the test of an entry
pub mod MarkLaws  -- mark_again, mark_new: an entry's pattern is new in its group exactly if it does not have the group's mark
pub mod GroupLaws  -- group_exact: the test of one group and its rules
pub mod TableCheckLaws  -- table_exact: the check and the rules; faulty_part_exact: the place of ground 3 is the first broken part
pub mod TableOnceLaws  -- table_once: a table that keeps the rules claims no position twice
pub mod ClaimingLaws  -- field_run, passive_run, group_run: each part is a run of slots; the map between the parts
pub mod PartSearch  -- Seen with its start, step and end: the search for the first broken part
pub mod Example  -- the paper's sample table passes
pub mod ClaimLaws  -- claimed_exact: what the paper calls claimed is what some used slot stands at
pub mod ClaimsOnceLaws  -- claims_exact: the rules of positions say that no two claims are of one position, and nothing else
