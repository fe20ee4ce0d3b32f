-- The laws of the shelf card.
pub mod MarkingLaws  -- Marked: marks that are put in; kept_only, kept_all: marks that stay
pub mod ReachLaws  -- reach_exact: one pass over the list, from its last row down, marks all that the marked wires depend on
pub mod LeavingLaws  -- leaving_exact: the marks of leaving wires
pub mod FeedingLaws  -- feeding_exact: the marks of feeding wires
pub mod CardLaws  -- card_is: the computed numbers are a card; card_written, card_filled: as the code writes them
pub mod CellLaws  -- used_table, used_flags: a cell that is not all zero
pub mod TurnLaws  -- the loops that mark, turn by turn: .._start, .._next, .._length
pub mod MakingLaws  -- rows_touchable, .._made: what the code hands on, from the list to the card
pub mod EntryLaws  -- numbers_.., bits_.., answer_..: the answers, ground by ground; room_cleared: the work room
pub mod MeaningLaws  -- card_say: every answer says what specs/Meaning.antt has
pub mod ExactLaws  -- card_exact: no second answer, and no second card, fits what is said
