-- The shelf card of document 02, W14.
pub mod Cells  -- believed. used_cell, flop_cell: a cell that is not all zero, a flip-flop
pub mod Leaving  -- believed. LeavingWire: a driven span wire with a port whose join to another tile fails
pub mod Feeding  -- believed. FeedingWire: an open wire that a leaving wire or a flip-flop's wire depends on
pub mod Marks  -- computed: leaving_exact, feeding_exact. The marks of these wires, as the code makes them
pub mod Card  -- believed: Card, Wire; the rest is computed: card_is. The numbers of a card
pub mod Entry  -- believed, but for card_answer and card_after (computed: card_say). Building's grounds, then 15
pub mod Meaning  -- believed. CardSays: what each answer says, in the paper's words
