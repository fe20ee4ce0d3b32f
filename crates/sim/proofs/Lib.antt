-- The laws of `sim`. Callers cite StepLaws.
pub mod StepLaws  -- run-.., inputs-.., step-..: the answers, ground by ground, and what a yes shows; room_cleared
pub mod MeaningLaws  -- step_says: every answer says what specs/Meaning.antt has
pub mod ExactLaws  -- step_exact_lem: what an answer says fits one answer only
pub mod ByteLaws  -- bad_byte_here, -next, joined_first, -second, -third, joined_found: ground 10's place; bits_of_joined, joined_of_bits: that there is none
pub mod LengthLaws  -- step_long_exact: ground 2 as facts
