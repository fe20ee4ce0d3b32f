-- The laws of `block` that its callers cite.
pub mod LengthLaws  -- build_long_exact, follow_long_exact: the tests of the lengths are the facts
pub mod RoutedLaws  -- routed_of_fit, routed_of_read: what table and settings that pass their checks show (`Routed`)
pub mod ScheduleLaws  -- scheduled_loop, listed_rows: what the schedule of a block's rows shows, and the list written from it
pub mod BuildingLaws  -- list-.., bits-.., build-..: the answers of building, ground by ground; build_cleared: the work room
pub mod DriverLaws  -- port-.., settings-.., follow-..: the answers of following, ground by ground; follow_cleared: the work room
pub mod MeaningLaws  -- list_says, build_says: every answer of building says what specs/Meaning.antt has
pub mod DriverMeaningLaws  -- follow_says: every answer of following says what specs/DriverMeaning.antt has
pub mod ExactLaws  -- list_exact, build_exact_lem, follow_exact_lem: what an answer says fits one answer only
