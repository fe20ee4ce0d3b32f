-- The theorems of the three demands, and what they rest on.
pub mod Demand1Laws  -- demand1: demand 1, closed
pub mod EntryOrder  -- the grounds of wire_number, lookup, bit_count, read and write in their orders
pub mod CompareOrder  -- compare_order, part_order: the grounds of compare and of asking for a tile's part
pub mod FormOrder  -- words_order, bytes_order: those of both conversions
pub mod FileOrder  -- those of reading, measuring and writing an ASCII file
pub mod BlockOrder  -- those of build and follow
pub mod StepOrder  -- those of step
pub mod ContentionOrder  -- those of contentions
pub mod ParseOrder  -- those of reading frames
pub mod ReportOrder  -- those of a report, with the line that says them
pub mod OneAnswer  -- check_agrees, bits_agrees: a table of grounds fits one number and place only
pub mod ReportExact  -- report_exact: only the report says what ReportSays has it say
pub mod Demand2Laws  -- demand2: demand 2, closed
pub mod FormsLaws  -- same_forms: bytes and words carry the same settings and answers, closed
pub mod Demand3Laws  -- demand3: demand 3, closed
pub mod ReadingLaws  -- reads_exactly, reads_one: when `read` says yes, and that the bits read to one settings only
pub mod PassesLaws  -- four_exactly, six_exactly: checks pass exactly if `build` gives none of their grounds
pub mod ReadableLaws  -- readable_of_four, readable_built, readable_routed: what checks 1 to 4 show
pub mod FightLaws  -- fight_exactly, fight_lowest, follow_fight_exactly: fights, over the answers of `build` and `follow`
pub mod AcceptedLaws  -- list_loop_exactly, only_choice, own_passes, step_means: of settings that passed their checks
pub mod StepDone  -- step_done, step_meant: a step with an accepted block's own settings and list
pub mod StepUnique  -- step_unique: what a step gives is determined by the equations
pub mod ListingLaws  -- listing: one row for each wire, in document 01's order
pub mod OrderLowest  -- order_lowest: the order in the paper's words
pub mod ShapeLaws  -- shaped: the numbers that a row's kind does not use are 0
pub mod OwnListLaws  -- own_list_passes: ground 12 lets a block's own list pass
pub mod FileLaws  -- filed_reads, read_files: demand 2 by way of an ASCII file
pub mod InfluenceLaws  -- influence: which pins can move which lamp, closed
