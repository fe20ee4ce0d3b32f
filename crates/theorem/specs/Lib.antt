-- The three demands, each one record over the answers of the calls, and SameForms and Influence beside them.
pub mod Calls  -- built, stepped, ..: what the calls answer and write, over what is lent
pub mod Choice  -- OnlyChoice: the one choice of values that the equations allow; StepMeans: what a step does with it
pub mod Listing  -- Listing: one row for each wire, in document 01's order
pub mod Order  -- Check, Yes: a chain of checks in front of an answer, with number, ground and place
pub mod EntryGrounds  -- the grounds of wire_number, lookup, bit_count, read and write in their orders
pub mod CompareGrounds  -- those of compare and of asking for a tile's part
pub mod FormGrounds  -- those of converting a block's bits from bytes to words and back; NoStray
pub mod FileGrounds  -- those of reading, measuring and writing an ASCII file
pub mod BlockGrounds  -- those of build, follow and step
pub mod ContentionGrounds  -- those of contentions
pub mod ReportGrounds  -- those of the report program: parse and report
pub mod Demand1  -- Demand1
pub mod Demand2  -- Demand2
pub mod Forms  -- SameForms: bytes and words carry the same settings and answers
pub mod Demand3  -- Demand3
pub mod Influence  -- Influence: which pins can move which lamp
