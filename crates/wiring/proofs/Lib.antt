-- The laws of `wiring`.
pub mod FillLaws  -- fill_end, cross_read: a range of ports filled after all before it; WiresWritten, written_start, -step; copy_end, cross_end, number_end: one filled port by port
pub mod FillSpans  -- row_span, from_south, rim_owns, rim_far, right_copies, right-owns-..: the ranges of spans as they are filled
pub mod FillPorts  -- each range of a tile's ports as it is filled
