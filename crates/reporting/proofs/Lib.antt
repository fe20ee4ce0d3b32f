-- Laws of the report.
pub mod BlockLaws  -- refused_lines, listed_lines, listed_decodable: what the answer of building shows
pub mod SizeLaws  -- small_tiles: at most nine tiles
pub mod ReportLaws  -- refused_report, block_report, report_put: the report of an input
pub mod SwitchLaws  -- wire_says: the lines 06 are those of the enabled switches
pub mod PrefixLaws  -- report_prefix: the first 131,072 bytes decide the report
