-- The report of an input: "The report program reads standard input and builds." What each answer prints. `report_exact` (theorem/proofs/ReportExact.antt):
-- this report, and no other one, says what the paper has it say (`ReportSays`).
use Rattle.refusal.specs.Grounds.{number_of, place_of}
use Rattle.refusal.specs.declared.Refusal.{Refusal}
use Rattle.std.specs.Prelude.{ℕ, ◌*◌, true, List, ◌++◌, Result, Ok, Err}
use Rattle.ports.specs.declared.size.Block.{Block}
use Rattle.ports.specs.Block.{tiles}
use Rattle.ports.specs.Lengths.{ports_per_tile}
use Rattle.words.specs.Forms.{TileBits, tiles_of_bytes}
use Rattle.config.specs.Blocks.{decoded}
use Rattle.equations.specs.Sources.{sources_of}
use Rattle.block.specs.Building.{build_answer}
use Rattle.frames.specs.Input.{parsed}
use Rattle.frames.specs.Contents.{bits_of}
use Rattle.frames.specs.Contents as contents
use Rattle.lines.specs.Lines.{answer_line}
use Rattle.lines.specs.Listing.{switch_lines, cell_lines}

-- what a report of a 3 by 3 block can have at most: 11 bytes for each port, 13 for each cell, and the last line
abbrev pub out_length : ℕ
out_length = 51039

-- the lines of an accepted block of n tiles, from its map of sources and its settings
abbrev pub lines_of : List ℕ → List ℕ → ℕ → List ℕ
lines_of sources st n = switch_lines sources (ports_per_tile * n) ++ (cell_lines st n ++ answer_line 0 0)

unfoldable pub accepted_lines : Block → List ℕ → List ℕ → List ℕ
accepted_lines B t st = lines_of (sources_of B t st) st (tiles B)

-- "After a no only the 08 line is printed."
abbrev pub built_lines : Block → List ℕ → List ℕ → Result ℕ Refusal → List ℕ
built_lines B t st (Ok rows) = accepted_lines B t st
built_lines B t st (Err refusal) = answer_line (number_of refusal) (place_of refusal)

-- the report of a block's tiles; every lent length is exact
unfoldable pub block_lines : Block → List ℕ → (ℕ → TileBits) → List ℕ
block_lines B t tile = built_lines B t (decoded t tile (tiles B)) (build_answer B t tile true)

-- the report of what was parsed; a frame has a tile's bytes, and stays so (document 02, W7: "keep the bytes at the file edge")
abbrev pub parsed_lines : List ℕ → Result Block Refusal → List ℕ
parsed_lines s (Ok b) = block_lines b (contents.table_of s) (tiles_of_bytes (bits_of s (b.h * b.w)))
parsed_lines s (Err refusal) = answer_line (number_of refusal) (place_of refusal)

-- the whole report
unfoldable pub report_of : List ℕ → List ℕ
report_of s = parsed_lines s (parsed s)
