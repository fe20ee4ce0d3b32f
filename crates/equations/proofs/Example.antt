-- The sample of document 01, 'Frames and one whole run': one tile, local_g0_0 from out 0, in_0 of cell 0 from local_g0_0, table 5555, flip-flop. Its
-- rows, and the loop that it has with the flip-flop off. Assumes nothing.
use Prim.Native.Nat.{ℕ}
use mathlib.Core.Path.{◌≡◌, refl}
use mathlib.Core.List.{List, [], ◌∷◌, ◌++◌}
use native.Mathlib.Omega.{arith}
use Rattle.lists.specs.Search.{first}
use Rattle.lists.specs.Tables.{zeros}
use Rattle.ports.specs.Block.{block}
use Rattle.ports.specs.Ports.{port_at}
use Rattle.fabric.specs.Span.{walk, flip}
use Rattle.fabric.specs.Wire.{wire_of, wire_at}
use Rattle.netlist.specs.Rows.{numbers_of}
use Rattle.routing.proofs.Example.{sample_table}
use Rattle.equations.specs.Switches.{enabled, target, origin}
use Rattle.equations.specs.Equations.{switch_reads, out_reads, Depends, reads, via}
use Rattle.equations.specs.Drives.{drive_at, drive_of}
use Rattle.equations.specs.WireRows.{ends_on, row_of, drive_row}

-- what the line of frame 05 reads to: both groups at their first entry, cell 0 with table 5555 and these flags
abbrev settings : ℕ → List ℕ
settings flags = zeros 67 ++ (1 ∷ 1 ∷ []) ++ zeros 510 ++ (0x5555 ∷ flags ∷ []) ++ zeros 14

-- the row of wire w, with the flip-flop (flag 2) and without
abbrev sample_row : ℕ → List ℕ
sample_row w = numbers_of (row_of (block 1 1 0) sample_table (settings 2) w)

abbrev looping_row : ℕ → List ℕ
looping_row w = numbers_of (row_of (block 1 1 0) sample_table (settings 0) w)

-- 336 (150 hex) copies 404, 372 copies 336, 404 is flip-flop 0, lout 0 still reads its in ports; the others have no switch
pub sample_rows :
    (sample_row 336 ≡ 5 ∷ 336 ∷ 404 ∷ 0 ∷ 0 ∷ 0 ∷ 0 ∷ [])
    × (sample_row 372 ≡ 5 ∷ 372 ∷ 336 ∷ 0 ∷ 0 ∷ 0 ∷ 0 ∷ [])
    × (sample_row 404 ≡ 4 ∷ 404 ∷ 0 ∷ 0 ∷ 0 ∷ 0 ∷ 0 ∷ [])
    × (sample_row 497 ≡ 6 ∷ 497 ∷ 372 ∷ 373 ∷ 374 ∷ 375 ∷ 0x5555 ∷ [])
    × (sample_row 0 ≡ 1 ∷ 0 ∷ 0 ∷ 0 ∷ 0 ∷ 0 ∷ 0 ∷ [])
    × (sample_row 476 ≡ 2 ∷ 476 ∷ 0 ∷ 0 ∷ 0 ∷ 0 ∷ 0 ∷ [])
    × (sample_row 477 ≡ 3 ∷ 477 ∷ 0 ∷ 0 ∷ 0 ∷ 0 ∷ 0 ∷ [])
    × (sample_row 487 ≡ 1 ∷ 487 ∷ 0 ∷ 0 ∷ 0 ∷ 0 ∷ 0 ∷ [])
    × (sample_row 488 ≡ 2 ∷ 488 ∷ 0 ∷ 0 ∷ 0 ∷ 0 ∷ 0 ∷ [])
unfolding row_of first ends_on drive_of drive_at drive_row enabled target origin wire_of wire_at port_at walk flip
sample_rows = (refl, refl, refl, refl, refl, refl, refl, refl, refl)

-- without the flip-flop 404 is a lookup ..
pub looping_row_lem : looping_row 404 ≡ 6 ∷ 404 ∷ 372 ∷ 373 ∷ 374 ∷ 375 ∷ 0x5555 ∷ []
unfolding row_of first ends_on drive_of drive_at drive_row enabled target origin wire_of wire_at port_at walk flip
looping_row_lem = refl

-- .. "The run above with flip-flop bit 45 clear: 7, place 0150 hex": 336 depends on itself
pub looping_depends : Depends (block 1 1 0) sample_table (settings 0) 336 336
unfolding enabled target origin wire_of wire_at port_at walk flip
looping_depends =
    via (switch_reads 0 (omega arith) refl) (via (out_reads 0 0 0 (omega arith) (omega arith) (omega arith) refl) (reads (switch_reads 1 (omega arith) refl)))
