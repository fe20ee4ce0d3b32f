-- `drives::drive_of` meets its contract: a span or an input by its place in the tile, any other by what the port is, taken from its number. Assumes nothing.
use Rattle.equations.specs.Drives.{drive_at, drive_of}
use Rattle.equations.proofs.RoleLaws.{span_drive, input_drive}
use Rattle.fabric.proofs.WireAtLaws.{name_within}
use Rattle.ports.proofs.PlaceLaws.{tile_column_lt, tile_row_lt}
use Rattle.ports.specs.Lengths.{ports_per_tile}
use mathlib.Core.Path.{◌∙◌, ap}
use Prim.Native.Nat.{◌/◌, ◌%◌}
use native.Mathlib.Omega.{arith}
use Rattle.equations.proofs.drives.drive_of.Goals as goal

-- a span
pub returns-in-0-to-335 : goal.returns-in-0-to-335
returns-in-0-to-335 c = span_drive c.args.b c.args.p c.requires.1 (omega arith)

-- local, glb2local or in
pub returns-in-336-to-403 : goal.returns-in-336-to-403
returns-in-336-to-403 c = input_drive c.args.b c.args.p c.requires.1 (omega arith) (omega arith)

pub drive_at-requires : goal.drive_at-requires
drive_at-requires c =
    let a = c.args in
    let pre = c.requires in
    (pre.0, tile_column_lt a.b a.p pre.1, tile_row_lt a.b a.p pre.1, name_within _ (a.p % ports_per_tile) (omega arith) c.port_at.ensures)

-- any other port
pub returns-in_default : goal.returns-in_default
unfolding drive_of
returns-in_default c =
    let a = c.args in
    c.drive_at.ensures ∙ ap (drive_at a.b (a.p / ports_per_tile % a.b.w) (a.p / ports_per_tile / a.b.w)) c.port_at.ensures
