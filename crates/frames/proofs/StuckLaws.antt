-- Where a test of specs/Lines.antt fails, no frame that is due stands there. Main laws: `stuck_begun`, `stuck_fields`, `stuck_groups`,
-- `stuck_tiles`, `stuck_end`.
use Prim.Native.Nat.{ℕ, ◌<◌}
use mathlib.Core.Path.{◌≡◌}
use mathlib.Core.Bool.{false}
use mathlib.Core.Logic.{◌≢◌}
use mathlib.Core.List.{List}
use native.Mathlib.Omega.{arith}
use lib.ListN.{length}
use Rattle.lists.proofs.CaseLaws.{clash}
use Rattle.frames.specs.Frames.{Frame, line, Proper}
use Rattle.frames.specs.Lines.{fields_line, passive_line, group_line, size_line, tile_line}
use Rattle.texts.specs.Pieces.{Stands}
use Rattle.frames.specs.Meaning.{Stage, begun, with_fields, with_groups, tiles_left, Turn, the_fields, the_passives, a_group, the_size, a_tile, Stuck}
use Rattle.frames.proofs.FrameTestLaws.{fields_passes, passives_passes, group_passes, size_passes, tile_passes}

module _ (s : List ℕ) where
  pub stuck_begun : fields_line s ≡ false → Stuck s 0 begun
  stuck_begun e = record { none_due = none; not_whole = λ q. absurd (let z : ◌≡◌ {A = ℕ} 0 1 = cc in omega arith) }
    where
      none : (f : Frame) (next : Stage) → Turn begun f next → Proper f → Stands s 0 (line f) → ⊥
      none f next (the_fields {a} {b} {c}) p h = clash (fields_passes s a b c h) e

  pub stuck_fields : passive_line s ≡ false → Stuck s 15 with_fields
  stuck_fields e = record { none_due = none; not_whole = λ q. absurd (let z : ◌≡◌ {A = ℕ} 0 1 = cc in omega arith) }
    where
      none : (f : Frame) (next : Stage) → Turn with_fields f next → Proper f → Stands s 15 (line f) → ⊥
      none f next (the_passives {positions}) p h = clash (passives_passes s positions p.0 h) e

  -- a group is due only below 512 of them
  pub stuck_groups : (at g : ℕ) → (g < 512 → group_line s at ≡ false) → size_line s at ≡ false → Stuck s at (with_groups g)
  stuck_groups at g d e = record { none_due = none g d; not_whole = λ q. absurd (let z : ◌≡◌ {A = ℕ} 0 1 = cc in omega arith) }
    where
      none : (g : ℕ) → (g < 512 → group_line s at ≡ false) → (f : Frame) (next : Stage) → Turn (with_groups g) f next → Proper f → Stands s at (line f) → ⊥
      none g d f next (a_group {x = x} l) p h = clash (group_passes s at x p h) (d l)
      none g d f next (the_size {w = w} {h = k} {extra = x}) p h = clash (size_passes s at w k x p h) e

  pub stuck_tiles : (at n : ℕ) → n ≢ 0 → tile_line s at ≡ false → Stuck s at (tiles_left n)
  stuck_tiles at n some e = record { none_due = none n; not_whole = λ q. absurd (some (cc)) }
    where
      none : (n : ℕ) (f : Frame) (next : Stage) → Turn (tiles_left n) f next → Proper f → Stands s at (line f) → ⊥
      none n f next (a_tile {bytes = bytes}) p h = clash (tile_passes s at bytes p h) e

  -- where all is there, something more stands behind it
  pub stuck_end : (at n : ℕ) → n ≡ 0 → at ≢ length s → Stuck s at (tiles_left n)
  stuck_end at n end more = record { none_due = none n end; not_whole = λ q. more }
    where
      none : (n : ℕ) → n ≡ 0 → (f : Frame) (next : Stage) → Turn (tiles_left n) f next → Proper f → Stands s at (line f) → ⊥
      none n end f next a_tile p h = omega arith
