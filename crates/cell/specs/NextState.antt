-- How a flip-flop's state moves in one step (document 01, 'The list and a step').
--   ticked == the tile's clock edge          next_sync == a cell with a synchronous set or reset
--   rose == from 0 to 1                      next_async == a cell with an asynchronous one
--   next_state == a cell by its settings      bit_of == a flag as 0 or 1
use Rattle.std.specs.Prelude.{ℕ, Bool, cond, ◌&&◌, ◌||◌, eqb}
use Rattle.cell.specs.declared.logic.Cell.{Cell}
use Rattle.cell.specs.declared.flip_flop.Control.{Control}

-- "goes 0 to 1"; of s_r, "a rise"
unfoldable pub rose : ℕ → ℕ → Bool
rose before after = eqb before 0 && eqb after 1

-- "A tile ticks if clk goes 0 to 1 without NegClk, or 1 to 0 with it."
unfoldable pub ticked : Bool → ℕ → ℕ → Bool
ticked inverted before after = cond inverted (eqb before 1 && eqb after 0) (eqb before 0 && eqb after 1)

-- "Synchronous: on a tick, with cen (before) 1, take the set value if s_r (before) is 1, else the lookup (before). Otherwise [..] keep."
-- `enable` is cen and `reset` s_r, both before.
unfoldable pub next_sync : ℕ → Bool → ℕ → ℕ → ℕ → ℕ → ℕ
next_sync state tick enable reset set lookup = cond (tick && eqb enable 1) (cond (eqb reset 1) set lookup) state

-- "Asynchronous: on a tick or a rise of s_r, take the set value if s_r (after) is 1, else the lookup if it ticked and cen (before) is 1.
-- Otherwise [..] keep."
unfoldable pub next_async : ℕ → Bool → Bool → ℕ → ℕ → ℕ → ℕ → ℕ
next_async state tick rise enable after set lookup =
    cond (tick || rise) (cond (eqb after 1) set (cond (tick && eqb enable 1) lookup state)) state

-- a flag as a value; "the set value is bit 18"
abbrev pub bit_of : Bool → ℕ
bit_of on = cond on 1 0

-- "Bit [..] 9 [enables] the flip-flop, 18 sets rather than resets, 19 makes that asynchronous"; "without a flip-flop, keep".
unfoldable pub next_state : Cell → Control → ℕ → ℕ → ℕ
next_state cell control lookup state =
    cond cell.flipflop
    (cond cell.asynchronous
    (next_async state control.tick (rose control.before control.after) control.enable control.after (bit_of cell.set) lookup)
    (next_sync state control.tick control.enable control.before (bit_of cell.set) lookup))
    state
