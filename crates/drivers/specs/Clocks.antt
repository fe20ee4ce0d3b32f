-- Ground 8: "clk of a tile with a flip-flop, or s_r of one with an asynchronous flip-flop, comes from a cell", place "lowest tile".
use Rattle.std.specs.Prelude.{ℕ, ◌≤◌, ◌<◌, ◌≡◌, Bool, true, false, not, ◌&&◌, ◌||◌, List}
use Rattle.ports.specs.Lengths.{cells_per_tile}
use Rattle.lists.specs.Search.{first, some_below}
use Rattle.digits.specs.Digits.{is_set}
use Rattle.ports.specs.declared.size.Block.{Block}
use Rattle.ports.specs.Block.{tiles, tile_port}
use Rattle.ports.specs.PortIndex.{clk, s_r}
use Rattle.fabric.specs.Wire.{wire_of}
use Rattle.equations.specs.Tiles.{flags_at, flop_on}
use Rattle.equations.specs.Equations.{wire}
use Rattle.drivers.specs.declared.follow.Driver.{Driver}
use Rattle.drivers.specs.declared.follow.Driver.TheVariants.{Open, Constant, Cell, Ring}
use Rattle.drivers.specs.Following.{DrivenBy, driver_of}

-- "19 makes that asynchronous": flag 8; without bit 9 it is no flip-flop
abbrev pub async_flop_on : List ℕ → ℕ → ℕ → Bool
async_flop_on st T i = flop_on st T i && is_set (flags_at st T i) 3

module _ (B : Block) (t st : List ℕ) where
  -- following the driver of wire w ends at a cell
  abbrev pub ComesFromCell : ℕ → Type 0
  ComesFromCell w = (u : ℕ) × DrivenBy B t st w (Cell u)

  -- tile T has a flip-flop and its clk comes from a cell, or an asynchronous one and its s_r does
  pub data FromCell (T : ℕ) : Type 0 where
    clock : (i : ℕ) → i < 8 → flop_on st T i ≡ true → ComesFromCell (wire B T clk) → FromCell T
    reset : (i : ℕ) → i < 8 → async_flop_on st T i ≡ true → ComesFromCell (wire B T s_r) → FromCell T

  -- place "lowest tile"
  pub record LowestFromCell (T : ℕ) : Type 0 where
    pub within : T < tiles B
    pub here : FromCell T
    pub least : (U : ℕ) → U < tiles B → FromCell U → T ≤ U

-- ---- computed

-- "the clock check takes the driver answer apart by let else, going on only for an open wire or constant"
abbrev pub is_outside : Driver → Bool
is_outside (Open u) = true
is_outside (Constant u b) = true
is_outside (Cell u) = false
is_outside (Ring u) = false

abbrev pub any_cell : (ℕ → Bool) → Bool
any_cell p = some_below p cells_per_tile

module _ (B : Block) (st sources : List ℕ) where
  abbrev pub driven_outside : ℕ → ℕ → Bool
  driven_outside T q = is_outside (driver_of B sources (wire_of B (tile_port B T q)))

  unfoldable pub clocked_at : ℕ → Bool
  clocked_at T = (any_cell (flop_on st T) && not (driven_outside T clk)) || (any_cell (async_flop_on st T) && not (driven_outside T s_r))

  -- the lowest tile whose clock or reset comes from a cell; the number of tiles where there is none
  unfoldable pub clocked_tile : ℕ
  clocked_tile = first clocked_at 0 (tiles B)
