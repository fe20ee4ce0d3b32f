-- The grounds of `build`, `follow` and `step` in their orders (document 01, 'Grounds for a no'), over the number of an answer and what comes with it.
use Rattle.std.specs.Prelude.{ℕ, ◌<◌, ◌≡◌, List, ◌++◌}
use Rattle.ports.specs.declared.size.Block.{Block}
use Rattle.ports.specs.Block.{Sized, size_of, tiles}
use Rattle.ports.specs.Lengths.{ports_per_tile, ports, state_length}
use Rattle.fabric.specs.Count.{wires}
use Rattle.routing.specs.LogicTile.{logic_tile}
use Rattle.routing.specs.Rules.{TableRules, FirstBroken}
use Rattle.words.specs.Forms.{TileBits}
use Rattle.config.specs.Blocks.{tiles_of}
use Rattle.config.specs.Facts.{LowestFault, LowestBitless}
use Rattle.netlist.specs.Running.{Bits}
use Rattle.netlist.specs.Checking.{FirstBad}
use Rattle.equations.specs.Switches.{NoContention, LowestContention}
use Rattle.equations.specs.Equations.{NoLoop, LowestLooped, wire}
use Rattle.equations.specs.DisabledCarry.{LowestDisabledCarry}
use Rattle.drivers.specs.declared.follow.Driver.{Driver}
use Rattle.drivers.specs.Clocks.{LowestFromCell}
use Rattle.drivers.specs.Following.{DrivenBy}
use Rattle.block.specs.declared.lengths.BuildLent.{BuildLent}
use Rattle.block.specs.declared.lengths.FollowLent.{FollowLent}
use Rattle.block.specs.Lengths.{BuildLong, FollowLong}
use Rattle.block.specs.Drivers.{driver_wire}
use Rattle.block.specs.Meaning.{NoDisabledCarry, NoCellClock}
use Rattle.stepper.specs.Settling.{wire_marks}
use Rattle.sim.specs.declared.lengths.StepLent.{StepLent}
use Rattle.sim.specs.Lengths.{StepLong}
use Rattle.sim.specs.Meaning.{FirstAbove, Stands}
use Rattle.theorem.specs.Order.{Check, Yes, at, at0}
use Rattle.theorem.specs.EntryGrounds.{AllDecodable, AllHaveBits}

-- grounds 5 to 8, of settings that were read; `says` is what comes with a yes
abbrev pub ListGrounds : Block → (table settings : List ℕ) → (says : ℕ → Type 0) → ℕ → ℕ → Type 0
ListGrounds B t st says =
    Check 5 (NoContention B t st) (LowestContention B t st)
    (Check 6 (NoDisabledCarry B t st) (LowestDisabledCarry B t st)
    (Check 7 (NoLoop B t st) (LowestLooped B t st)
    (Check 8 (NoCellClock B t st) (LowestFromCell B t st)
    (Yes says))))

-- grounds 3 to 8, of what has the exact lengths; `settings` is what the tiles read to
abbrev pub BitsGrounds : Block → List ℕ → (ℕ → TileBits) → (settings : List ℕ) → (says : ℕ → Type 0) → ℕ → ℕ → Type 0
BitsGrounds B t tile settings says =
    Check 3 (TableRules logic_tile t) (FirstBroken logic_tile t)
    (Check 4 (AllDecodable t tile (tiles B)) (LowestFault t tile (tiles B))
    (ListGrounds B t settings says))

-- "building 1 to 8"; a yes has the number of wires
abbrev pub BuildGrounds : Block → (table bits settings : List ℕ) → BuildLent → ℕ → ℕ → Type 0
BuildGrounds B t bits settings lent =
    Check 1 (Sized B) at0
    (Check 2 (BuildLong B lent) at0
    (BitsGrounds B t (tiles_of bits) settings (at (wires B))))

-- "following a driver 1, 2, 3, 9, 5, 20", place "that number, a tile's first"; a yes has the wire where it ends
abbrev pub FollowGrounds : Block → (table settings : List ℕ) → (tile port : ℕ) → FollowLent → ℕ → ℕ → Type 0
FollowGrounds B t st tile port lent =
    Check 1 (Sized B) at0
    (Check 2 (FollowLong B lent) at0
    (Check 3 (TableRules logic_tile t) (FirstBroken logic_tile t)
    (Check 9 (AllHaveBits t st (tiles B)) (LowestBitless t st (tiles B))
    (Check 5 (NoContention B t st) (LowestContention B t st)
    (Check 20 (tile < tiles B) (at tile)
    (Check 20 (port < ports_per_tile) (at port)
    (Yes (λ value. (driver : Driver) × DrivenBy B t st (wire B tile port) driver × (value ≡ driver_wire driver)))))))))

-- "a step 1, 2, 3, 9, 12, 10"
abbrev pub StepGrounds : Block → (table settings list state before after : List ℕ) → StepLent → ℕ → ℕ → Type 0
StepGrounds B t st list state before after lent =
    Check 1 (Sized B) at0
    (Check 2 (StepLong B lent) at0
    (Check 3 (TableRules logic_tile t) (FirstBroken logic_tile t)
    (Check 9 (AllHaveBits t st (tiles B)) (LowestBitless t st (tiles B))
    (Check 12 (Stands B t st list state before after lent) (FirstBad list (state_length (size_of B)) (wire_marks B) (ports B))
    (Check 10 (Bits state × Bits before × Bits after) (FirstAbove (state ++ before ++ after))
    (Yes at0))))))
