-- What the answers of `follow` say, in the paper's words. proofs/DriverMeaningLaws.antt shows it of every answer.
use Rattle.std.specs.Prelude.{ℕ, ◌<◌, ◌≤◌, ◌≡◌, ◌⊎◌, List, Result, Ok, Err}
use Rattle.refusal.specs.declared.Refusal.{Refusal}
use Rattle.refusal.specs.declared.Refusal.TheVariants.{WrongSize, WrongLength, Table, Contention, NoSuchSettings, OutOfRange}
use Rattle.ports.specs.declared.size.Block.{Block}
use Rattle.ports.specs.Block.{tiles, Sized}
use Rattle.ports.specs.Lengths.{ports_per_tile}
use Rattle.routing.specs.LogicTile.{logic_tile}
use Rattle.routing.specs.Rules.{TableRules, FirstBroken}
use Rattle.codec.specs.Reading.{HasBits}
use Rattle.config.specs.Blocks.{settings_at}
use Rattle.config.specs.Facts.{LowestBitless}
use Rattle.equations.specs.Switches.{NoContention, LowestContention}
use Rattle.equations.specs.Equations.{wire}
use Rattle.drivers.specs.declared.follow.Driver.{Driver}
use Rattle.drivers.specs.Following.{DrivenBy}
use Rattle.block.specs.declared.lengths.FollowLent.{FollowLent}
use Rattle.block.specs.Lengths.{FollowLong}

-- "a port (0 to 505 in its tile), tile [..] out of range", place "that number, a tile's first"
abbrev pub OutOfBlock : Block → (tile port : ℕ) → ℕ → Type 0
OutOfBlock B tile port number = ((tiles B ≤ tile) × (number ≡ tile)) ⊎ ((tile < tiles B) × (ports_per_tile ≤ port) × (number ≡ port))

module _ (B : Block) (t st : List ℕ) (tile port : ℕ) where
  -- "Following a driver from a tile's port ends at an open wire, a constant, a cell, or reports a ring."
  pub record FollowedTo (driver : Driver) : Type 0 where
    pub no_contention : NoContention B t st
    pub tile_within : tile < tiles B
    pub port_within : port < ports_per_tile
    pub driven : DrivenBy B t st (wire B tile port) driver

module _ (B : Block) (t st : List ℕ) (tile port : ℕ) (lent : FollowLent) where
  -- none of grounds 1, 2, 3 and 9
  pub record Followable : Type 0 where
    pub size : Sized B
    pub lengths : FollowLong B lent
    pub rules : TableRules logic_tile t
    pub has_bits : (T : ℕ) → T < tiles B → HasBits t (settings_at st T)

  -- "following a driver [checks] 1, 2, 3, 9, 5, 20": what each no says; there is no other
  pub data FollowNo : Refusal → Type 0 where
    wrong_size : (Sized B → ⊥) → FollowNo WrongSize
    wrong_length : Sized B → (FollowLong B lent → ⊥) → FollowNo WrongLength
    broken : (part : ℕ) → Sized B → FollowLong B lent → FirstBroken logic_tile t part → FollowNo (Table part)
    bitless : (T : ℕ) → Sized B → FollowLong B lent → TableRules logic_tile t → LowestBitless t st (tiles B) T → FollowNo (NoSuchSettings T)
    contention : (x : ℕ) → Followable → LowestContention B t st x → FollowNo (Contention x)
    out_of_range : (number : ℕ) → Followable → NoContention B t st → OutOfBlock B tile port number → FollowNo (OutOfRange number)

  -- what an answer of following says
  abbrev pub FollowSays : Result Driver Refusal → Type 0
  FollowSays (Ok driver) = Followable × FollowedTo B t st tile port driver
  FollowSays (Err refusal) = FollowNo refusal
