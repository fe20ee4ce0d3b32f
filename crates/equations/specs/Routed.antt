-- What the checks of the table (ground 3) and of the settings (ground 4 or 9) establish, as far as the equations need it; and what the code
-- that writes the rows needs.
use Rattle.std.specs.Prelude.{ℕ, ◌*◌, ◌≤◌, ◌<◌, ◌≡◌, true, List, length}
use Rattle.ports.specs.declared.size.Block.{Block}
use Rattle.ports.specs.Block.{tiles, Sized}
use Rattle.fabric.specs.Wire.{wires_of}
use Rattle.routing.specs.LogicTile.{logic_tile, is_destination, is_source}
use Rattle.ports.specs.Lengths.{table_length, max_groups, max_entries, settings_length}
use Rattle.routing.specs.Table.{group_count, destination_of, entry_count, source_at}
use Rattle.equations.specs.declared.drives.Drive.{Drive}
use Rattle.equations.specs.declared.drives.Drive.TheVariants.{Nothing, Low, High, CellOut, CellLout, CellCout, CarryMux}
use Rattle.equations.specs.Tiles.{group_of, carry_set, chained}

pub record Routed (B : Block) (t st : List ℕ) : Type 0 where
  pub size : Sized B
  pub table_long : length t ≡ table_length
  pub settings_long : length st ≡ settings_length * tiles B
  pub few_groups : group_count logic_tile t ≤ max_groups
  pub few_entries : (g : ℕ) → g < group_count logic_tile t → entry_count logic_tile t g ≤ max_entries
  pub destinations : (g : ℕ) → g < group_count logic_tile t → is_destination (destination_of logic_tile t g) ≡ true
  pub sources : (g e : ℕ) → g < group_count logic_tile t → e < entry_count logic_tile t g → is_source (source_at logic_tile t g e) ≡ true
  -- a group's setting is off or one of its entries
  pub entries : (T g : ℕ) → T < tiles B → g < group_count logic_tile t → group_of st T g ≤ entry_count logic_tile t g
  -- CarryInSet does not go with the chain switch
  pub one_carry : (T : ℕ) → T < tiles B → carry_set st T ≡ true → chained st T ≡ true → ⊥

-- the settings are as long as they must be, and `wires` has the wire of each port
pub record Mapped (B : Block) (st wires : List ℕ) : Type 0 where
  pub size : Sized B
  pub settings_long : length st ≡ settings_length * tiles B
  pub wired : wires ≡ wires_of B

-- tile and cell of a drive are the block's
abbrev pub Driven : Block → Drive → Type 0
Driven B Nothing = Unit {0}
Driven B Low = Unit {0}
Driven B High = Unit {0}
Driven B (CellOut T i) = (T < tiles B) × (i < 8)
Driven B (CellLout T i) = (T < tiles B) × (i < 8)
Driven B (CellCout T i) = (T < tiles B) × (i < 8)
Driven B (CarryMux T) = T < tiles B
