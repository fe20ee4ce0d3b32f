-- The answers of following a driver, ground by ground, each where the grounds before it have passed; and the work room after any answer.
-- Main laws: `port_driven`, `settings_are`, `follow_settings`; `follow_room`. Assumes nothing.
use Rattle.config.specs.Entry as config
use Rattle.drivers.specs.declared.follow.Driver.{Driver}
use Rattle.refusal.specs.Grounds.{answer_number}
use Rattle.refusal.specs.declared.Refusal.{Refusal}
use Rattle.std.specs.Prelude.{Result, Ok, Err}
use Prim.Native.Nat.{ℕ, ◌<◌, ◌≤◌}
use mathlib.Core.Path.{◌≡◌, refl, sym, ap, ◌∙◌}
use mathlib.Core.Logic.{◌≢◌}
use mathlib.Core.Bool.{Bool, true, false}
use mathlib.Core.List.{List}
use borrow.Author.Tests.{ne_eqb, le-leb, lt-leb, lt-ltb, le-ltb}
use lib.Dec.{ltb}
use lib.ListN.{length}
use Rattle.lists.specs.Tables.{zeros}
use Rattle.refusal.specs.Memory.{work_room}
use Rattle.refusal.specs.declared.Refusal.TheVariants.{WrongSize, WrongLength, Table, NoSuchSettings, Contention, OutOfRange}
use Rattle.ports.specs.declared.size.Block.{Block}
use Rattle.ports.specs.Block.{tiles, sized, port_of}
use Rattle.ports.specs.Lengths.{ports, ports_per_tile}
use Rattle.fabric.specs.Wire.{wire_of}
use Rattle.routing.specs.LogicTile.{logic_tile}
use Rattle.routing.specs.TableCheck.{faulty_part, part_count, table_ok}
use Rattle.config.specs.Blocks.{bitless_tile}
use Rattle.equations.specs.Sources.{contended_wire, sources_of}
use Rattle.drivers.specs.Following.{driver_of}
use Rattle.block.specs.Building.{none}
use Rattle.block.specs.Drivers.{port_answer, settings_answer, follow_answer}
use Rattle.refusal.proofs.GroundsLaws.{unless_cases}

-- ---- grounds 5 and 20

module _ (B : Block) (t st : List ℕ) (tile port : ℕ) where
  pub port_contended : (w : ℕ) → w ≡ contended_wire B t st → w < ports B → Err (Contention w) ≡ port_answer B t st tile port
  unfolding port_answer
  port_contended w e l = rw (← e, lt-leb (ports B) w l)

  module _ (free : ports B ≤ contended_wire B t st) where
    pub port_no_tile : tiles B ≤ tile → Err (OutOfRange tile) ≡ port_answer B t st tile port
    unfolding port_answer
    port_no_tile l = rw (le-leb (ports B) (contended_wire B t st) free, le-ltb tile (tiles B) l)

    module _ (within : tile < tiles B) where
      pub port_no_port : ports_per_tile ≤ port → Err (OutOfRange port) ≡ port_answer B t st tile port
      unfolding port_answer
      port_no_port l = rw (le-leb (ports B) (contended_wire B t st) free, lt-ltb tile (tiles B) within, le-ltb port ports_per_tile l)

      pub port_driven : port < ports_per_tile → Ok (driver_of B (sources_of B t st) (wire_of B (port_of tile port))) ≡ port_answer B t st tile port
      unfolding port_answer
      port_driven l = rw (le-leb (ports B) (contended_wire B t st) free, lt-ltb tile (tiles B) within, lt-ltb port ports_per_tile l)

  -- ---- grounds 3 and 9

  pub settings_table : (p : ℕ) → p ≡ faulty_part logic_tile t → p ≢ part_count logic_tile t → Err (Table p) ≡ settings_answer B t st tile port
  unfolding settings_answer
  settings_table p e n = rw (← e, ne_eqb p (part_count logic_tile t) n)

  module _ (pass : table_ok logic_tile t ≡ true) where
    pub settings_bitless : (T : ℕ) → T ≡ bitless_tile t st (tiles B) → T < tiles B → Err (NoSuchSettings T) ≡ settings_answer B t st tile port
    unfolding settings_answer
    settings_bitless T e l = rw (pass, ← e, lt-leb (tiles B) T l)

    pub settings_port : tiles B ≤ bitless_tile t st (tiles B) → port_answer B t st tile port ≡ settings_answer B t st tile port
    unfolding settings_answer
    settings_port l = rw (pass, le-leb (tiles B) (bitless_tile t st (tiles B)) l)

  -- they are those of `config`, in front of grounds 5 and 20
  pub settings_are : config.settings_answer t st (tiles B) (port_answer B t st tile port) ≡ settings_answer B t st tile port
  unfolding settings_answer config.settings_answer
  settings_are = refl

-- ---- grounds 1 and 2

module _ (B : Block) (t st : List ℕ) (tile port : ℕ) (lengths : Bool) where
  pub follow_size : sized B ≡ false → Err WrongSize ≡ follow_answer B t st tile port lengths
  unfolding follow_answer
  follow_size e = rw e

  module _ (size : sized B ≡ true) where
    pub follow_length : lengths ≡ false → Err WrongLength ≡ follow_answer B t st tile port lengths
    unfolding follow_answer
    follow_length e = rw (size, e)

    pub follow_settings : lengths ≡ true → settings_answer B t st tile port ≡ follow_answer B t st tile port lengths
    unfolding follow_answer
    follow_settings e = rw (size, e)

-- ---- the work room

abbrev Zeroed : Result Driver Refusal → Type 0
Zeroed r = (old : List ℕ) → zeros (length old) ≡ work_room (answer_number r) old

-- all grounds but 1 and 2, and a yes, leave it zeroed
pub follow_room : (B : Block) (t st : List ℕ) (tile port : ℕ) → Zeroed (settings_answer B t st tile port)
unfolding settings_answer port_answer
follow_room B t st tile port =
    unless_cases Zeroed (table_ok logic_tile t) _ _ (λ e old. refl)
    (λ e. unless_cases Zeroed (none (tiles B) (bitless_tile t st (tiles B))) _ _ (λ e old. refl)
    (λ e. unless_cases Zeroed (none (ports B) (contended_wire B t st)) _ _ (λ e old. refl)
    (λ e. unless_cases Zeroed (ltb tile (tiles B)) _ _ (λ e old. refl) (λ e. unless_cases Zeroed (ltb port ports_per_tile) _ _ (λ e old. refl) (λ e old. refl)))))

-- a slice of it, whose old contents were cleared after the answer
pub follow_cleared : (B : Block) (t st : List ℕ) (tile port : ℕ) (r : Result Driver Refusal) → r ≡ settings_answer B t st tile port → (old last cleared : List ℕ)
    → length last ≡ length old → cleared ≡ zeros (length last) → cleared ≡ work_room (answer_number r) old
follow_cleared B t st tile port r e old last cleared long is =
    is ∙ ap zeros long ∙ follow_room B t st tile port old ∙ ap (λ (a : Result Driver Refusal). work_room (answer_number a) old) (sym e)
