-- What `follow` answers ("following a driver [checks] 1, 2, 3, 9, 5, 20 [..] in these orders").
use Rattle.refusal.specs.declared.Refusal.{Refusal}
use Rattle.std.specs.Prelude.{ℕ, zero, suc, Bool, List, ltb, Result, Ok, Err}
use Rattle.refusal.specs.Grounds.{unless, place_of}
use Rattle.refusal.specs.declared.Refusal.TheVariants.{WrongSize, WrongLength, Table, NoSuchSettings, Contention, OutOfRange}
use Rattle.ports.specs.declared.size.Block.{Block}
use Rattle.ports.specs.Block.{tiles, sized, tile_port}
use Rattle.ports.specs.Lengths.{ports, ports_per_tile}
use Rattle.fabric.specs.Wire.{wire_of}
use Rattle.routing.specs.LogicTile.{logic_tile}
use Rattle.routing.specs.TableCheck.{faulty_part, table_ok}
use Rattle.config.specs.Blocks.{bitless_tile}
use Rattle.equations.specs.Sources.{contended_wire, sources_of}
use Rattle.drivers.specs.declared.follow.Driver.{Driver}
use Rattle.drivers.specs.declared.follow.Driver.TheVariants.{Open, Constant, Cell, Ring}
use Rattle.drivers.specs.Following.{driver_of}
use Rattle.block.specs.Building.{none}

-- "ends at an open wire, a constant, a cell, or reports a ring": 1 open, 2 and 3 the constants 0 and 1, 4 a cell, 5 a ring
abbrev pub driver_kind : Driver → ℕ
driver_kind (Open u) = 1
driver_kind (Constant u zero) = 2
driver_kind (Constant u (suc b)) = 3
driver_kind (Cell u) = 4
driver_kind (Ring u) = 5

-- "The answer gives the wire it ends at (a ring's lowest)"
abbrev pub driver_wire : Driver → ℕ
driver_wire (Open u) = u
driver_wire (Constant u b) = u
driver_wire (Cell u) = u
driver_wire (Ring u) = u

-- what comes with an answer: that wire, or the place of a no
abbrev pub followed_value : Result Driver Refusal → ℕ
followed_value (Ok driver) = driver_wire driver
followed_value (Err refusal) = place_of refusal

-- grounds 5 and 20, of settings that some bits have
unfoldable pub port_answer : Block → List ℕ → List ℕ → ℕ → ℕ → Result Driver Refusal
port_answer B t st tile port =
    unless (none (ports B) (contended_wire B t st)) (Err (Contention (contended_wire B t st)))
    (unless (ltb tile (tiles B)) (Err (OutOfRange tile))
    (unless (ltb port ports_per_tile) (Err (OutOfRange port))
    (Ok (driver_of B (sources_of B t st) (wire_of B (tile_port B tile port))))))

-- grounds 3, 9, 5 and 20
unfoldable pub settings_answer : Block → List ℕ → List ℕ → ℕ → ℕ → Result Driver Refusal
settings_answer B t st tile port =
    unless (table_ok logic_tile t) (Err (Table (faulty_part logic_tile t)))
    (unless (none (tiles B) (bitless_tile t st (tiles B))) (Err (NoSuchSettings (bitless_tile t st (tiles B))))
    (port_answer B t st tile port))

-- grounds 1, 2, 3, 9, 5 and 20; `lengths` is whether every lent length is the exact one
unfoldable pub follow_answer : Block → List ℕ → List ℕ → ℕ → ℕ → Bool → Result Driver Refusal
follow_answer B t st tile port lengths =
    unless (sized B) (Err WrongSize) (unless lengths (Err WrongLength) (settings_answer B t st tile port))
