-- The cases of `wire_number`, and what they say of the joins. Main law: `wire_number_joins`.
use Rattle.std.specs.Prelude.{Ok, Err}
use Prim.Native.Nat.{ℕ, ◌≤◌, ◌<◌}
use mathlib.Core.Path.{◌≡◌}
use mathlib.Core.Bool.{false}
use borrow.Author.Tests.{lt-ltb, le-ltb}
use Rattle.refusal.specs.declared.Refusal.TheVariants.{WrongSize, OutOfRange}
use Rattle.ports.specs.declared.size.Block.{Block}
use Rattle.ports.specs.Block.{Sized, sized, tiles, port_of}
use Rattle.ports.specs.Lengths.{ports, ports_per_tile}
use Rattle.fabric.specs.Wire.{wire_of}
use Rattle.fabric.specs.WireNumber.{wire_number, IsWire}
use Rattle.ports.proofs.BlockLaws.{sized_true}
use Rattle.fabric.proofs.WireLaws.{wire_lowest}

module _ (B : Block) (t q : ℕ) where
  pub wire_number_size : sized B ≡ false → Err WrongSize ≡ wire_number B t q
  unfolding wire_number
  wire_number_size h = rw h

  module _ (s : Sized B) where
    pub wire_number_tile : tiles B ≤ t → Err (OutOfRange t) ≡ wire_number B t q
    unfolding wire_number
    wire_number_tile h = rw (sized_true B s, le-ltb t (tiles B) h)

    pub wire_number_port : t < tiles B → ports_per_tile ≤ q → Err (OutOfRange q) ≡ wire_number B t q
    unfolding wire_number
    wire_number_port h g = rw (sized_true B s, lt-ltb t (tiles B) h, le-ltb q ports_per_tile g)

    pub wire_number_wire : t < tiles B → q < ports_per_tile → Ok (wire_of B (port_of t q)) ≡ wire_number B t q
    unfolding wire_number
    wire_number_wire h g = rw (sized_true B s, lt-ltb t (tiles B) h, lt-ltb q ports_per_tile g)

    pub wire_number_joins : (r : ℕ) → port_of t q < ports B → r ≡ wire_of B (port_of t q) → IsWire B (port_of t q) (Ok r)
    wire_number_joins r h e z = rw e (wire_lowest B (port_of t q) h)
