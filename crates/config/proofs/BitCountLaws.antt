-- The grounds of a bit count in their order: one law for each way through `bit_count_answer`. Main law: `count_set`. Assumes nothing.
use Rattle.std.specs.Prelude.{Ok, Err}
use mathlib.Core.Path.{◌≡◌}
use mathlib.Core.Logic.{◌≢◌}
use mathlib.Core.Bool.{false}
use mathlib.Core.List.{List}
use Prim.Native.Nat.{ℕ, ◌<◌, ◌≤◌}
use borrow.Author.Tests.{eq-eqb, ne_eqb, lt-ltb, le-ltb}
use lib.ListN.{length}
use Rattle.refusal.specs.declared.Refusal.TheVariants.{WrongSize, WrongLength, OutOfRange}
use Rattle.ports.specs.declared.size.Size.{Size}
use Rattle.ports.specs.Block.{Allowed, tile_count, allowed}
use Rattle.ports.proofs.BlockLaws.{allowed_true}
use Rattle.ports.specs.Lengths.{bits_length}
use Rattle.codec.specs.Bits.{bit_count, bit_at}
use Rattle.config.specs.Blocks.{bits_at}
use Rattle.config.specs.Entry.{bit_count_answer}

module _ (S : Size) (bits : List ℕ) (tile : ℕ) where
  pub count_size : allowed S ≡ false → Err WrongSize ≡ bit_count_answer S bits tile
  unfolding bit_count_answer
  count_size e = rw e

  module _ (s : Allowed S) where
    pub count_length : length bits ≢ bits_length S → Err WrongLength ≡ bit_count_answer S bits tile
    unfolding bit_count_answer
    count_length e = rw (allowed_true S s, ne_eqb (length bits) (bits_length S) e)

    module _ (l : length bits ≡ bits_length S) where
      pub count_range : tile_count S ≤ tile → Err (OutOfRange tile) ≡ bit_count_answer S bits tile
      unfolding bit_count_answer
      count_range e = rw (allowed_true S s, eq-eqb (length bits) (bits_length S) l, le-ltb tile (tile_count S) e)

      pub count_set : tile < tile_count S → Ok (bit_count (bit_at (bits_at bits tile))) ≡ bit_count_answer S bits tile
      unfolding bit_count_answer
      count_set e = rw (allowed_true S s, eq-eqb (length bits) (bits_length S) l, lt-ltb tile (tile_count S) e)
