-- The grounds in their orders: one law for each way through `read_answer` and `write_answer`. Main laws: `read_done`, `write_done`;
-- `lengths_exact`: the test of the lengths and the facts. Assumes nothing.
use Rattle.std.specs.Prelude.{Ok, Err}
use mathlib.Core.Path.{◌≡◌, refl}
use mathlib.Core.Logic.{◌≢◌, ◌↔◌}
use mathlib.Core.Bool.{true, false}
use mathlib.Core.List.{List}
use Prim.Native.Nat.{ℕ, ◌*◌, ◌<◌, ◌≤◌}
use borrow.Author.Tests.{eq-eqb, ne_eqb, le-leb, lt-leb, eqb-true}
use lib.ListN.{length}
use Rattle.lists.proofs.CaseLaws.{equal_and, and_equal}
use Rattle.refusal.specs.declared.Refusal.TheVariants.{WrongSize, WrongLength, Table, Undecodable, NoSuchSettings}
use Rattle.ports.specs.declared.size.Size.{Size}
use Rattle.ports.specs.Block.{Allowed, tile_count, allowed}
use Rattle.ports.proofs.BlockLaws.{allowed_true}
use Rattle.routing.specs.LogicTile.{logic_tile}
use Rattle.ports.specs.Lengths.{table_length, bits_length, settings_total}
use Rattle.routing.specs.TableCheck.{faulty_part, part_count, table_ok}
use Rattle.routing.proofs.TableCheckLaws.{table_exact}
use Rattle.config.specs.Blocks.{fault_place, bitless_tile, tiles_of}
use Rattle.config.specs.Entry.{lengths_ok, read_answer, write_answer, settings_answer}
use Rattle.config.specs.Facts.{ExactLengths, Checked}

-- the test of the lengths and the facts
module _ (S : Size) (table bits settings : ℕ) where
  pub lengths_true : ExactLengths S table bits settings → lengths_ok S table bits settings ≡ true
  lengths_true l =
      and_equal table table_length l.table_long
      (and_equal bits (bits_length S) l.bits_long (eq-eqb settings (settings_total S) l.settings_long))

  pub lengths_exact : (lengths_ok S table bits settings ≡ true) ↔ ExactLengths S table bits settings
  lengths_exact = (facts, lengths_true)
    where
      facts : lengths_ok S table bits settings ≡ true → ExactLengths S table bits settings
      facts e =
          let a = equal_and table table_length _ e in
          let b = equal_and bits (bits_length S) _ a.1 in
          record { table_long = a.0; bits_long = b.0; settings_long = eqb-true settings (settings_total S) b.1 }

-- a table that keeps the rules passes the check, in the check's terms
table_true : (S : Size) (table : List ℕ) (bits settings : ℕ) → Checked S table bits settings → table_ok logic_tile table ≡ true
table_true S table bits settings C = (table_exact logic_tile table C.lengths.table_long).1 C.rules

-- ---- reading, ground by ground

module _ (S : Size) (table bits : List ℕ) (settings : ℕ) where
  pub read_size : allowed S ≡ false → Err WrongSize ≡ read_answer S table bits settings
  unfolding read_answer
  read_size e = rw e

  module _ (s : Allowed S) where
    pub read_length : lengths_ok S (length table) (length bits) settings ≡ false → Err WrongLength ≡ read_answer S table bits settings
    unfolding read_answer
    read_length e = rw (allowed_true S s, e)

    pub read_table : ExactLengths S (length table) (length bits) settings
        → (p : ℕ) → p ≡ faulty_part logic_tile table → p ≢ part_count logic_tile table → Err (Table p) ≡ read_answer S table bits settings
    unfolding read_answer
    read_table l p e n =
        rw (allowed_true S s, lengths_true S (length table) (length bits) settings l, ← e, ne_eqb p (part_count logic_tile table) n)

  module _ (C : Checked S table (length bits) settings) (k : ℕ) (e : k ≡ fault_place table (tiles_of bits) (tile_count S)) where
    pub read_undecodable : k < logic_tile.positions * tile_count S → Err (Undecodable k) ≡ read_answer S table bits settings
    unfolding read_answer
    read_undecodable l =
        rw (
          allowed_true S C.size,
          lengths_true S (length table) (length bits) settings C.lengths,
          table_true S table (length bits) settings C,
          ← e,
          lt-leb (logic_tile.positions * tile_count S) k l,
        )

    pub read_done : logic_tile.positions * tile_count S ≤ k → (Ok tt) ≡ read_answer S table bits settings
    unfolding read_answer
    read_done l =
        rw (
          allowed_true S C.size,
          lengths_true S (length table) (length bits) settings C.lengths,
          table_true S table (length bits) settings C,
          ← e,
          le-leb (logic_tile.positions * tile_count S) k l,
        )

-- ---- writing, ground by ground

module _ (S : Size) (table settings : List ℕ) (bits : ℕ) where
  pub write_size : allowed S ≡ false → Err WrongSize ≡ write_answer S table settings bits
  unfolding write_answer
  write_size e = rw e

  module _ (s : Allowed S) where
    pub write_length : lengths_ok S (length table) bits (length settings) ≡ false → Err WrongLength ≡ write_answer S table settings bits
    unfolding write_answer
    write_length e = rw (allowed_true S s, e)

    pub write_table : ExactLengths S (length table) bits (length settings)
        → (p : ℕ) → p ≡ faulty_part logic_tile table → p ≢ part_count logic_tile table → Err (Table p) ≡ write_answer S table settings bits
    unfolding write_answer
    write_table l p e n =
        rw (allowed_true S s, lengths_true S (length table) bits (length settings) l, ← e, ne_eqb p (part_count logic_tile table) n)

    -- grounds 3 and 9 are those of `settings_answer`
    pub write_settings : ExactLengths S (length table) bits (length settings)
        → settings_answer table settings (tile_count S) (Ok tt) ≡ write_answer S table settings bits
    unfolding write_answer settings_answer
    write_settings l = rw (allowed_true S s, lengths_true S (length table) bits (length settings) l) refl

  module _ (C : Checked S table bits (length settings)) (t : ℕ) (e : t ≡ bitless_tile table settings (tile_count S)) where
    pub write_bitless : t < tile_count S → Err (NoSuchSettings t) ≡ write_answer S table settings bits
    unfolding write_answer
    write_bitless l =
        rw (
          allowed_true S C.size,
          lengths_true S (length table) bits (length settings) C.lengths,
          table_true S table bits (length settings) C,
          ← e,
          lt-leb (tile_count S) t l,
        )

    pub write_done : tile_count S ≤ t → (Ok tt) ≡ write_answer S table settings bits
    unfolding write_answer
    write_done l =
        rw (
          allowed_true S C.size,
          lengths_true S (length table) bits (length settings) C.lengths,
          table_true S table bits (length settings) C,
          ← e,
          le-leb (tile_count S) t l,
        )
