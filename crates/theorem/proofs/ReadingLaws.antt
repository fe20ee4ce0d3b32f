-- `read` says yes exactly if the table keeps its rules and every tile can be decoded, and then the bits read to one settings only. Main laws:
-- `reads_exactly`, `reads_one`. Assumes nothing.
use Rattle.std.specs.Prelude.{Ok}
use Prim.Native.Nat.{ℕ, ◌<◌}
use mathlib.Core.Path.{◌≡◌, sym}
use mathlib.Core.Logic.{◌↔◌}
use mathlib.Core.List.{List}
use native.Mathlib.Omega.{arith}
use lib.ListN.{length}
use Rattle.ports.specs.declared.size.Size.{Size}
use Rattle.ports.specs.Block.{tile_count}
use Rattle.ports.specs.Lengths.{settings_total}
use Rattle.codec.specs.Reading.{Decodable, ReadsTo}
use Rattle.config.specs.Blocks.{settings_at, tiles_of, decoded}
use Rattle.config.specs.Entry.{read_answer}
use Rattle.config.specs.Facts.{Checked}
use Rattle.config.proofs.EntryLaws.{read_done}
use Rattle.config.proofs.PassedLaws.{read_passed, read_clean}
use Rattle.config.proofs.FaultPlaceLaws.{decodable_no_fault}
use Rattle.config.proofs.BlocksLaws.{decoded_is}

module _ (S : Size) (table bits : List ℕ) (settings : ℕ) where
  pub reads_exactly : (read_answer S table bits settings ≡ (Ok tt))
      ↔ (Checked S table (length bits) settings × ((T : ℕ) → T < tile_count S → Decodable table (tiles_of bits T)))
  reads_exactly = (
    λ done.
        let C = read_passed S table bits settings done in
        (C, read_clean S table bits settings done),
    λ c. sym (read_done S table bits settings c.0 _ (decodable_no_fault table bits c.0.rules (tile_count S) c.1) (omega arith)),
  )

  pub reads_one : read_answer S table bits settings ≡ (Ok tt) → (st : List ℕ) → length st ≡ settings_total S
      → ((T : ℕ) → T < tile_count S → ReadsTo table (tiles_of bits T).bit (settings_at st T)) → decoded table (tiles_of bits) (tile_count S) ≡ st
  reads_one done st long to =
      decoded_is table bits (tile_count S) (read_passed S table bits settings done).rules st long
      (record { decodable = read_clean S table bits settings done; reads = to })
