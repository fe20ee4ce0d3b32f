-- What checks 1 to 4 show, over the answers of `read` and `build`. Main laws: `readable_of_four`, `readable_built`, `readable_routed`.
-- Assumes nothing.
use Prim.Native.Nat.{ℕ, ◌*◌, ◌≤◌, ◌<◌}
use mathlib.Core.Path.{◌≡◌, sym, subst, ◌∙◌}
use mathlib.Core.Bool.{true}
use mathlib.Core.List.{List}
use native.Mathlib.Omega.{arith}
use lib.ListN.{length}
use Rattle.ports.specs.declared.size.Block.{Block}
use Rattle.ports.specs.Block.{size_of, tiles}
use Rattle.ports.proofs.BlockLaws.{sized_of_allowed, sized_true}
use Rattle.routing.specs.LogicTile.{logic_tile}
use Rattle.routing.proofs.TableCheckLaws.{table_exact}
use Rattle.codec.specs.Limits.{settings_fit}
use Rattle.codec.proofs.ReadingLaws.{decode_fits}
use Rattle.config.specs.Blocks.{bits_at, settings_at, fault_place, tiles_of}
use Rattle.config.proofs.PassedLaws.{read_passed, read_clean}
use Rattle.config.proofs.BlocksLaws.{decoded_length, decoded_at_lem, decoded_reads}
use Rattle.config.proofs.FaultPlaceLaws.{decodable_no_fault}
use Rattle.equations.specs.Routed.{Routed}
use Rattle.block.specs.declared.lengths.RoomLent.{RoomLent}
use Rattle.block.specs.declared.lengths.BuildLent.{BuildLent}
use Rattle.block.specs.Lengths.{build_lent, build_exact}
use Rattle.block.specs.Building.{list_answer}
use Rattle.block.specs.Meaning.{Readable}
use Rattle.block.proofs.LengthLaws.{build_long_exact}
use Rattle.block.proofs.BuildingLaws.{bits_list, build_bits}
use Rattle.block.proofs.RoutedLaws.{routed_fits}
use Rattle.contention.specs.Entry.{settings_read}
use Rattle.theorem.specs.Calls.{PassesFour, built}

module _ (B : Block) (t bits settings : List ℕ) (room : RoomLent) where
  abbrev lent : BuildLent
  lent = build_lent t bits settings room

  abbrev st : List ℕ
  st = settings_read B t bits

  pub readable_of_four : PassesFour B t bits settings room → Readable B t bits (build_lent t bits settings room)
  readable_of_four p =
      let C = read_passed (size_of B) t bits (length settings) p.read_done in
      record {
        size = sized_of_allowed B p.east_known C.size;
        lengths = record {
          table_long = C.lengths.table_long;
          bits_long = C.lengths.bits_long;
          settings_long = C.lengths.settings_long;
          room_long = p.room_long;
        };
        rules = C.rules;
        tiles_read_lem = decoded_reads t bits (tiles B) C.rules (read_clean (size_of B) t bits (length settings) p.read_done);
      }

  module _ (R : Readable B t bits (build_lent t bits settings room)) where
    pub settings_fit_lem : (T : ℕ) → T < tiles B → settings_fit t (settings_at (settings_read B t bits) T) ≡ true
    settings_fit_lem T l =
        subst (λ (s : List ℕ). settings_fit t s ≡ true) (sym (decoded_at_lem t bits (tiles B) T l))
        (decode_fits t (bits_at bits T) R.rules (R.tiles_read_lem.decodable T l))

    pub readable_routed : Routed B t (settings_read B t bits)
    readable_routed = routed_fits B t st R.size R.rules (decoded_length t bits (tiles B)) settings_fit_lem

    no_fault : logic_tile.positions * tiles B ≤ fault_place t (tiles_of bits) (tiles B)
    no_fault = let e = decodable_no_fault t bits R.rules (tiles B) R.tiles_read_lem.decodable in omega arith

    -- what is left are grounds 5 to 8
    pub readable_built : built B t bits settings room ≡ list_answer B t (settings_read B t bits)
    readable_built =
        sym (bits_list B t bits ((table_exact logic_tile t R.lengths.table_long).1 R.rules) no_fault
        ∙ build_bits B t bits (build_exact B lent) (sized_true B R.size) ((build_long_exact B lent).1 R.lengths))
