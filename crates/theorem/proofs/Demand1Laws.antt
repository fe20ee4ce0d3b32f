-- Demand 1, closed: `demand1`. Assumes nothing.
use Prim.Native.Nat.{ℕ}
use mathlib.Core.Path.{◌≡◌}
use mathlib.Core.Logic.{◌⊎◌, inl, inr, ◌≢◌}
use mathlib.Core.List.{List}
use borrow.Author.Tests.{ne_eqb}
use lib.ListN.{length}
use Rattle.lists.specs.Tables.{zeros}
use Rattle.refusal.specs.Memory.{work_room}
use Rattle.refusal.proofs.MemoryLaws.{output_refused}
use Rattle.asc.specs.Area.{area_at}
use Rattle.theorem.specs.Demand1.{Demand1}
use Rattle.theorem.proofs.EntryOrder.{wire_number_order, lookup_order, bit_count_order, read_order, write_order}
use Rattle.theorem.proofs.CompareOrder.{compare_order, part_order}
use Rattle.theorem.proofs.FormOrder.{words_order, bytes_order}
use Rattle.theorem.proofs.FileOrder.{file_read_order, file_length_order, file_write_order}
use Rattle.theorem.proofs.BlockOrder.{build_order, follow_order}
use Rattle.theorem.proofs.StepOrder.{step_order}
use Rattle.theorem.proofs.ContentionOrder.{contentions_order}
use Rattle.theorem.proofs.ParseOrder.{parse_order}
use Rattle.theorem.proofs.ReportOrder.{report_order}

room_untouched : (number : ℕ) → (number ≡ 1) ⊎ (number ≡ 2) → (old : List ℕ) → work_room number old ≡ old
room_untouched number (inl e) old = rw e
room_untouched number (inr e) old = rw e

room_zeroed : (number : ℕ) → number ≢ 1 → number ≢ 2 → (old : List ℕ) → work_room number old ≡ zeros (length old)
room_zeroed number a b old = rw (ne_eqb number 1 a, ne_eqb number 2 b)

pub demand1 : Demand1
demand1 = record {
  wire_number_lem = wire_number_order;
  lookup = lookup_order;
  bit_count_lem = bit_count_order;
  read = read_order;
  write = write_order;
  compare = compare_order;
  tile_part = part_order;
  file_read = λ S x y. file_read_order (area_at S x y);
  file_length = λ S x y. file_length_order (area_at S x y);
  file_write = λ S x y. file_write_order (area_at S x y);
  words_of_bytes = words_order;
  bytes_of_words = bytes_order;
  build = build_order;
  follow = follow_order;
  step = step_order;
  contentions = contentions_order;
  parse = parse_order;
  report = report_order;
  outputs_kept = λ refusal old new. output_refused old new refusal;
  room_untouched = room_untouched;
  room_zeroed = room_zeroed;
}
