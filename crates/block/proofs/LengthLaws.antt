-- The tests of the lengths are the facts (ground 2). Main laws: `build_long_exact`, `follow_long_exact`. Assumes nothing.
use mathlib.Core.Path.{◌≡◌}
use mathlib.Core.Logic.{◌↔◌}
use mathlib.Core.Bool.{true}
use borrow.Author.Tests.{eqb-true, eq-eqb}
use Rattle.lists.proofs.CaseLaws.{equal_and, and_equal}
use Rattle.ports.specs.declared.size.Block.{Block}
use Rattle.ports.specs.Block.{size_of}
use Rattle.ports.specs.Lengths.{table_length, bits_length, settings_total, ports, list_length}
use Rattle.block.specs.declared.lengths.RoomLent.{RoomLent}
use Rattle.block.specs.declared.lengths.BuildLent.{BuildLent}
use Rattle.block.specs.declared.lengths.FollowLent.{FollowLent}
use Rattle.block.specs.Lengths.{room_exact, RoomLong, build_exact, BuildLong, follow_exact, FollowLong}

module _ (B : Block) where
  room_long_exact : (lent : RoomLent) → (room_exact B lent ≡ true) ↔ RoomLong B lent
  room_long_exact lent = (there, back)
    where
      there : room_exact B lent ≡ true → RoomLong B lent
      there e =
          let a = equal_and lent.list (list_length B) _ e in
          let b = equal_and lent.wires (ports B) _ a.1 in
          let c = equal_and lent.sources (ports B) _ b.1 in
          let d = equal_and lent.rows (list_length B) _ c.1 in
          let f = equal_and lent.marks (ports B) _ d.1 in
          record {
            list_long = a.0;
            wires_long = b.0;
            sources_long = c.0;
            rows_long = d.0;
            marks_long = f.0;
            queue_long = eqb-true lent.queue (ports B) f.1;
          }

      back : RoomLong B lent → room_exact B lent ≡ true
      back r =
          and_equal lent.list (list_length B) r.list_long
          (and_equal lent.wires (ports B) r.wires_long
          (and_equal lent.sources (ports B) r.sources_long
          (and_equal lent.rows (list_length B) r.rows_long
          (and_equal lent.marks (ports B) r.marks_long (eq-eqb lent.queue (ports B) r.queue_long)))))

  pub build_long_exact : (lent : BuildLent) → (build_exact B lent ≡ true) ↔ BuildLong B lent
  build_long_exact lent = (there, back)
    where
      there : build_exact B lent ≡ true → BuildLong B lent
      there e =
          let a = equal_and lent.table table_length _ e in
          let b = equal_and lent.bits (bits_length (size_of B)) _ a.1 in
          let c = equal_and lent.settings (settings_total (size_of B)) _ b.1 in
          record { table_long = a.0; bits_long = b.0; settings_long = c.0; room_long = (room_long_exact lent.room).0 c.1 }

      back : BuildLong B lent → build_exact B lent ≡ true
      back r =
          and_equal lent.table table_length r.table_long
          (and_equal lent.bits (bits_length (size_of B)) r.bits_long
          (and_equal lent.settings (settings_total (size_of B)) r.settings_long ((room_long_exact lent.room).1 r.room_long)))

  pub follow_long_exact : (lent : FollowLent) → (follow_exact B lent ≡ true) ↔ FollowLong B lent
  follow_long_exact lent = (there, back)
    where
      there : follow_exact B lent ≡ true → FollowLong B lent
      there e =
          let a = equal_and lent.table table_length _ e in
          let b = equal_and lent.settings (settings_total (size_of B)) _ a.1 in
          let c = equal_and lent.wires (ports B) _ b.1 in
          let d = equal_and lent.sources (ports B) _ c.1 in
          record {
            table_long = a.0;
            settings_long = b.0;
            wires_long = c.0;
            sources_long = d.0;
            marks_long = eqb-true lent.marks (ports B) d.1;
          }

      back : FollowLong B lent → follow_exact B lent ≡ true
      back r =
          and_equal lent.table table_length r.table_long
          (and_equal lent.settings (settings_total (size_of B)) r.settings_long
          (and_equal lent.wires (ports B) r.wires_long
          (and_equal lent.sources (ports B) r.sources_long (eq-eqb lent.marks (ports B) r.marks_long))))
