-- The tests of the lengths are the facts (ground 2). Main laws: `settle_long_exact`, `clock_long_exact`. Assumes nothing.
use mathlib.Core.Path.{◌≡◌}
use mathlib.Core.Logic.{◌↔◌}
use mathlib.Core.Bool.{true}
use borrow.Author.Tests.{eqb-true, eq-eqb}
use Rattle.lists.proofs.CaseLaws.{equal_and, and_equal}
use Rattle.ports.specs.declared.size.Size.{Size}
use Rattle.ports.specs.declared.size.Block.{Block}
use Rattle.ports.specs.Block.{size_of}
use Rattle.ports.specs.Lengths.{table_length, settings_total, state_length, ports, list_length}
use Rattle.moments.specs.Clocking.{values_length}
use Rattle.moments.specs.declared.lengths.SettleRoomLent.{SettleRoomLent}
use Rattle.moments.specs.declared.lengths.SettleLent.{SettleLent}
use Rattle.moments.specs.declared.lengths.ClockLent.{ClockLent}
use Rattle.moments.specs.Lengths.{settle_room_exact, SettleRoomLong, settle_exact, SettleLong, clock_exact, ClockLong}

module _ (B : Block) where
  settle_room_exact_lem : (room : SettleRoomLent) → (settle_room_exact B room ≡ true) ↔ SettleRoomLong B room
  settle_room_exact_lem room = (there, back)
    where
      there : settle_room_exact B room ≡ true → SettleRoomLong B room
      there e =
          let a = equal_and room.values (ports B) _ e in
          let b = equal_and room.wires (ports B) _ a.1 in
          let c = equal_and room.own (ports B) _ b.1 in
          record { values_long = a.0; wires_long = b.0; own_long = c.0; marks_long = eqb-true room.marks (ports B) c.1 }

      back : SettleRoomLong B room → settle_room_exact B room ≡ true
      back r =
          and_equal room.values (ports B) r.values_long
          (and_equal room.wires (ports B) r.wires_long
          (and_equal room.own (ports B) r.own_long (eq-eqb room.marks (ports B) r.marks_long)))

  pub settle_long_exact : (all : SettleLent) → (settle_exact B all ≡ true) ↔ SettleLong B all
  settle_long_exact all = (there, back)
    where
      there : settle_exact B all ≡ true → SettleLong B all
      there e =
          let a = equal_and all.table table_length _ e in
          let b = equal_and all.settings (settings_total (size_of B)) _ a.1 in
          let c = equal_and all.list (list_length B) _ b.1 in
          let d = equal_and all.state (state_length (size_of B)) _ c.1 in
          let f = equal_and all.lent (ports B) _ d.1 in
          record {
            table_long = a.0;
            settings_long = b.0;
            list_long = c.0;
            state_long = d.0;
            lent_long = f.0;
            room_long = (settle_room_exact_lem all.room).0 f.1;
          }

      back : SettleLong B all → settle_exact B all ≡ true
      back r =
          and_equal all.table table_length r.table_long
          (and_equal all.settings (settings_total (size_of B)) r.settings_long
          (and_equal all.list (list_length B) r.list_long
          (and_equal all.state (state_length (size_of B)) r.state_long
          (and_equal all.lent (ports B) r.lent_long ((settle_room_exact_lem all.room).1 r.room_long)))))

module _ (S : Size) where
  pub clock_long_exact : (all : ClockLent) → (clock_exact S all ≡ true) ↔ ClockLong S all
  clock_long_exact all = (there, back)
    where
      there : clock_exact S all ≡ true → ClockLong S all
      there e =
          let a = equal_and all.table table_length _ e in
          let b = equal_and all.settings (settings_total S) _ a.1 in
          let c = equal_and all.state (state_length S) _ b.1 in
          let d = equal_and all.before (values_length S) _ c.1 in
          let f = equal_and all.after (values_length S) _ d.1 in
          record {
            table_long = a.0;
            settings_long = b.0;
            state_long = c.0;
            before_long = d.0;
            after_long = f.0;
            next_long = eqb-true all.next (state_length S) f.1;
          }

      back : ClockLong S all → clock_exact S all ≡ true
      back r =
          and_equal all.table table_length r.table_long
          (and_equal all.settings (settings_total S) r.settings_long
          (and_equal all.state (state_length S) r.state_long
          (and_equal all.before (values_length S) r.before_long
          (and_equal all.after (values_length S) r.after_long (eq-eqb all.next (state_length S) r.next_long)))))
