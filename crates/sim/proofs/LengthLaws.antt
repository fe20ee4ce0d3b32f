-- The tests of the lengths are the facts (ground 2). Main law: `step_long_exact`. Assumes nothing.
use mathlib.Core.Path.{◌≡◌}
use mathlib.Core.Logic.{◌↔◌}
use mathlib.Core.Bool.{true}
use borrow.Author.Tests.{eqb-true, eq-eqb}
use Rattle.lists.proofs.CaseLaws.{and_left, and_right, and_true, equal_and, and_equal}
use Rattle.ports.specs.declared.size.Block.{Block}
use Rattle.ports.specs.Block.{size_of}
use Rattle.ports.specs.Lengths.{table_length, settings_total, state_length, ports, list_length}
use Rattle.sim.specs.declared.lengths.InputsLent.{InputsLent}
use Rattle.sim.specs.declared.lengths.StepRoomLent.{StepRoomLent}
use Rattle.sim.specs.declared.lengths.StepLent.{StepLent}
use Rattle.sim.specs.Lengths.{inputs_exact, InputsLong, step_room_exact, StepRoomLong, step_exact, StepLong}

module _ (B : Block) where
  inputs_long_exact : (lent : InputsLent) → (inputs_exact B lent ≡ true) ↔ InputsLong B lent
  inputs_long_exact lent = (there, back)
    where
      there : inputs_exact B lent ≡ true → InputsLong B lent
      there e =
          let a = equal_and lent.table table_length _ e in
          let b = equal_and lent.settings (settings_total (size_of B)) _ a.1 in
          let c = equal_and lent.list (list_length B) _ b.1 in
          let d = equal_and lent.state (state_length (size_of B)) _ c.1 in
          let f = equal_and lent.before (ports B) _ d.1 in
          record {
            table_long = a.0;
            settings_long = b.0;
            list_long = c.0;
            state_long = d.0;
            before_long = f.0;
            after_long = eqb-true lent.after (ports B) f.1;
          }

      back : InputsLong B lent → inputs_exact B lent ≡ true
      back r =
          and_equal lent.table table_length r.table_long
          (and_equal lent.settings (settings_total (size_of B)) r.settings_long
          (and_equal lent.list (list_length B) r.list_long
          (and_equal lent.state (state_length (size_of B)) r.state_long
          (and_equal lent.before (ports B) r.before_long (eq-eqb lent.after (ports B) r.after_long)))))

  step_room_long_exact : (lent : StepRoomLent) → (step_room_exact B lent ≡ true) ↔ StepRoomLong B lent
  step_room_long_exact lent = (there, back)
    where
      there : step_room_exact B lent ≡ true → StepRoomLong B lent
      there e =
          let a = equal_and lent.values (ports B) _ e in
          let b = equal_and lent.next (state_length (size_of B)) _ a.1 in
          let c = equal_and lent.wires (ports B) _ b.1 in
          let d = equal_and lent.own (ports B) _ c.1 in
          let f = equal_and lent.marks (ports B) _ d.1 in
          let g = equal_and lent.first (ports B) _ f.1 in
          record {
            values_long = a.0;
            next_long = b.0;
            wires_long = c.0;
            own_long = d.0;
            marks_long = f.0;
            first_long = g.0;
            second_long = eqb-true lent.second (ports B) g.1;
          }

      back : StepRoomLong B lent → step_room_exact B lent ≡ true
      back r =
          and_equal lent.values (ports B) r.values_long
          (and_equal lent.next (state_length (size_of B)) r.next_long
          (and_equal lent.wires (ports B) r.wires_long
          (and_equal lent.own (ports B) r.own_long
          (and_equal lent.marks (ports B) r.marks_long
          (and_equal lent.first (ports B) r.first_long (eq-eqb lent.second (ports B) r.second_long))))))

  pub step_long_exact : (lent : StepLent) → (step_exact B lent ≡ true) ↔ StepLong B lent
  step_long_exact lent = (there, back)
    where
      there : step_exact B lent ≡ true → StepLong B lent
      there e = record {
        inputs_long = (inputs_long_exact lent.inputs).0 (and_left (inputs_exact B lent.inputs) (step_room_exact B lent.room) e);
        room_long = (step_room_long_exact lent.room).0 (and_right (inputs_exact B lent.inputs) (step_room_exact B lent.room) e);
      }

      back : StepLong B lent → step_exact B lent ≡ true
      back l =
          and_true {a = inputs_exact B lent.inputs} {b = step_room_exact B lent.room}
          ((inputs_long_exact lent.inputs).1 l.inputs_long) ((step_room_long_exact lent.room).1 l.room_long)
