-- A step with the size, table, settings and list of a block that `build` accepted: it is not refused, for any state and lent values of 0 and 1, and a yes
-- means what demand 3 says. Main laws: `step_done`, `step_meant`. Assumes nothing.
use Rattle.std.specs.Prelude.{Ok}
use Prim.Native.Nat.{ℕ, ◌≤◌}
use mathlib.Core.Path.{◌≡◌, sym, ap, ◌∙◌}
use mathlib.Core.Bool.{not}
use mathlib.Core.List.{List}
use native.Mathlib.Omega.{arith}
use Rattle.lists.proofs.SearchLaws.{first_none}
use Rattle.ports.specs.declared.size.Block.{Block}
use Rattle.ports.specs.Block.{tiles}
use Rattle.ports.specs.Lengths.{ports}
use Rattle.ports.proofs.BlockLaws.{sized_true}
use Rattle.netlist.proofs.RowLaws.{rows_length_lem}
use Rattle.routing.specs.LogicTile.{logic_tile}
use Rattle.routing.proofs.TableCheckLaws.{table_exact}
use Rattle.config.specs.Blocks.{bitless_at, bitless_tile}
use Rattle.config.proofs.BlocksLaws.{decoded_length}
use Rattle.block.specs.declared.lengths.RoomLent.{RoomLent}
use Rattle.block.specs.Lengths.{build_lent}
use Rattle.block.specs.Building.{list_answer}
use Rattle.block.specs.Meaning.{Readable}
use Rattle.sim.specs.declared.lengths.StepRoomLent.{StepRoomLent}
use Rattle.sim.specs.Lengths.{inputs_lent, step_lent, StepRoomLong}
use Rattle.sim.specs.Meaning.{StepSays}
use Rattle.sim.proofs.ByteLaws.{joined_of_bits}
use Rattle.sim.proofs.LengthLaws.{step_long_exact}
use Rattle.sim.proofs.MeaningLaws.{step_says}
use Rattle.sim.proofs.StepLaws.{run_done, inputs_run, step_inputs}
use Rattle.contention.specs.Entry.{settings_read}
use Rattle.theorem.specs.Calls.{list_built, stepped, values_stepped, state_stepped}
use Rattle.theorem.specs.Choice.{StepInputs, StepMeans}
use Rattle.theorem.proofs.ReadableLaws.{settings_fit_lem, readable_routed}
use Rattle.theorem.proofs.AcceptedLaws.{own_passes, step_means}

module _ (B : Block) (t bits settings : List ℕ) (room : RoomLent) (R : Readable B t bits (build_lent t bits settings room))
    (rows : ℕ) (listed : list_answer B t (settings_read B t bits) ≡ Ok rows) where
  abbrev st : List ℕ
  st = settings_read B t bits

  abbrev list : List ℕ
  list = list_built B t bits

  fits : tiles B ≤ bitless_tile t st (tiles B)
  unfolding bitless_at
  fits = let e = first_none (bitless_at t st) (tiles B) (λ T l. ap not (settings_fit_lem B t bits settings room R T l)) in omega arith

  module _ (state before after : List ℕ) (step_room : StepRoomLent) where
    pub step_done : StepInputs B state before after → StepRoomLong B step_room → stepped B t (settings_read B t bits) (list_built B t bits) state before after step_room ≡ (Ok tt)
    step_done h long =
        let p = own_passes B t st (readable_routed B t bits settings room R) rows listed in
        let exact = (step_long_exact B (step_lent (inputs_lent t st list state before after) step_room)).1
        (record {
          inputs_long = record {
            table_long = R.lengths.table_long;
            settings_long = decoded_length t bits (tiles B);
            list_long = rows_length_lem _ (ports B);
            state_long = h.state_bytes.long;
            before_long = h.before_bytes.long;
            after_long = h.after_bytes.long;
          };
          room_long = long;
        }) in
        sym (step_inputs B t st list state before after _ (sized_true B R.size) exact)
        ∙ sym (inputs_run B t st list state before after ((table_exact logic_tile t R.lengths.table_long).1 R.rules) fits)
        ∙ sym (run_done B list state before after (omega arith)
        (joined_of_bits state before after h.state_bytes.bits h.before_bytes.bits h.after_bytes.bits))

    pub step_meant : stepped B t (settings_read B t bits) (list_built B t bits) state before after step_room ≡ (Ok tt)
        → StepMeans B t (settings_read B t bits) state before after (values_stepped B (list_built B t bits) state before)
        (state_stepped B (settings_read B t bits) (list_built B t bits) state before after)
    step_meant done =
        let said : StepSays B t st list state before after (step_lent (inputs_lent t st list state before after) step_room) (Ok tt)
        = step_says B t st list state before after step_room (Ok tt) (sym done) in
        let long = said.0.lengths.inputs_long in
        let ls = long.state_long in
        let lb = long.before_long in
        let la = long.after_long in
        step_means B t st (readable_routed B t bits settings room R) rows listed state before after
        (record { state_bits = said.2; lent_bits = said.3; state_long = omega arith; lent_long = omega arith })
        (record { state_bits = said.2; lent_bits = said.4; state_long = omega arith; lent_long = omega arith })
