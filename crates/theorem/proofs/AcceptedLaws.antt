-- A block whose table and settings passed their checks (`Routed`): refused as a loop exactly if some wire depends on itself; and where it is accepted, the
-- one choice of values, and a step. Main laws: `list_loop_exactly`, `only_choice`, `own_passes`, `step_means`. Assumes nothing.
use Rattle.std.specs.Prelude.{Result, Ok, Err}
use Prim.Native.Nat.{ℕ, ◌<◌}
use mathlib.Core.Path.{◌≡◌, refl, sym, ap, subst, ◌∙◌}
use mathlib.Core.Logic.{◌↔◌, ◌≢◌}
use mathlib.Core.List.{List}
use native.Mathlib.Omega.{arith}
use lib.ListN.{length, get_or}
use Rattle.lists.specs.Tables.{zeros}
use Rattle.lists.proofs.TableLaws.{zeros_length}
use Rattle.refusal.specs.declared.Refusal.{Refusal}
use Rattle.refusal.specs.declared.Refusal.TheVariants.{Loop}
use Rattle.ports.specs.declared.size.Block.{Block}
use Rattle.ports.specs.Lengths.{ports}
use Rattle.fabric.specs.Wire.{wire_of}
use Rattle.fabric.specs.Count.{wires}
use Rattle.fabric.proofs.WireLaws.{wire_within, wire_idempotent}
use Rattle.netlist.specs.declared.row.Row.{Row}
use Rattle.netlist.specs.Running.{run_from, row_value}
use Rattle.netlist.proofs.ListLaws.{list_others_break}
use Rattle.equations.specs.Switches.{NoContention}
use Rattle.equations.specs.WireRows.{row_of, wire_rows}
use Rattle.equations.proofs.RowReasons.{row_says}
use Rattle.netlist.specs.Order.{order, AllListed}
use Rattle.equations.specs.Equations.{Depends}
use Rattle.equations.specs.Routed.{Routed}
use Rattle.equations.specs.Settling.{block_list, Inputs, Settles}
use Rattle.equations.proofs.WireRowLaws.{graph, row_is, own_wire_lem, wire_own, rows_named}
use Rattle.equations.proofs.LoopLaws.{loop_exact}
use Rattle.equations.proofs.SettlingLaws.{settles, count_wires}
use Rattle.block.specs.Building.{list_answer}
use Rattle.block.specs.Meaning.{NoDisabledCarry, Accepted, ListSays, ListNo, contention, disabled_carry, loop, cell_clock}
use Rattle.block.proofs.MeaningLaws.{list_says}
use Rattle.stepper.specs.Settling.{settled_by, port_value, bad_row}
use Rattle.theorem.specs.Calls.{values_stepped, state_stepped}
use Rattle.theorem.specs.Choice.{Breaks, OnlyChoice, StepMeans}
use Rattle.theorem.specs.Listing.{Listing}
use Rattle.theorem.proofs.OwnListLaws.{own_list_passes}
use Rattle.theorem.proofs.ListingLaws.{listing}

module _ (B : Block) (t st : List ℕ) (ok : Routed B t st) where
  says : ListSays B t st (list_answer B t st)
  says = list_says B t st ok

  -- "Each block that passes checks 1 to 6 [..] is refused as a loop [..] exactly if some wire depends on itself."
  pub list_loop_exactly : NoContention B t st → NoDisabledCarry B t st
      → ((w : ℕ) × (list_answer B t st ≡ Err (Loop w))) ↔ ((w : ℕ) × Depends B t st w w)
  list_loop_exactly free unread = (λ r. (r.0, looped r.0 (subst (ListSays B t st) r.1 says)), λ d. go d.0 d.1 (list_answer B t st) says refl)
    where
      looped : (w : ℕ) → ListNo B t st (Loop w) → Depends B t st w w
      looped w (loop v f u s) = s.here

      no : (w : ℕ) → Depends B t st w w → (refusal : Refusal) → ListNo B t st refusal → list_answer B t st ≡ Err refusal
          → (v : ℕ) × (list_answer B t st ≡ Err (Loop v))
      no w d refusal (contention v s) e = absurd (free v s.here)
      no w d refusal (disabled_carry v f s) e = absurd (unread v s.here)
      no w d refusal (loop v f u s) e = (v, e)
      no w d refusal (cell_clock T f u straight s) e = absurd (straight w d)

      go : (w : ℕ) → Depends B t st w w → (a : Result ℕ Refusal) → ListSays B t st a → list_answer B t st ≡ a
          → (v : ℕ) × (list_answer B t st ≡ Err (Loop v))
      go w d (Ok rows) s e = absurd (s.1.no_loop w d)
      go w d (Err refusal) s e = no w d refusal s e

  -- ---- an accepted block

  module _ (rows : ℕ) (listed : list_answer B t st ≡ Ok rows) where
    told : (rows ≡ wires B) × Accepted B t st
    told = subst (ListSays B t st) listed says

    all : AllListed (graph B t st) (ports B)
    all = (loop_exact B t st ok told.1.no_contention).1 told.1.no_loop

    found : Settles B t st
    found = settles B t st ok told.1.no_contention told.1.no_loop

    -- ground 12 does not refuse a step with the block's own list
    pub own_passes : bad_row B (block_list B t st) ≡ ports B
    own_passes = own_list_passes B t st all

    -- the equation that other values break
    module _ (state lent x : List ℕ) (p : ℕ) (lp : p < ports B)
        (ne : port_value B x p ≢ port_value B (settled_by B (block_list B t st) state lent) p) where
      differs : get_or x (wire_of B p) 0 ≢ get_or (run_from (block_list B t st) state lent 0 (length (order (graph B t st) (ports B))) (zeros (ports B))) (wire_of B p) 0
      unfolding settled_by
      differs =
          subst (λ (k : ℕ). get_or x (wire_of B p) 0 ≢ get_or (run_from (block_list B t st) state lent 0 k (zeros (ports B))) (wire_of B p) 0)
          (sym (count_wires B t st all)) ne

      broken_equation : Breaks B t st state lent x
      broken_equation =
          let z = zeros_length (ports B) in
          let own = own_wire_lem B t st (wire_of B p) (wire_within B p lp) (wire_idempotent B p lp) in
          let r = list_others_break (wire_rows B t st) (ports B) (rows_named B t st) all state lent (zeros (ports B)) x (omega arith)
          (wire_of B p) (wire_within B p lp) own differs in
          record {
            wire = r.0;
            row = row_of B t st r.0;
            says = row_says B t st r.0 r.1 (wire_own B t st r.0 r.2.0).1;
            differs = λ e. r.2.1 (e ∙ ap (λ (row : Row). row_value row state lent x) (sym (row_is B t st r.0 r.1)));
          }

    pub only_choice : (state lent : List ℕ) → Inputs B state lent → OnlyChoice B t st state lent (settled_by B (block_list B t st) state lent)
    unfolding settled_by
    only_choice state lent h =
        let z = zeros_length (ports B) in
        record {
          meets = found.meets state lent (zeros (ports B)) (omega arith);
          bits = found.bits state lent (zeros (ports B)) h (omega arith);
          only = λ x p l ne. found.others_break state lent (zeros (ports B)) x (omega arith) p l ne;
          others_break = broken_equation state lent;
        }

    pub own_listing : Listing B t st (block_list B t st) rows
    own_listing = listing B t st ok told.1.no_contention all rows told.0

    -- the values and the next state that `step` promises
    pub step_means : (state before after : List ℕ) → Inputs B state before → Inputs B state after
        → StepMeans B t st state before after (values_stepped B (block_list B t st) state before) (state_stepped B st (block_list B t st) state before after)
    step_means state before after hb ha = record {
      b = settled_by B (block_list B t st) state before;
      a = settled_by B (block_list B t st) state after;
      one_before = only_choice state before hb;
      one_after = only_choice state after ha;
      written = refl;
      moved = refl;
    }
