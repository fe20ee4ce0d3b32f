-- What moves a cell: only the values of its tile's own ports. Main laws: `states_same`; `clock_of_settled` and `step_clocked`, by which clocking the
-- values that settling wrote is the step; `next_kept`. Assumes nothing.
use Prim.Native.Nat.{ℕ, ◌/◌, ◌%◌, ◌<◌}
use mathlib.Core.Path.{◌≡◌, sym}
use mathlib.Core.Bool.{false}
use mathlib.Core.List.{List}
use native.Mathlib.Omega.{arith}
use lib.ListN.{get_or}
use Rattle.lists.proofs.TableLaws.{tabulate_ext}
use Rattle.ports.specs.declared.size.Size.{Size}
use Rattle.ports.specs.declared.size.Block.{Block}
use Rattle.ports.specs.Block.{size_of, tile_count, port_of}
use Rattle.ports.specs.Lengths.{ports_per_tile, state_length}
use Rattle.ports.specs.PortIndex.{clk, cen, s_r, in_port}
use Rattle.ports.proofs.BlockLaws.{port_of_lt}
use Rattle.cell.specs.NextState.{next_state}
use Rattle.stepper.specs.Settling.{port_values}
use Rattle.stepper.specs.Clocking as step
use Rattle.moments.specs.Clocking.{handed, of_wires, cell_at, lookup_at, next_cell, next_states}
use Rattle.moments.proofs.SpreadLaws.{port_values_at}

-- the same value at every port of every tile
abbrev pub SameAt : Size → (x y : ℕ → ℕ → ℕ) → Type 0
SameAt S x y = (T q : ℕ) → T < tile_count S → q < ports_per_tile → x T q ≡ y T q

module _ (S : Size) (st : List ℕ) (b b' a a' : ℕ → ℕ → ℕ) (eb : SameAt S b b') (ea : SameAt S a a') where
  lookup_same : (T i : ℕ) → T < tile_count S → i < 8 → lookup_at st b T i ≡ lookup_at st b' T i
  lookup_same T i l h = rw (eb T (in_port i 0) l (omega arith), eb T (in_port i 1) l (omega arith), eb T (in_port i 2) l (omega arith), eb T (in_port i 3) l (omega arith))

  -- values that agree move every cell alike
  cell_same : (state : List ℕ) (c : ℕ) → c < state_length S → next_cell st b a state c ≡ next_cell st b' a' state c
  unfolding next_cell
  cell_same state c l =
      let lt : c / 8 < tile_count S = omega arith in
      rw (
        lookup_same (c / 8) (c % 8) lt (omega arith),
        eb (c / 8) clk lt (omega arith),
        ea (c / 8) clk lt (omega arith),
        eb (c / 8) cen lt (omega arith),
        eb (c / 8) s_r lt (omega arith),
        ea (c / 8) s_r lt (omega arith),
      )

  pub states_same : (state : List ℕ) → next_states S st b a state ≡ next_states S st b' a' state
  unfolding next_states
  states_same state = tabulate_ext 0 _ _ (state_length S) (cell_same state)

-- document 02, W11: "both together equal the old step": the values that settling writes have at a port's own number what its wire has
pub clock_of_settled : (B : Block) (st b a state : List ℕ)
    → next_states (size_of B) st (handed (port_values B b)) (handed (port_values B a)) state ≡ next_states (size_of B) st (of_wires B b) (of_wires B a) state
clock_of_settled B st b a state =
    states_same (size_of B) st (handed (port_values B b)) (of_wires B b) (handed (port_values B a)) (of_wires B a)
    (λ T q lT lq. port_values_at B b (port_of T q) (port_of_lt B T q lT lq)) (λ T q lT lq. port_values_at B a (port_of T q) (port_of_lt B T q lT lq)) state

-- "without a flip-flop, keep"
pub next_kept : (st : List ℕ) (b a : ℕ → ℕ → ℕ) (state : List ℕ) (c : ℕ) → (cell_at st (c / 8) (c % 8)).flipflop ≡ false → get_or state c 0 ≡ next_cell st b a state c
unfolding next_cell next_state
next_kept st b a state c e = rw e

-- `stepper`'s step moves every cell as clocking does, of the values that settling writes before and after
pub step_clocked : (B : Block) (st b a state : List ℕ)
    → step.next_states B st b a state ≡ next_states (size_of B) st (handed (port_values B b)) (handed (port_values B a)) state
unfolding next_states next_cell step.next_states step.next_cell
step_clocked B st b a state = sym (clock_of_settled B st b a state)
