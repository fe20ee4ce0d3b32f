-- What a step gives is determined: two results that mean a step are equal. Main law: `step_unique`. Assumes nothing.
use Prim.Native.Nat.{ℕ, ◌*◌, ◌/◌, ◌%◌, ◌<◌}
use mathlib.Core.Path.{◌≡◌, ◌∙◌, sym}
use mathlib.Core.Logic.{⊎_elim}
use mathlib.Core.List.{List}
use native.Mathlib.Omega.{arith}
use Rattle.lists.proofs.CaseLaws.{eq_or_ne}
use Rattle.lists.proofs.TableLaws.{tabulate_ext}
use Rattle.ports.specs.declared.size.Block.{Block}
use Rattle.ports.specs.Block.{tiles, port_of}
use Rattle.ports.specs.Lengths.{ports, ports_per_tile}
use Rattle.ports.specs.PortIndex.{clk, cen, s_r, in_port}
use Rattle.ports.proofs.BlockLaws.{port_of_lt}
use Rattle.stepper.specs.Settling.{port_value, port_values}
use Rattle.stepper.specs.Clocking.{value_at, lookup_at, next_cell, next_states}
use Rattle.theorem.specs.Choice.{OnlyChoice, StepMeans}

-- values that agree at every port
abbrev Same : Block → List ℕ → List ℕ → Type 0
Same B x y = (p : ℕ) → p < ports B → port_value B x p ≡ port_value B y p

module _ (B : Block) (st b b' a a' : List ℕ) (eb : Same B b b') (ea : Same B a a') where
  before : (T q : ℕ) → T < tiles B → q < ports_per_tile → value_at B b T q ≡ value_at B b' T q
  before T q l h = eb (port_of T q) (port_of_lt B T q l h)

  after : (T q : ℕ) → T < tiles B → q < ports_per_tile → value_at B a T q ≡ value_at B a' T q
  after T q l h = ea (port_of T q) (port_of_lt B T q l h)

  lookup_same : (T i : ℕ) → T < tiles B → i < 8 → lookup_at B st b T i ≡ lookup_at B st b' T i
  lookup_same T i l h =
      rw (before T (in_port i 0) l (omega arith), before T (in_port i 1) l (omega arith), before T (in_port i 2) l (omega arith), before T (in_port i 3) l (omega arith))

  -- values that agree move every cell alike
  cell_same : (state : List ℕ) (c : ℕ) → c < 8 * tiles B → next_cell B st b a state c ≡ next_cell B st b' a' state c
  unfolding next_cell
  cell_same state c l =
      let lt : c / 8 < tiles B = omega arith in
      rw (
        lookup_same (c / 8) (c % 8) lt (omega arith),
        before (c / 8) clk lt (omega arith),
        after (c / 8) clk lt (omega arith),
        before (c / 8) cen lt (omega arith),
        before (c / 8) s_r lt (omega arith),
        after (c / 8) s_r lt (omega arith),
      )

  states_same : (state : List ℕ) → next_states B st b a state ≡ next_states B st b' a' state
  unfolding next_states
  states_same state = tabulate_ext 0 _ _ (8 * tiles B) (cell_same state)

  values_same : port_values B b ≡ port_values B b'
  unfolding port_values
  values_same = tabulate_ext 0 _ _ (ports B) eb

module _ (B : Block) (t st : List ℕ) where
  choice_same : (state lent x y : List ℕ) → OnlyChoice B t st state lent x → OnlyChoice B t st state lent y → Same B x y
  choice_same state lent x y h g p l = ⊎_elim (λ e. e) (λ ne. absurd (g.only x p l ne h.meets)) (eq_or_ne (port_value B x p) (port_value B y p))

  -- every port's value and every cell's next state are the only ones
  pub step_unique : (state before after values values' next next' : List ℕ) → StepMeans B t st state before after values next
      → StepMeans B t st state before after values' next' → (values ≡ values') × (next ≡ next')
  step_unique state before after values values' next next' s r =
      let eb = choice_same state before s.b r.b s.one_before r.one_before in
      let ea = choice_same state after s.a r.a s.one_after r.one_after in (
        s.written ∙ values_same B st s.b r.b s.a r.a eb ea ∙ sym r.written,
        s.moved ∙ states_same B st s.b r.b s.a r.a eb ea state ∙ sym r.moved,
      )
