-- What the code hands on, from the list that building wrote to the card. Main laws: `rows_touchable`; `leaving_made`, `feeding_made`, `answer_made`, `card_made`.
-- Assumes nothing.
use Rattle.refusal.specs.Grounds.{answer_number}
use Rattle.refusal.specs.declared.Refusal.{Refusal}
use Rattle.std.specs.Prelude.{Result, Ok}
use Prim.Native.Nat.{ℕ, ◌*◌, ◌<◌}
use mathlib.Core.Path.{◌≡◌, ap, ap₂, subst, ◌∙◌}
use mathlib.Core.List.{List}
use native.Mathlib.Omega.{arith}
use Rattle.lists.specs.Search.{count_below}
use Rattle.lists.specs.Tables.{zeros}
use Rattle.lists.specs.Listing.{zero_filled}
use Rattle.refusal.specs.Memory.{output}
use Rattle.ports.specs.declared.size.Block.{Block}
use Rattle.ports.specs.Block.{tiles}
use Rattle.ports.specs.Lengths.{ports}
use Rattle.fabric.specs.Count.{wires}
use Rattle.netlist.specs.Rows.{row_at, arity_of, operand_of}
use Rattle.netlist.specs.Running.{RowFits}
use Rattle.equations.specs.Routed.{Routed}
use Rattle.equations.specs.Sources.{sources_of}
use Rattle.equations.specs.Settling.{block_list}
use Rattle.equations.proofs.LoopLaws.{loop_exact}
use Rattle.equations.proofs.SettlingLaws.{block_fits}
use Rattle.block.specs.Meaning.{Accepted}
use Rattle.card.specs.Cells.{used_cell, flop_cell}
use Rattle.card.specs.Marks.{exit_marks, driven_marks, leaving_marks, flop_marks, reach, open_marks, feeding_marks, RowsTouchable}
use Rattle.card.specs.Card.{numbers_of, needed, card_numbers, card_length}
use Rattle.card.specs.Entry.{numbers_answer}

module _ (B : Block) (t st : List ℕ) where
  -- the rows of an accepted block name wires of the block
  pub rows_touchable : Routed B t st → Accepted B t st → (list : List ℕ) (count : ℕ) → list ≡ block_list B t st → count ≡ wires B → RowsTouchable list count (ports B)
  rows_touchable ok A list count e f = rw (e, f) (λ i l. ((fits i l).inside, record { wire_there = (fits i l).wire_lt; reads_there = reads i l }))
    where
      fits : (i : ℕ) → i < wires B → RowFits (block_list B t st) (8 * tiles B) (ports B) (ports B) i
      fits i l =
          block_fits B t st ((loop_exact B t st ok A.no_contention).1 A.no_loop) (8 * tiles B) (ports B) (ports B) (omega arith) (omega arith) (omega arith) i l

      reads : (i : ℕ) → i < wires B → (j : ℕ) → j < arity_of (row_at (block_list B t st) i) → operand_of (row_at (block_list B t st) i) j < ports B
      reads i l j h =
          let (k, lk, q) = (fits i l).earlier j h in
          subst (λ (w : ℕ). w < ports B) q (fits k (omega arith)).wire_lt

  pub leaving_made : (sources left : List ℕ) → sources ≡ sources_of B t st → left ≡ driven_marks sources (exit_marks B (tiles B) (zeros (ports B)))
      → left ≡ leaving_marks B t st
  unfolding leaving_marks
  leaving_made sources left e f = f ∙ ap (λ (x : List ℕ). driven_marks x (exit_marks B (tiles B) (zeros (ports B)))) e

  pub feeding_made : (sources list start fed : List ℕ) (count : ℕ) → sources ≡ sources_of B t st → list ≡ block_list B t st → count ≡ wires B
      → start ≡ leaving_marks B t st → fed ≡ open_marks B st sources (reach list count (flop_marks B st (8 * tiles B) start)) → fed ≡ feeding_marks B t st
  unfolding feeding_marks
  feeding_made sources list start fed count e f g h k = k ∙ rw (e, f, g, h)

  module _ (left fed : List ℕ) (e : left ≡ leaving_marks B t st) (f : fed ≡ feeding_marks B t st) where
    pub answer_made : (n : ℕ) (r : Result ℕ Refusal) → r ≡ numbers_answer (needed left fed) n → r ≡ numbers_answer (card_length B t st) n
    answer_made n r g = g ∙ ap₂ (λ (x y : List ℕ). numbers_answer (needed x y) n) e f

    pub card_made : (n : ℕ) (r : Result ℕ Refusal) (old after : List ℕ)
        → after ≡ output (answer_number r) old
        (zero_filled n (numbers_of B (count_below (used_cell st) (8 * tiles B)) (count_below (flop_cell st) (8 * tiles B)) left fed))
        → after ≡ output (answer_number r) old (zero_filled n (card_numbers B t st))
    card_made n r old after g =
        g
        ∙ ap₂
        (λ (x y : List ℕ).
        output (answer_number r) old (zero_filled n (numbers_of B (count_below (used_cell st) (8 * tiles B)) (count_below (flop_cell st) (8 * tiles B)) x y))) e f

-- an output of building after a yes
pub listed_output : (r : Result ℕ Refusal) (rows : ℕ) (old new after : List ℕ) → r ≡ Ok rows → after ≡ output (answer_number r) old new → after ≡ new
listed_output r rows old new after e f = f ∙ ap (λ (a : Result ℕ Refusal). output (answer_number a) old new) e
