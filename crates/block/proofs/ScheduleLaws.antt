-- What the schedule of a block's rows shows: whether a wire depends on itself, how many rows there are, and that those written from the queue
-- are the block's list. Main laws: `scheduled_loop`, `listed_rows`. Assumes nothing.
use Rattle.std.specs.Prelude.{Result, Ok, Err}
use Prim.Native.Nat.{ℕ, ◌*◌, ◌<◌, ◌≤◌}
use mathlib.Core.Path.{◌≡◌, sym, ap, ◌∙◌, subst}
use mathlib.Core.Logic.{⊎_elim}
use mathlib.Core.List.{List, ◌++◌}
use lib.ListN.{length, get_or, drop}
use Rattle.lists.proofs.CaseLaws.{lt_or_le}
use Rattle.ports.specs.declared.size.Block.{Block}
use Rattle.ports.specs.Lengths.{ports}
use Rattle.fabric.specs.Count.{wires}
use Rattle.netlist.specs.Graph.{Closed, LowestLoop}
use Rattle.loops.specs.Loops.{loop_wire}
use Rattle.netlist.specs.Order.{order}
use Rattle.netlist.specs.Rows.{row_length, Inside, rows_of, graph_of}
use Rattle.netlist.specs.OrderedRows.{row_in_order, list_of}
use Rattle.scheduling.specs.Scheduling.{Answers, Queued}
use Rattle.loops.proofs.LoopWireLaws.{loop_wire_is, loop_wire_lowest}
use Rattle.scheduling.proofs.SchedulingLaws.{queue_long, queue_inside, queue_list}
use Rattle.equations.specs.Routed.{Routed}
use Rattle.equations.specs.Sources.{rows_from, sources_of}
use Rattle.equations.specs.Settling.{block_list}
use Rattle.equations.specs.WireRows.{wire_rows}
use Rattle.equations.proofs.ChainLaws.{rows_closed}
use Rattle.equations.proofs.SettlingLaws.{count_wires}
use Rattle.equations.proofs.SourceLaws.{rows_from_sources}
use Rattle.equations.proofs.WireRowLaws.{graph, wire_rows_length}

-- the rows are scheduled, k of them, and the queue begins with their order
pub record ListedRows (B : Block) (t st rows queue : List ℕ) (n k : ℕ) : Type 0 where
  pub straight : ports B ≤ loop_wire (graph B t st) (ports B)
  pub count : k ≡ wires B
  pub fits : k ≤ length queue
  pub inside : (i : ℕ) → i < k → Inside rows (get_or queue i 0)
  pub writes : (m : ℕ) → m ≡ n → rows_of (row_in_order rows queue k) m ≡ block_list B t st

module _ (B : Block) (t st : List ℕ) where
  -- the rows written from the map of sources are the block's
  pub rows_written : (sources rows : List ℕ) → sources ≡ sources_of B t st → rows ≡ rows_from B st sources → rows ≡ wire_rows B t st
  rows_written sources rows e h = h ∙ ap (λ (s : List ℕ). rows_from B st s) e ∙ rows_from_sources B t st

  module _ (ok : Routed B t st) (rows : List ℕ) (n : ℕ) (is : rows ≡ wire_rows B t st) (long : n ≡ ports B) where
    pub rows_ready : Closed (graph_of rows) n
    rows_ready = rw (is, long) (rows_closed B t st ok)

    rows_long : length rows ≡ row_length * n
    rows_long = ap length is ∙ wire_rows_length B t st ∙ ap (λ (k : ℕ). row_length * k) (sym long)

    module _ (r : Result ℕ ℕ) (a : Answers (graph_of rows) n r) where
      answered : (s : Result ℕ ℕ) → r ≡ s → Answers (graph B t st) (ports B) s
      answered s e =
          subst (λ (x : List ℕ). Answers (graph_of x) (ports B) s) is
          (subst (λ (k : ℕ). Answers (graph_of rows) k s) long (subst (Answers (graph_of rows) n) e a))

      pub scheduled_loop : (w : ℕ) → r ≡ Err w → (w < ports B) × (w ≡ loop_wire (graph B t st) (ports B))
      scheduled_loop w e =
          let h = answered (Err w) e in
          (h.0, loop_wire_is (graph B t st) (ports B) (rows_closed B t st ok) w h.1)

      -- no wire depends on itself, there is a row for each, and those written from the queue are the block's list
      pub listed_rows : (k : ℕ) → r ≡ Ok k → (old queue : List ℕ) → Queued (graph_of rows) n old queue r → ListedRows B t st rows queue n k
      listed_rows k e old queue q = record {
        straight = ⊎_elim (λ l. absurd (yes.1.1 _ l (low.here l))) (λ l. l) (lt_or_le (loop_wire (graph B t st) (ports B)) (ports B));
        count = yes.0 ∙ count_wires B t st yes.1.0;
        fits = queue_long rows n queue (drop k old) k front many;
        inside = queue_inside rows n queue (drop k old) k front many rows_long;
        writes = λ m h. ap (rows_of (row_in_order rows queue k)) h ∙ queue_list rows n queue (drop k old) k front many ∙ ap (λ (j : ℕ). list_of rows j) long
            ∙ ap (λ (x : List ℕ). list_of x (ports B)) is;
      }
        where
          yes : Answers (graph B t st) (ports B) (Ok k)
          yes = answered (Ok k) e

          low : LowestLoop (graph B t st) (ports B) (loop_wire (graph B t st) (ports B))
          low = loop_wire_lowest (graph B t st) (ports B) (rows_closed B t st ok)

          many : k ≡ length (order (graph_of rows) n)
          many = (subst (Answers (graph_of rows) n) e a).0

          front : queue ≡ order (graph_of rows) n ++ drop k old
          front = subst (Queued (graph_of rows) n old queue) e q
