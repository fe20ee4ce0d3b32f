-- What scheduling a block's rows answers, and where it leaves the order.
use Rattle.std.specs.Prelude.{◌≡◌, List, ◌++◌, ℕ, ◌<◌, length, drop, Result, Ok, Err}
use Rattle.netlist.specs.Graph.{Graph, DependsOn, LowestLoop}
use Rattle.netlist.specs.Order.{order, AllListed}

-- "The answer has the row count, which is the number of wires", and no wire depends on itself; or the lowest that does
abbrev pub Answers : Graph → ℕ → Result ℕ ℕ → Type 0
Answers g n (Ok rows) = (rows ≡ length (order g n)) × (AllListed g n × ((v : ℕ) → v < n → DependsOn g v v → ⊥))
Answers g n (Err wire) = (wire < n) × LowestLoop g n wire

-- where the rows are listed, the queue begins with the wires in their order, and is as it was behind them
abbrev pub Queued : Graph → ℕ → List ℕ → List ℕ → Result ℕ ℕ → Type 0
Queued g n old queue (Ok rows) = queue ≡ order g n ++ drop rows old
Queued g n old queue (Err wire) = Unit {0}
