-- Which wires are due to be looked at while the order is made, as the code holds them (`Due`): a set of those that were woken, and a number; no
-- wire from that number on was looked at. What the functions that make the order promise each other. Where one of them takes or finds a wire,
-- the wire is n if there is none.
use Rattle.std.specs.Prelude.{◌≡◌, Bool, true, false, not, ◌||◌, ◌⊎◌, List, ℕ, ◌<◌, ◌≤◌, eqb, ltb, length}
use Rattle.bitset.specs.Bitset.{has}
use Rattle.netlist.specs.Graph.{Graph}
use Rattle.netlist.specs.Order.{next}
use Rattle.netlist.specs.Marks.{only_listed, max_wires}
use Rattle.scheduling.specs.Waiting.{Among, Chain, Watched}
use Rattle.scheduling.specs.declared.order.Due.{Due}

-- those that were woken, and those from `from` on
abbrev pub is_due : Due → ℕ → Bool
is_due due k = has due.woken k || not (ltb k due.from)

-- the same, and wire w, which is looked at
abbrev pub is_due_with : Due → ℕ → ℕ → Bool
is_due_with due w k = eqb k w || is_due due k

-- those that were woken are before `from`, which is at most n
pub record Early (n : ℕ) (due : Due) : Type 0 where
  pub upto : due.from ≤ n
  pub early : (k : ℕ) → has due.woken k ≡ true → k < due.from

-- w was taken, the lowest wire that is due, or n where none is
pub record Taken (n : ℕ) (due₀ due : Due) (w : ℕ) : Type 0 where
  pub early : Early n due
  pub upto : w ≤ n
  pub lower : (k : ℕ) → k < n → k ≤ w → is_due due k ≡ false
  pub same : (k : ℕ) → is_due due₀ k ≡ is_due_with due w k

-- between two searches: every wire is due or idle
pub record Resting (g : Graph) (n : ℕ) (marks links : List ℕ) (due : Due) : Type 0 where
  pub watched : Watched g n marks links (is_due due)
  pub early : Early n due

-- what a search gives: the next wire, listed wires as they were, and every other wire due or idle
pub record Found (g : Graph) (n : ℕ) (marks₀ marks links : List ℕ) (due : Due) (w : ℕ) : Type 0 where
  pub is_next : w ≡ next g n (only_listed marks₀)
  pub kept : only_listed marks ≡ only_listed marks₀
  pub watched : Watched g n marks links (is_due_with due w)
  pub early : Early n due

-- a chain whose wires are not woken
pub record Asleep (links : List ℕ) (mark : ℕ) (woken : List ℕ) : Type 0 where
  pub few : length links ≤ max_wires
  pub members : List ℕ
  pub chain : Chain links mark members
  pub asleep : (k : ℕ) → Among k members → (k < length links) × (has woken k ≡ false)

-- its wires were woken, and no others
pub record Woken (links : List ℕ) (mark : ℕ) (woken₀ woken : List ℕ) : Type 0 where
  pub kept : (k : ℕ) → has woken₀ k ≡ true → has woken k ≡ true
  pub all : (ks : List ℕ) → Chain links mark ks → (k : ℕ) → Among k ks → has woken k ≡ true
  pub only : (ks : List ℕ) → Chain links mark ks → (k : ℕ) → has woken k ≡ true → (has woken₀ k ≡ true) ⊎ Among k ks
