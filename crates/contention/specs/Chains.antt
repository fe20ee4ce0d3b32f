-- The enabled switches of each wire as a chain: `heads` has, for each wire, one more than the lowest switch that ends on it, `nexts`, for each enabled
-- switch, one more than the next one that ends on the same wire; 0 where there is none. The chains are built from the last switch down.
use Rattle.std.specs.Prelude.{ℕ, zero, suc, ◌+◌, ◌-◌, ◌≤◌, ◌<◌, ◌≡◌, true, cond, List, ltb, length, get_or}
use Rattle.lists.specs.Search.{first, count_below}
use Rattle.ports.specs.declared.size.Block.{Block}
use Rattle.ports.specs.Lengths.{ports}
use Rattle.equations.specs.Switches.{switches, enabled, target}
use Rattle.equations.specs.WireRows.{ends_on}

-- at most two of n
unfoldable pub up_to_two : ℕ → ℕ
up_to_two n = cond (ltb n 2) n 2

-- the rows of a wire with n switches: a contention is of two or more
unfoldable pub rows_of : ℕ → ℕ
rows_of n = cond (ltb 1 n) n 0

module _ (B : Block) (t st : List ℕ) where
  -- the lowest switch from m on that ends on wire w, and the same as a link
  abbrev pub next_on : ℕ → ℕ → ℕ
  next_on w m = first (ends_on B t st w) m (switches B - m)

  abbrev pub link_from : ℕ → ℕ → ℕ
  link_from w m = cond (ltb (next_on w m) (switches B)) (suc (next_on w m)) 0

  -- the switches from m on are in chains
  pub record Chained (m : ℕ) (heads nexts : List ℕ) : Type 0 where
    pub upto : m ≤ switches B
    pub heads_long : length heads ≡ ports B
    pub nexts_long : length nexts ≡ switches B
    pub head : (w : ℕ) → w < ports B → get_or heads w 0 ≡ link_from w m
    pub next : (s : ℕ) → m ≤ s → s < switches B → enabled B t st s ≡ true → get_or nexts s 0 ≡ link_from (target B t s) (suc s)

  -- how many switches from m on end on wire w
  unfoldable pub on_from : ℕ → ℕ → ℕ
  on_from w m = count_below (ends_on B t st w) (switches B) - count_below (ends_on B t st w) m

  -- the rows of the wires below v, of the switches from m on
  unfoldable pub rows_below : ℕ → ℕ → ℕ
  rows_below m zero = 0
  rows_below m (suc v) = rows_below m v + rows_of (on_from v m)

  -- the switches from m on are in chains, and their rows counted
  pub record Tallied (m : ℕ) (heads nexts : List ℕ) (rows : ℕ) : Type 0 where
    pub chained : Chained m heads nexts
    pub counted : rows ≡ rows_below m (ports B)
