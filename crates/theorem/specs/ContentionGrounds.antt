-- The grounds of `contentions` in their order (document 02, W6), over the number of an answer and what comes with it.
use Rattle.std.specs.Prelude.{ℕ, ◌*◌, ◌≤◌, List}
use Rattle.ports.specs.declared.size.Block.{Block}
use Rattle.ports.specs.Block.{Sized, tiles}
use Rattle.routing.specs.LogicTile.{logic_tile}
use Rattle.routing.specs.Rules.{TableRules, FirstBroken}
use Rattle.config.specs.Blocks.{tiles_of}
use Rattle.config.specs.Facts.{LowestFault}
use Rattle.contention.specs.declared.lengths.ContentionLent.{ContentionLent}
use Rattle.contention.specs.Contentions.{row_length, ContentionRow}
use Rattle.contention.specs.Lengths.{ContentionLong}
use Rattle.theorem.specs.Order.{Check, Yes, at0, RowsNeeded}
use Rattle.theorem.specs.EntryGrounds.{AllDecodable}

-- "Refusals: 1 to 4, then 15 as in the comparison", place "the rows needed"; a yes has the number of rows. `settings` is what the bits read to, `list` the
-- length of the lent list
abbrev pub ContentionGrounds : Block → (table bits settings : List ℕ) → ContentionLent → (list : ℕ) → ℕ → ℕ → Type 0
ContentionGrounds B t bits settings lent list =
    Check 1 (Sized B) at0
    (Check 2 (ContentionLong B lent) at0
    (Check 3 (TableRules logic_tile t) (FirstBroken logic_tile t)
    (Check 4 (AllDecodable t (tiles_of bits) (tiles B)) (LowestFault t (tiles_of bits) (tiles B))
    (Check 15 ((rows : ℕ) → RowsNeeded (ContentionRow B t settings) row_length rows → row_length * rows ≤ list) (RowsNeeded (ContentionRow B t settings) row_length)
    (Yes (RowsNeeded (ContentionRow B t settings) row_length))))))
