-- `bitset::lowest` meets its contract: the lowest set digit of each level. Assumes nothing.
use Rattle.bitset.proofs.LowestLaws.{lowest_none, lowest_is}
use Rattle.bitset.proofs.lowest.Goals as goal

-- there is no member
pub returns-then-top-eq0 : goal.returns-then-top-eq0
returns-then-top-eq0 c = lowest_none c.requires c.if-top-eq0.true

pub returns : goal.returns
returns c =
    lowest_is c.requires c.lowest_digit-v.ensures c.lowest_digit.ensures c.lowest_digit-2.ensures
