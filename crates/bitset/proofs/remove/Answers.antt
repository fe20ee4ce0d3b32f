-- `bitset::remove` meets its contract: a 0 at each level, up to the first word that is not 0. Assumes nothing.
use Rattle.bitset.proofs.ChangeLaws.{removed_leaf, removed_middle, removed_top}
use Rattle.bitset.proofs.remove.Goals as goal

-- the leaf has other members
pub returns-then-words-u-ne0 : goal.returns-then-words-u-ne0
returns-then-words-u-ne0 c = let all_clauses = removed_leaf c.args.n c.requires.0 c.requires.1 c.lower.ensures c.if-words-u-ne0.true in record { kept = all_clauses.0; here = all_clauses.1.0; others = all_clauses.1.1 }

-- the word above has other leaves
pub returns-then-words-v-ne0 : goal.returns-then-words-v-ne0
returns-then-words-v-ne0 c = let all_clauses = removed_middle c.args.n c.requires.0 c.requires.1 c.lower.ensures c.if-words-u-ne0.false
    c.lower-2.ensures c.if-words-v-ne0.true in record { kept = all_clauses.0; here = all_clauses.1.0; others = all_clauses.1.1 }

-- all three are written
pub returns : goal.returns
returns c = let all_clauses = removed_top c.args.n c.requires.0 c.requires.1 c.lower.ensures c.if-words-u-ne0.false
    c.lower-2.ensures c.if-words-v-ne0.false c.lower-3.ensures in record { kept = all_clauses.0; here = all_clauses.1.0; others = all_clauses.1.1 }
