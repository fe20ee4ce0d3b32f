-- `bitset::insert` meets its contract: a 1 at each level. Assumes nothing.
use Rattle.bitset.proofs.ChangeLaws.{inserted}
use Rattle.bitset.proofs.insert.Goals as goal

pub returns : goal.returns
returns c = let all_clauses = inserted c.args.n c.requires.0 c.requires.1 c.raise.ensures c.raise-2.ensures c.raise-3.ensures in record { kept = all_clauses.0; here = all_clauses.1.0; others = all_clauses.1.1 }
