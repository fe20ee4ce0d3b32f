-- `bitset::empty` meets its contract: zeros are a set with no member. Assumes nothing.
use Rattle.bitset.proofs.WordLaws.{zeros_bitset, zeros_none}
use Rattle.bitset.proofs.empty.Goals as goal

pub returns : goal.returns
returns c = record { kept = zeros_bitset; none = zeros_none }
