-- `bitset::raise` meets its contract: `|` with a shifted 1 writes a digit. Assumes nothing.
use mathlib.Core.Path.{ap}
use native.Mathlib.Omega.{arith}
use lib.ListN.{get_or, set}
use Rattle.digits.proofs.WriteLaws.{raise_is}
use Rattle.bitset.specs.Bitset.{word_digits}
use Rattle.bitset.proofs.raise.Goals as goal

pub returns : goal.returns
returns c =
    let words = c.args.words.now in
    let i = c.args.i in record {
      bit = omega arith;
      made = ap (set words i) (raise_is word_digits (get_or words i 0) c.args.k c.requires.1);
    }
