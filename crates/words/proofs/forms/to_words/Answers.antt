-- `to_words` meets its contract. Invariant: the first i words are runs of the bytes' bits (`Filled`, `word_is`). Assumes nothing.
use Rattle.words.proofs.ConvertLaws.{word_is}
use Rattle.words.specs.Forms.{words_of}
use Rattle.words.specs.Packed.{packed}
use Rattle.lists.proofs.TableLaws.{filled_step, filled_end}
use native.Mathlib.Omega.{arith}
use Rattle.words.proofs.forms.to_words.Goals as goal

pub loop-i-preserved : goal.loop-i-preserved
loop-i-preserved c = filled_step _ _ _ _ _ _ c.loop-i.invariant (omega arith) (word_is c.args.bytes.now c.loop-i.i c.eight_bytes.result c.eight_bytes.ensures)

pub returns : goal.returns
unfolding words_of packed
returns c = filled_end _ _ _ _ _ c.loop-i.invariant (omega arith)
