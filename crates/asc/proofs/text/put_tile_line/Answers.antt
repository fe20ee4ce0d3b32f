-- `text::put_tile_line` meets its contract: four pieces, one behind the other. Assumes nothing.
use mathlib.Core.List.{[], ◌∷◌, ◌++◌}
use Rattle.texts.specs.Decimal.{decimal}
use Rattle.texts.proofs.PutsLaws.{puts_four}
use Rattle.asc.specs.Spelling.{tile_word}
use Rattle.asc.proofs.text.put_tile_line.Goals as goal

pub returns : goal.returns
returns c = let all_clauses = puts_four c.args.at (tile_word ++ (32 ∷ [])) (decimal c.args.x) (32 ∷ []) (decimal c.args.y) c.args.out.now c.put-one.result c.put_decimal-two.result c.put-three.result c.put_decimal.result c.put-one.new.out c.put_decimal-two.new.out c.put-three.new.out c.put_decimal.new.out (c.put-one.ensures.next, c.put-one.ensures.out) (c.put_decimal-two.ensures.next, c.put_decimal-two.ensures.out) (c.put-three.ensures.next, c.put-three.ensures.out) (c.put_decimal.ensures.next, c.put_decimal.ensures.out) c.requires.2 in record { next = all_clauses.0; out = all_clauses.1 }
