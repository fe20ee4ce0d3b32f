-- `follow::ring_lowest` meets its contract: the first mark that a walk from the wire leaves. Assumes nothing.
use mathlib.Core.Bool.{not}
use mathlib.Core.Path.{ap, ◌∙◌}
use lib.Dec.{eqb}
use lib.ListN.{length}
use Rattle.std.proofs.Common.{rules, tests}
use Rattle.std.specs.Prelude.{unwrap_or}
use Rattle.std.proofs.lemmas.Iterator.{YieldsList-from_slice}
use Rattle.std.proofs.lemmas.Iterator.Search.{position_from_yields_List}
use Rattle.lists.proofs.StdLaws.{position_or-is}
use Rattle.drivers.proofs.Tracing.{ring_lowest_marks}
use Rattle.drivers.proofs.follow.ring_lowest.Goals as goal

pub returns : goal.returns
returns c =
    let marks = c.walk.new.marks in
    let found = position_from_yields_List (λ mark. not (eqb mark 0)) _ _ _ c.position.ensures.ran (YieldsList-from_slice marks (cc)) (λ x b q k. search (rules, tests)) in
    record {
      answer = c.unwrap_or.ensures ∙ ap (λ o. unwrap_or o (length marks)) found ∙ position_or-is (λ mark. not (eqb mark 0)) 0 marks
          ∙ ring_lowest_marks c.args.sources.now c.args.u c.args.u marks c.walk.ensures.marks;
    }
