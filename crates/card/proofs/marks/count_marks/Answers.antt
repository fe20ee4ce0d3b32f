-- `marks::count_marks` meets its contract: each mark counts one. Assumes nothing.
use Prim.Native.Nat.{ℕ}
use mathlib.Core.Path.{◌≡◌, ◌∙◌}
use mathlib.Core.Bool.{not}
use native.Mathlib.Omega.{arith}
use lib.Dec.{eqb}
use Rattle.std.proofs.Common.{rules, tests, lit<}
use Rattle.std.specs.Prelude.{sum_by}
use Rattle.std.specs.Int.{from_bool}
use Rattle.std.proofs.iter.runs.Made.{chains}
use Rattle.std.proofs.lemmas.Iterator.{YieldsList-from_slice}
use Rattle.std.proofs.lemmas.Iterator.Adapters.{fits_from_length, at_most_from_yields_List}
use Rattle.lists.proofs.StdLaws.{sum_tests-is, count_by-is}
use Rattle.card.proofs.marks.count_marks.Goals as goal

pub sum-requires-clause-fits : goal.sum-requires-clause-fits
sum-requires-clause-fits c =
    fits_from_length _ _ 18446744073709551615 _ (at_most_from_yields_List (YieldsList-from_slice c.args.marks.now cc) (omega arith))
    c.map.ensures.closure (lit< tt) (λ x r q k. search (rules, tests))

pub returns : goal.returns
returns c =
    let e : c.sum.result ≡ sum_by (λ (x : ℕ). from_bool (not (eqb x 0))) c.args.marks.now = search (rules, chains) in
    e ∙ sum_tests-is (λ x. not (eqb x 0)) c.args.marks.now ∙ count_by-is (λ x. not (eqb x 0)) 0 c.args.marks.now
