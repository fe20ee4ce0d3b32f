-- `check::count_wires` meets its contract: the sum of the tests is their count, which is no more than the length. Assumes nothing.
use Rattle.std.proofs.Common.{rules, sum_by, ◌≡◌, ◌<◌, ◌∙◌, ◌^◌, ℕ, Bool, List, length, not, arith}
use Rattle.std.proofs.lemmas.List.Sums.{count_by-le-length}
use Rattle.std.specs.Int.{from_bool}
use lib.Dec.{eqb}
use Rattle.lists.proofs.StdLaws.{sum_tests-is, count_by-is}
use Rattle.netlist.proofs.check.count_wires.Goals as goal

few : (xs : List ℕ) → length xs < 65536 → sum_by (λ x. from_bool (not (eqb x 0))) xs < 2 ^ 16
few xs l = omega (arith, sum_tests-is (λ x. not (eqb x 0)) xs, count_by-le-length (λ x. not (eqb x 0)) xs)

pub sum-count-requires-clause-fits : goal.sum-count-requires-clause-fits
sum-count-requires-clause-fits c =
    let h : sum_by (λ x. from_bool (not (eqb x 0))) c.args.wires.now < 65536 = few c.args.wires.now c.requires in
    search rules

pub returns : goal.returns
returns c =
    let wires = c.args.wires.now in
    let test : ℕ → Bool = λ x. not (eqb x 0) in
    let e : c.sum-count.result ≡ sum_by (λ x. from_bool (not (eqb x 0))) wires = search rules in
    c.from.ensures ∙ e ∙ sum_tests-is test wires ∙ count_by-is test 0 wires
