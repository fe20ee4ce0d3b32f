-- `count_bits` meets its contract: the rows' ones together are the tile's set bits (`bit_count_rows`). Assumes nothing.
use Rattle.std.proofs.Common.{rules, ◌∙◌}
use Rattle.std.proofs.lemmas.Iterator.{YieldsList-from_slice, YieldsList-from_map}
use Rattle.std.proofs.lemmas.Iterator.Consumers.{sum_by_from_yields_List, fits_by_from_yields_list}
use Rattle.codec.proofs.BitLaws.{row_ones, bit_count_rows, row_ones_few}
use Rattle.codec.proofs.bits.count_bits.Goals as goal

pub sum-requires-clause-fits : goal.sum-requires-clause-fits
sum-requires-clause-fits c =
    fits_by_from_yields_list row_ones c.args.bits.now c.map.result _
    (YieldsList-from_map _ row_ones (YieldsList-from_slice c.args.bits.now cc) c.map.ensures.closure (λ x r q k. search rules))
    (row_ones_few c.args.bits.now c.requires)

pub returns : goal.returns
returns c =
    sum_by_from_yields_List row_ones c.args.bits.now c.map.result c.sum.result c.sum.ensures.ran
    (YieldsList-from_map _ row_ones (YieldsList-from_slice c.args.bits.now cc) c.map.ensures.closure (λ x r q k. search rules))
    ∙ bit_count_rows c.args.bits.now c.requires
