-- `writing::put_file` meets its contract. Invariant: .device and the tiles before t are put (`TilesPut`). Assumes nothing.
use Rattle.asc.specs.Site.{area_of}
use Rattle.asc.proofs.WriteLaws.{TilesPut}
use Rattle.asc.proofs.writing.put_file.Given as goal

abbrev pub invariant-loop-t : goal.invariant-loop-t
invariant-loop-t l = TilesPut (area_of l.site) l.bits l.initial.text l.t l.next l.text
