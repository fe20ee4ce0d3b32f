-- `writing::file_length` meets its contract. Invariant: the length of the tiles before t is counted (`Counted`). Assumes nothing.
use Rattle.asc.specs.Site.{area_of}
use Rattle.asc.proofs.LengthLaws.{Counted}
use Rattle.asc.proofs.writing.file_length.Given as goal

abbrev pub invariant-loop-t : goal.invariant-loop-t
invariant-loop-t l = Counted (area_of l.site) l.t l.length
