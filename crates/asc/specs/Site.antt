-- The caller's area as the code has it.
use Rattle.asc.specs.Area.{Area, area}
use Rattle.asc.specs.declared.area.Site.{Site}

abbrev pub area_of : Site → Area
area_of s = area s.w s.h s.x s.y
