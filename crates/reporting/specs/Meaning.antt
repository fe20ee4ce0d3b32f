-- What the lines 06 of an accepted block say, switch by switch. `wire_says` (proofs/SwitchLaws.antt) shows it of every wire.
use Rattle.std.specs.Prelude.{ℕ, ◌≡◌, List, []}
use Rattle.ports.specs.declared.size.Block.{Block}
use Rattle.equations.specs.Switches.{Ends, NoSwitch, origin}
use Rattle.equations.specs.Sources.{sources_of}
use Rattle.lines.specs.Lines.{switch_line}
use Rattle.lines.specs.Listing.{switch_part}

-- "06 is driven wire and source wire of each enabled switch": a wire on which a switch ends has the line of that switch, any other none
pub record WireSays (B : Block) (t st : List ℕ) (w : ℕ) : Type 0 where
  pub none : NoSwitch B t st w → switch_part (sources_of B t st) w ≡ []
  pub one : (s : ℕ) → Ends B t st s w → switch_part (sources_of B t st) w ≡ switch_line w (origin B t st s)
