-- The equations of a block and the rows that say the same. A reader starts with Switches and Equations.
pub mod Tiles  -- believed. The settings of a block, tile by tile. TileInside: they are long enough for a tile
pub mod Switches  -- believed. The enabled switches in order of tile and group; Contention
pub mod Equations  -- believed. Meets: every equation, sentence by sentence; ReadsWire, Depends
pub mod DisabledCarry  -- believed. Ground 6: a disabled carry output that is read
pub mod Drives  -- computed: stands_at, stands_drive. drive_of: what drives a wire where no switch does
pub mod RowMeaning  -- believed. RowSays: the row of a wire, a constructor a sentence
pub mod WireRows  -- computed: row_says, reads_exact, meets_solves, solves_meets. row_of: the row of each wire
pub mod Sources  -- computed: contended_exact, goes_leads, leads_goes. sources_of, contended_wire: maps that a pass over the switches makes
pub mod Routed  -- inner. What the checks of table and settings show
pub mod Settling  -- believed: Inputs; block_list is computed: listing, demand3. Settles: running the list gives the one choice of values that the equations allow
