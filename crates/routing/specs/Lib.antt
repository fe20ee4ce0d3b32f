-- The lent routing table and its rules.
pub mod TileKind  -- believed. What the rules need to know of a kind of tile
pub mod LogicTile  -- believed. logic_tile: the logic tile is one; where its cells' bits stand
pub mod TileTables  -- believed. kind_of, table_for: the kind of a block's tile and its table
pub mod Table  -- believed. The layout of the lent table
pub mod Slots  -- believed: slot_at, slot_used; the rest is computed: claimed_exact. Every claim on a position as a slot of one sequence
pub mod Rules  -- believed. TableRules: document 01's rules, sentence by sentence
pub mod Claims  -- computed: claims_exact. ClaimedOnce: "none is claimed twice", over who claims, which is what the rules say
pub mod TableCheck  -- computed: table_exact, faulty_part_exact. faulty_part: the first part that breaks a rule (ground 3)
pub mod Claiming  -- inner. SlotRun, TableOwned: what claiming a part's positions takes and leaves
pub mod Marks  -- inner. Marked, MarkedBefore: the patterns of a group's first entries, marked while it is checked
