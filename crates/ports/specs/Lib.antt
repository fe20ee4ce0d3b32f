-- What every layer knows of a block: its size, its ports, and how long what is lent for it is. A reader starts with Block.
pub mod Block  -- believed, but for allowed and sized (computed: allowed_exact, sized_exact). Size and Block; "W and H from 1 to 8"; tiles; the number of a port
pub mod Lengths  -- believed. How long bits, table, settings, state, values and list are
pub mod PortIndex  -- believed. sp4_hl k, .., ltin: the index of each port within its tile
pub mod Ports  -- computed: index_back, port_at_back. port_at: document 01's table of ports
pub mod PortNames  -- believed. index_of: the table read the other way; Within: the numbers of a name
