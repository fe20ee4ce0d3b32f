-- The wires of all ports of a block, as they are filled in. What a port's wire is stands in `fabric`.
pub mod Fill  -- inner. Wired: a slice that is filled with wires; Copies, Crosses, Numbers: what filling a range of ports asks of it
