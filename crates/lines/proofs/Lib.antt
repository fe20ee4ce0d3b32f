-- Laws of the lines.
pub mod LineLaws  -- switch_none, switch_some, cell_none, cell_some: the part of a wire and of a cell
