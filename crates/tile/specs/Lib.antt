-- How a whole tile is read. What reading and writing are stands in `codec`.
pub mod Taking  -- inner. Gathered, Learned, Taken, WithoutCell, Undecodable: settings while the set bits are taken one after another, and what stops that; Found, Unfound: their patterns looked up
