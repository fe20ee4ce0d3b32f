-- A block of logic tiles (document 01, 'The block and its sources' and 'Ports'; document 02, W2): its size, and all that joins depend on.
use Rattle.std.specs.Prelude.{ℕ, ◌+◌, ◌*◌, ◌≤◌, ◌<◌, Bool, ◌&&◌, leb, ltb}
use Rattle.ports.specs.declared.size.Size.{Size}
use Rattle.ports.specs.declared.size.Block.{Block}
use Rattle.ports.specs.Lengths.{ports_per_tile}

-- "A block is W by H iCE40 logic tiles": its size, which is all that reading and writing depend on ..
abbrev pub size : ℕ → ℕ → Size
size W H = record { w = W; h = H }

-- .. and the block, which is what joins depend on; W2: "where the owner says that the column to the east is logic or RAM" E is 1
abbrev pub block : ℕ → ℕ → ℕ → Block
block W H E = record { w = W; h = H; east = E }

-- the size of a block
abbrev pub size_of : Block → Size
size_of B = size B.w B.h

-- how many tiles a size and a block have
abbrev pub tile_count : Size → ℕ
tile_count S = S.h * S.w

abbrev pub tiles : Block → ℕ
tiles B = tile_count (size_of B)

-- "W and H from 1 to 8", as facts and as a test
pub record Allowed (S : Size) : Type 0 where
  pub w_some : 1 ≤ S.w
  pub w_few : S.w ≤ 8
  pub h_some : 1 ≤ S.h
  pub h_few : S.h ≤ 8

abbrev pub allowed : Size → Bool
allowed S = leb 1 S.w && leb S.w 8 && (leb 1 S.h && leb S.h 8)

-- a block of an allowed size, and W2's byte, "01 for such an east column, else 00", as facts and as a test
pub record Sized (B : Block) : Type 0 where
  pub w_some : 1 ≤ B.w
  pub w_few : B.w ≤ 8
  pub h_some : 1 ≤ B.h
  pub h_few : B.h ≤ 8
  pub east_known : B.east < 2

abbrev pub sized : Block → Bool
sized B = ltb B.east 2 && allowed (size_of B)

-- "Port q of tile t is number 506t + q."
abbrev pub port_of : ℕ → ℕ → ℕ
port_of t q = ports_per_tile * t + q

-- the number of port q of tile T; all tiles are logic tiles
abbrev pub tile_port : Block → ℕ → ℕ → ℕ
tile_port B T q = port_of T q

-- "Tile (x, y) has index y·W + x": the number of its port q
abbrev pub port : Block → ℕ → ℕ → ℕ → ℕ
port B x y q = port_of (y * B.w + x) q
