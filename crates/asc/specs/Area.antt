-- The part of a chip that the caller names.
use Rattle.std.specs.Prelude.{ℕ, ◌+◌, ◌*◌, Bool, ◌&&◌, leb}
use Rattle.ports.specs.declared.size.Size.{Size}

-- "The caller names the south-west corner and the size": tile (i, j) of the block stands at x + i, y + j of the chip.
pub record Area : Type 0 where
  pub w : ℕ
  pub h : ℕ
  pub x : ℕ
  pub y : ℕ

abbrev pub area : ℕ → ℕ → ℕ → ℕ → Area
area w h x y = record { w = w; h = h; x = x; y = y }

abbrev pub area_at : Size → ℕ → ℕ → Area
area_at S x y = area S.w S.h x y

-- document 01: "A block is W by H [..] tiles"
abbrev pub tiles_of : Area → ℕ
tiles_of a = a.h * a.w

-- document 01: "W or H not 1 to 8", and "(1 also for a block reaching past 255)", turned round: the last tile stands at x + W - 1, y + H - 1
unfoldable pub sized : Area → Bool
sized a = leb 1 a.w && (leb a.w 8 && (leb 1 a.h && (leb a.h 8 && (leb (a.x + a.w) 256 && leb (a.y + a.h) 256))))
