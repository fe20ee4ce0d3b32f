-- The size of a program's block, at most nine tiles, and the front of a room. Main laws: `small_tiles`, `front_long`.
use Prim.Native.Nat.{ℕ, ◌≤◌}
use mathlib.Core.Path.{◌≡◌}
use mathlib.Core.List.{List}
use native.Mathlib.Omega.{arith}
use native.Mathlib.Nat.{mul-le-mul}
use lib.ListN.{length, take}
use lib.Seq.{length-take-le}
use Rattle.ports.specs.declared.size.Block.{Block}
use Rattle.ports.specs.Block.{tiles}
use Rattle.frames.specs.Whole.{Small}

pub small_tiles : (B : Block) → Small B.w B.h → tiles B ≤ 9
small_tiles B s = mul-le-mul s.h_few s.w_few

-- the front of a room is as long as it should be
pub front_long : (k m : ℕ) (room : List ℕ) → m ≡ length room → k ≤ m → length (take k room) ≡ k
front_long k m room e h = length-take-le k room (omega arith)
