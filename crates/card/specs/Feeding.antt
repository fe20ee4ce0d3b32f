-- "open wires that a leaving wire or a flip-flop's in, clk, cen or s_r wire depends on at any distance" (document 02, W14)
use Rattle.std.specs.Prelude.{ℕ, ◌<◌, ◌≡◌, true, List}
use Rattle.ports.specs.declared.size.Block.{Block}
use Rattle.ports.specs.Block.{tiles}
use Rattle.ports.specs.PortIndex.{in_port, clk, cen, s_r}
use Rattle.equations.specs.Tiles.{flop_on}
use Rattle.equations.specs.Equations.{wire, OpenWire, Depends}
use Rattle.card.specs.Leaving.{LeavingWire}

-- "a flip-flop's in, clk, cen or s_r wire": all four in wires, whatever its table, and cen and s_r whatever its kind
pub data FlipFlopWire (B : Block) (st : List ℕ) : ℕ → Type 0 where
  in_wire_lem : (T i j : ℕ) → T < tiles B → i < 8 → j < 4 → flop_on st T i ≡ true → FlipFlopWire B st (wire B T (in_port i j))
  clk_wire : (T i : ℕ) → T < tiles B → i < 8 → flop_on st T i ≡ true → FlipFlopWire B st (wire B T clk)
  cen_wire : (T i : ℕ) → T < tiles B → i < 8 → flop_on st T i ≡ true → FlipFlopWire B st (wire B T cen)
  s_r_wire : (T i : ℕ) → T < tiles B → i < 8 → flop_on st T i ≡ true → FlipFlopWire B st (wire B T s_r)

-- "a leaving wire or a flip-flop's [..] wire"
pub data Shown (B : Block) (t st : List ℕ) (w : ℕ) : Type 0 where
  leaves : LeavingWire B t st w → Shown B t st w
  clocked : FlipFlopWire B st w → Shown B t st w

-- wire d is an open wire that one of these depends on at any distance
pub record FeedingWire (B : Block) (t st : List ℕ) (d : ℕ) : Type 0 where
  pub open_wire : OpenWire B t st d
  pub shown : ℕ
  pub is_shown : Shown B t st shown
  pub depends : Depends B t st shown d
