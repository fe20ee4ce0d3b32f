-- Ground 6: "a disabled cout is read: by an enabled switch, the chain, or an enabled next carry", place "lowest such wire".
use Rattle.std.specs.Prelude.{ℕ, suc, ◌≤◌, ◌<◌, ◌≡◌, true, false, List}
use Rattle.ports.specs.declared.size.Block.{Block}
use Rattle.ports.specs.Block.{tiles}
use Rattle.ports.specs.PortIndex.{carry_in, cout_port}
use Rattle.equations.specs.Tiles.{carry_on, chained}
use Rattle.equations.specs.Switches.{switches, enabled, origin}
use Rattle.equations.specs.Equations.{wire}

module _ (B : Block) (t st : List ℕ) where
  -- wire w is the cout of a cell whose carry is disabled
  pub record DisabledCarry (w : ℕ) : Type 0 where
    pub tile : ℕ
    pub cell : ℕ
    pub tile_within : tile < tiles B
    pub cell_within : cell < 8
    pub off : carry_on st tile cell ≡ false
    pub at : wire B tile (cout_port cell) ≡ w

  -- by whom a wire is read as a carry
  pub data CarryReader : ℕ → Type 0 where
    by_switch : (s : ℕ) → s < switches B → enabled B t st s ≡ true → CarryReader (origin B t st s)
    by_chain : (T : ℕ) → T < tiles B → chained st T ≡ true → CarryReader (wire B T carry_in)
    by_next : (T i : ℕ) → T < tiles B → suc i < 8 → carry_on st T (suc i) ≡ true → CarryReader (wire B T (cout_port i))

  -- "a disabled cout is read"
  abbrev pub DisabledCarryRead : ℕ → Type 0
  DisabledCarryRead w = DisabledCarry w × CarryReader w

  -- place "lowest such wire"
  pub record LowestDisabledCarry (w : ℕ) : Type 0 where
    pub here : DisabledCarryRead w
    pub least : (v : ℕ) → DisabledCarryRead v → w ≤ v
