-- The equations of a block, sentence by sentence, over the ports of its tiles (document 01, 'Cells'), and what depends on what.
use Rattle.std.specs.Prelude.{ℕ, zero, suc, ◌+◌, ◌*◌, ◌≤◌, ◌<◌, ◌≡◌, true, false, List, get_or}
use Rattle.ports.specs.declared.size.Block.{Block}
use Rattle.ports.specs.Block.{tiles, tile_port}
use Rattle.ports.specs.PortIndex.{local_port, glb2_local, in_port, out_port, clk, cen, s_r, glb_netwk, carry_in, carry_in_mux, cout_port, lout_port, ltin, sp4_hl, neigh_bnl}
use Rattle.fabric.specs.Wire.{wire_of}
use Rattle.cell.specs.Lookup.{lookup_bit, majority}
use Rattle.equations.specs.Tiles.{table_of, carry_on, flop_on, carry_set, chained}
use Rattle.equations.specs.Switches.{switches, enabled, target, origin, NoSwitch}

-- "Carry-in of cell 0 is carry_in_mux, of others the cout before."
abbrev pub carry_port : ℕ → ℕ
carry_port zero = carry_in_mux
carry_port (suc i) = cout_port i

-- "in, clk, s_r, local and glb2local"
pub data ZeroPort : ℕ → Type 0 where
  in_port_lem : (i j : ℕ) → i < 8 → j < 4 → ZeroPort (in_port i j)
  clk_port : ZeroPort clk
  s_r_port : ZeroPort s_r
  local_port_lem : (k : ℕ) → k < 32 → ZeroPort (local_port k)
  glb2local_port : (k : ℕ) → k < 4 → ZeroPort (glb2_local k)

-- "Span, neigh_op, glb_netwk, carry_in and ltin": the spans are the 336 ports from sp4_h_l_0 on, neigh_op the 64 from neigh_op_bnl_0 on
pub data OpenPort : ℕ → Type 0 where
  span_port : (k : ℕ) → k < 336 → OpenPort (sp4_hl k)
  neigh_op_port : (k : ℕ) → k < 64 → OpenPort (neigh_bnl k)
  glb_netwk_port : (k : ℕ) → k < 8 → OpenPort (glb_netwk k)
  carry_in_port : OpenPort carry_in
  ltin_port : OpenPort ltin

-- the wire of port q of tile T
abbrev pub wire : Block → ℕ → ℕ → ℕ
wire B T q = wire_of B (tile_port B T q)

module _ (B : Block) (t st : List ℕ) where
  -- no cell has an output on wire w
  pub record NoCell (w : ℕ) : Type 0 where
    pub no_out : (T i : ℕ) → T < tiles B → i < 8 → wire B T (out_port i) ≡ w → ⊥
    pub no_lout : (T i : ℕ) → T < tiles B → i < 8 → wire B T (lout_port i) ≡ w → ⊥
    pub no_cout : (T i : ℕ) → T < tiles B → i < 8 → wire B T (cout_port i) ≡ w → ⊥
    pub no_mux : (T : ℕ) → T < tiles B → wire B T carry_in_mux ≡ w → ⊥

  -- "wires that nothing drives": no switch ends there and no cell has an output there
  pub record Undriven (w : ℕ) : Type 0 where
    pub no_switch : NoSwitch B t st w
    pub no_cell : NoCell w

  -- "Span, neigh_op, glb_netwk, carry_in and ltin wires that nothing drives are open": wire w is
  pub record OpenWire (w : ℕ) : Type 0 where
    pub tile : ℕ
    pub port : ℕ
    pub tile_within : tile < tiles B
    pub port_open : OpenPort port
    pub at : wire B tile port ≡ w
    pub undriven : Undriven w

  module _ (state lent v : List ℕ) where
    -- "a port has its wire's [value]"
    abbrev pub val : ℕ → ℕ → ℕ
    val T q = get_or v (wire B T q) 0

    -- the lookup of cell i of tile T
    abbrev pub looked : ℕ → ℕ → ℕ
    looked T i = lookup_bit (table_of st T i) (val T (in_port i 0)) (val T (in_port i 1)) (val T (in_port i 2)) (val T (in_port i 3))

    -- the values v meet every equation under this state and these lent values
    pub record Meets : Type 0 where
      -- "A wire with an enabled switch equals the source's wire."
      pub switch : (s : ℕ) → s < switches B → enabled B t st s ≡ true → get_or v (target B t s) 0 ≡ get_or v (origin B t st s) 0
      -- "lout is the lookup"
      pub lout : (T i : ℕ) → T < tiles B → i < 8 → val T (lout_port i) ≡ looked T i
      -- "out is the flip-flop where enabled, else the lookup"
      pub out_flop : (T i : ℕ) → T < tiles B → i < 8 → flop_on st T i ≡ true → val T (out_port i) ≡ get_or state (8 * T + i) 0
      pub out_look : (T i : ℕ) → T < tiles B → i < 8 → flop_on st T i ≡ false → val T (out_port i) ≡ looked T i
      -- "cout is the majority of in_1, in_2 and carry-in where carry is enabled, else 0"
      pub cout_on : (T i : ℕ) → T < tiles B → i < 8 → carry_on st T i ≡ true
          → val T (cout_port i) ≡ majority (val T (in_port i 1)) (val T (in_port i 2)) (val T (carry_port i))
      pub cout_off : (T i : ℕ) → T < tiles B → i < 8 → carry_on st T i ≡ false → val T (cout_port i) ≡ 0
      -- "carry_in_mux is 1 if set, carry_in if switched, else 0"
      pub mux_set : (T : ℕ) → T < tiles B → carry_set st T ≡ true → val T carry_in_mux ≡ 1
      pub mux_chain : (T : ℕ) → T < tiles B → carry_set st T ≡ false → chained st T ≡ true → val T carry_in_mux ≡ val T carry_in
      pub mux_none : (T : ℕ) → T < tiles B → carry_set st T ≡ false → chained st T ≡ false → val T carry_in_mux ≡ 0
      -- "With no switch, in, clk, s_r, local and glb2local are 0 and cen is 1"
      pub zeros : (T q : ℕ) → T < tiles B → ZeroPort q → NoSwitch B t st (wire B T q) → val T q ≡ 0
      pub ones : (T : ℕ) → T < tiles B → NoSwitch B t st (wire B T cen) → val T cen ≡ 1
      -- "Span, neigh_op, glb_netwk, carry_in and ltin wires that nothing drives are open: the caller lends their value, read at the wire's number."
      pub open_wires : (T q : ℕ) → T < tiles B → OpenPort q → Undriven (wire B T q) → val T q ≡ get_or lent (wire B T q) 0

  -- "A wire depends on those its equation reads, by structure, even where a table ignores an input [..]. A flip-flop out and a disabled cout
  -- depend on nothing." The equation of wire w reads wire d.
  pub data ReadsWire : ℕ → ℕ → Type 0 where
    switch_reads : (s : ℕ) → s < switches B → enabled B t st s ≡ true → ReadsWire (target B t s) (origin B t st s)
    lout_reads : (T i j : ℕ) → T < tiles B → i < 8 → j < 4 → ReadsWire (wire B T (lout_port i)) (wire B T (in_port i j))
    out_reads : (T i j : ℕ) → T < tiles B → i < 8 → j < 4 → flop_on st T i ≡ false → ReadsWire (wire B T (out_port i)) (wire B T (in_port i j))
    cout_reads_in1 : (T i : ℕ) → T < tiles B → i < 8 → carry_on st T i ≡ true → ReadsWire (wire B T (cout_port i)) (wire B T (in_port i 1))
    cout_reads_in2 : (T i : ℕ) → T < tiles B → i < 8 → carry_on st T i ≡ true → ReadsWire (wire B T (cout_port i)) (wire B T (in_port i 2))
    cout_reads_carry : (T i : ℕ) → T < tiles B → i < 8 → carry_on st T i ≡ true → ReadsWire (wire B T (cout_port i)) (wire B T (carry_port i))
    mux_reads : (T : ℕ) → T < tiles B → carry_set st T ≡ false → chained st T ≡ true → ReadsWire (wire B T carry_in_mux) (wire B T carry_in)

  -- "and on itself where a chain of such readings, one or more, leads back to it"
  pub data Depends : ℕ → ℕ → Type 0 where
    reads : {w d : ℕ} → ReadsWire w d → Depends w d
    via : {w m d : ℕ} → ReadsWire w m → Depends m d → Depends w d

  -- no wire depends on itself
  abbrev pub NoLoop : Type 0
  NoLoop = (w : ℕ) → Depends w w → ⊥

  -- "7: loop: lowest wire depending on itself"
  pub record LowestLooped (w : ℕ) : Type 0 where
    pub here : Depends w w
    pub least : (v : ℕ) → Depends v v → w ≤ v
