-- What the row of a wire says (document 01, 'The list and a step'): kind, operands and table, a constructor for each sentence of the equations.
use Rattle.std.specs.Prelude.{ℕ, ◌+◌, ◌*◌, ◌%◌, ◌<◌, ◌≡◌, true, false, List}
use Rattle.ports.specs.declared.size.Block.{Block}
use Rattle.ports.specs.Block.{tiles, tile_port}
use Rattle.ports.specs.Lengths.{ports_per_tile}
use Rattle.ports.specs.PortIndex.{in_port, out_port, cout_port, lout_port, carry_in, carry_in_mux, cen}
use Rattle.fabric.specs.Wire.{wire_of}
use Rattle.netlist.specs.declared.row.Row.{Row}
use Rattle.netlist.specs.Kinds.{lent_kind, zero_kind, one_kind, flip_flop_kind, copy_kind, lookup_kind, majority_kind}
use Rattle.equations.specs.Tiles.{table_of, carry_on, flop_on, carry_set, chained}
use Rattle.equations.specs.Switches.{origin, Ends, NoSwitch}
use Rattle.equations.specs.Equations.{carry_port, wire, ZeroPort, OpenPort, Undriven}

-- a row with no table and at most one operand: "unused numbers are 0"
abbrev pub plain_row : ℕ → ℕ → ℕ → Row
plain_row kind w a = record { kind = kind; wire = w; a = a; b = 0; c = 0; d = 0; table = 0 }

-- the wire of in_j of cell i of tile T
abbrev pub in_wire : Block → ℕ → ℕ → ℕ → ℕ
in_wire B T i j = wire_of B (tile_port B T (in_port i j))

-- "6 lookup (in_0 first)", "7 majority (in_1, in_2, carry-in)"
abbrev pub lookup_row : Block → List ℕ → ℕ → ℕ → ℕ → Row
lookup_row B st w T i =
    record { kind = lookup_kind; wire = w; a = in_wire B T i 0; b = in_wire B T i 1; c = in_wire B T i 2; d = in_wire B T i 3; table = table_of st T i }

abbrev pub majority_row : Block → ℕ → ℕ → ℕ → Row
majority_row B w T i =
    record { kind = majority_kind; wire = w; a = in_wire B T i 1; b = in_wire B T i 2; c = wire_of B (tile_port B T (carry_port i)); d = 0; table = 0 }

module _ (B : Block) (t st : List ℕ) (w : ℕ) where
  -- row r is that of wire w
  pub data RowSays : Row → Type 0 where
    -- "A wire with an enabled switch equals the source's wire": "5 copy"
    switch_copies : (s : ℕ) → Ends B t st s w → RowSays (plain_row copy_kind w (origin B t st s))
    -- "Span, neigh_op, glb_netwk, carry_in and ltin wires that nothing drives are open": "1 lent". Port number 506t + q is port q of its tile.
    open_lent : OpenPort (w % ports_per_tile) → Undriven B t st w → RowSays (plain_row lent_kind w 0)
    -- "With no switch, in, clk, s_r, local and glb2local are 0": "2 zero"
    no_switch_zero : ZeroPort (w % ports_per_tile) → NoSwitch B t st w → RowSays (plain_row zero_kind w 0)
    -- "and cen is 1": "3 one"
    no_switch_one : w % ports_per_tile ≡ cen → NoSwitch B t st w → RowSays (plain_row one_kind w 0)
    -- "out is the flip-flop where enabled": "4 flip-flop (operand 1 is 8t + i)"
    out_flip_flop : (T i : ℕ) → T < tiles B → i < 8 → wire B T (out_port i) ≡ w → flop_on st T i ≡ true
        → RowSays (plain_row flip_flop_kind w (8 * T + i))
    -- "else the lookup", "lout, and out without a flip-flop, are both kind 6"
    out_lookup : (T i : ℕ) → T < tiles B → i < 8 → wire B T (out_port i) ≡ w → flop_on st T i ≡ false → RowSays (lookup_row B st w T i)
    lout_lookup : (T i : ℕ) → T < tiles B → i < 8 → wire B T (lout_port i) ≡ w → RowSays (lookup_row B st w T i)
    -- "cout is the majority of in_1, in_2 and carry-in where carry is enabled, else 0"
    cout_majority : (T i : ℕ) → T < tiles B → i < 8 → wire B T (cout_port i) ≡ w → carry_on st T i ≡ true → RowSays (majority_row B w T i)
    cout_zero : (T i : ℕ) → T < tiles B → i < 8 → wire B T (cout_port i) ≡ w → carry_on st T i ≡ false → RowSays (plain_row zero_kind w 0)
    -- "carry_in_mux is 1 if set, carry_in if switched, else 0"
    mux_one : (T : ℕ) → T < tiles B → wire B T carry_in_mux ≡ w → carry_set st T ≡ true → RowSays (plain_row one_kind w 0)
    mux_copies : (T : ℕ) → T < tiles B → wire B T carry_in_mux ≡ w → carry_set st T ≡ false → chained st T ≡ true
        → RowSays (plain_row copy_kind w (wire B T carry_in))
    mux_zero : (T : ℕ) → T < tiles B → wire B T carry_in_mux ≡ w → carry_set st T ≡ false → chained st T ≡ false → RowSays (plain_row zero_kind w 0)
