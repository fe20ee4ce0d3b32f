-- Following a driver (document 01, 'Cells'): from a wire to the source of the switch that ends on it, as long as there is one.
--   DrivenBy == where following ends, over the switches and the equations' own words
--   driver_of == the same, computed over the map of sources; proofs/FollowingLaws.antt shows that they agree
use Rattle.std.specs.Prelude.{ℕ, zero, suc, ◌-◌, ◌≤◌, ◌<◌, ◌≡◌, ◌⊎◌, cond, List, eqb, length, get_or, set}
use Rattle.lists.specs.Search.{first}
use Rattle.lists.specs.Tables.{zeros}
use Rattle.ports.specs.declared.size.Block.{Block}
use Rattle.ports.specs.Block.{tiles}
use Rattle.ports.specs.PortIndex.{out_port, lout_port, cout_port, carry_in_mux, cen}
use Rattle.netlist.specs.Marks.{listed}
use Rattle.equations.specs.declared.drives.Drive.{Drive}
use Rattle.equations.specs.declared.drives.Drive.TheVariants.{Nothing, Low, High, CellOut, CellLout, CellCout, CarryMux}
use Rattle.equations.specs.Switches.{Ends, NoSwitch, origin}
use Rattle.equations.specs.Equations.{wire, ZeroPort, OpenPort, Undriven}
use Rattle.equations.specs.Drives.{drive_of}
use Rattle.drivers.specs.declared.follow.Driver.{Driver}
use Rattle.drivers.specs.declared.follow.Driver.TheVariants.{Open, Constant, Cell, Ring}
use Rattle.drivers.specs.declared.follow.Trace.{Trace}
use Rattle.drivers.specs.declared.follow.Trace.TheVariants.{End, Again}

module _ (B : Block) (t st : List ℕ) where
  -- one or more switches lead from wire w back to wire u
  pub data Leads : ℕ → ℕ → Type 0 where
    lead : {w : ℕ} (s : ℕ) → Ends B t st s w → Leads w (origin B t st s)
    on : {w m : ℕ} (s : ℕ) → Leads w m → Ends B t st s m → Leads w (origin B t st s)

  -- following from w comes to u: it is w itself, or switches lead there
  abbrev pub Comes : ℕ → ℕ → Type 0
  Comes w u = (w ≡ u) ⊎ Leads w u

  -- "ends at an open wire, a constant, a cell [..]. Cell here includes carry_in_mux and every cout. The answer gives the wire it ends at [..] and a
  -- constant's 0 or 1": what stands at wire u, on which no switch ends
  pub data StandsAt (u : ℕ) : Driver → Type 0 where
    open_wire : (T q : ℕ) → T < tiles B → OpenPort q → wire B T q ≡ u → Undriven B t st u → StandsAt u (Open u)
    zero_wire : (T q : ℕ) → T < tiles B → ZeroPort q → wire B T q ≡ u → StandsAt u (Constant u 0)
    one_wire : (T : ℕ) → T < tiles B → wire B T cen ≡ u → StandsAt u (Constant u 1)
    out_wire : (T i : ℕ) → T < tiles B → i < 8 → wire B T (out_port i) ≡ u → StandsAt u (Cell u)
    lout_wire : (T i : ℕ) → T < tiles B → i < 8 → wire B T (lout_port i) ≡ u → StandsAt u (Cell u)
    cout_wire : (T i : ℕ) → T < tiles B → i < 8 → wire B T (cout_port i) ≡ u → StandsAt u (Cell u)
    mux_wire : (T : ℕ) → T < tiles B → wire B T carry_in_mux ≡ u → StandsAt u (Cell u)

  -- "or reports a ring", "a ring's lowest"
  pub data DrivenBy (w : ℕ) : Driver → Type 0 where
    at_end_lem : (u : ℕ) (d : Driver) → Comes w u → NoSwitch B t st u → StandsAt u d → DrivenBy w d
    in_ring : (u : ℕ) → Comes w u → Leads u u → ((v : ℕ) → Leads u v → u ≤ v) → DrivenBy w (Ring u)

-- ---- computed

-- the driver at wire u, on which no switch ends
abbrev pub end_driver : ℕ → Drive → Driver
end_driver u Nothing = Open u
end_driver u Low = Constant u 0
end_driver u High = Constant u 1
end_driver u (CellOut T i) = Cell u
end_driver u (CellLout T i) = Cell u
end_driver u (CellCout T i) = Cell u
end_driver u (CarryMux T) = Cell u

-- every source of a map of sources (0, or one more than the source's wire) is a place of the map
abbrev pub Bounded : List ℕ → Type 0
Bounded sources = (w : ℕ) → get_or sources w 0 ≤ length sources

-- a walk from source to source, which marks where it was: it ends at a wire with no source, or comes again to a wire that it has marked
unfoldable pub traced : List ℕ → ℕ → List ℕ → ℕ → Trace
traced sources zero marks u = Again u
traced sources (suc k) marks u =
    cond (eqb (get_or sources u 0) 0) (End u) (cond (listed marks u) (Again u) (traced sources k (set marks u 1) (get_or sources u 0 - 1)))

-- the marks that it leaves
unfoldable pub traced_marks : List ℕ → ℕ → List ℕ → ℕ → List ℕ
traced_marks sources zero marks u = marks
traced_marks sources (suc k) marks u =
    cond (eqb (get_or sources u 0) 0) marks (cond (listed marks u) marks (traced_marks sources k (set marks u 1) (get_or sources u 0 - 1)))

-- the lowest wire of the ring that u is on: the lowest mark of a walk from it
abbrev pub ring_lowest : List ℕ → ℕ → ℕ
ring_lowest sources u = first (listed (traced_marks sources (suc (length sources)) (zeros (length sources)) u)) 0 (length sources)

abbrev pub trace_driver : Block → List ℕ → Trace → Driver
trace_driver B sources (End u) = end_driver u (drive_of B u)
trace_driver B sources (Again u) = Ring (ring_lowest sources u)

unfoldable pub driver_of : Block → List ℕ → ℕ → Driver
driver_of B sources w = trace_driver B sources (traced sources (suc (length sources)) (zeros (length sources)) w)
