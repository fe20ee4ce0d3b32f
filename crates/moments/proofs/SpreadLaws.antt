-- Every port's value, in the room of the wires' values and as a list. Main laws: `spread_start`, `-step`, `-end`; `port_values_at`, `port_values_bits`.
-- Assumes nothing.
use Prim.Native.Nat.{ℕ, ◌+◌, ◌<◌, ◌≤◌}
use mathlib.Core.Path.{◌≡◌, refl, sym, ap, ◌∙◌}
use mathlib.Core.Logic.{⊎_elim}
use mathlib.Core.List.{List}
use native.Mathlib.Omega.{arith}
use borrow.Author.Count.{below_more}
use lib.ListN.{length, get_or, set, length-set}
use lib.Seq.{get_or-set_same, get_or-set_other}
use Rattle.lists.proofs.CaseLaws.{lt_or_le}
use Rattle.lists.proofs.TableLaws.{tabulate_length, tabulate_zero, tabulate_past, tabulate_is}
use Rattle.ports.specs.declared.size.Block.{Block}
use Rattle.ports.specs.Lengths.{ports}
use Rattle.fabric.specs.Wire.{wire_of, wires_of}
use Rattle.fabric.proofs.WireLaws.{wire_within, wire_idempotent, wires_at}
use Rattle.netlist.specs.Running.{Bits}
use Rattle.stepper.specs.Settling.{port_value, port_values, PortBits}

-- the first p of n ports have the value of their wire by the map, and the others what the run has left there
pub record Spread (map x : List ℕ) (n p : ℕ) (values : List ℕ) : Type 0 where
  pub upto : p ≤ n
  pub long : length values ≡ n
  pub spread : (k : ℕ) → k < p → get_or values k 0 ≡ get_or x (get_or map k 0) 0
  pub rest : (k : ℕ) → p ≤ k → get_or values k 0 ≡ get_or x k 0

module _ (map x : List ℕ) (n : ℕ) where
  pub spread_start : length x ≡ n → Spread map x n 0 x
  spread_start e = record { upto = omega arith; long = e; spread = λ k l. absurd (omega arith); rest = λ k l. refl }

  module _ (p : ℕ) (values : List ℕ) (h : Spread map x n p values) where
    -- a port's wire still has its value: it is a lower port, which took its own, or this one
    wire_kept : get_or map (get_or map p 0) 0 ≡ get_or map p 0 → get_or values (get_or map p 0) 0 ≡ get_or x (get_or map p 0) 0
    wire_kept own =
        ⊎_elim (λ (k : get_or map p 0 < p). h.spread (get_or map p 0) k ∙ ap (λ (w : ℕ). get_or x w 0) own) (λ (k : p ≤ get_or map p 0). h.rest (get_or map p 0) k)
        (lt_or_le (get_or map p 0) p)

    pub spread_step : p < n → get_or map (get_or map p 0) 0 ≡ get_or map p 0 → (v : ℕ) → v ≡ get_or values (get_or map p 0) 0
        → Spread map x n (p + 1) (set values p v)
    spread_step l own v e = record {
      upto = omega arith;
      long = length-set values p v ∙ h.long;
      spread =
          below_more (λ k. get_or (set values p v) k 0 ≡ get_or x (get_or map k 0) 0) p
          (λ k lk. get_or-set_other values p k v 0 (λ q. absurd (omega arith)) ∙ h.spread k lk)
          (get_or-set_same values p v 0 (let m = h.long in omega arith) ∙ e ∙ wire_kept own);
      rest = λ k lk. get_or-set_other values p k v 0 (λ q. absurd (omega arith)) ∙ h.rest k (omega arith);
    }

module _ (B : Block) (map : List ℕ) (wired : map ≡ wires_of B) where
  -- the wire of a wire is itself
  pub wire_of_wire : (p : ℕ) → p < ports B → get_or map (get_or map p 0) 0 ≡ get_or map p 0
  wire_of_wire p l =
      let e = wires_at B map wired p l in
      ap (λ (w : ℕ). get_or map w 0) e ∙ wires_at B map wired (wire_of B p) (wire_within B p l) ∙ wire_idempotent B p l ∙ sym e

  pub spread_end : (x values : List ℕ) (p : ℕ) → Spread map x (ports B) p values → ports B ≤ p → values ≡ port_values B x
  unfolding port_values
  spread_end x values p h l =
      tabulate_is (port_value B x) 0 (ports B) values h.long
      (λ k lk. h.spread k (omega arith) ∙ ap (λ (w : ℕ). get_or x w 0) (wires_at B map wired k lk))

module _ (B : Block) (x : List ℕ) where
  -- ---- the list of every port's value

  pub port_values_long : length (port_values B x) ≡ ports B
  unfolding port_values
  port_values_long = tabulate_length (port_value B x) 0 (ports B)

  pub port_values_at : (p : ℕ) → p < ports B → get_or (port_values B x) p 0 ≡ port_value B x p
  unfolding port_values
  port_values_at p l = tabulate_zero (port_value B x) 0 (ports B) p l

  port_values_past : (p : ℕ) → ports B ≤ p → get_or (port_values B x) p 0 ≡ 0
  unfolding port_values
  port_values_past p l = tabulate_past (port_value B x) 0 0 (ports B) p l

  pub port_values_bits : PortBits B x → Bits (port_values B x)
  port_values_bits bits p =
      ⊎_elim (λ (l : p < ports B). rw (port_values_at p l) (bits p l)) (λ (l : ports B ≤ p). rw (port_values_past p l) (omega arith)) (lt_or_le p (ports B))
