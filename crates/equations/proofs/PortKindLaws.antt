-- Ports by what the equations say of them: open ports, constant ports, and ports that a switch may end on (`destination`) or not
-- (`no_destination`). Main laws: `open_zero`, `open_cen` (no open port is a constant one), `open_lt`, `zero_lt` (both are ports of a tile).
use Prim.Native.Nat.{ℕ, ◌+◌, ◌-◌, ◌≤◌, ◌<◌}
use mathlib.Core.Path.{◌≡◌, subst}
use mathlib.Core.Bool.{true, false}
use mathlib.Core.Logic.{◌⊎◌, inl, inr}
use native.Mathlib.Omega.{arith}
use native.Mathlib.Nat.{zero-add}
use lib.Dec.{leb}
use borrow.Author.Tests.{lt-ltb, le-ltb, lt-leb}
use Rattle.lists.proofs.CaseLaws.{and_false_right}
use Rattle.ports.specs.Lengths.{ports_per_tile}
use Rattle.ports.specs.PortIndex.{cen}
use Rattle.routing.specs.LogicTile.{is_destination}
use Rattle.equations.specs.Equations.{ZeroPort, in_port_lem, clk_port, s_r_port, local_port_lem, glb2local_port, OpenPort, span_port, neigh_op_port, glb_netwk_port, carry_in_port, ltin_port}

pub span_open : (q : ℕ) → q < 336 → OpenPort q
span_open q h = subst OpenPort (zero-add q) (span_port q h)

pub neigh_open : (q : ℕ) → 412 ≤ q → q < 476 → OpenPort q
neigh_open q h g = let e : 412 + (q - 412) ≡ q = omega arith in subst OpenPort e (neigh_op_port (q - 412) (omega arith))

pub destination : (q : ℕ) → q < 404 → is_destination q ≡ true
unfolding is_destination
destination q h = rw (lt-ltb q 404 h)

pub no_destination : (q : ℕ) → 404 ≤ q → (q < 476) ⊎ (478 < q) → is_destination q ≡ false
unfolding is_destination
no_destination q h (inl l) = rw (le-ltb q 404 h, lt-leb 476 q l)
no_destination q h (inr l) = rw (le-ltb q 404 h) (and_false_right (leb 476 q) _ (lt-leb q 478 l))

-- an open port is no constant one, and both are ports of a tile
pub open_low : {q : ℕ} → OpenPort q → 336 ≤ q → q < 404 → ⊥
open_low (span_port k h) a b = omega arith
open_low (neigh_op_port k h) a b = omega arith
open_low (glb_netwk_port k h) a b = omega arith
open_low carry_in_port a b = omega arith
open_low ltin_port a b = omega arith

open_global : {q : ℕ} → OpenPort q → 476 ≤ q → q < 479 → ⊥
open_global (span_port k h) a b = omega arith
open_global (neigh_op_port k h) a b = omega arith
open_global (glb_netwk_port k h) a b = omega arith
open_global carry_in_port a b = omega arith
open_global ltin_port a b = omega arith

pub open_cen : {q : ℕ} → OpenPort q → q ≡ cen → ⊥
open_cen o e = open_global o (omega arith) (omega arith)

pub open_zero : {q : ℕ} → OpenPort q → ZeroPort q → ⊥
open_zero o (in_port_lem i j hi hj) = open_low o (omega arith) (omega arith)
open_zero o clk_port = open_global o (omega arith) (omega arith)
open_zero o s_r_port = open_global o (omega arith) (omega arith)
open_zero o (local_port_lem k h) = open_low o (omega arith) (omega arith)
open_zero o (glb2local_port k h) = open_low o (omega arith) (omega arith)

pub open_lt : {q : ℕ} → OpenPort q → q < ports_per_tile
open_lt (span_port k h) = omega arith
open_lt (neigh_op_port k h) = omega arith
open_lt (glb_netwk_port k h) = omega arith
open_lt carry_in_port = omega arith
open_lt ltin_port = omega arith

pub zero_lt : {q : ℕ} → ZeroPort q → q < ports_per_tile
zero_lt (in_port_lem i j hi hj) = omega arith
zero_lt clk_port = omega arith
zero_lt s_r_port = omega arith
zero_lt (local_port_lem k h) = omega arith
zero_lt (glb2local_port k h) = omega arith
