-- `ports::port_at` meets its contract: each arm is a range of the table. Assumes nothing.
use Prim.Native.Nat.{ℕ, ◌≤◌}
use mathlib.Core.Path.{◌≡◌}
use native.Mathlib.Omega.{arith}
use native.Mathlib.Decide.{dec_lt}
use native.Mathlib.Nat.{sub-zero}
use Rattle.ports.specs.Lengths.{ports_per_tile}
use Rattle.ports.specs.PortIndex.{ltin}
use Rattle.ports.specs.Ports.{port_at}
use Rattle.ports.specs.declared.Port.TheVariants.{Ltin}
use Rattle.ports.proofs.PortLaws.{port_at_range, port_at_past}
use Rattle.ports.proofs.port_at.Goals as goal

port-at-last : (q : ℕ) → ltin ≤ q → Ltin ≡ port_at q
port-at-last q l = elim (dec_lt q ports_per_tile) [ yes h ↦ port_at_range 29 q l h | no h ↦ port_at_past q (omega arith) ]

pub returns-in-0-to-47 : goal.returns-in-0-to-47
returns-in-0-to-47 c = rw sub-zero at (port_at_range 0 c.args.q (omega arith) (omega arith))

pub returns-in-48-to-95 : goal.returns-in-48-to-95
returns-in-48-to-95 c = port_at_range 1 c.args.q (omega arith) (omega arith)

pub returns-in-96-to-143 : goal.returns-in-96-to-143
returns-in-96-to-143 c = port_at_range 2 c.args.q (omega arith) (omega arith)

pub returns-in-144-to-191 : goal.returns-in-144-to-191
returns-in-144-to-191 c = port_at_range 3 c.args.q (omega arith) (omega arith)

pub returns-in-192-to-239 : goal.returns-in-192-to-239
returns-in-192-to-239 c = port_at_range 4 c.args.q (omega arith) (omega arith)

pub returns-in-240-to-263 : goal.returns-in-240-to-263
returns-in-240-to-263 c = port_at_range 5 c.args.q (omega arith) (omega arith)

pub returns-in-264-to-287 : goal.returns-in-264-to-287
returns-in-264-to-287 c = port_at_range 6 c.args.q (omega arith) (omega arith)

pub returns-in-288-to-311 : goal.returns-in-288-to-311
returns-in-288-to-311 c = port_at_range 7 c.args.q (omega arith) (omega arith)

pub returns-in-312-to-335 : goal.returns-in-312-to-335
returns-in-312-to-335 c = port_at_range 8 c.args.q (omega arith) (omega arith)

pub returns-in-336-to-367 : goal.returns-in-336-to-367
returns-in-336-to-367 c = port_at_range 9 c.args.q (omega arith) (omega arith)

pub returns-in-368-to-371 : goal.returns-in-368-to-371
returns-in-368-to-371 c = port_at_range 10 c.args.q (omega arith) (omega arith)

pub returns-in-372-to-403 : goal.returns-in-372-to-403
returns-in-372-to-403 c = port_at_range 11 c.args.q (omega arith) (omega arith)

pub returns-in-404-to-411 : goal.returns-in-404-to-411
returns-in-404-to-411 c = port_at_range 12 c.args.q (omega arith) (omega arith)

pub returns-in-412-to-419 : goal.returns-in-412-to-419
returns-in-412-to-419 c = port_at_range 13 c.args.q (omega arith) (omega arith)

pub returns-in-420-to-427 : goal.returns-in-420-to-427
returns-in-420-to-427 c = port_at_range 14 c.args.q (omega arith) (omega arith)

pub returns-in-428-to-435 : goal.returns-in-428-to-435
returns-in-428-to-435 c = port_at_range 15 c.args.q (omega arith) (omega arith)

pub returns-in-436-to-443 : goal.returns-in-436-to-443
returns-in-436-to-443 c = port_at_range 16 c.args.q (omega arith) (omega arith)

pub returns-in-444-to-451 : goal.returns-in-444-to-451
returns-in-444-to-451 c = port_at_range 17 c.args.q (omega arith) (omega arith)

pub returns-in-452-to-459 : goal.returns-in-452-to-459
returns-in-452-to-459 c = port_at_range 18 c.args.q (omega arith) (omega arith)

pub returns-in-460-to-467 : goal.returns-in-460-to-467
returns-in-460-to-467 c = port_at_range 19 c.args.q (omega arith) (omega arith)

pub returns-in-468-to-475 : goal.returns-in-468-to-475
returns-in-468-to-475 c = port_at_range 20 c.args.q (omega arith) (omega arith)

pub returns-in-476 : goal.returns-in-476
returns-in-476 c = port_at_range 21 c.args.q (omega arith) (omega arith)

pub returns-in-477 : goal.returns-in-477
returns-in-477 c = port_at_range 22 c.args.q (omega arith) (omega arith)

pub returns-in-478 : goal.returns-in-478
returns-in-478 c = port_at_range 23 c.args.q (omega arith) (omega arith)

pub returns-in-479-to-486 : goal.returns-in-479-to-486
returns-in-479-to-486 c = port_at_range 24 c.args.q (omega arith) (omega arith)

pub returns-in-487 : goal.returns-in-487
returns-in-487 c = port_at_range 25 c.args.q (omega arith) (omega arith)

pub returns-in-488 : goal.returns-in-488
returns-in-488 c = port_at_range 26 c.args.q (omega arith) (omega arith)

pub returns-in-489-to-496 : goal.returns-in-489-to-496
returns-in-489-to-496 c = port_at_range 27 c.args.q (omega arith) (omega arith)

pub returns-in-497-to-504 : goal.returns-in-497-to-504
returns-in-497-to-504 c = port_at_range 28 c.args.q (omega arith) (omega arith)

pub returns-in_default : goal.returns-in_default
returns-in_default c = port-at-last _ (omega arith)
