-- The checks that settling and clocking share: grounds 3 and 9 of table and settings, and ground 10 of bytes that are lent one behind another.
use Rattle.refusal.specs.declared.Refusal.{Refusal}
use Rattle.std.specs.Prelude.{ℕ, List, leb, length, Result, Ok, Err}
use Rattle.refusal.specs.Grounds.{unless}
use Rattle.refusal.specs.declared.Refusal.TheVariants.{Table, NoSuchSettings, NotABit}
use Rattle.routing.specs.LogicTile.{logic_tile}
use Rattle.routing.specs.TableCheck.{faulty_part, table_ok}
use Rattle.config.specs.Blocks.{bitless_tile}
use Rattle.sim.specs.Stepping.{bad_byte}

-- grounds 3 and 9 of n tiles, and `later` where neither is given
unfoldable pub settings_answer : List ℕ → List ℕ → ℕ → Result (Unit {0}) Refusal → Result (Unit {0}) Refusal
settings_answer t st n later =
    unless (table_ok logic_tile t) (Err (Table (faulty_part logic_tile t)))
    (unless (leb n (bitless_tile t st n)) (Err (NoSuchSettings (bitless_tile t st n)))
    later)

-- ground 10
unfoldable pub bytes_answer : List ℕ → Result (Unit {0}) Refusal
bytes_answer bytes = unless (leb (length bytes) (bad_byte bytes)) (Err (NotABit (bad_byte bytes))) (Ok tt)
