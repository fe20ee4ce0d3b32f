-- Ground 2, "a lent length differs from the exact one": the lengths lent to `settle` and `clock`, and the exact ones, as tests and as facts. The figures
-- are those of ports/specs/Lengths.antt.
use Rattle.std.specs.Prelude.{◌≡◌, Bool, ◌&&◌, List, ℕ, eqb, length}
use Rattle.ports.specs.declared.size.Size.{Size}
use Rattle.ports.specs.declared.size.Block.{Block}
use Rattle.ports.specs.Block.{size_of}
use Rattle.ports.specs.Lengths.{table_length, settings_total, state_length, ports, list_length}
use Rattle.moments.specs.Clocking.{values_length}
use Rattle.moments.specs.declared.lengths.SettleRoomLent.{SettleRoomLent}
use Rattle.moments.specs.declared.lengths.SettleLent.{SettleLent}
use Rattle.moments.specs.declared.lengths.ClockLent.{ClockLent}

-- ---- settling

-- what it writes: the output values, then the work room wires, own and marks
abbrev pub settle_room_lent : (values wires own marks : List ℕ) → SettleRoomLent
settle_room_lent values wires own marks = record { values = length values; wires = length wires; own = length own; marks = length marks }

abbrev pub settle_room_exact : Block → SettleRoomLent → Bool
settle_room_exact B room =
    eqb room.values (ports B) && (eqb room.wires (ports B) && (eqb room.own (ports B) && eqb room.marks (ports B)))

-- these lengths are the exact ones
pub record SettleRoomLong (B : Block) (room : SettleRoomLent) : Type 0 where
  pub values_long : room.values ≡ ports B
  pub wires_long : room.wires ≡ ports B
  pub own_long : room.own ≡ ports B
  pub marks_long : room.marks ≡ ports B

-- what it reads, `lent` being the lent values, and that
abbrev pub settle_lent : (table settings list state lent : List ℕ) → SettleRoomLent → SettleLent
settle_lent table settings list state lent room = record {
  table = length table;
  settings = length settings;
  list = length list;
  state = length state;
  lent = length lent;
  room = room;
}

abbrev pub settle_exact : Block → SettleLent → Bool
settle_exact B all =
    eqb all.table table_length
    && (eqb all.settings (settings_total (size_of B))
    && (eqb all.list (list_length B)
    && (eqb all.state (state_length (size_of B)) && (eqb all.lent (ports B) && settle_room_exact B all.room))))

-- these lengths are the exact ones
pub record SettleLong (B : Block) (all : SettleLent) : Type 0 where
  pub table_long : all.table ≡ table_length
  pub settings_long : all.settings ≡ settings_total (size_of B)
  pub list_long : all.list ≡ list_length B
  pub state_long : all.state ≡ state_length (size_of B)
  pub lent_long : all.lent ≡ ports B
  pub room_long : SettleRoomLong B all.room

-- ---- clocking: the output next is of the length `next`

abbrev pub clock_lent : (table settings state before after : List ℕ) → ℕ → ClockLent
clock_lent table settings state before after next = record {
  table = length table;
  settings = length settings;
  state = length state;
  before = length before;
  after = length after;
  next = next;
}

abbrev pub clock_exact : Size → ClockLent → Bool
clock_exact S all =
    eqb all.table table_length
    && (eqb all.settings (settings_total S)
    && (eqb all.state (state_length S)
    && (eqb all.before (values_length S) && (eqb all.after (values_length S) && eqb all.next (state_length S)))))

-- these lengths are the exact ones
pub record ClockLong (S : Size) (all : ClockLent) : Type 0 where
  pub table_long : all.table ≡ table_length
  pub settings_long : all.settings ≡ settings_total S
  pub state_long : all.state ≡ state_length S
  pub before_long : all.before ≡ values_length S
  pub after_long : all.after ≡ values_length S
  pub next_long : all.next ≡ state_length S
