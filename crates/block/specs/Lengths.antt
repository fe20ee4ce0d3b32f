-- Ground 2, "a lent length differs from the exact one": the lengths lent to `build` and `follow`, and the exact ones, as tests and as
-- facts. The figures are those of ports/specs/Lengths.antt.
use Rattle.std.specs.Prelude.{◌≡◌, Bool, ◌&&◌, List, ℕ, eqb, length}
use Rattle.ports.specs.declared.size.Block.{Block}
use Rattle.ports.specs.Block.{size_of}
use Rattle.ports.specs.Lengths.{table_length, bits_length, settings_total, ports, list_length}
use Rattle.block.specs.declared.lengths.RoomLent.{RoomLent}
use Rattle.block.specs.declared.lengths.BuildLent.{BuildLent}
use Rattle.block.specs.declared.lengths.FollowLent.{FollowLent}

-- what is lent to write a list of rows: the list, and as work room wires, sources, rows, marks and queue
abbrev pub room_lent : (list wires sources rows marks queue : List ℕ) → RoomLent
room_lent list wires sources rows marks queue = record {
  list = length list;
  wires = length wires;
  sources = length sources;
  rows = length rows;
  marks = length marks;
  queue = length queue;
}

abbrev pub room_exact : Block → RoomLent → Bool
room_exact B lent =
    eqb lent.list (list_length B)
    && (eqb lent.wires (ports B)
    && (eqb lent.sources (ports B) && (eqb lent.rows (list_length B) && (eqb lent.marks (ports B) && eqb lent.queue (ports B)))))

-- these lengths are the exact ones
pub record RoomLong (B : Block) (lent : RoomLent) : Type 0 where
  pub list_long : lent.list ≡ list_length B
  pub wires_long : lent.wires ≡ ports B
  pub sources_long : lent.sources ≡ ports B
  pub rows_long : lent.rows ≡ list_length B
  pub marks_long : lent.marks ≡ ports B
  pub queue_long : lent.queue ≡ ports B

-- what `build` is lent: table, bits, settings as work room, and room for the list
abbrev pub build_lent : (table bits settings : List ℕ) → RoomLent → BuildLent
build_lent table bits settings room = record { table = length table; bits = length bits; settings = length settings; room = room }

abbrev pub build_exact : Block → BuildLent → Bool
build_exact B lent =
    eqb lent.table table_length
    && (eqb lent.bits (bits_length (size_of B)) && (eqb lent.settings (settings_total (size_of B)) && room_exact B lent.room))

-- these lengths are the exact ones
pub record BuildLong (B : Block) (lent : BuildLent) : Type 0 where
  pub table_long : lent.table ≡ table_length
  pub bits_long : lent.bits ≡ bits_length (size_of B)
  pub settings_long : lent.settings ≡ settings_total (size_of B)
  pub room_long : RoomLong B lent.room

-- what `follow` is lent: table and settings, and as work room wires, sources and marks
abbrev pub follow_lent : (table settings wires sources marks : List ℕ) → FollowLent
follow_lent table settings wires sources marks = record {
  table = length table;
  settings = length settings;
  wires = length wires;
  sources = length sources;
  marks = length marks;
}

abbrev pub follow_exact : Block → FollowLent → Bool
follow_exact B lent =
    eqb lent.table table_length
    && (eqb lent.settings (settings_total (size_of B))
    && (eqb lent.wires (ports B) && (eqb lent.sources (ports B) && eqb lent.marks (ports B))))

-- these lengths are the exact ones
pub record FollowLong (B : Block) (lent : FollowLent) : Type 0 where
  pub table_long : lent.table ≡ table_length
  pub settings_long : lent.settings ≡ settings_total (size_of B)
  pub wires_long : lent.wires ≡ ports B
  pub sources_long : lent.sources ≡ ports B
  pub marks_long : lent.marks ≡ ports B
