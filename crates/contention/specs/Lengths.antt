-- Ground 2, "a lent length differs from the exact one": the lengths lent to `contentions`, and the exact ones, as a test and as facts. The list has any
-- length: ground 15 says where it is too short.
use Rattle.std.specs.Prelude.{◌≡◌, Bool, ◌&&◌, List, ℕ, eqb, length}
use Rattle.ports.specs.declared.size.Block.{Block}
use Rattle.ports.specs.Block.{size_of}
use Rattle.ports.specs.Lengths.{table_length, bits_length, settings_total, ports}
use Rattle.equations.specs.Switches.{switches}
use Rattle.contention.specs.declared.lengths.ContentionLent.{ContentionLent}

-- what `contentions` is lent: table, bits, and as work room settings, wires, heads and nexts
abbrev pub contention_lent : (table bits settings wires heads nexts : List ℕ) → ContentionLent
contention_lent table bits settings wires heads nexts = record {
  table = length table;
  bits = length bits;
  settings = length settings;
  wires = length wires;
  heads = length heads;
  nexts = length nexts;
}

-- wires and heads have a number for each port, nexts one for each switch
abbrev pub contention_exact : Block → ContentionLent → Bool
contention_exact B lent =
    eqb lent.table table_length
    && (eqb lent.bits (bits_length (size_of B))
    && (eqb lent.settings (settings_total (size_of B))
    && (eqb lent.wires (ports B) && (eqb lent.heads (ports B) && eqb lent.nexts (switches B)))))

-- these lengths are the exact ones
pub record ContentionLong (B : Block) (lent : ContentionLent) : Type 0 where
  pub table_long : lent.table ≡ table_length
  pub bits_long : lent.bits ≡ bits_length (size_of B)
  pub settings_long : lent.settings ≡ settings_total (size_of B)
  pub wires_long : lent.wires ≡ ports B
  pub heads_long : lent.heads ≡ ports B
  pub nexts_long : lent.nexts ≡ switches B
