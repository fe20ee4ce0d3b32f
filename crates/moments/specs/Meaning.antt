-- What the answers of `settle` and `clock` say, in the papers' words. proofs/SettleMeaning.antt and proofs/ClockMeaning.antt show it of every answer.
use Rattle.std.specs.Prelude.{ℕ, ◌<◌, List, ◌++◌, Result, Ok, Err}
use Rattle.refusal.specs.declared.Refusal.{Refusal}
use Rattle.refusal.specs.declared.Refusal.TheVariants as no
use Rattle.ports.specs.declared.size.Size.{Size}
use Rattle.ports.specs.declared.size.Block.{Block}
use Rattle.ports.specs.Block.{size_of, tile_count, tiles, Allowed, Sized}
use Rattle.ports.specs.Lengths.{ports, state_length}
use Rattle.netlist.specs.Checking.{RowStands, FirstBad}
use Rattle.netlist.specs.Running.{Bits}
use Rattle.routing.specs.LogicTile.{logic_tile}
use Rattle.routing.specs.Rules.{TableRules, FirstBroken}
use Rattle.codec.specs.Reading.{HasBits}
use Rattle.config.specs.Blocks.{settings_at}
use Rattle.config.specs.Facts.{LowestBitless}
use Rattle.stepper.specs.Settling.{wire_marks}
use Rattle.sim.specs.Meaning.{FirstAbove}
use Rattle.moments.specs.declared.lengths.SettleLent.{SettleLent}
use Rattle.moments.specs.declared.lengths.ClockLent.{ClockLent}
use Rattle.moments.specs.Lengths.{SettleLong, ClockLong}

-- not ground 12: every row of the list may stand where it does. A block's wire is a port that is the lowest of its chain of joins (`wire_own_exact`,
-- fabric/proofs/WireLaws.antt).
abbrev pub Stands : Block → List ℕ → Type 0
Stands B list = (i : ℕ) → i < ports B → RowStands list (state_length (size_of B)) (wire_marks B) i

-- ---- settling

module _ (B : Block) (t st list state lent : List ℕ) (all : SettleLent) where
  -- none of grounds 1, 2, 3 and 9
  pub record Settleable : Type 0 where
    pub size : Sized B
    pub lengths : SettleLong B all
    pub rules : TableRules logic_tile t
    pub has_bits : (T : ℕ) → T < tiles B → HasBits t (settings_at st T)

  -- "settling gives 1, 2, 3, 9, 12, 10 as now": what each no says; there is no other
  pub data SettleNo : Refusal → Type 0 where
    wrong_size : (Sized B → ⊥) → SettleNo no.WrongSize
    wrong_length : Sized B → (SettleLong B all → ⊥) → SettleNo no.WrongLength
    broken : (part : ℕ) → Sized B → SettleLong B all → FirstBroken logic_tile t part → SettleNo (no.Table part)
    bitless : (T : ℕ) → Sized B → SettleLong B all → TableRules logic_tile t → LowestBitless t st (tiles B) T → SettleNo (no.NoSuchSettings T)
    bad_row_lem : (row : ℕ) → Settleable → row < ports B → FirstBad list (state_length (size_of B)) (wire_marks B) (ports B) row → SettleNo (no.Row row)
    not_a_bit : (index : ℕ) → Settleable → Stands B list → FirstAbove (state ++ lent) index → SettleNo (no.NotABit index)

  -- a yes: none of them holds; what it writes is in the clause `values`
  abbrev pub SettleSays : Result (Unit {0}) Refusal → Type 0
  SettleSays (Ok _) = Settleable × Stands B list × Bits state × Bits lent
  SettleSays (Err refusal) = SettleNo refusal

-- ---- clocking

module _ (S : Size) (t st state before after : List ℕ) (all : ClockLent) where
  -- none of grounds 1, 2, 3 and 9
  pub record Clocks : Type 0 where
    pub size : Allowed S
    pub lengths : ClockLong S all
    pub rules : TableRules logic_tile t
    pub has_bits : (T : ℕ) → T < tile_count S → HasBits t (settings_at st T)

  -- "clocking 1, 2, 3, 9, 10, where 10 also covers settled values, after the state": what each no says; there is no other
  pub data ClockNo : Refusal → Type 0 where
    no_size : (Allowed S → ⊥) → ClockNo no.WrongSize
    no_length : Allowed S → (ClockLong S all → ⊥) → ClockNo no.WrongLength
    no_table : (part : ℕ) → Allowed S → ClockLong S all → FirstBroken logic_tile t part → ClockNo (no.Table part)
    no_settings : (T : ℕ) → Allowed S → ClockLong S all → TableRules logic_tile t → LowestBitless t st (tile_count S) T → ClockNo (no.NoSuchSettings T)
    no_bit : (index : ℕ) → Clocks → FirstAbove (state ++ before ++ after) index → ClockNo (no.NotABit index)

  -- a yes: none of them holds; what it writes is in the clause `next`
  abbrev pub ClockSays : Result (Unit {0}) Refusal → Type 0
  ClockSays (Ok _) = Clocks × Bits state × Bits before × Bits after
  ClockSays (Err refusal) = ClockNo refusal
