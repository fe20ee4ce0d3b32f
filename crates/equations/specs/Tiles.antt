-- The settings of a block: `settings_length` numbers for each tile, by its index (codec/specs/Settings.antt has the layout within a tile).
use Rattle.std.specs.Prelude.{ℕ, ◌+◌, ◌*◌, ◌≤◌, Bool, List, eqb, get_or, length}
use Rattle.digits.specs.Digits.{is_set}
use Rattle.routing.specs.LogicTile.{logic_tile, neg_clk, carry_in_set, carry_chain}
use Rattle.ports.specs.Lengths.{settings_length}
use Rattle.codec.specs.Settings.{groups_from, cells_from}

-- the settings of tile T are among st
abbrev pub TileInside : List ℕ → ℕ → Type 0
TileInside st T = settings_length * T + settings_length ≤ length st

-- number n of the settings of tile T
abbrev pub setting_of : List ℕ → ℕ → ℕ → ℕ
setting_of st T n = get_or st (settings_length * T + n) 0

-- "for each group, off or an entry": 0, or the entry from 1
abbrev pub group_of : List ℕ → ℕ → ℕ → ℕ
group_of st T g = setting_of st T (groups_from logic_tile + g)

-- the table, and the flags, of cell i of tile T
abbrev pub table_of : List ℕ → ℕ → ℕ → ℕ
table_of st T i = setting_of st T (cells_from logic_tile + 2 * i)

abbrev pub flags_at : List ℕ → ℕ → ℕ → ℕ
flags_at st T i = setting_of st T (cells_from logic_tile + 2 * i + 1)

-- "Bit 8 enables carry, 9 the flip-flop": flags 1 and 2
abbrev pub carry_on : List ℕ → ℕ → ℕ → Bool
carry_on st T i = is_set (flags_at st T i) 0

abbrev pub flop_on : List ℕ → ℕ → ℕ → Bool
flop_on st T i = is_set (flags_at st T i) 1

-- NegClk of tile T is set
abbrev pub inverted : List ℕ → ℕ → Bool
inverted st T = eqb (setting_of st T neg_clk) 1

-- carry_in_mux is "1 if set, carry_in if switched"
abbrev pub carry_set : List ℕ → ℕ → Bool
carry_set st T = eqb (setting_of st T carry_in_set) 1

abbrev pub chained : List ℕ → ℕ → Bool
chained st T = eqb (setting_of st T carry_chain) 1
