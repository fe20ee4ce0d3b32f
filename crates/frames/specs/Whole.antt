-- A whole input: its frames in order, its text, and what a routing table that was filled from it holds.
use Rattle.std.specs.Prelude.{ℕ, ◌*◌, ◌≤◌, ◌≡◌, List, ◌∷◌, ◌++◌, map, length}
use Rattle.routing.specs.LogicTile.{logic_tile}
use Rattle.routing.specs.Table.{field_at, passive_count, passive_at, group_count, destination_of, width_of, position_at, entry_count, pattern_at, source_at}
use Rattle.texts.specs.Each.{each, Each, EachFrom}
use Rattle.frames.specs.Frames.{Entry, Group, Frame, fields, passives, group, size, tile, line, Proper}

-- what the frames of an input say
pub record Input : Type 0 where
  pub a : ℕ
  pub b : ℕ
  pub c : ℕ
  pub passive : List ℕ
  pub groups : List Group
  pub w : ℕ
  pub h : ℕ
  pub extra : List ℕ
  pub tiles : List (List ℕ)

-- "One 01, one 02, the 03s, one 04, the 05s."
abbrev pub frames_of : Input → List Frame
frames_of i = fields i.a i.b i.c ∷ passives i.passive ∷ (map group i.groups ++ (size i.w i.h i.extra ∷ map tile i.tiles))

-- the lines of frames, one after another
abbrev pub text : List Frame → List ℕ
text fs = each line fs

-- the opposite of "W or H not 1 to 8 (programs: 1 to 3)"
pub record Small (w h : ℕ) : Type 0 where
  pub w_some : 1 ≤ w
  pub w_few : w ≤ 3
  pub h_some : 1 ≤ h
  pub h_few : h ≤ 3

-- s is the text of input i, and i is as it should be
pub record Whole (s : List ℕ) (i : Input) : Type 0 where
  pub proper : Each Proper (frames_of i)
  pub groups_few : length i.groups ≤ 512
  pub small : Small i.w i.h
  pub tiles_all : length i.tiles ≡ i.h * i.w
  pub is : s ≡ text (frames_of i)

-- ---- what a routing table holds, by the names that the rest of the reader uses

module _ (table : List ℕ) where
  -- entry e of group g of the table is x
  pub record EntryHolds (g e : ℕ) (x : Entry) : Type 0 where
    pub pattern : pattern_at logic_tile table g e ≡ x.pattern
    pub source : source_at logic_tile table g e ≡ x.source

  -- group g of the table is x
  pub record GroupHolds (g : ℕ) (x : Group) : Type 0 where
    pub destination : destination_of logic_tile table g ≡ x.destination
    pub width : width_of logic_tile table g ≡ length x.positions
    pub positions : EachFrom (λ k p. position_at logic_tile table g k ≡ p) 0 x.positions
    pub count : entry_count logic_tile table g ≡ length x.entries
    pub entries : EachFrom (EntryHolds g) 0 x.entries

  -- the table has the fields, passive list and groups of input i
  pub record Holds (i : Input) : Type 0 where
    pub negclk : field_at table 0 ≡ i.a
    pub carryset : field_at table 1 ≡ i.b
    pub chain : field_at table 2 ≡ i.c
    pub passive_count_lem : passive_count logic_tile table ≡ length i.passive
    pub passives : EachFrom (λ k p. passive_at logic_tile table k ≡ p) 0 i.passive
    pub group_count_lem : group_count logic_tile table ≡ length i.groups
    pub groups : EachFrom GroupHolds 0 i.groups

-- the bytes of tiles, one after another
abbrev pub flat : List (List ℕ) → List ℕ
flat ts = each (λ t. t) ts
