-- A tile all of whose set bits are taken: what is gathered, `pattern_gathered`, `single_gathered`; when the patterns are looked up its settings are
-- read, `taken_right`, and it can be decoded exactly if it has not the carry pair, `taken_exact`; `empty_exact`, `refused_exact`. Assumes nothing.
use mathlib.Core.Path.{◌≡◌, refl, sym, ap, ◌∙◌, subst}
use mathlib.Core.Logic.{⊎_elim, ◌≢◌}
use mathlib.Core.Bool.{true, false, not}
use mathlib.Core.List.{List}
use Prim.Native.Nat.{ℕ, ◌+◌, ◌-◌, ◌^◌, ◌<◌, ◌≤◌}
use native.Mathlib.Omega.{arith}
use native.Mathlib.Nat.{lt_of_lt_of_le}
use borrow.Author.Tests.{eq-eqb, ne_eqb, eqb-true, lt-leb}
use lib.Dec.{eqb}
use lib.ListN.{get_or}
use lib.Pow.{pow_mono}
use Rattle.lists.specs.Tables.{zeros}
use Rattle.lists.proofs.CaseLaws.{cases, clash, lt_or_le, eq_or_ne, and_left, and_right, and_true}
use Rattle.lists.proofs.TableLaws.{zeros_at}
use Rattle.digits.specs.Digits.{digit}
use Rattle.digits.proofs.DigitLaws.{digit_past, from_digits_lt, digit_from_digits, digits_same}
use Rattle.routing.specs.LogicTile.{logic_tile, carry_in_set, carry_chain}
use Rattle.routing.specs.Table.{field_at, passive_at, group_count, width_of, position_at}
use Rattle.routing.specs.Rules.{TableRules}
use Rattle.codec.specs.Bits.{unit, bit_at, tile_of}
use Rattle.codec.specs.Settings.{field_setting, group_setting, groups_from, cells_from}
use Rattle.ports.specs.Lengths.{tile_numbers, max_groups, max_positions, settings_length}
use Rattle.codec.specs.Groups.{group_bit, group_pattern, setting_of_pattern, read_group}
use Rattle.codec.specs.Decode.{setting_number, setting_at, decode}
use Rattle.codec.specs.Fault.{is_unlisted, tile_fault}
use Rattle.codec.specs.Limits.{both_carries}
use Rattle.codec.specs.Reading.{CarryPair, unlisted, unclaimed, carry_pair_lem, past_columns_lem, Decodable}
use Rattle.tile.specs.Taking.{GroupBit, Gathered, Taken, Found, Unfound, Undecodable}
use Rattle.codec.specs.declared.groups.GroupRead.TheVariants.{Setting}
use Rattle.codec.proofs.BitLaws.{bit_lt}
use Rattle.codec.proofs.TileRunLaws.{field_position_lt, passive_position_lt, group_position_lt}
use Rattle.codec.proofs.SettingAtLaws.{setting_field, setting_passive, setting_passive_rest, setting_of_group, setting_group_rest}
use Rattle.codec.proofs.DecodeLaws.{setting_kinds, decode_field, decode_empty}
use Rattle.codec.proofs.ListedLaws.{unlisted_exact}
use Rattle.tile.proofs.TakingLaws.{no_digit, gathered_start}
use Rattle.tile.proofs.FindingLaws.{found_start, found_off}
use Rattle.codec.proofs.FaultyLaws.{unclaimed_owner, field_owner, passive_owner, group_owner, tile_fault_exact}

-- the carry pair is read to both settings
pair_both : (table bits : List ℕ) → CarryPair table (bit_at bits) → both_carries (decode table (bit_at bits)) ≡ true
unfolding both_carries
pair_both table bits q =
    and_true (eq-eqb (field_setting (decode table (bit_at bits)) carry_in_set) 1 (decode_field table bits carry_in_set (omega arith) ∙ q.0))
    (eq-eqb (field_setting (decode table (bit_at bits)) carry_chain) 1 (decode_field table bits carry_chain (omega arith) ∙ q.1))

both_pair : (table bits : List ℕ) → both_carries (decode table (bit_at bits)) ≡ true → CarryPair table (bit_at bits)
unfolding both_carries
both_pair table bits e = (
  sym (decode_field table bits carry_in_set (omega arith)) ∙ eqb-true _ 1 (and_left (eqb (field_setting (decode table (bit_at bits)) carry_in_set) 1) _ e),
  sym (decode_field table bits carry_chain (omega arith)) ∙ eqb-true _ 1 (and_right (eqb (field_setting (decode table (bit_at bits)) carry_in_set) 1) _ e),
)

-- a tile that cannot be decoded has a position at fault
pub refused_exact : (table bits : List ℕ) → TableRules logic_tile table → Undecodable table bits → false ≡ eqb (tile_fault table (tile_of bits)) 864
refused_exact table bits T u = sym (ne_eqb _ 864 (λ e. u ((tile_fault_exact table bits T).0 e)))

-- ---- what is gathered when all set bits are taken

module _ (table bits settings : List ℕ) (T : TableRules logic_tile table) (G : Gathered table bits settings)
    (all : (p : ℕ) → p < 864 → bit_at bits p ≡ 1 → Taken table settings p) where
  -- a bit that would be gathered and is not is clear
  clear : (p : ℕ) → p < 864 → (Taken table settings p → ⊥) → bit_at bits p ≡ 0
  clear p h not_taken =
      ⊎_elim (λ (e : bit_at bits p ≡ 1). absurd (not_taken (all p h e))) (λ (e : bit_at bits p ≢ 1). omega (arith, bit_lt bits p)) (eq_or_ne (bit_at bits p) 1)

  -- a digit of a group's number that is no set bit of the group is 0
  no_bit : (g k : ℕ) → g < max_groups → (GroupBit table bits g k → ⊥) → digit (group_setting logic_tile settings g) k ≡ 0
  no_bit g k few not_set =
      ⊎_elim (λ (e : digit (group_setting logic_tile settings g) k ≡ 1). absurd (not_set (G.group g k few e)))
      (λ (e : digit (group_setting logic_tile settings g) k ≢ 1). omega arith) (eq_or_ne (digit (group_setting logic_tile settings g) k) 1)

  -- a group's number is its pattern
  pub pattern_gathered : (g : ℕ) → g < group_count logic_tile table → group_setting logic_tile settings g ≡ group_pattern logic_tile table (bit_at bits) g
  pattern_gathered g h =
      digits_same max_positions (group_setting logic_tile settings g) v (G.small g few) (lt_of_lt_of_le fits (pow_mono {i = width} {j = max_positions} narrow))
      (λ k l. ⊎_elim (inside k) (outside k) (lt_or_le k width))
    where
      width : ℕ
      width = width_of logic_tile table g

      v : ℕ
      v = group_pattern logic_tile table (bit_at bits) g

      few : g < max_groups
      few = omega (arith, T.few_groups)

      narrow : width ≤ max_positions
      narrow = (T.groups g h).few_positions

      fits : v < 2 ^ width
      fits = from_digits_lt (group_bit logic_tile table (bit_at bits) g) (λ j. bit_lt bits _) width

      inside : (k : ℕ) → k < width → digit (group_setting logic_tile settings g) k ≡ digit v k
      inside k l =
          let at : digit v k ≡ bit_at bits (position_at logic_tile table g k) =
          digit_from_digits (group_bit logic_tile table (bit_at bits) g) (λ j. bit_lt bits _) width k l in
          ⊎_elim
          (λ (e : bit_at bits (position_at logic_tile table g k) ≡ 1).
          (all (position_at logic_tile table g k) (group_position_lt table T g k h l) e).group g k (group_owner table T g k h l) (omega (arith, narrow))
          ∙ sym (at ∙ e))
          (λ (e : bit_at bits (position_at logic_tile table g k) ≢ 1).
          no_bit g k few (λ b. e b.one) ∙ sym (at ∙ omega (arith, bit_lt bits (position_at logic_tile table g k))))
          (eq_or_ne (bit_at bits (position_at logic_tile table g k)) 1)

      outside : (k : ℕ) → width ≤ k → digit (group_setting logic_tile settings g) k ≡ digit v k
      outside k l = no_bit g k few (λ b. omega (arith, b.narrow)) ∙ sym (digit_past v width k fits l)

  -- past the last group there is nothing
  pub rest_gathered : (g : ℕ) → group_count logic_tile table ≤ g → g < max_groups → group_setting logic_tile settings g ≡ 0
  rest_gathered g h few =
      digits_same max_positions (group_setting logic_tile settings g) 0 (G.small g few) (omega arith)
      (λ k l. no_bit g k few (λ b. omega (arith, b.group)) ∙ sym (no_digit k))

  -- what is not gathered is 0
  none_gathered : (n : ℕ) → n < settings_length → n < groups_from logic_tile → get_or settings n 0 ≡ 0 → setting_at table (bit_at bits) n ≡ 0
  none_gathered =
      setting_kinds table (λ (n : ℕ). n < groups_from logic_tile → get_or settings n 0 ≡ 0 → setting_at table (bit_at bits) n ≡ 0)
      (λ f h l z. setting_field table bits f h
      ∙ clear (field_at table f) (field_position_lt table T f h) (λ t. t.single f (field_owner table T f h) (omega arith) z))
      (λ j few h l z.
      let e : 3 + j - 3 ≡ j = omega arith in
      setting_passive table bits (3 + j) (omega arith) (omega arith) (omega arith)
      ∙ ap (λ (x : ℕ). bit_at bits (passive_at logic_tile table x)) e
      ∙ clear (passive_at logic_tile table j) (passive_position_lt table T j h)
      (λ t. t.single (3 + j) (passive_owner table T j h ∙ omega arith) (omega arith) z))
      (λ j few h l z. setting_passive_rest table bits (3 + j) (omega arith) (omega arith) (omega arith))
      (λ g few h l z. absurd (omega arith))
      (λ g few h l z. absurd (omega arith))
      (λ i h l z. absurd (omega arith))
      (λ i h l z. absurd (omega arith))

  -- fields and passive bits are what the bits read to
  pub single_gathered : (n : ℕ) → n < groups_from logic_tile → get_or settings n 0 ≡ setting_at table (bit_at bits) n
  single_gathered n l =
      ⊎_elim (λ (z : get_or settings n 0 ≡ 0). z ∙ sym (none_gathered n (omega arith) l z)) (λ (some : get_or settings n 0 ≢ 0). G.single n l some)
      (eq_or_ne (get_or settings n 0) 0)

  -- a pattern that is not listed is so in the bits
  pub unfound_undecodable : Unfound table settings → Undecodable table bits
  unfound_undecodable U D =
      let u : is_unlisted (read_group logic_tile table (bit_at bits) U.at) ≡ true =
      ap (λ (v : ℕ). is_unlisted (setting_of_pattern logic_tile table U.at v)) (sym (pattern_gathered U.at U.within)) ∙ U.none in
      let n = (unlisted_exact table bits U.at (T.groups U.at U.within)).0 u in
      D (position_at logic_tile table U.at 0) (unlisted U.at U.within n.0 n.1)

-- ---- and looked up

module _ (table bits gathered settings : List ℕ) (T : TableRules logic_tile table) (G : Gathered table bits gathered)
    (all : (p : ℕ) → p < 864 → bit_at bits p ≡ 1 → Taken table gathered p) (fits : (r : ℕ) → r < tile_numbers → get_or bits r 0 < 2 ^ unit)
    (F : Found table (group_count logic_tile table) gathered settings) where
  -- what a group's pattern reads to
  group_read_lem : (g : ℕ) → g < group_count logic_tile table → read_group logic_tile table (bit_at bits) g ≡ Setting (group_setting logic_tile settings g)
  group_read_lem g h =
      ap (setting_of_pattern logic_tile table g) (sym (pattern_gathered table bits gathered T G all g h)) ∙ F.group g h

  -- below the cells, the settings are what the bits read to
  pub taken_right : (n : ℕ) → n < cells_from logic_tile → get_or settings n 0 ≡ setting_at table (bit_at bits) n
  taken_right n l =
      ⊎_elim (λ (a : n < groups_from logic_tile). F.below n a ∙ single_gathered table bits gathered T G all n a)
      (λ (a : groups_from logic_tile ≤ n).
      let g : ℕ = n - groups_from logic_tile in
      let few : g < max_groups = omega arith in
      let e : groups_from logic_tile + g ≡ n = omega arith in
      subst (λ (x : ℕ). get_or settings x 0 ≡ setting_at table (bit_at bits) x) e
      (⊎_elim (λ (h : g < group_count logic_tile table). sym (setting_of_group table bits g few h ∙ ap setting_number (group_read_lem g h)))
      (λ (h : group_count logic_tile table ≤ g). F.past g h ∙ rest_gathered table bits gathered T G all g h few
      ∙ sym (setting_group_rest table bits (groups_from logic_tile + g) (omega arith) (omega arith) (omega arith)))
      (lt_or_le g (group_count logic_tile table))))
      (lt_or_le n (groups_from logic_tile))

  taken_decodable : both_carries (decode table (bit_at bits)) ≡ false → Decodable table (tile_of bits)
  taken_decodable single p (unlisted g h off none) =
      clash ((unlisted_exact table bits g (T.groups g h)).1 (off, none)) (ap is_unlisted (group_read_lem g h))
  taken_decodable single p (unclaimed q h free e) = omega (arith, unclaimed_owner table T p free, (all p h e).claimed)
  taken_decodable single p (carry_pair_lem q) = clash (pair_both table bits q) single
  taken_decodable single p (past_columns_lem r h e) = clash e (lt-leb (2 ^ unit) (get_or bits r 0) (fits r h))

  -- the answer, of the settings read
  pub taken_exact : not (both_carries (decode table (bit_at bits))) ≡ eqb (tile_fault table (tile_of bits)) 864
  taken_exact =
      ⊎_elim (λ (e : both_carries (decode table (bit_at bits)) ≡ true). ap not e ∙ refused_exact table bits T (λ D. D (field_at table carry_in_set) (carry_pair_lem (both_pair table bits e))))
      (λ (e : both_carries (decode table (bit_at bits)) ≡ false). ap not e ∙ sym (eq-eqb _ 864 ((tile_fault_exact table bits T).1 (taken_decodable e))))
      (cases (both_carries (decode table (bit_at bits))))

-- a tile with no bit set
no_carries : both_carries (zeros settings_length) ≡ false
unfolding both_carries
no_carries = refl

pub empty_exact : (table bits : List ℕ) → TableRules logic_tile table → ((p : ℕ) → bit_at bits p ≡ 0) → ((r : ℕ) → r < tile_numbers → get_or bits r 0 ≡ 0)
    → true ≡ eqb (tile_fault table (tile_of bits)) 864
empty_exact table bits T none zero =
    sym (eq-eqb _ 864
    ((tile_fault_exact table bits T).1
    (taken_decodable table bits (zeros settings_length) (zeros settings_length) T (gathered_start (zeros settings_length) settings_length refl refl)
    (λ p h e. absurd (omega (arith, none p))) (λ r h. omega (arith, zero r h))
    (found_off table (zeros settings_length) (zeros settings_length) 0 (group_count logic_tile table) (found_start table (zeros settings_length)) (omega arith)
    (λ j a b. zeros_at settings_length (groups_from logic_tile + j)))
    (ap both_carries (sym (decode_empty table bits none settings_length refl)) ∙ no_carries))))
