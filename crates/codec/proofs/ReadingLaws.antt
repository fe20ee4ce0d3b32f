-- Reading is what the paper says: the decoding is the settings that the bits read to, and there are no others; settings fit exactly if some
-- bits read to them. Main laws: `decode_reads`, `reads_unique`; `settings_fit_exact` (ground 9). Assumes nothing.
use mathlib.Core.Path.{◌≡◌, sym, ap, ◌∙◌, subst}
use mathlib.Core.Logic.{◌↔◌, ⊎_elim}
use mathlib.Core.Bool.{true, not}
use mathlib.Core.List.{List}
use Prim.Native.Nat.{ℕ, suc, ◌+◌, ◌-◌, ◌*◌, ◌<◌, ◌≤◌}
use native.Mathlib.Omega.{arith}
use borrow.Author.Tests.{le-leb, eqb-true}
use lib.Dec.{eqb}
use lib.ListN.{length, get_or}
use lib.Seq.{ext_get_or}
use Rattle.lists.proofs.CaseLaws.{cases, and_left, and_right, and_true}
use Rattle.lists.proofs.SearchLaws.{all_of}
use Rattle.digits.specs.Digits.{digit}
use Rattle.digits.proofs.DigitLaws.{digits_same}
use Rattle.routing.specs.LogicTile.{logic_tile, carry_in_set, carry_chain}
use Rattle.ports.specs.Lengths.{max_groups, settings_length}
use Rattle.routing.specs.Table.{field_at, passive_at, group_count, entry_count}
use Rattle.routing.specs.Rules.{TableRules}
use Rattle.codec.specs.Bits.{bit_at, tile_of}
use Rattle.codec.specs.Settings.{field_setting, groups_from, cells_from}
use Rattle.codec.specs.Groups.{group_pattern, setting_of_pattern}
use Rattle.codec.specs.Decode.{setting_number, decode}
use Rattle.codec.specs.Encode.{slot_value, encode}
use Rattle.routing.specs.Slots.{slots_of}
use Rattle.codec.specs.Limits.{limit_at, within_limit, both_carries, settings_fit}
use Rattle.codec.specs.Writing.{Writable}
use Rattle.codec.specs.Reading.{carry_pair_lem, Decodable, ReadsTo, HasBits}
use Rattle.codec.proofs.BitLaws.{bit_lt}
use Rattle.codec.proofs.CellLaws.{value_lt, table_digit, flags_digit}
use Rattle.codec.proofs.GroupLaws.{setting_back, setting_number_le}
use Rattle.codec.proofs.EncodeLaws.{encode_length}
use Rattle.codec.proofs.LimitLaws.{limit_field, limit_passive, limit_group, limit_table, limit_flags}
use Rattle.codec.proofs.TileRunLaws.{slot_value_lt}
use Rattle.codec.proofs.DecodeLaws.{setting_kinds, decode_length, decode_field, decode_passive, decode_passive_rest, decode_group, decode_group_rest, decode_table, decode_flags}
use Rattle.codec.proofs.ListedLaws.{group_listed}
use Rattle.codec.proofs.SettingsBack.{settings_back, encode_decodable}
use Rattle.codec.proofs.BitsBack.{decodable_listed}

module _ (table bits : List ℕ) (T : TableRules logic_tile table) where
  -- the decoding is what the bits read to
  pub decode_reads : ReadsTo table (bit_at bits) (decode table (bit_at bits))
  decode_reads = record {
    long = decode_length table bits;
    field = decode_field table bits;
    passive = λ j h. decode_passive table bits j (omega (arith, T.passives.few)) h;
    group_off = λ g h z. decode_group table bits g (few g h) h ∙ ap (λ (v : ℕ). setting_number (setting_of_pattern logic_tile table g v)) z;
    group_entry = λ g e h L. decode_group table bits g (few g h) h ∙ ap (λ (v : ℕ). setting_number (setting_of_pattern logic_tile table g v)) L.pattern
        ∙ ap setting_number (setting_back logic_tile table g (T.groups g h) (suc e) L.entry);
    cell_table_lem = λ i j h l. ap (λ (v : ℕ). digit v j) (decode_table table bits i h) ∙ table_digit bits i j l;
    cell_flags_lem = λ i j h l. ap (λ (v : ℕ). digit v j) (decode_flags table bits i h) ∙ flags_digit bits i j l;
    table_fits = λ i h. omega (arith, decode_table table bits i h);
    flags_fit = λ i h. omega (arith, decode_flags table bits i h, value_lt bits i);
    passive_rest = λ j l h. decode_passive_rest table bits j h l;
    group_rest = λ g l h. decode_group_rest table bits g h l;
  }
    where
      few : (g : ℕ) → g < group_count logic_tile table → g < max_groups
      few g h = omega (arith, T.few_groups)

  -- decodable bits read to one settings only
  pub reads_unique : Decodable table (tile_of bits) → (a b : List ℕ) → ReadsTo table (bit_at bits) a → ReadsTo table (bit_at bits) b → a ≡ b
  reads_unique D a b A B =
      ext_get_or 0 a b (A.long ∙ sym B.long)
      (λ i h. setting_kinds table (λ (n : ℕ). get_or a n 0 ≡ get_or b n 0)
      (λ f l. A.field f l ∙ sym (B.field f l))
      (λ j few l. A.passive j l ∙ sym (B.passive j l))
      (λ j few l. A.passive_rest j l few ∙ sym (B.passive_rest j l few))
      (λ g few l. ⊎_elim (λ z. A.group_off g l z ∙ sym (B.group_off g l z)) (λ q. A.group_entry g q.0 l q.1 ∙ sym (B.group_entry g q.0 l q.1))
      (group_listed table bits g (decodable_listed table bits T D g l)))
      (λ g few l. A.group_rest g l few ∙ sym (B.group_rest g l few))
      (λ k l. digits_same 16 _ _ (A.table_fits k l) (B.table_fits k l) (λ j h. A.cell_table_lem k j l h ∙ sym (B.cell_table_lem k j l h)))
      (λ k l. digits_same 4 _ _ (A.flags_fit k l) (B.flags_fit k l) (λ j h. A.cell_flags_lem k j l h ∙ sym (B.cell_flags_lem k j l h)))
      i (omega (arith, A.long)))

  -- each setting that is read is within its limit
  decode_limit : (n : ℕ) → n < settings_length → get_or (decode table (bit_at bits)) n 0 ≤ limit_at table n
  decode_limit =
      setting_kinds table (λ (n : ℕ). get_or (decode table (bit_at bits)) n 0 ≤ limit_at table n)
      (λ f l. omega (arith, decode_field table bits f l, limit_field table f l, bit_lt bits (field_at table f)))
      (λ j few l. omega (
        arith,
        decode_passive table bits j few l,
        limit_passive table (3 + j) (omega arith) (omega arith) (omega arith),
        bit_lt bits
            (passive_at logic_tile table j),
      ))
      (λ j few l. omega (arith, decode_passive_rest table bits j few l))
      (λ g few l. let e : groups_from logic_tile + g - groups_from logic_tile ≡ g = omega arith in
      omega (
        arith,
        decode_group table bits g few l,
        limit_group table (groups_from logic_tile + g) (omega arith) (omega arith) (omega arith) ∙ ap (entry_count logic_tile table) e,
        setting_number_le logic_tile table g (group_pattern logic_tile table (bit_at bits) g),
      ))
      (λ g few l. omega (arith, decode_group_rest table bits g few l))
      (λ i l. omega (arith, decode_table table bits i l, limit_table table (cells_from logic_tile + 2 * i) (omega arith) (omega arith)))
      (λ i l. omega (arith, decode_flags table bits i l, value_lt bits i, limit_flags table (cells_from logic_tile + 2 * i + 1) (omega arith) (λ z. omega arith)))

  -- decodable bits read to settings that fit
  pub decode_fits : Decodable table (tile_of bits) → settings_fit table (decode table (bit_at bits)) ≡ true
  unfolding settings_fit both_carries
  decode_fits D =
      and_true (⊎_elim (λ e. absurd (D (field_at table carry_in_set) (carry_pair_lem (pair e)))) (λ e. ap not e) (cases (both_carries (decode table (bit_at bits)))))
      (all_of (within_limit table (decode table (bit_at bits))) 0 settings_length
      (λ n a b. le-leb (get_or (decode table (bit_at bits)) n 0) (limit_at table n) (decode_limit n (omega arith))))
    where
      on : (f : ℕ) → f < 3 → eqb (field_setting (decode table (bit_at bits)) f) 1 ≡ true → bit_at bits (field_at table f) ≡ 1
      on f h e = sym (decode_field table bits f h) ∙ eqb-true (field_setting (decode table (bit_at bits)) f) 1 e

      pair : both_carries (decode table (bit_at bits)) ≡ true → (bit_at bits (field_at table carry_in_set) ≡ 1) × (bit_at bits (field_at table carry_chain) ≡ 1)
      pair e = (
        on carry_in_set (omega arith) (and_left (eqb (field_setting (decode table (bit_at bits)) carry_in_set) 1) _ e),
        on carry_chain (omega arith) (and_right (eqb (field_setting (decode table (bit_at bits)) carry_in_set) 1) _ e),
      )

-- settings fit exactly if some bits read to them
module _ (table settings : List ℕ) (T : TableRules logic_tile table) (long : length settings ≡ settings_length) where
  pub fit_has_bits : settings_fit table settings ≡ true → HasBits table settings
  fit_has_bits fit = record {
    bits = encode table settings;
    long = encode_length (slots_of logic_tile table) (slot_value table settings) (slot_value_lt table settings);
    decodable = encode_decodable table settings can;
    reads = subst (ReadsTo table (bit_at (encode table settings))) (settings_back table settings can) (decode_reads table (encode table settings) T);
  }
    where
      can : Writable table settings
      can = record { rules = T; long = long; fit = fit }

  pub has_bits_fit : HasBits table settings → settings_fit table settings ≡ true
  has_bits_fit H =
      subst (λ (s : List ℕ). settings_fit table s ≡ true)
      (reads_unique table H.bits T H.decodable (decode table (bit_at H.bits)) settings (decode_reads table H.bits T) H.reads)
      (decode_fits table H.bits T H.decodable)

  pub settings_fit_exact : (settings_fit table settings ≡ true) ↔ HasBits table settings
  settings_fit_exact = (fit_has_bits, has_bits_fit)
