-- The grounds of `wire_number`, `lookup`, `bit_count`, `read` and `write` in their orders. Main laws: `wire_number_order`, `lookup_order`,
-- `bit_count_order`, `read_order`, `write_order`. Assumes nothing.
use Rattle.std.specs.Prelude.{Result, Ok, Err}
use Prim.Native.Nat.{ℕ}
use mathlib.Core.Path.{◌≡◌, refl, sym}
use mathlib.Core.Logic.{inl, inr}
use mathlib.Core.List.{List}
use native.Mathlib.Omega.{arith}
use borrow.Author.Tests.{eqb-true, eq-eqb, ltb-true, ltb-false}
use lib.Dec.{eqb, ltb}
use lib.ListN.{length}
use Rattle.lists.proofs.CaseLaws.{clash}
use Rattle.refusal.specs.Grounds.{answer_number, answer_value, number_value}
use Rattle.refusal.specs.declared.Refusal.{Refusal}
use Rattle.refusal.proofs.GroundsLaws.{unless_cases}
use Rattle.ports.specs.declared.size.Size.{Size}
use Rattle.ports.specs.declared.size.Block.{Block}
use Rattle.ports.specs.Block.{allowed, sized, tile_count, tiles, port_of}
use Rattle.ports.specs.Lengths.{ports_per_tile, bits_length}
use Rattle.ports.proofs.BlockLaws.{allowed_exact, allowed_true, sized_exact, sized_true, port_of_lt}
use Rattle.fabric.specs.WireNumber.{wire_number}
use Rattle.fabric.proofs.WireLaws.{wire_lowest}
use Rattle.cell.specs.Lookup.{looked_up}
use Rattle.routing.specs.LogicTile.{logic_tile}
use Rattle.routing.specs.Rules.{TableRules, FirstBroken}
use Rattle.config.specs.Entry.{read_answer, write_answer, bit_count_answer}
use Rattle.config.specs.Meaning.{ReadNo, wrong_size, wrong_length, broken, undecodable}
use Rattle.config.specs.WriteMeaning.{WriteNo}
use Rattle.config.specs.WriteMeaning as writing
use Rattle.config.proofs.PassedLaws.{write_passed, write_fit}
use Rattle.config.proofs.BlocksLaws.{fit_bits}
use Rattle.config.proofs.MeaningLaws.{read_says, write_says}
use Rattle.theorem.specs.EntryGrounds.{AllHaveBits, WireGrounds, LookupGrounds, CountGrounds, ReadGrounds, WriteGrounds}
use Rattle.theorem.proofs.ReadingLaws.{reads_exactly}

-- a table that keeps the rules has no part that breaks one
pub no_broken : (table : List ℕ) (i : ℕ) → FirstBroken logic_tile table i → TableRules logic_tile table → ⊥
no_broken table i f rules =
    let c = f.counted in
    let few = rules.few_groups in
    f.broken (record {
      there = omega arith;
      fields = λ e. rules.fields;
      passives = λ e. rules.passives;
      group = λ g e. rules.groups g (omega arith);
    })

module _ (B : Block) (tile port : ℕ) where
  abbrev WireOrder : Result ℕ Refusal → Type 0
  WireOrder r = WireGrounds B tile port (answer_number r) (number_value r)

  pub wire_number_order : WireOrder (wire_number B tile port)
  unfolding wire_number
  wire_number_order =
      unless_cases WireOrder (sized B) _ _ (λ e. inl (λ s. clash (sized_true B s) e, refl, refl))
      (λ e. unless_cases WireOrder (ltb tile (tiles B)) _ _
      (λ f. inr ((sized_exact B).0 e, inl (λ l. let k = ltb-false tile (tiles B) f in omega arith, refl, refl)))
      (λ f. let lt = ltb-true tile (tiles B) f in
      unless_cases WireOrder (ltb port ports_per_tile) _ _
      (λ g. inr ((sized_exact B).0 e, inr (lt, inl (λ l. let k = ltb-false port ports_per_tile g in omega arith, refl, refl))))
      (λ g. let lp = ltb-true port ports_per_tile g in
      inr ((sized_exact B).0 e, inr (lt, inr (lp, (refl, wire_lowest B (port_of tile port) (port_of_lt B tile port lt lp))))))))

module _ (table inputs : ℕ) where
  abbrev LookupOrder : Result ℕ Refusal → Type 0
  LookupOrder r = LookupGrounds table inputs (answer_number r) (number_value r)

  pub lookup_order : LookupOrder (looked_up table inputs)
  unfolding looked_up
  lookup_order =
      unless_cases LookupOrder (ltb inputs 16) _ _ (λ e. inl (λ l. let k = ltb-false inputs 16 e in omega arith, refl, refl))
      (λ e. inr (ltb-true inputs 16 e, (refl, refl)))

module _ (S : Size) (bits : List ℕ) (tile : ℕ) where
  abbrev CountOrder : Result ℕ Refusal → Type 0
  CountOrder r = CountGrounds S bits tile (answer_number r) (number_value r)

  pub bit_count_order : CountOrder (bit_count_answer S bits tile)
  unfolding bit_count_answer
  bit_count_order =
      unless_cases CountOrder (allowed S) _ _ (λ e. inl (λ s. clash (allowed_true S s) e, refl, refl))
      (λ e. unless_cases CountOrder (eqb (length bits) (bits_length S)) _ _
      (λ f. inr ((allowed_exact S).0 e, inl (λ l. clash (eq-eqb _ _ l) f, refl, refl)))
      (λ f. let long = eqb-true (length bits) (bits_length S) f in
      unless_cases CountOrder (ltb tile (tile_count S)) _ _
      (λ g. inr ((allowed_exact S).0 e, inr (long, inl (λ l. let k = ltb-false tile (tile_count S) g in omega arith, refl, refl))))
      (λ g. inr ((allowed_exact S).0 e, inr (long, inr (ltb-true tile (tile_count S) g, (refl, refl)))))))

module _ (S : Size) (table bits settings : List ℕ) where
  abbrev ReadOrder : Result (Unit {0}) Refusal → Type 0
  ReadOrder a = ReadGrounds S table bits settings (answer_number a) (answer_value a)

  read_no : (refusal : Refusal) → ReadNo S table bits (length settings) refusal → ReadOrder (Err refusal)
  read_no refusal (wrong_size n) = inl (n, refl, refl)
  read_no refusal (wrong_length n) = inr (n.0, inl (n.1, refl, refl))
  read_no refusal (broken part n) = inr (n.0, inr (n.1, inl (no_broken table part n.2, refl, n.2)))
  read_no refusal (undecodable place C low) =
      inr (C.size, inr (C.lengths, inr (C.rules, inl (λ d. d low.faulty_tile low.within low.position low.faulty, refl, low))))

  pub read_order : ReadOrder (read_answer S table bits (length settings))
  read_order = go (read_answer S table bits (length settings)) refl
    where
      go : (a : Result (Unit {0}) Refusal) → read_answer S table bits (length settings) ≡ a → ReadOrder a
      go (Ok _) e = let C = (reads_exactly S table bits (length settings)).0 e in inr (C.0.size, inr (C.0.lengths, inr (C.0.rules, inr (C.1, (refl, refl)))))
      go (Err refusal) e = read_no refusal (read_says S table bits settings _ (Err refusal) (sym e) refl).1

module _ (S : Size) (table settings bits : List ℕ) where
  abbrev WriteOrder : Result (Unit {0}) Refusal → Type 0
  WriteOrder a = WriteGrounds S table settings bits (answer_number a) (answer_value a)

  write_no : (refusal : Refusal) → WriteNo S table settings (length bits) refusal → WriteOrder (Err refusal)
  write_no refusal (writing.wrong_size n) = inl (n, refl, refl)
  write_no refusal (writing.wrong_length n) = inr (n.0, inl (n.1, refl, refl))
  write_no refusal (writing.broken part n) = inr (n.0, inr (n.1, inl (no_broken table part n.2, refl, n.2)))
  write_no refusal (writing.bitless tile C low) =
      inr (C.size, inr (C.lengths, inr (C.rules, inl (λ h. low.bitless (h tile low.within), refl, low))))

  pub write_order : WriteOrder (write_answer S table settings (length bits))
  write_order = go (write_answer S table settings (length bits)) refl
    where
      go : (a : Result (Unit {0}) Refusal) → write_answer S table settings (length bits) ≡ a → WriteOrder a
      go (Ok _) e =
          let C = write_passed S table settings (length bits) e in
          let all : AllHaveBits table settings (tile_count S)
          = λ T l. fit_bits table settings (tile_count S) C.rules C.lengths.settings_long T l (write_fit S table settings (length bits) e T l) in
          inr (C.size, inr (C.lengths, inr (C.rules, inr (all, (refl, refl)))))
      go (Err refusal) e = write_no refusal (write_says S table settings bits _ (Err refusal) (sym e) refl).1
