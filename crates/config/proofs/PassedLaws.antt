-- What a yes of `read` and `write` has passed, and the chain of checks that both share. Main laws: `read_passed`, `read_clean`;
-- `write_passed`, `write_fit`; `checks_cases`. Assumes nothing.
use Rattle.std.specs.Prelude.{Result, Ok, Err}
use mathlib.Core.Path.{◌≡◌, refl}
use mathlib.Core.Bool.{Bool, true, false}
use mathlib.Core.List.{List}
use Prim.Native.Nat.{ℕ, ◌*◌, ◌<◌}
use native.Mathlib.Omega.{arith}
use borrow.Author.Tests.{leb-true, not-false}
use lib.Dec.{leb}
use lib.ListN.{length}
use Rattle.lists.proofs.SearchLaws.{first_before}
use Rattle.refusal.specs.Grounds.{unless}
use Rattle.refusal.specs.declared.Refusal.{Refusal}
use Rattle.refusal.specs.declared.Refusal.TheVariants.{WrongSize, WrongLength, Table, Undecodable, NoSuchSettings}
use Rattle.ports.specs.declared.size.Size.{Size}
use Rattle.ports.specs.Block.{tile_count, allowed}
use Rattle.ports.proofs.BlockLaws.{allowed_exact}
use Rattle.routing.specs.LogicTile.{logic_tile}
use Rattle.routing.specs.TableCheck.{faulty_part, table_ok}
use Rattle.routing.proofs.TableCheckLaws.{table_exact}
use Rattle.codec.specs.Limits.{settings_fit}
use Rattle.codec.specs.Reading.{Decodable}
use Rattle.config.specs.Blocks.{settings_at, fault_place, bitless_at, bitless_tile, tiles_of}
use Rattle.config.specs.Entry.{lengths_ok, read_answer, write_answer}
use Rattle.config.specs.Facts.{Checked}
use Rattle.config.proofs.EntryLaws.{lengths_exact}
use Rattle.config.proofs.FaultPlaceLaws.{no_fault_decodable}

-- grounds 1, 2, 3 and that of the tiles, from their tests
abbrev pub checks : Bool → Bool → Bool → Bool → ℕ → Refusal → Result (Unit {0}) Refusal
checks size lengths table clean part last =
    unless size (Err WrongSize) (unless lengths (Err WrongLength) (unless table (Err (Table part)) (unless clean (Err last) (Ok tt))))

-- what holds of the first no, whichever it is, and of the yes holds of the answer
pub checks_cases : (size lengths table clean : Bool) (part : ℕ) (last : Refusal) (P : Result (Unit {0}) Refusal → Type 0)
    → (size ≡ false → P (Err WrongSize))
    → (size ≡ true → lengths ≡ false → P (Err WrongLength))
    → (size ≡ true → lengths ≡ true → table ≡ false → P (Err (Table part)))
    → (size ≡ true → lengths ≡ true → table ≡ true → clean ≡ false → P (Err last))
    → (size ≡ true → lengths ≡ true → table ≡ true → clean ≡ true → P (Ok tt))
    → P (checks size lengths table clean part last)
checks_cases false lengths table clean part last P a b c d e = a refl
checks_cases true false table clean part last P a b c d e = b refl refl
checks_cases true true false clean part last P a b c d e = c refl refl refl
checks_cases true true true false part last P a b c d e = d refl refl refl refl
checks_cases true true true true part last P a b c d e = e refl refl refl refl

-- a no is not a yes
pub refused_not_done : {A : Type 0} {r : Refusal} → ◌≡◌ {A = Result (Unit {0}) Refusal} (Err r) (Ok tt) → A
refused_not_done e = let z : ◌≡◌ {A = ℕ} 0 1 = cc in absurd (omega arith)

-- a yes has passed every test
pub record AllPass (size lengths table clean : Bool) : Type 0 where
  pub size_pass : size ≡ true
  pub lengths_pass : lengths ≡ true
  pub table_pass : table ≡ true
  pub clean_pass : clean ≡ true

pub checks_done : (size lengths table clean : Bool) (part : ℕ) (last : Refusal) → checks size lengths table clean part last ≡ (Ok tt)
    → AllPass size lengths table clean
checks_done size lengths table clean part last =
    checks_cases size lengths table clean part last (λ (a : Result (Unit {0}) Refusal). a ≡ (Ok tt) → AllPass size lengths table clean)
    (λ s e. refused_not_done e)
    (λ s l e. refused_not_done e)
    (λ s l t e. refused_not_done e)
    (λ s l t c e. refused_not_done e)
    (λ s l t c e. record { size_pass = s; lengths_pass = l; table_pass = t; clean_pass = c })

-- the first three tests, as facts
pub checked_of : (S : Size) (table : List ℕ) (bits settings : ℕ) → allowed S ≡ true
    → lengths_ok S (length table) bits settings ≡ true → table_ok logic_tile table ≡ true → Checked S table bits settings
checked_of S table bits settings s l t =
    let lengths = (lengths_exact S (length table) bits settings).0 l in
    record { size = (allowed_exact S).0 s; lengths = lengths; rules = (table_exact logic_tile table lengths.table_long).0 t }

module _ (S : Size) (table bits : List ℕ) (settings : ℕ) (done : read_answer S table bits settings ≡ (Ok tt)) where
  read_pass : AllPass (allowed S) (lengths_ok S (length table) (length bits) settings) (table_ok logic_tile table)
      (leb (logic_tile.positions * tile_count S) (fault_place table (tiles_of bits) (tile_count S)))
  unfolding read_answer
  read_pass = checks_done _ _ _ _ (faulty_part logic_tile table) (Undecodable (fault_place table (tiles_of bits) (tile_count S))) done

  pub read_passed : Checked S table (length bits) settings
  read_passed = checked_of S table (length bits) settings read_pass.size_pass read_pass.lengths_pass read_pass.table_pass

  -- no tile has a position at fault
  pub read_clean : (t : ℕ) → t < tile_count S → Decodable table (tiles_of bits t)
  read_clean = no_fault_decodable table bits read_passed.rules (tile_count S) (leb-true _ _ read_pass.clean_pass)

module _ (S : Size) (table settings : List ℕ) (bits : ℕ) (done : write_answer S table settings bits ≡ (Ok tt)) where
  write_pass : AllPass (allowed S) (lengths_ok S (length table) bits (length settings)) (table_ok logic_tile table)
      (leb (tile_count S) (bitless_tile table settings (tile_count S)))
  unfolding write_answer
  write_pass = checks_done _ _ _ _ (faulty_part logic_tile table) (NoSuchSettings (bitless_tile table settings (tile_count S))) done

  pub write_passed : Checked S table bits (length settings)
  write_passed = checked_of S table bits (length settings) write_pass.size_pass write_pass.lengths_pass write_pass.table_pass

  -- each tile's settings fit
  pub write_fit : (t : ℕ) → t < tile_count S → settings_fit table (settings_at settings t) ≡ true
  unfolding bitless_at
  write_fit t l =
      not-false (settings_fit table (settings_at settings t))
      (first_before (bitless_at table settings) 0 (tile_count S) t (omega arith)
      (omega (arith, leb-true (tile_count S) (bitless_tile table settings (tile_count S)) write_pass.clean_pass)))
