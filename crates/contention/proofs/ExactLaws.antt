-- What an answer of `contentions` says fits one answer, and one content of the lent list, only. Main law: `contentions_exact`. Assumes nothing.
use Rattle.std.specs.Prelude.{Result, Ok, Err}
use Prim.Native.Nat.{ℕ, ◌*◌, ◌≤◌}
use mathlib.Core.Path.{◌≡◌, sym, subst, ◌∙◌}
use mathlib.Core.List.{List}
use native.Mathlib.Omega.{arith}
use borrow.Author.Tests.{ne_eqb, le-leb, lt-leb}
use lib.Dec.{leb}
use lib.ListN.{length}
use Rattle.lists.proofs.CaseLaws.{test_false}
use Rattle.lists.proofs.ListingLaws.{count_unique, listed_unique}
use Rattle.refusal.specs.Grounds.{unless}
use Rattle.refusal.specs.declared.Refusal.{Refusal}
use Rattle.refusal.specs.declared.Refusal.TheVariants.{WrongSize, WrongLength, Table, Undecodable}
use Rattle.ports.specs.declared.size.Block.{Block}
use Rattle.ports.specs.Block.{sized, tiles}
use Rattle.ports.proofs.BlockLaws.{sized_exact, sized_true}
use Rattle.routing.specs.LogicTile.{logic_tile}
use Rattle.routing.specs.TableCheck.{faulty_part, part_count, table_ok}
use Rattle.routing.proofs.TableCheckLaws.{table_exact, faulty_part_exact}
use Rattle.config.specs.Blocks.{fault_place, tiles_of}
use Rattle.config.proofs.FaultPlaceLaws.{fault_place_exact, decodable_no_fault}
use Rattle.block.proofs.RoutedLaws.{routed_of_read}
use Rattle.contention.specs.declared.lengths.ContentionLent.{ContentionLent}
use Rattle.contention.specs.Contentions.{row_length, contention_count}
use Rattle.contention.specs.Lengths.{contention_exact}
use Rattle.contention.specs.Entry.{rows_answer, settings_read}
use Rattle.contention.specs.Meaning.{Readable, ListsContentions, ContentionsNo, wrong_size, wrong_length, broken, undecodable, too_short, ContentionsSay}
use Rattle.contention.proofs.ContentionLaws.{contentions_listed}
use Rattle.contention.proofs.LengthLaws.{contention_long_exact}
use Rattle.contention.proofs.EntryLaws.{rows_short, rows_yes}

module _ (B : Block) (t bits : List ℕ) (lent : ContentionLent) where
  abbrev st : List ℕ
  st = settings_read B t bits

  abbrev place : ℕ
  place = fault_place t (tiles_of bits) (tiles B)

  -- the answer, `list` being the length lent, by the tests of its grounds. `contentions_answer` is the same where `lent` has the lists' lengths: reading looks
  -- at these itself. Here `lent` is any
  abbrev told : ℕ → Result ℕ Refusal
  told list =
      unless (sized B) (Err WrongSize)
      (unless (contention_exact B lent) (Err WrongLength)
      (unless (table_ok logic_tile t) (Err (Table (faulty_part logic_tile t)))
      (unless (leb (logic_tile.positions * tiles B) place) (Err (Undecodable place))
      (rows_answer B t st list))))

  -- ---- the block is read

  module _ (read : Readable B t bits lent) where
    clean : logic_tile.positions * tiles B ≤ place
    clean = let e = decodable_no_fault t bits read.rules (tiles B) read.tiles_read_lem.decodable in omega (arith, e)

    count_is : {list : List ℕ} {rows : ℕ} → ListsContentions B t bits lent list rows → rows ≡ contention_count B t st
    count_is L =
        count_unique L
        (contentions_listed B t st (routed_of_read B t bits read.size read.rules clean) (row_length * contention_count B t st) (omega arith))

    read_told : (list : ℕ) → rows_answer B t st list ≡ told list
    read_told list = rw (
      sized_true B read.size,
      (contention_long_exact B lent).1 read.lengths,
      (table_exact logic_tile t read.rules.long).1 read.rules,
      le-leb (logic_tile.positions * tiles B) place clean,
    )

  -- ---- an answer that says so is that one

  no_told : (list : ℕ) {refusal : Refusal} → ContentionsNo B t bits lent list refusal → Err refusal ≡ told list
  no_told list (wrong_size none) = rw (test_false (sized B) (sized_exact B).0 none)
  no_told list (wrong_length size none) = rw (sized_true B size, test_false (contention_exact B lent) (contention_long_exact B lent).0 none)
  no_told list (broken part size long broke) =
      let few = broke.counted in
      rw (
        sized_true B size,
        (contention_long_exact B lent).1 long,
        ((faulty_part_exact logic_tile t part).1 broke).0,
        ne_eqb part (part_count logic_tile t) (λ e. absurd (omega arith)),
      )
  no_told list (undecodable p size long rules low) =
      let e = (fault_place_exact t bits rules (tiles B) p).0 low in
      rw (
        sized_true B size,
        (contention_long_exact B lent).1 long,
        (table_exact logic_tile t rules.long).1 rules,
        ← e.0,
        lt-leb (logic_tile.positions * tiles B) p e.1,
      )
  no_told list (too_short rows full read L short) = rows_short B t st rows list (count_is read L) short ∙ read_told read list

  says_told : (before after : List ℕ) (r : Result ℕ Refusal) → ContentionsSay B t bits lent before after r → r ≡ told (length before)
  says_told before after (Ok rows) (long, y) =
      rows_yes B t st rows (length before) (count_is y.read y.listed) y.fits ∙ read_told y.read (length before)
  says_told before after (Err refusal) says = no_told (length before) says.1

  -- one answer, and one list, only
  pub contentions_exact : (before a b : List ℕ) (r q : Result ℕ Refusal) → ContentionsSay B t bits lent before a r → ContentionsSay B t bits lent before b q
      → (r ≡ q) × (a ≡ b)
  contentions_exact before a b r q x y =
      let e : r ≡ q = says_told before a r x ∙ sym (says_told before b q y) in
      (e, same r x (subst (ContentionsSay B t bits lent before b) (sym e) y))
    where
      same : (r : Result ℕ Refusal) → ContentionsSay B t bits lent before a r → ContentionsSay B t bits lent before b r → a ≡ b
      same (Ok rows) x y = listed_unique x.1.listed y.1.listed (omega arith) (x.0 ∙ sym y.0)
      same (Err refusal) x y = x.0 ∙ sym y.0
