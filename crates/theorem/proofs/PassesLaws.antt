-- Checks 1 to 4, and 1 to 6, pass exactly if `build` gives none of their grounds. Main laws: `four_exactly`, `six_exactly`. Assumes nothing.
use Rattle.std.specs.Prelude.{Result, Ok, Err}
use mathlib.Core.Path.{◌≡◌, refl, sym, subst, ◌∙◌}
use mathlib.Core.Logic.{◌↔◌}
use mathlib.Core.List.{List}
use native.Mathlib.Omega.{arith}
use Prim.Native.Nat.{ℕ, ◌<◌}
use lib.ListN.{length}
use Rattle.refusal.specs.declared.Refusal.{Refusal}
use Rattle.refusal.specs.Grounds.{number_of}
use Rattle.ports.specs.declared.size.Block.{Block}
use Rattle.ports.specs.Block.{size_of}
use Rattle.ports.proofs.BlockLaws.{sized_allowed}
use Rattle.block.specs.declared.lengths.RoomLent.{RoomLent}
use Rattle.block.specs.Lengths.{build_lent}
use Rattle.block.specs.Building.{list_answer}
use Rattle.block.specs.Meaning.{Readable, ListNo, ListSays, contention, disabled_carry, loop, cell_clock, BuildNo, BuildSays, wrong_size, wrong_length, broken, undecodable, unlisted}
use Rattle.block.proofs.MeaningLaws.{list_says, build_says}
use Rattle.contention.specs.Entry.{settings_read}
use Rattle.theorem.specs.Calls.{PassesFour, Beyond, built}
use Rattle.theorem.specs.Demand3.{PassesSix}
use Rattle.theorem.proofs.ReadableLaws.{readable_of_four, readable_routed, readable_built}
use Rattle.theorem.proofs.ReadingLaws.{reads_exactly}

module _ (B : Block) (t bits settings : List ℕ) (room : RoomLent) where
  abbrev st : List ℕ
  st = settings_read B t bits

  four_of_readable : Readable B t bits (build_lent t bits settings room) → PassesFour B t bits settings room
  four_of_readable R = record {
    read_done = (reads_exactly (size_of B) t bits (length settings)).1 (
      record {
        size = sized_allowed B R.size;
        lengths = record { table_long = R.lengths.table_long; bits_long = R.lengths.bits_long; settings_long = R.lengths.settings_long };
        rules = R.rules;
      },
      R.tiles_read_lem.decodable,
    );
    east_known = R.size.east_known;
    room_long = R.lengths.room_long;
  }

  -- what the answer is where checks 1 to 4 pass
  says_listed : PassesFour B t bits settings room → (built B t bits settings room ≡ list_answer B t st) × ListSays B t st (list_answer B t st)
  says_listed p =
      let R = readable_of_four B t bits settings room p in
      (readable_built B t bits settings room R, list_says B t st (readable_routed B t bits settings room R))

  pub four_exactly : PassesFour B t bits settings room ↔ Beyond 4 (built B t bits settings room)
  four_exactly = (
    λ p refusal e. let s = says_listed p in past refusal (list_answer B t st) s.1 (sym s.0 ∙ e),
    back (built B t bits settings room) (build_says B t bits settings room _ refl),
  )
    where
      over : (refusal : Refusal) → ListNo B t st refusal → 4 < number_of refusal
      over refusal (contention w s) = omega arith
      over refusal (disabled_carry w f s) = omega arith
      over refusal (loop w f u s) = omega arith
      over refusal (cell_clock T f u k s) = omega arith

      past : (refusal : Refusal) (a : Result ℕ Refusal) → ListSays B t st a → a ≡ Err refusal → 4 < number_of refusal
      past refusal a s e = over refusal (subst (ListSays B t st) e s)

      refused : (refusal : Refusal) → BuildNo B t bits (build_lent t bits settings room) refusal → 4 < number_of refusal → PassesFour B t bits settings room
      refused refusal (wrong_size n) l = absurd (omega arith)
      refused refusal (wrong_length s n) l = absurd (omega arith)
      refused refusal (broken part s L f) l = absurd (omega arith)
      refused refusal (undecodable place s L rules low) l = absurd (omega arith)
      refused refusal (unlisted r R n) l = four_of_readable R

      back : (a : Result ℕ Refusal) → BuildSays B t bits (build_lent t bits settings room) a → Beyond 4 a → PassesFour B t bits settings room
      back (Ok rows) s b = four_of_readable s.0
      back (Err refusal) s b = refused refusal s (b refusal refl)

  pub six_exactly : PassesSix B t bits settings room ↔ Beyond 6 (built B t bits settings room)
  six_exactly = (
    λ p refusal e. let s = says_listed p.passes_four in over p refusal (subst (ListSays B t st) (sym s.0 ∙ e) s.1),
    back (built B t bits settings room) (build_says B t bits settings room _ refl),
  )
    where
      over : PassesSix B t bits settings room → (refusal : Refusal) → ListNo B t st refusal → 6 < number_of refusal
      over p refusal (contention w s) = absurd (p.no_contention w s.here)
      over p refusal (disabled_carry w f s) = absurd (p.no_carry w s.here)
      over p refusal (loop w f u s) = omega arith
      over p refusal (cell_clock T f u k s) = omega arith

      listed : (refusal : Refusal) → Readable B t bits (build_lent t bits settings room) → ListNo B t st refusal → 6 < number_of refusal
          → PassesSix B t bits settings room
      listed refusal R (contention w s) l = absurd (omega arith)
      listed refusal R (disabled_carry w f s) l = absurd (omega arith)
      listed refusal R (loop w f u s) l = record { passes_four = four_of_readable R; no_contention = f; no_carry = u }
      listed refusal R (cell_clock T f u k s) l = record { passes_four = four_of_readable R; no_contention = f; no_carry = u }

      refused : (refusal : Refusal) → BuildNo B t bits (build_lent t bits settings room) refusal → 6 < number_of refusal → PassesSix B t bits settings room
      refused refusal (wrong_size n) l = absurd (omega arith)
      refused refusal (wrong_length s n) l = absurd (omega arith)
      refused refusal (broken part s L f) l = absurd (omega arith)
      refused refusal (undecodable place s L rules low) l = absurd (omega arith)
      refused refusal (unlisted r R n) l = listed r R n l

      back : (a : Result ℕ Refusal) → BuildSays B t bits (build_lent t bits settings room) a → Beyond 6 a → PassesSix B t bits settings room
      back (Ok rows) s b = record { passes_four = four_of_readable s.0; no_contention = s.2.no_contention; no_carry = s.2.no_carry }
      back (Err refusal) s b = refused refusal s (b refusal refl)
