-- Demand 3, closed: `demand3`. Assumes nothing.
use Rattle.std.specs.Prelude.{Ok, Err}
use Prim.Native.Nat.{ℕ}
use mathlib.Core.Path.{◌≡◌, sym, ◌∙◌}
use mathlib.Core.Logic.{◌↔◌}
use mathlib.Core.List.{List}
use Rattle.refusal.specs.declared.Refusal.TheVariants.{Loop}
use Rattle.ports.specs.declared.size.Block.{Block}
use Rattle.equations.specs.Equations.{Depends, LowestLooped}
use Rattle.block.specs.declared.lengths.RoomLent.{RoomLent}
use Rattle.block.specs.Lengths.{build_lent}
use Rattle.block.specs.Building.{list_answer}
use Rattle.block.specs.Meaning.{Readable, ListNo, loop, BuildNo, unlisted}
use Rattle.block.proofs.MeaningLaws.{build_says}
use Rattle.contention.specs.Entry.{settings_read}
use Rattle.theorem.specs.Calls.{built}
use Rattle.theorem.specs.Demand3.{PassesSix, AcceptedBlock, Demand3}
use Rattle.theorem.proofs.ReadableLaws.{readable_of_four, readable_routed, readable_built}
use Rattle.theorem.proofs.PassesLaws.{six_exactly}
use Rattle.theorem.proofs.AcceptedLaws.{list_loop_exactly, only_choice, own_listing}
use Rattle.theorem.proofs.StepDone.{step_done, step_meant}

module _ (B : Block) (t bits settings : List ℕ) (room : RoomLent) where
  abbrev st : List ℕ
  st = settings_read B t bits

  loop_exactly : PassesSix B t bits settings room
      → ((w : ℕ) × (built B t bits settings room ≡ Err (Loop w))) ↔ ((w : ℕ) × Depends B t (settings_read B t bits) w w)
  loop_exactly p =
      let R = readable_of_four B t bits settings room p.passes_four in
      let e = readable_built B t bits settings room R in
      let both = list_loop_exactly B t st (readable_routed B t bits settings room R) p.no_contention p.no_carry in
      (λ r. both.0 (r.0, sym e ∙ r.1), λ d. let r = both.1 d in (r.0, e ∙ r.1))

  loop_lowest : (w : ℕ) → built B t bits settings room ≡ Err (Loop w) → LowestLooped B t (settings_read B t bits) w
  loop_lowest w e = said w (build_says B t bits settings room (Err (Loop w)) (sym e))
    where
      listed : (x : ℕ) → ListNo B t st (Loop x) → LowestLooped B t st x
      listed x (loop v f u s) = s

      said : (x : ℕ) → BuildNo B t bits (build_lent t bits settings room) (Loop x) → LowestLooped B t st x
      said x (unlisted refusal R s) = listed x s

  accepted : (rows : ℕ) → built B t bits settings room ≡ Ok rows → AcceptedBlock B t bits rows
  accepted rows e =
      let R : Readable B t bits (build_lent t bits settings room) = (build_says B t bits settings room (Ok rows) (sym e)).0 in
      let ok = readable_routed B t bits settings room R in
      let listed : list_answer B t st ≡ Ok rows = sym (readable_built B t bits settings room R) ∙ e in
      record {
        listing = own_listing B t st ok rows listed;
        settles = only_choice B t st ok rows listed;
        step_taken = step_done B t bits settings room R rows listed;
        step_means = step_meant B t bits settings room R rows listed;
      }

pub demand3 : Demand3
demand3 = record { loop_exactly = loop_exactly; six_exactly = six_exactly; loop_lowest = loop_lowest; accepted = accepted }
