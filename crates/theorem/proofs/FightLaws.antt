-- Fights, over the answers of `build` and `follow`. Main laws: `fight_exactly`, `fight_lowest`, `follow_fight_exactly`, `follow_fight_lowest`.
-- Assumes nothing.
use Rattle.std.specs.Prelude.{Result, Ok, Err}
use Prim.Native.Nat.{ℕ, ◌≤◌, ◌<◌}
use mathlib.Core.Path.{◌≡◌, refl, sym, ap, ◌∙◌}
use mathlib.Core.Bool.{not}
use mathlib.Core.Logic.{◌↔◌, ⊎_elim}
use mathlib.Core.List.{List}
use native.Mathlib.Omega.{arith}
use Rattle.lists.proofs.CaseLaws.{lt_or_le}
use Rattle.lists.proofs.SearchLaws.{first_none, first_le}
use Rattle.refusal.specs.declared.Refusal.{Refusal}
use Rattle.refusal.specs.declared.Refusal.TheVariants as refusals
use Rattle.ports.specs.declared.size.Block.{Block}
use Rattle.ports.specs.Block.{size_of, tiles}
use Rattle.ports.specs.Lengths.{ports, bits_length}
use Rattle.ports.proofs.BlockLaws.{sized_of_allowed, sized_true}
use Rattle.routing.specs.LogicTile.{logic_tile}
use Rattle.routing.proofs.TableCheckLaws.{table_exact}
use Rattle.config.specs.Blocks.{bitless_at, bitless_tile}
use Rattle.config.proofs.PassedLaws.{write_passed, write_fit}
use Rattle.equations.specs.Switches.{switches, Contention, LowestContention}
use Rattle.equations.specs.Sources.{contended_in, contended_wire}
use Rattle.equations.proofs.SourceLaws.{contended_none_exact}
use Rattle.block.specs.declared.lengths.RoomLent.{RoomLent}
use Rattle.block.specs.Lengths.{build_lent, follow_lent, follow_exact}
use Rattle.block.specs.Building.{list_answer}
use Rattle.block.specs.Drivers.{port_answer}
use Rattle.block.specs.Meaning.{ListNo, ListSays, contention, disabled_carry, loop, cell_clock, BuildNo, unlisted}
use Rattle.block.specs.DriverMeaning.{FollowNo}
use Rattle.block.specs.DriverMeaning as following
use Rattle.block.proofs.LengthLaws.{follow_long_exact}
use Rattle.block.proofs.RoutedLaws.{routed_of_fit}
use Rattle.block.proofs.DriverLaws.{port_contended, settings_port, follow_settings}
use Rattle.block.proofs.MeaningLaws.{list_says, build_says}
use Rattle.block.proofs.DriverMeaningLaws.{follow_says}
use Rattle.contention.specs.Entry.{settings_read}
use Rattle.theorem.specs.Calls.{PassesFour, PassesNine, built, followed}
use Rattle.theorem.proofs.ReadableLaws.{readable_of_four, readable_routed, readable_built}

module _ (B : Block) (t bits settings : List ℕ) (room : RoomLent) where
  abbrev st : List ℕ
  st = settings_read B t bits

  pub fight_lowest : (w : ℕ) → built B t bits settings room ≡ Err (refusals.Contention w) → LowestContention B t (settings_read B t bits) w
  fight_lowest w e = said w (build_says B t bits settings room (Err (refusals.Contention w)) (sym e))
    where
      listed : (x : ℕ) → ListNo B t st (refusals.Contention x) → LowestContention B t st x
      listed x (contention v s) = s

      said : (x : ℕ) → BuildNo B t bits (build_lent t bits settings room) (refusals.Contention x) → LowestContention B t st x
      said x (unlisted refusal R s) = listed x s

  pub fight_exactly : PassesFour B t bits settings room
      → ((w : ℕ) × (built B t bits settings room ≡ Err (refusals.Contention w))) ↔ ((w : ℕ) × Contention B t (settings_read B t bits) w)
  fight_exactly p =
      let R = readable_of_four B t bits settings room p in (
        λ r. (r.0, (fight_lowest r.0 r.1).here),
        λ c. let r = go c.0 c.1 (list_answer B t st) (list_says B t st (readable_routed B t bits settings room R)) in
            (r.0, readable_built B t bits settings room R ∙ r.1),
      )
    where
      refused : (w : ℕ) → Contention B t st w → (refusal : Refusal) → ListNo B t st refusal → (v : ℕ) × (◌≡◌ {A = Result ℕ Refusal} (Err refusal) (Err (refusals.Contention v)))
      refused w c refusal (contention v s) = (v, refl)
      refused w c refusal (disabled_carry v f s) = absurd (f w c)
      refused w c refusal (loop v f u s) = absurd (f w c)
      refused w c refusal (cell_clock T f u straight s) = absurd (f w c)

      go : (w : ℕ) → Contention B t st w → (a : Result ℕ Refusal) → ListSays B t st a → (v : ℕ) × (a ≡ Err (refusals.Contention v))
      go w c (Ok rows) s = absurd (s.1.no_contention w c)
      go w c (Err refusal) s = refused w c refusal s

module _ (B : Block) (t st wires sources marks : List ℕ) (tile port : ℕ) where
  module _ (p : PassesNine B t st wires sources marks) where
    fits : tiles B ≤ bitless_tile t st (tiles B)
    unfolding bitless_at
    fits = let e = first_none (bitless_at t st) (tiles B) (λ T l. ap not (write_fit (size_of B) t st (bits_length (size_of B)) p.write_done T l)) in omega arith

    -- what is left are grounds 5 and 20
    followed_port : followed B t st tile port wires sources marks ≡ port_answer B t st tile port
    followed_port =
        let C = write_passed (size_of B) t st (bits_length (size_of B)) p.write_done in
        sym (settings_port B t st tile port ((table_exact logic_tile t C.lengths.table_long).1 C.rules) fits
        ∙ follow_settings B t st tile port (follow_exact B (follow_lent t st wires sources marks)) (sized_true B (sized_of_allowed B p.east_known C.size))
        ((follow_long_exact B (follow_lent t st wires sources marks)).1
        (record {
          table_long = C.lengths.table_long;
          settings_long = C.lengths.settings_long;
          wires_long = p.wires_long;
          sources_long = p.sources_long;
          marks_long = p.marks_long;
        })))

    refused_of : (w : ℕ) → Contention B t st w → (v : ℕ) × (followed B t st tile port wires sources marks ≡ Err (refusals.Contention v))
    unfolding contended_wire
    refused_of w c =
        let C = write_passed (size_of B) t st (bits_length (size_of B)) p.write_done in
        let ok = routed_of_fit B t st (sized_of_allowed B p.east_known C.size) C.rules C.lengths.settings_long fits in
        let u = first_le (contended_in B t st (switches B)) 0 (ports B) in
        ⊎_elim (λ (l : contended_wire B t st < ports B). (contended_wire B t st, followed_port ∙ sym (port_contended B t st tile port _ refl l)))
        (λ (l : ports B ≤ contended_wire B t st). absurd ((contended_none_exact B t st ok).1 (omega arith) w c)) (lt_or_le (contended_wire B t st) (ports B))

  pub follow_fight_lowest : (w : ℕ) → followed B t st tile port wires sources marks ≡ Err (refusals.Contention w) → LowestContention B t st w
  follow_fight_lowest w e = said w (follow_says B t st tile port wires sources marks (Err (refusals.Contention w)) (sym e))
    where
      said : (x : ℕ) → FollowNo B t st tile port (follow_lent t st wires sources marks) (refusals.Contention x) → LowestContention B t st x
      said x (following.contention v F s) = s

  pub follow_fight_exactly : PassesNine B t st wires sources marks
      → ((w : ℕ) × (followed B t st tile port wires sources marks ≡ Err (refusals.Contention w))) ↔ ((w : ℕ) × Contention B t st w)
  follow_fight_exactly p = (λ r. (r.0, (follow_fight_lowest r.0 r.1).here), λ c. refused_of p c.0 c.1)
