-- An answer says what it has to exactly if it is the one that is given: what specs/Meaning.antt says of an input fits one answer only. Main law:
-- `parsed_exact`. Assumes nothing.
use Rattle.ports.specs.Block.{block}
use Rattle.ports.specs.declared.size.Block.{Block}
use Rattle.std.specs.Prelude.{Result, Ok, Err}
use Prim.Native.Nat.{ℕ, zero, suc, ◌+◌, ◌-◌, ◌<◌, ◌≤◌}
use mathlib.Core.Path.{◌≡◌, refl, sym, ap, ap₂, ◌∙◌, subst, subst₂}
use mathlib.Core.Bool.{true, false, ◌&&◌}
use mathlib.Core.Logic.{⊎_elim, ◌↔◌}
use mathlib.Core.List.{List, ◌∷◌, map}
use native.Mathlib.Omega.{arith}
use borrow.Author.Tests.{le-leb, lt-leb, eq-eqb, ne_eqb}
use lib.ListN.{length}
use Rattle.lists.proofs.CaseLaws.{cases, lt_or_le}
use Rattle.refusal.specs.declared.Refusal.{Refusal}
use Rattle.refusal.specs.declared.Refusal.TheVariants.{WrongSize, Line}
use Rattle.frames.specs.Frames.{Frame, group, size, tile, line}
use Rattle.frames.specs.Lines.{fields_line, passive_line, size_line}
use Rattle.frames.specs.Input.{group_at, group_count, size_at, width, height, east, small, tiles_due, tile_at, tile_count, parsed}
use Rattle.frames.specs.Whole.{Small}
use Rattle.texts.specs.Pieces.{Stands}
use Rattle.frames.specs.Meaning.{Stage, begun, with_fields, with_groups, tiles_left, Turn, the_fields, the_passives, a_group, the_size, a_tile, Begins, Stuck, SizeSays, BlockSays, wrong_size, bad_line, ParsedNo, ParsedSays}
use Rattle.texts.proofs.EachLaws.{holds_behind}
use Rattle.frames.proofs.FrameLaws.{Reads, fields_reads, passives_reads, group_reads, size_reads, tile_reads}
use Rattle.frames.proofs.TurnLaws.{counted_group, counted_tile}
use Rattle.frames.proofs.BoundLaws.{group_count_le}
use Rattle.frames.proofs.SmallLaws.{small_of, small_passes}
use Rattle.frames.proofs.ComeLaws.{size_same}
use Rattle.frames.proofs.ComeStepLaws.{SizeIs, begins_come, begins_sizes}
use Rattle.frames.proofs.WholeTurnLaws.{whole_begins}
use Rattle.frames.proofs.MeaningLaws.{parsed_says}

-- ---- the answer, where the tests are known

module _ (s : List ℕ) where
  parsed_one : fields_line s ≡ false → parsed s ≡ Err (Line 1)
  unfolding parsed
  parsed_one e = rw e

  module _ (one : fields_line s ≡ true) where
    parsed_two : passive_line s ≡ false → parsed s ≡ Err (Line 2)
    unfolding parsed
    parsed_two e = rw (one, e)

    module _ (two : passive_line s ≡ true) where
      parsed_behind : size_line s (size_at s) ≡ false → parsed s ≡ Err (Line (3 + group_count s))
      unfolding parsed
      parsed_behind e = rw (one, two, e)

      module _ (three : size_line s (size_at s) ≡ true) where
        parsed_size : small (width s) && small (height s) ≡ false → parsed s ≡ Err WrongSize
        unfolding parsed
        parsed_size e = rw (one, two, three, e)

        module _ (few : Small (width s) (height s)) where
          parsed_tile : tile_count s < tiles_due s → parsed s ≡ Err (Line (4 + group_count s + tile_count s))
          unfolding parsed
          parsed_tile l = rw (one, two, three, small_passes (width s) (height s) few, lt-leb (tiles_due s) (tile_count s) l)

          module _ (all : tiles_due s ≤ tile_count s) where
            parsed_extra : (length s ≡ tile_at s (tiles_due s) → ⊥) → parsed s ≡ Err (Line (4 + group_count s + tiles_due s))
            unfolding parsed
            parsed_extra h =
                rw (one, two, three, small_passes (width s) (height s) few, le-leb (tiles_due s) (tile_count s) all, ne_eqb (length s) (tile_at s (tiles_due s)) h)

            parsed_block : length s ≡ tile_at s (tiles_due s) → parsed s ≡ Ok (block (width s) (height s) (east s))
            unfolding parsed
            parsed_block e =
                rw (one, two, three, small_passes (width s) (height s) few, le-leb (tiles_due s) (tile_count s) all, eq-eqb (length s) (tile_at s (tiles_due s)) e)

-- ---- a line that is stuck

-- no frame that is due is read there
none_read : {s : List ℕ} {at a b : ℕ} {stage next : Stage} {f : Frame} → Stuck s at stage → at ≡ a → Turn stage f next → Reads s a f b → ⊥
none_read {s} {f = f} stuck e turn r = stuck.none_due f _ turn r.proper (subst (λ (x : ℕ). Stands s x (line f)) (sym e) r.spans.stands)

module _ (s : List ℕ) where
  size_behind : (g : ℕ) → g ≡ group_count s → group_at s g ≡ size_at s
  unfolding size_at
  size_behind g e = ap (group_at s) e

  line_only : (stage : Stage) (fs : List Frame) (at : ℕ) → Begins s fs at stage → Stuck s at stage → parsed s ≡ Err (Line (length fs + 1))
  line_only begun fs at b stuck =
      let c = begins_come b in
      ⊎_elim (λ e. absurd (none_read stuck c.0 the_fields (fields_reads s e)))
      (λ e. parsed_one s e ∙ ap (λ (n : ℕ). Err (Line n)) (let q : 1 ≡ length fs + 1 = omega arith in q)) (cases (fields_line s))
  line_only with_fields fs at b stuck =
      let c = begins_come b in
      ⊎_elim (λ e. absurd (none_read stuck c.place the_passives (passives_reads s e)))
      (λ e. parsed_two s c.one e ∙ ap (λ (n : ℕ). Err (Line n)) (let q : 2 ≡ length fs + 1 = omega arith in q)) (cases (passive_line s))
  line_only (with_groups g) fs at b stuck =
      let c = begins_come b in
      let few = c.few in
      let limit = group_count_le s in
      let last : g ≡ group_count s = ⊎_elim
      (λ (l : g < group_count s). absurd (none_read stuck c.place (a_group {g = g} (omega arith)) (group_reads s (group_at s g) (counted_group s g l))))
      (λ (l : group_count s ≤ g). omega arith) (lt_or_le g (group_count s)) in
      ⊎_elim (λ e. absurd (none_read stuck (c.place ∙ size_behind g last) (the_size {g = g}) (size_reads s (size_at s) e)))
      (λ e. parsed_behind s c.one c.two e ∙ ap (λ (n : ℕ). Err (Line n)) (let q : 3 + group_count s ≡ length fs + 1 = omega (arith, c.lines) in q))
      (cases (size_line s (size_at s)))
  line_only (tiles_left zero) fs at b stuck =
      let c = begins_come b in
      let all : tiles_due s - 0 ≡ tiles_due s = omega arith in
      parsed_extra s c.one c.two c.three c.small (omega (arith, c.few)) (λ e. stuck.not_whole refl (omega (arith, c.place)))
      ∙ ap (λ (n : ℕ). Err (Line n)) (let q : 4 + group_count s + tiles_due s ≡ length fs + 1 = omega (arith, c.lines) in q)
  line_only (tiles_left (suc m)) fs at b stuck =
      let c = begins_come b in
      let few = c.few in
      let left = c.left in
      let stops : tile_count s ≡ tiles_due s - suc m = ⊎_elim
      (λ (l : tiles_due s - suc m < tile_count s). absurd (none_read stuck c.place a_tile (tile_reads s (tile_at s (tiles_due s - suc m)) (counted_tile s (tiles_due s - suc m) l))))
      (λ (l : tile_count s ≤ tiles_due s - suc m). omega arith) (lt_or_le (tiles_due s - suc m) (tile_count s)) in
      parsed_tile s c.one c.two c.three c.small (omega arith)
      ∙ ap (λ (n : ℕ). Err (Line n)) (let q : 4 + group_count s + tile_count s ≡ length fs + 1 = omega (arith, c.lines) in q)

  -- ---- a size that is not small

  size_only : SizeSays s → parsed s ≡ Err WrongSize
  size_only z =
      let c = begins_come z.begins in
      let e = size_same s z.at _ z.g c z.w z.h z.extra z.proper z.stands in
      ⊎_elim (λ p. absurd (z.not_small (subst₂ Small e.w_is e.h_is (small_of (width s) (height s) p))))
      (λ p. parsed_size s c.one c.two e.passes p) (cases (small (width s) && small (height s)))

  -- ---- a yes

  block_only : (w h e : ℕ) → BlockSays s w h e → parsed s ≡ Ok (block w h e)
  block_only w h e z =
      let i = z.input in
      let b = whole_begins s i z.whole in
      let c = begins_come b in
      let all : tiles_due s - 0 ≡ tiles_due s = omega arith in
      let is = (holds_behind (SizeIs s) (map group i.groups) (size i.w i.h i.extra ∷ map tile i.tiles) (begins_sizes b).1.1).0 in
      parsed_block s c.one c.two c.three c.small (omega (arith, c.few)) (c.place ∙ ap (tile_at s) all)
      ∙ ap₂ (λ (w h : ℕ). Ok (block w h (east s))) (is.w_is ∙ z.w_is) (is.h_is ∙ z.h_is) ∙ ap (λ (e : ℕ). Ok (block w h e)) (is.east_is ∙ z.east_is)

  -- ---- any answer

  no_only : (refusal : Refusal) → ParsedNo s refusal → parsed s ≡ Err refusal
  no_only refusal (wrong_size z) = size_only z
  no_only refusal (bad_line n z) =
      line_only z.stage z.frames z.at z.begins z.stuck ∙ ap (λ (k : ℕ). Err (Line k)) (sym z.place)

  parsed_only : (r : Result Block Refusal) → ParsedSays s r → r ≡ parsed s
  parsed_only (Ok b) z = sym (block_only b.w b.h b.east z)
  parsed_only (Err refusal) z = sym (no_only refusal z)

  pub parsed_exact : (r : Result Block Refusal) → ParsedSays s r ↔ (r ≡ parsed s)
  parsed_exact r = (parsed_only r, λ e. subst (ParsedSays s) (sym e) (parsed_says s))
