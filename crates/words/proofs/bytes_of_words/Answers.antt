-- `bytes_of_words` meets its contract: grounds 1, 2 and 4, then the bytes (`bytes_say`). Assumes nothing.
use Rattle.std.specs.Prelude.{Err}
use Rattle.words.proofs.MeaningLaws.{bytes_say}
use Rattle.words.proofs.EntryLaws.{bytes_size, bytes_no_bytes, bytes_no_words, bytes_stray, bytes_done}
use Rattle.ports.proofs.BlockLaws.{allowed_exact}
use lib.ListN.{length}
use Rattle.refusal.specs.declared.Refusal.TheVariants.{WrongLength}
use Rattle.words.specs.Answers.{bytes_answer}
use native.Mathlib.Omega.{arith}
use Rattle.words.specs.Forms.{bytes_of}
use Prim.Native.Nat.{ℕ}
use mathlib.Core.Path.{◌≡◌, refl, sym, ap, ◌∙◌}
use Rattle.words.proofs.bytes_of_words.Goals as goal
use Rattle.words.proofs.bytes_of_words.Goals.{then-bytes-bytes_length-via-then-bytes-bytes_length, then-bytes-bytes_length-via-else-bytes-bytes_length+then-words-bits_length}

pub returns-then-not-is_allowed : goal.returns-then-not-is_allowed
returns-then-not-is_allowed c =
    let s = c.args.s in
    let bytes = c.args.bytes.now in
    let words = c.args.words.now in
    let answer = bytes_size s words (length bytes) (sym c.is_allowed.ensures ∙ c.if-not-is_allowed.true) in
    record { answer = answer; bytes = refl; says = bytes_say s words bytes _ answer _ refl }

pub returns-then-bytes-bytes_length : goal.returns-then-bytes-bytes_length
returns-then-bytes-bytes_length c =
    let s = c.args.s in
    let bytes = c.args.bytes.now in
    let words = c.args.words.now in
    let allowed = (allowed_exact s).0 (sym c.is_allowed.ensures ∙ c.if-not-is_allowed.false) in
    let answer : Err WrongLength ≡ bytes_answer s words (length bytes) =
    elim c.then-bytes-bytes_length.branch [
      | then-bytes-bytes_length-via-then-bytes-bytes_length w ↦ bytes_no_bytes s words (length bytes) allowed (λ e. w.if-bytes-bytes_length.true (e ∙ sym c.bytes_length.ensures))
      | then-bytes-bytes_length-via-else-bytes-bytes_length+then-words-bits_length w ↦ bytes_no_words s words (length bytes) allowed (w.if-bytes-bytes_length.false ∙ c.bytes_length.ensures) (λ e. w.if-words-bits_length.true (e ∙ sym w.bits_length.ensures))
    ] in
    record { answer = answer; bytes = refl; says = bytes_say s words bytes _ answer _ refl }

pub returns-then-i-words : goal.returns-then-i-words
returns-then-i-words c =
    let s = c.args.s in
    let bytes = c.args.bytes.now in
    let words = c.args.words.now in
    let answer = bytes_stray s words (length bytes) ((allowed_exact s).0 (sym c.is_allowed.ensures ∙ c.if-not-is_allowed.false)) (c.if-bytes-bytes_length.false ∙ c.bytes_length.ensures) (c.if-words-bits_length.false ∙ c.bits_length.ensures) _ c.first_stray-i.ensures c.if-i-words.true _ c.stray_place.ensures in
    record { answer = answer; bytes = refl; says = bytes_say s words bytes _ answer _ refl }

pub returns : goal.returns
returns c =
    let s = c.args.s in
    let bytes = c.args.bytes.now in
    let words = c.args.words.now in
    let answer = bytes_done s words (length bytes) ((allowed_exact s).0 (sym c.is_allowed.ensures ∙ c.if-not-is_allowed.false)) (c.if-bytes-bytes_length.false ∙ c.bytes_length.ensures) (c.if-words-bits_length.false ∙ c.bits_length.ensures) _ c.first_stray-i.ensures (omega (arith, c.if-i-words.false)) in
    let filled = c.to_bytes.ensures ∙ ap (λ (n : ℕ). bytes_of n words) c.tile_count.ensures.0 in
    record { answer = answer; bytes = filled; says = bytes_say s words bytes _ answer _ filled }
