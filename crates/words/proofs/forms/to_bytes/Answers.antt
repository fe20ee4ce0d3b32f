-- `to_bytes` meets its contract. Invariant: the first i bytes are runs of the words' bits (`Filled`, `byte_of_two`). Assumes nothing.
use Rattle.std.proofs.Common.{rules, ◌≡◌, ◌+◌, ◌*◌, ◌/◌, get_or, refl}
use Rattle.ports.specs.Lengths.{columns}
use Rattle.words.specs.Forms.{byte_bits}
use Rattle.words.proofs.ConvertLaws.{byte_of_two, two_fit}
use Rattle.words.specs.Forms.{bytes_of}
use Rattle.words.specs.Packed.{packed}
use Rattle.lists.proofs.TableLaws.{filled_step, filled_end}
use native.Mathlib.Omega.{arith}
use Rattle.words.proofs.forms.to_bytes.Goals as goal

pub overflow_add-bytes : goal.overflow_add-bytes
overflow_add-bytes c =
    let words = c.args.words.now in
    let row = byte_bits * c.loop-i.i / columns in
    let next : c.unwrap_or-next.result ≡ get_or words (row + 1) 0 = search rules in
    record { fits = two_fit words c.loop-i.i (get_or words row 0) c.unwrap_or-next.result refl next }

pub loop-i-preserved : goal.loop-i-preserved
loop-i-preserved c =
    let words = c.args.words.now in
    let row = byte_bits * c.loop-i.i / columns in
    let next : c.unwrap_or-next.result ≡ get_or words (row + 1) 0 = search rules in
    filled_step _ _ _ _ _ _ c.loop-i.invariant (omega arith) (byte_of_two words c.loop-i.i (get_or words row 0) c.unwrap_or-next.result refl next)

pub returns : goal.returns
unfolding bytes_of packed
returns c = filled_end _ _ _ _ _ c.loop-i.invariant (omega arith)
