-- `list::list_bits` meets its contract: a no of reading is passed on, and the settings that the bits read to are routed. Assumes nothing.
use Rattle.std.proofs.lemmas.Result.{err_from_is_err_and}
use Rattle.refusal.specs.Grounds.{answer_number}
use Rattle.contention.proofs.EntryLaws.{read_answer_lem, bits_no, bits_yes, read_settings}
use Rattle.contention.proofs.MeaningLaws.{read_routed}
use Rattle.contention.specs.Contentions.{contentions}
use Rattle.contention.specs.Entry.{rows_answer}
use Rattle.equations.specs.Routed.{Routed}
use Rattle.lists.specs.Listing.{zero_filled}
use Rattle.refusal.specs.Memory.{output}
use lib.ListN.{length}
use mathlib.Core.List.{List}
use mathlib.Core.Path.{sym, ap, subst, ◌∙◌}
use Prim.Native.Nat.{ℕ}
use Rattle.contention.proofs.list.list_bits.Goals as goal

pub list_settings-requires : goal.list_settings-requires
list_settings-requires c =
    let a = c.args in
    let long = c.requires.1 in
    let answer = read_answer_lem a.b a.table.now a.bits.now a.settings.now long.settings_long _ c.size_of.ensures _ c.read.ensures.answer in
    let done = c.in_ok-read.was in
    let is = read_settings a.b a.table.now a.bits.now a.settings.now long.settings_long _ c.size_of.ensures _ c.read.ensures.answer done _ c.read.ensures.settings in
    (subst (λ (s : List ℕ). Routed a.b a.table.now s) (sym is) (read_routed a.b a.table.now a.bits.now a.settings.now c.requires.0 (answer ∙ done)), long.wires_long, long.heads_long, long.nexts_long)

-- a no of reading
pub returns-in_err-read-clause-answer : goal.returns-in_err-read-clause-answer
returns-in_err-read-clause-answer c =
    let a = c.args in
    let p = err_from_is_err_and c.from_residual.result c.from_residual.ensures.1 in
    rw (p.1, p.2)
    (bits_no a.b a.table.now a.bits.now a.settings.now c.requires.1.settings_long _ c.size_of.ensures _ c.read.ensures.answer _ (length a.list.now) c.in_err-read.was)

-- the answer for the settings that were read
pub returns : goal.returns
returns c =
    let a = c.args in
    let long = c.requires.1.settings_long in
    let done = c.in_ok-read.was in
    let is = read_settings a.b a.table.now a.bits.now a.settings.now long _ c.size_of.ensures _ c.read.ensures.answer done _ c.read.ensures.settings in
    let answer = bits_yes a.b a.table.now a.bits.now a.settings.now long _ c.size_of.ensures _ c.read.ensures.answer done (length a.list.now) in
    record { answer = c.list_settings.ensures.answer ∙ ap (λ (s : List ℕ). rows_answer a.b a.table.now s (length a.list.now)) is ∙ answer; list = c.list_settings.ensures.list ∙ ap (λ (s : List ℕ). output (answer_number c.list_settings.result) a.list.now (zero_filled (length a.list.now) (contentions a.b a.table.now s))) is }
