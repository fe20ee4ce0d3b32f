-- `chains::first_links` meets its contract: no link, one that none follows, or two. Assumes nothing.
use Rattle.contention.proofs.Walking.{links_none, links_one, links_two}
use mathlib.Core.Path.{refl}
use Rattle.contention.proofs.chains.first_links.Goals as goal

pub returns-then-first-eq0 : goal.returns-then-first-eq0
returns-then-first-eq0 c =
    let a = c.args in
    links_none a.b a.table.now a.st.now a.w a.m _ a.heads.now a.nexts.now c.requires.1 c.requires.2 c.from-first.ensures c.if-first-eq0.true

pub returns-then-nexts-first-eq0 : goal.returns-then-nexts-first-eq0
returns-then-nexts-first-eq0 c =
    let a = c.args in
    links_one a.b a.table.now a.st.now a.w a.m _ a.heads.now a.nexts.now c.requires.1 c.requires.2 c.from-first.ensures c.if-first-eq0.false _ refl c.if-nexts-first-eq0.true

pub returns-else-nexts-first-eq0 : goal.returns-else-nexts-first-eq0
returns-else-nexts-first-eq0 c =
    let a = c.args in
    links_two a.b a.table.now a.st.now a.w a.m _ a.heads.now a.nexts.now c.requires.1 c.requires.2 c.from-first.ensures c.if-first-eq0.false _ refl c.if-nexts-first-eq0.false
