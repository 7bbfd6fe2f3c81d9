use Rattle.std.proofs.Common.{sym, true, false}
use Rattle.std.specs.Prelude.{codes}
use Rattle.std.proofs.lemmas.Str.Pattern.{starts_text}
use Rattle.p9_prepared.proofs.Parts.{bad-begin, bad-text, if-err, on-ok, reads-begin, reads-text}
use Rattle.p9_prepared.proofs.bundle.Reader.read_line.Goals as goal

pub returns-then-starts_with-clause-ok : goal.returns-then-starts_with-clause-ok
returns-then-starts_with-clause-ok c =
    let old = c.args.self.now in
    let marked = sym (starts_text true (codes "%%") c.args.line.now c.if-starts_with.ensures.cases) in
    on-ok c.begin.result _ _
    (reads-begin c.args.number c.args.line.now old.bundle old.rest c.after_line-self.result old.len
    c.after_line-self.ensures old.begun c.begun_by.result c.begin.new.self marked
    (sym c.begun_by.ensures))
    c.begin.ensures.ok

pub returns-then-starts_with-clause-bad : goal.returns-then-starts_with-clause-bad
returns-then-starts_with-clause-bad c =
    let old = c.args.self.now in
    let marked = sym (starts_text true (codes "%%") c.args.line.now c.if-starts_with.ensures.cases) in
    if-err c.begin.result _ _
    (λ error. bad-begin c.args.number c.args.line.now old.bundle old.rest c.after_line-self.result
    old.len c.after_line-self.ensures old.begun c.begun_by.result error marked
    (sym c.begun_by.ensures))
    c.begin.ensures.bad

pub returns-clause-ok : goal.returns-clause-ok
returns-clause-ok c =
    let old = c.args.self.now in
    let plain = sym (starts_text false (codes "%%") c.args.line.now c.if-starts_with.ensures.cases) in
    on-ok c.test_text.result _ _
    (reads-text c.args.number c.args.line.now old.bundle old.rest c.after_line-self.result old.len
    c.after_line-self.ensures old.begun plain)
    c.test_text.ensures.ok

pub returns-clause-bad : goal.returns-clause-bad
returns-clause-bad c =
    let old = c.args.self.now in
    let plain = sym (starts_text false (codes "%%") c.args.line.now c.if-starts_with.ensures.cases) in
    if-err c.test_text.result _ _
    (λ error. bad-text c.args.number c.args.line.now old.bundle old.rest c.after_line-self.result
    old.len c.after_line-self.ensures old.begun error plain)
    c.test_text.ensures.bad
