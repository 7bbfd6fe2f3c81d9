use Rattle.std.proofs.Common.{refl}
use Rattle.std.proofs.lemmas.Result.{err_from_is_err_and}
use Rattle.p9_words.specs.Omitted.{given_at, given_from}
use Rattle.p9_words.proofs.Items.{field-goes_on, field-fails}
use Rattle.p9_words.proofs.omitted.take_all_given.Goals as goal

pub returns-in_err-rest : goal.returns-in_err-rest
returns-in_err-rest g c =
    let r = c.from_residual in
    let p = err_from_is_err_and r.result r.ensures.1 in
    rw (p.1, p.2)
    (field-fails (given_at c.args.tag) (given_from c.args.tag) (λ bytes x xs text. refl) c.loop-field.out.items c.args.fields.now
    c.loop-field.field-index _ c.loop-field.rest.now _
    (given_from c.args.tag c.args.out.now.items c.args.fields.now c.args.text.now)
    c.loop-field-test.true c.in_err-rest.ensures c.loop-field.invariant)

pub loop-field-preserved : goal.loop-field-preserved
loop-field-preserved g c =
    field-goes_on (given_at c.args.tag) (given_from c.args.tag) (λ bytes x xs text. refl) c.loop-field.out.items
    c.args.fields.now c.loop-field.field-index _ c.loop-field.rest.now c.take_given.new.out.items
    c.in_ok-rest.rest.now
    (given_from c.args.tag c.args.out.now.items c.args.fields.now c.args.text.now)
    c.loop-field-test.true c.in_ok-rest.ensures c.loop-field.invariant
