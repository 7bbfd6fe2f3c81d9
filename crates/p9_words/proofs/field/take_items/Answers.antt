use Rattle.std.proofs.lemmas.Result.{err_from_is_err_and}
use Rattle.p9_words.specs.Reading.{items_from}
use Rattle.p9_words.proofs.Items.{goes_on, fails}
use Rattle.p9_words.proofs.field.take_items.Goals as goal

pub returns-in_err-rest : goal.returns-in_err-rest
returns-in_err-rest g c =
    let r = c.from_residual in
    let p = err_from_is_err_and r.result r.ensures.1 in
    rw (p.1, p.2)
    (fails c.args.item c.loop-i.out.items c.loop-i.i c.args.count c.loop-i.rest.now _
    (items_from c.args.item c.args.out.now.items 0 c.args.count c.args.text.now)
    c.loop-i-test.true c.in_err-rest.ensures c.loop-i.invariant)

pub loop-i-preserved : goal.loop-i-preserved
loop-i-preserved g c =
    goes_on c.args.item c.loop-i.out.items c.loop-i.i c.args.count c.loop-i.rest.now
    c.take_indexed.new.out.items c.in_ok-rest.rest.now
    (items_from c.args.item c.args.out.now.items 0 c.args.count c.args.text.now)
    c.loop-i-test.true c.in_ok-rest.ensures c.loop-i.invariant
