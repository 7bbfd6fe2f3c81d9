use Rattle.std.proofs.Common.{◌≡◌, arith, length-take-le, sym}
use Rattle.p9_client.proofs.Parts.{written-front}
use Rattle.p9_client.proofs.exchange.send_request.Goals as goal

pub slice_bounds-send_all-end-2 : goal.slice_bounds-send_all-end-2
slice_bounds-send_all-end-2 g c =
    sym (length-take-le c.write_t-size.result c.write_t-size.new.out
    (omega (arith, c.write_t-size.ensures.len, c.requires.room, c.write_t-size.auto.out)))

pub returns-clause-ok : goal.returns-clause-ok
returns-clause-ok g c =
    rw (written-front _ _ _ _ c.write_t-size.ensures.bytes) at c.send_all.ensures.ok

pub returns-clause-err : goal.returns-clause-err
returns-clause-err g c =
    rw (written-front _ _ _ _ c.write_t-size.ensures.bytes) at c.send_all.ensures.err
