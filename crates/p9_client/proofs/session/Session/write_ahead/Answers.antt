use Rattle.std.proofs.Common.{◌≡◌, ℕ, ◌+◌, ◌≤◌, IfOk, Ok, Result, false, subst, sym}
use Rattle.p9_client.specs.Ahead.{TakesWrites}
use Rattle.p9_client.specs.Files.{WritesOn}
use Rattle.p9_client.specs.Session.{IsSettled, Talk}
use Rattle.p9_client.specs.declared.error.ClientError.{ClientError}
use Rattle.p9_client.proofs.WriteAhead.{write-ahead-ok}
use Rattle.p9_client.proofs.session.Session.write_ahead.Goals as goal

pub returns-clause-ok : goal.returns-clause-ok
returns-clause-ok g c =
    let read : Talk g.row.S.Denot = c.receive_replies.new.self in
    let total : ℕ = c.in_ok-settled.field-0 in
    let ok : c.take_writes-taken.result ≡ Ok total = sym c.in_ok-settled.ensures.result in
    let same : c.settled.new.self ≡ read =
    subst (IsSettled read c.settled.new.self) ok c.settled.ensures.settled in
    let takes : (total ≤ c.args.len)
    × TakesWrites c.in_ok-replies.replies c.tag-tag.result c.data_max.result c.args.len total =
    subst (λ (r : Result ℕ ClientError). IfOk r (λ n. (n ≤ c.args.len)
    × TakesWrites c.in_ok-replies.replies c.tag-tag.result c.data_max.result c.args.len n)) ok
    c.take_writes-taken.ensures in
    subst (λ (s : Talk g.row.S.Denot). (total ≤ c.args.len) × (s.failed ≡ false)
    × (s.msize ≡ c.args.self.now.msize)
    × WritesOn g.S.Read.remaining g.S.Write.contents c.args.fid c.args.bytes.now c.args.start
    (c.args.start + total) c.args.self.now s) (sym same)
    (write-ahead-ok g.S.Read.remaining g.S.Write.contents c.args.fid c.args.start c.args.len
    c.in_ok-count.count c.tag-tag.result c.data_max.result total c.args.bytes.now
    c.in_ok-replies.replies c.args.self.now c.send_writes.new.self read c.requires.some
    c.in_ok-count.ensures.ok c.in_ok-count.ensures.some c.in_ok-count.ensures.few c.tag-tag.ensures
    c.in_ok-replies.ensures.ok c.data_max.ensures.value takes)
