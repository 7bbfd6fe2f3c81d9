use Rattle.p9_client.proofs.ReadAhead.{read-ahead-ok}
use Rattle.p9_client.proofs.session.Session.read_ahead.Goals as goal

pub returns-in-Ok-clause-ok : goal.returns-in-Ok-clause-ok
returns-in-Ok-clause-ok g c =
    read-ahead-ok g.S.Read.remaining g.S.Write.contents c.args.fid c.args.start c.args.len
    c.in_ok-count.count c.tag-tag.result c.data_max.result c.in-Ok.read c.in_ok-replies.replies _ _
    c.args.self.now c.send_reads.new.self c.receive_replies.new.self c.requires.some
    c.in_ok-count.ensures.ok c.in_ok-count.ensures.some c.in_ok-count.ensures.few c.tag-tag.ensures
    c.in_ok-replies.ensures.ok c.data_max.ensures.value c.in-Ok.ensures
