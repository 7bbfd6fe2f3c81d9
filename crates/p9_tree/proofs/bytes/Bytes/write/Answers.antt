use Rattle.p9_tree.proofs.BytesLemmas.{put-overwritten}
use Rattle.p9_tree.proofs.bytes.Bytes.write.Goals as goal

pub returns-clause-ok : goal.returns-clause-ok
returns-clause-ok g c =
    put-overwritten c.args.offset c.args.bytes.now c.args.self.now c.pad_to.new.self c.put.new.self
    c.in_ok-pad_to.ensures.ok c.put.ensures
