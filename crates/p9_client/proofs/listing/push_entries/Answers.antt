use Rattle.p9_client.proofs.Listed.{spelled-more}
use Rattle.p9_client.proofs.listing.push_entries.Goals as goal

pub loop-rest-preserved : goal.loop-rest-preserved
loop-rest-preserved g c =
    spelled-more c.loop-rest.entries.items c.push.new.self.items c.in-Some.entry c.in_ok-len.len
    c.loop-rest.rest.now _ c.in_ok-push-in-Some.ensures.items
    (rw c.in-Some.is at c.in_ok-entry.ensures) c.loop-rest.invariant
