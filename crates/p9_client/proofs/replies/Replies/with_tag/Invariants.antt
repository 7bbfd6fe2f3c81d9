use Rattle.p9_client.proofs.replies.Replies.with_tag.Given as goal

abbrev pub invariant-loop-reply : goal.invariant-loop-reply
invariant-loop-reply g l = Unit {0}
