use Rattle.std.proofs.Common.{◌≡◌, false}
use Rattle.p9_client.specs.Ahead.{ArrivesAll}
use Rattle.p9_client.proofs.session.Session.receive_replies.Given as goal

abbrev pub invariant-loop-at : goal.invariant-loop-at
invariant-loop-at g l = record {
  alive : l.self.failed ≡ false;
  arrived : ArrivesAll g.S.Read.remaining g.S.Write.contents l.at l.fn.self l.self l.replies;
}
