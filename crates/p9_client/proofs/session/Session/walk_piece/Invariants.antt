use Rattle.std.proofs.Common.{◌≡◌, map, take}
use Rattle.p9_client.proofs.session.Session.walk_piece.Given as goal

abbrev pub invariant-loop-name : goal.invariant-loop-name
invariant-loop-name g l = l.names ≡ map (λ name. name.now) (take l.name-index l.piece)
