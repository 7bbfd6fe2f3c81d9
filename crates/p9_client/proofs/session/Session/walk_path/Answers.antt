use Rattle.std.proofs.Common.{◌∙◌, ◌≤◌, arith}
use Rattle.p9_client.proofs.WalkPieces.{names-split, path-begun, path-more}
use Rattle.p9_client.proofs.session.Session.walk_path.Goals as goal

pub loop-walked-init : goal.loop-walked-init
loop-walked-init g c =
    record {
      within = omega (arith, c.min-walked.ensures);
      failed = c.in_ok-walk_piece.ensures.goes_on;
      walks = path-begun g.S.Read.remaining g.S.Write.contents c.args.fid c.args.newfid _
          c.args.self.now c.walk_piece.new.self c.in_ok-walk_piece.ensures.walked;
    }

pub loop-walked-preserved : goal.loop-walked-preserved
loop-walked-preserved g c =
    let ordered : c.loop-walked.walked ≤ c.min-end.result =
    omega (arith, c.min-end.ensures, c.loop-walked-test.true) in
    record {
      within = omega (arith, c.min-end.ensures);
      failed = c.in-Ok.ensures.goes_on ∙ c.loop-walked.invariant.failed;
      walks = path-more g.S.Read.remaining g.S.Write.contents c.args.fid c.args.newfid _ _ _
          c.args.self.now c.loop-walked.self c.walk_piece-in-loop-walked.new.self
          c.loop-walked.invariant.walks c.in-Ok.ensures.walked
          (names-split (λ name. name.now) c.loop-walked.walked c.min-end.result c.args.path.now ordered);
    }
