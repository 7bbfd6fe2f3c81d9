use Rattle.std.proofs.Common.{◌≡◌, Some, refl}
use Rattle.p9_space.specs.Channel.{trail_of}
use Rattle.p9_fids.specs.Fid.{changed_fid}
use Rattle.p9_step.specs.Opening.{newly_opened}
use Rattle.p9_requests.proofs.create.enter.Goals as goal

pub returns-clause-entered : goal.returns-clause-entered
returns-clause-entered g c =
    let all : c.open_at.new.self.fids ≡ changed_fid c.args.fid (λ v. record v {
      trail = trail_of c.args.channels;
      opened = Some (newly_opened c.args.opening);
    }) c.session.inside.fids.fids = rw c.opened.ensures at c.open_at.ensures.opened in
    rw (← c.session.view_is, all) refl
