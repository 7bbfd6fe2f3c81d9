use Rattle.std.proofs.Common.{◌∙◌, sym}
use Rattle.std.specs.Prelude.{nat_lt}
use Rattle.std.specs.Map.{values_of}
use Rattle.p9_fids.specs.Fid.{open_count}
use Rattle.p9_fids.proofs.Values.{any-mapped, values-mapped}
use Rattle.p9_step.specs.State.{Session}
use Rattle.p9_walks.specs.Held.{session_in}
use Rattle.p9_requests.proofs.Sessions.{fits-all}
use Rattle.p9_requests.proofs.open.is_in_use.Goals as goal

pub any_has_open-requires : goal.any_has_open-requires
any_has_open-requires g c = fits-all c.args.table.now c.args.sessions.now.entries c.requires

pub returns : goal.returns
returns g c =
    let rows = c.args.sessions.now.entries in
    rw (values-mapped session_in rows)
    (c.any_has_open.ensures
    ∙ sym (any-mapped session_in
    (λ (session : Session). nat_lt 0 (open_count c.args.table.now c.args.at session.fids))
    (values_of rows)))
