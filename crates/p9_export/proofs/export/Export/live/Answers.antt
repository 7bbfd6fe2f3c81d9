use Rattle.std.proofs.Common.{◌≡◌, ◌∙◌, is_some, sym}
use Rattle.p9_step.specs.State.{session_at}
use Rattle.p9_export.proofs.Sessions.{session-open}
use Rattle.p9_export.proofs.export.Export.live.Goals as goal

pub returns : goal.returns
returns g c =
    let same : c.contains_key.result ≡ is_some (session_at c.args.name c.args.self.now.sessions) =
    rw (← c.self.view_is)
    (c.contains_key.ensures ∙ sym (session-open c.args.name c.self.inside.sessions.entries)) in
    (λ live. sym same ∙ live, λ there. same ∙ there)
