use Rattle.std.proofs.Common.{◌≡◌, ◌≤◌, ◌∙◌, None, Some, refl, rules, ap, subst, sym}
use Rattle.std.specs.Option.{option_copied}
use Rattle.p9_wire.specs.Frame.{msize_max}
use Rattle.p9_step.specs.State.{session_at}
use Rattle.p9_step.proofs.Sounds.{each-session-served}
use Rattle.p9_walks.specs.Held.{sessions_in}
use Rattle.p9_requests.proofs.Sessions.{session-none, session-there}
use Rattle.p9_export.proofs.Rooms.{small-room}
use Rattle.p9_export.proofs.export.Export.reply_max.Goals as goal

pub returns-clause-small : goal.returns-clause-small
returns-clause-small g c =
    let forest = c.self.inside.forest in
    let rows = c.self.inside.sessions.entries in
    let there : session_at c.args.name (sessions_in rows) ≡ Some c.in_ok-get.field-0.now.session =
    session-there c.args.name rows c.in_ok-get.field-0.now
    (sym c.get.ensures.value ∙ ap option_copied c.in_ok-get.was) in
    subst (λ n. n ≤ msize_max) (sym c.reply_max.ensures)
    (small-room c.self.inside.setting forest (session_at c.args.name (sessions_in rows))
    c.in_ok-get.field-0.now.session there
    (each-session-served c.self.inside.setting forest (sessions_in rows) c.args.name
    c.self.invariant.served))

pub returns-in_err-get-clause-max : goal.returns-in_err-get-clause-max
returns-in_err-get-clause-max g c =
    let rows = c.self.inside.sessions.entries in
    let none : session_at c.args.name (sessions_in rows) ≡ None = session-none c.args.name rows
    (sym c.get.ensures.value ∙ ap option_copied c.in_err-get.was) in
    let gone : c.from_residual.result ≡ None = search rules in
    rw (← c.self.view_is, none) gone

pub returns-in_err-get-clause-live : goal.returns-in_err-get-clause-live
returns-in_err-get-clause-live g c =
    let rows = c.self.inside.sessions.entries in
    let none : session_at c.args.name (sessions_in rows) ≡ None = session-none c.args.name rows
    (sym c.get.ensures.value ∙ ap option_copied c.in_err-get.was) in
    let gone : c.from_residual.result ≡ None = search rules in
    rw (← c.self.view_is, none, gone) (λ live. live, λ there. there)

pub returns-clause-max : goal.returns-clause-max
returns-clause-max g c =
    let rows = c.self.inside.sessions.entries in
    let there : session_at c.args.name (sessions_in rows) ≡ Some c.in_ok-get.field-0.now.session =
    session-there c.args.name rows c.in_ok-get.field-0.now
    (sym c.get.ensures.value ∙ ap option_copied c.in_ok-get.was) in
    rw (← c.self.view_is, there) (ap Some c.reply_max.ensures)

pub returns-clause-live : goal.returns-clause-live
returns-clause-live g c =
    let rows = c.self.inside.sessions.entries in
    let there : session_at c.args.name (sessions_in rows) ≡ Some c.in_ok-get.field-0.now.session =
    session-there c.args.name rows c.in_ok-get.field-0.now
    (sym c.get.ensures.value ∙ ap option_copied c.in_ok-get.was) in
    rw (← c.self.view_is, there) (λ live. refl, λ is. refl)
