use Rattle.std.proofs.Common.{◌≡◌, ◌∙◌, true, false, ap, is_some, refl, sym}
use Rattle.std.specs.Ordering.{nat_cmp}
use Rattle.p9_fids.proofs.Values.{insert-mapped}
use Rattle.p9_step.specs.State.{fresh, session_at, with_session}
use Rattle.p9_walks.specs.Held.{HeldSession, session_in, sessions_in}
use Rattle.p9_walks.proofs.Removals.{absent}
use Rattle.p9_export.proofs.Sessions.{kept-put, session-open}
use Rattle.p9_export.proofs.export.Export.open.Goals as goal

pub invariant_of-self : goal.invariant_of-self
invariant_of-self g c =
    kept-put c.self.inside.setting c.self.inside.forest
    c.self.inside.sessions.entries _ c.args.name c.session.result c.insert.result c.self.invariant
    c.session.ensures c.insert.ensures.entries c.insert.ensures.err

pub returns-then-contains_key-clause-live : goal.returns-then-contains_key-clause-live
returns-then-contains_key-clause-live g c =
    let same : c.contains_key.result ≡ is_some (session_at c.args.name c.args.self.now.sessions) =
    rw (← c.self.view_is)
    (c.contains_key.ensures ∙ sym (session-open c.args.name c.self.inside.sessions.entries)) in
    (λ live. sym same ∙ c.if-contains_key.true, λ there. refl)

pub returns-in-Ok-clause-ok : goal.returns-in-Ok-clause-ok
returns-in-Ok-clause-ok g c =
    let rows = c.self.inside.sessions.entries in
    let same : c.contains_key.result ≡ is_some (session_at c.args.name c.args.self.now.sessions) =
    rw (← c.self.view_is)
    (c.contains_key.ensures ∙ sym (session-open c.args.name c.self.inside.sessions.entries)) in
    let shut : is_some (session_at c.args.name c.args.self.now.sessions) ≡ false =
    sym same ∙ c.if-contains_key.false in
    let put : sessions_in c.insert.new.self.entries ≡ with_session c.args.name fresh (sessions_in rows) =
    ap sessions_in c.in-Ok.ensures.entries
    ∙ insert-mapped session_in nat_cmp rows c.args.name c.session.result
    ∙ ap (λ (held : HeldSession). with_session c.args.name held.session (sessions_in rows))
    c.session.ensures in
    (absent _ shut, rw (shut, put, ← c.self.view_is) refl)

pub returns-in-Ok-clause-live : goal.returns-in-Ok-clause-live
returns-in-Ok-clause-live g c =
    let same : c.contains_key.result ≡ is_some (session_at c.args.name c.args.self.now.sessions) =
    rw (← c.self.view_is)
    (c.contains_key.ensures ∙ sym (session-open c.args.name c.self.inside.sessions.entries)) in
    let shut : is_some (session_at c.args.name c.args.self.now.sessions) ≡ false =
    sym same ∙ c.if-contains_key.false in
    (λ live. absurd (cc), λ there. let no : false ≡ true = sym shut ∙ there in absurd (cc))

pub returns-clause-live : goal.returns-clause-live
returns-clause-live g c =
    let same : c.contains_key.result ≡ is_some (session_at c.args.name c.args.self.now.sessions) =
    rw (← c.self.view_is)
    (c.contains_key.ensures ∙ sym (session-open c.args.name c.self.inside.sessions.entries)) in
    let shut : is_some (session_at c.args.name c.args.self.now.sessions) ≡ false =
    sym same ∙ c.if-contains_key.false in
    (λ live. absurd (cc), λ there. let no : false ≡ true = sym shut ∙ there in absurd (cc))
