use Rattle.std.proofs.Common.{◌≡◌, None, Some, false, true, refl, sym, ap, subst, ◌∙◌}
use Rattle.std.specs.Ordering.{nat_cmp}
use Rattle.std.specs.BTreeMap.{is_at}
use Rattle.p9_fids.proofs.Values.{remove-mapped}
use Rattle.p9_step.specs.Sound.{AreWellOpen}
use Rattle.p9_step.specs.State.{Session, session_at}
use Rattle.p9_step.proofs.Sounds.{served-closed}
use Rattle.p9_walks.specs.Held.{HeldSession, SessionFits, session_in, sessions_in}
use Rattle.p9_requests.proofs.Sessions.{fits-lookup, session-none, session-there}
use Rattle.p9_export.proofs.Sessions.{fits-remove}
use Rattle.p9_export.proofs.Sounds.{found-fits}
use Rattle.p9_export.proofs.export.Export.close.Goals as goal

pub end_fids-requires-clause-opened : goal.end_fids-requires-clause-opened
end_fids-requires-clause-opened g c =
    let forest = c.self.inside.forest in
    let rows = c.self.inside.sessions.entries in
    subst (AreWellOpen c.self.inside.setting.table forest)
    (sym (ap (λ (s : HeldSession). s.session.fids) c.session.view_is))
    (found-fits c.self.inside.setting forest (sessions_in rows) c.args.name
    c.in-Some.session.session c.well_formed-2.ensures c.self.invariant.served
    (session-there c.args.name rows c.in-Some.session
    (sym c.remove.ensures.value ∙ c.in-Some.is)))

pub end_fids-requires-clause-channels : goal.end_fids-requires-clause-channels
end_fids-requires-clause-channels g c =
    let rows = c.self.inside.sessions.entries in
    subst (SessionFits c.self.inside.setting.table) (sym c.session.view_is)
    (fits-lookup c.self.inside.setting.table (is_at (nat_cmp c.args.name)) rows c.in-Some.session
    c.self.invariant.channels (sym c.remove.ensures.value ∙ c.in-Some.is))

pub invariant_of-self : goal.invariant_of-self
invariant_of-self g c =
    let forest = c.self.inside.forest in
    let test = is_at (nat_cmp c.args.name) in
    let rows = c.self.inside.sessions.entries in
    let its : Session =
    record { msize = c.session.inside.msize; fids = c.session.inside.fids.fids } in
    let there : session_at c.args.name (sessions_in rows) ≡ Some its =
    session-there c.args.name rows c.in-Some.session (sym c.remove.ensures.value ∙ c.in-Some.is)
    ∙ ap (λ (s : HeldSession). Some s.session) (sym c.session.view_is) in
    rw (c.end_fids.ensures.forest, c.remove.ensures.entries) (record {
      served = rw (remove-mapped session_in test rows) (served-closed c.self.inside.setting forest
          (sessions_in rows) c.well_formed-2.ensures c.self.invariant.served c.args.name c.args.clock
          its there c.ranges.clock.fits);
      channels = fits-remove c.self.inside.setting.table test rows c.self.invariant.channels;
    })

pub returns-in-Some : goal.returns-in-Some
returns-in-Some g c =
    let test = is_at (nat_cmp c.args.name) in
    let rows = c.self.inside.sessions.entries in
    let its : Session =
    record { msize = c.session.inside.msize; fids = c.session.inside.fids.fids } in
    let there : session_at c.args.name (sessions_in rows) ≡ Some its =
    session-there c.args.name rows c.in-Some.session (sym c.remove.ensures.value ∙ c.in-Some.is)
    ∙ ap (λ (s : HeldSession). Some s.session) (sym c.session.view_is) in
    rw (
      ← c.self.view_is,
      there,
      c.end_fids.ensures.forest,
      c.remove.ensures.entries,
      remove-mapped session_in test rows,
    ) refl

pub returns-in_default : goal.returns-in_default
returns-in_default g c =
    let none : session_at c.args.name (sessions_in c.self.inside.sessions.entries) ≡ None =
    session-none c.args.name c.self.inside.sessions.entries
    (sym c.remove.ensures.value ∙ c.in_default.is) in
    let live = rw (← c.self.view_is) at c.requires in
    let no : false ≡ true = rw none at live in
    absurd (cc)
