use Rattle.std.proofs.Common.{◌≡◌, Err, None, Ok, Some, inl, sym, ap, ◌∙◌, false, true}
use Rattle.std.proofs.lemmas.Result.{err_from_is_err_and}
use Rattle.std.specs.Prelude.{is_none}
use Rattle.p9_fids.specs.Fid.{fid_at}
use Rattle.p9_fids.specs.Held.{Held}
use Rattle.p9_space.specs.Table.{members_of}
use Rattle.p9_space.specs.Trail.{here}
use Rattle.p9_requests.specs.Create.{create_steps, created_in, target_among}
use Rattle.p9_requests.proofs.Creates.{none-of, some-of, steps-found, steps-meaningless}
use Rattle.p9_requests.proofs.Creates.{steps-open, steps-refused, steps-unknown}
use Rattle.p9_requests.proofs.create.planned.Goals as goal

pub returns-clause-ok : goal.returns-clause-ok
returns-clause-ok g c =
    let forest = c.args.forest.now in
    let s = c.args.session.now.session in
    let v = c.in-Some.held.now.fid in
    let found : fid_at c.args.wanted.fid s.fids ≡ Some v =
    sym (ap (λ s. fid_at c.args.wanted.fid s.session.fids) c.session.view_is)
    ∙ sym c.in-Some.ensures.fid in
    let shut : is_none v.opened ≡ true =
    sym (ap (λ (h : Held). is_none h.fid.opened) c.held.view_is)
    ∙ none-of c.held.inside.opened (sym c.is_some.ensures ∙ c.if-is_some.false) in
    let chosen : target_among forest (members_of (here v.trail) c.args.setting.now.table)
    ≡ Ok c.in_ok-target.target =
    rw (← c.held.view_is, ← c.setting.view_is)
    (ap (target_among forest) (sym (c.as_slice.ensures ∙ c.members-members.ensures.members))
    ∙ sym c.in_ok-target.ensures) in
    let is : create_steps c.args.setting.now forest s c.args.clock c.args.wanted.fid
    c.args.wanted.name.now c.args.wanted.perm c.args.wanted.mode
    ≡ created_in c.args.setting.now forest s c.args.clock c.args.wanted.fid v c.in_ok-asked.asked
    c.in_ok-target.target =
    steps-found c.args.setting.now forest s c.args.clock c.args.wanted.fid c.args.wanted.name.now
    c.args.wanted.perm c.args.wanted.mode v c.in_ok-asked.asked c.in_ok-target.target found shut
    (sym c.in_ok-asked.ensures) chosen in
    rw is (c.plan_in.ensures.ok s c.args.wanted.fid)

pub returns-clause-err : goal.returns-clause-err
returns-clause-err g c =
    let forest = c.args.forest.now in
    let s = c.args.session.now.session in
    let v = c.in-Some.held.now.fid in
    let found : fid_at c.args.wanted.fid s.fids ≡ Some v =
    sym (ap (λ s. fid_at c.args.wanted.fid s.session.fids) c.session.view_is)
    ∙ sym c.in-Some.ensures.fid in
    let shut : is_none v.opened ≡ true =
    sym (ap (λ (h : Held). is_none h.fid.opened) c.held.view_is)
    ∙ none-of c.held.inside.opened (sym c.is_some.ensures ∙ c.if-is_some.false) in
    let chosen : target_among forest (members_of (here v.trail) c.args.setting.now.table)
    ≡ Ok c.in_ok-target.target =
    rw (← c.held.view_is, ← c.setting.view_is)
    (ap (target_among forest) (sym (c.as_slice.ensures ∙ c.members-members.ensures.members))
    ∙ sym c.in_ok-target.ensures) in
    let is : create_steps c.args.setting.now forest s c.args.clock c.args.wanted.fid
    c.args.wanted.name.now c.args.wanted.perm c.args.wanted.mode
    ≡ created_in c.args.setting.now forest s c.args.clock c.args.wanted.fid v c.in_ok-asked.asked
    c.in_ok-target.target =
    steps-found c.args.setting.now forest s c.args.clock c.args.wanted.fid c.args.wanted.name.now
    c.args.wanted.perm c.args.wanted.mode v c.in_ok-asked.asked c.in_ok-target.target found shut
    (sym c.in_ok-asked.ensures) chosen in
    rw is (c.plan_in.ensures.err s c.args.wanted.fid)

pub returns-in_err-target-clause-err : goal.returns-in_err-target-clause-err
returns-in_err-target-clause-err g c =
    let forest = c.args.forest.now in
    let s = c.args.session.now.session in
    let v = c.in-Some.held.now.fid in
    let fault = c.in_err-target.field-0.0 in
    let found : fid_at c.args.wanted.fid s.fids ≡ Some v =
    sym (ap (λ s. fid_at c.args.wanted.fid s.session.fids) c.session.view_is)
    ∙ sym c.in-Some.ensures.fid in
    let shut : is_none v.opened ≡ true =
    sym (ap (λ (h : Held). is_none h.fid.opened) c.held.view_is)
    ∙ none-of c.held.inside.opened (sym c.is_some.ensures ∙ c.if-is_some.false) in
    let chosen : target_among forest (members_of (here v.trail) c.args.setting.now.table) ≡ Err fault =
    rw (← c.held.view_is, ← c.setting.view_is)
    (ap (target_among forest) (sym (c.as_slice.ensures ∙ c.members-members.ensures.members))
    ∙ sym c.target_among.ensures ∙ c.in_err-target.was) in
    let r = c.from_residual-in_err-target in
    let p = err_from_is_err_and r.result r.ensures.1 in
    rw (p.1, p.2)
    (inl (steps-refused c.args.setting.now forest s c.args.clock c.args.wanted.fid
    c.args.wanted.name.now c.args.wanted.perm c.args.wanted.mode v c.in_ok-asked.asked fault found
    shut (sym c.in_ok-asked.ensures) chosen))

pub returns-in_default-clause-err : goal.returns-in_default-clause-err
returns-in_default-clause-err g c =
    let s = c.args.session.now.session in
    let none : fid_at c.args.wanted.fid s.fids ≡ None =
    sym (ap (λ s. fid_at c.args.wanted.fid s.session.fids) c.session.view_is)
    ∙ sym c.in_default.ensures.fid in
    inl (steps-unknown c.args.setting.now c.args.forest.now s c.args.clock c.args.wanted.fid
    c.args.wanted.name.now c.args.wanted.perm c.args.wanted.mode none)

pub returns-then-is_some-clause-err : goal.returns-then-is_some-clause-err
returns-then-is_some-clause-err g c =
    let s = c.args.session.now.session in
    let v = c.in-Some.held.now.fid in
    let found : fid_at c.args.wanted.fid s.fids ≡ Some v =
    sym (ap (λ s. fid_at c.args.wanted.fid s.session.fids) c.session.view_is)
    ∙ sym c.in-Some.ensures.fid in
    let used : is_none v.opened ≡ false =
    sym (ap (λ (h : Held). is_none h.fid.opened) c.held.view_is)
    ∙ some-of c.held.inside.opened (sym c.if-is_some.ensures) in
    inl (steps-open c.args.setting.now c.args.forest.now s c.args.clock c.args.wanted.fid
    c.args.wanted.name.now c.args.wanted.perm c.args.wanted.mode v found used)

pub returns-in_err-asked-clause-err : goal.returns-in_err-asked-clause-err
returns-in_err-asked-clause-err g c =
    let s = c.args.session.now.session in
    let v = c.in-Some.held.now.fid in
    let fault = c.in_err-asked.field-0.0 in
    let found : fid_at c.args.wanted.fid s.fids ≡ Some v =
    sym (ap (λ s. fid_at c.args.wanted.fid s.session.fids) c.session.view_is)
    ∙ sym c.in-Some.ensures.fid in
    let shut : is_none v.opened ≡ true =
    sym (ap (λ (h : Held). is_none h.fid.opened) c.held.view_is)
    ∙ none-of c.held.inside.opened (sym c.is_some.ensures ∙ c.if-is_some.false) in
    let p = err_from_is_err_and c.from_residual.result c.from_residual.ensures.1 in
    rw (p.1, p.2)
    (inl (steps-meaningless c.args.setting.now c.args.forest.now s c.args.clock c.args.wanted.fid
    c.args.wanted.name.now c.args.wanted.perm c.args.wanted.mode v fault found shut
    (sym c.asked_of.ensures ∙ c.in_err-asked.was)))
