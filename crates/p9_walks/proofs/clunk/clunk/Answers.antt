use Rattle.std.proofs.Common.{◌≡◌, None, Some, inl, refl, sym, ap, ◌∙◌}
use Rattle.std.specs.Option.{option_map}
use Rattle.p9_fids.specs.Held.{fid_of}
use Rattle.p9_base.specs.Results.{obtain}
use Rattle.p9_step.proofs.Fids.{AreWellOpen-fid_at, without_fid-none}
use Rattle.p9_fids.specs.Fid.{fid_at}
use Rattle.p9_walks.proofs.clunk.clunk.Goals as goal

pub returns-in_default-clause-answer : goal.returns-in_default-clause-answer
unfolding obtain
returns-in_default-clause-answer g c =
    let none : fid_at c.args.fid c.session.inside.fids.fids ≡ None =
    sym c.take.ensures.value ∙ ap (option_map fid_of) c.in_default.is in
    let same = c.take.ensures.after ∙ without_fid-none c.args.fid c.session.inside.fids.fids none in
    rw (← c.session.view_is) (inl (rw none), refl, rw same)

pub end_fid-requires-clause-opened : goal.end_fid-requires-clause-opened
end_fid-requires-clause-opened g c =
    let found : fid_at c.args.fid c.session.inside.fids.fids ≡ Some c.in-Some.ended.fid =
    sym c.take.ensures.value ∙ ap (option_map fid_of) c.in-Some.is in
    AreWellOpen-fid_at c.args.setting.now.table c.args.forest.now
    c.args.session.now.session.fids c.args.fid _ c.requires.opened (rw (← c.session.view_is) found)
