use Rattle.std.proofs.Common.{◌≡◌, ◌∙◌, Some, option_copied, sym, ap}
use Rattle.p9_base.specs.Group.{group_of}
use Rattle.p9_judge.proofs.Users.{members-marked}
use Rattle.p9_judge.proofs.listed.Listed.has_member.Goals as goal

pub returns-in-Some : goal.returns-in-Some
returns-in-Some g c =
    let world = c.args.world.now in
    let found : group_of c.args.name.now world.groups ≡ Some c.in-Some.field-0.now =
    sym c.requires.found ∙ ap option_copied c.in-Some.is in
    c.contains.ensures
    ∙ members-marked world.users world.groups c.args.self.now c.requires.lists c.args.name.now
    c.in-Some.field-0.now found
