use Rattle.std.proofs.Common.{ap, option_copied, sym, ◌∙◌}
use Rattle.p9_view.proofs.Passers.{listed-added, on-ok, unlisted-added}
use Rattle.p9_view.proofs.passing.add_users_of.Goals as goal

pub returns-in-Some : goal.returns-in-Some
returns-in-Some g c =
    let classes = c.to_pass-classes in
    on-ok c.add_users_in.result _ _
    (λ added. listed-added classes.result c.args.dir.now c.args.groups.now
    (classes.ensures.others ∙ c.requires) classes.ensures.who c.args.ranks.now.users.keys
    c.args.named.now.keys c.add_if.new.found.keys c.add_users_in.new.named.keys
    c.uid.result.now c.gid-gid.result.now c.uid.ensures c.gid-gid.ensures c.in_ok-add_if.ensures
    c.in-Some.group.now (sym c.get.ensures ∙ ap option_copied c.in-Some.is)
    (rw (sym c.leader.ensures, sym c.members.ensures) added))
    c.add_users_in.ensures

pub returns-in-None : goal.returns-in-None
returns-in-None g c =
    let classes = c.to_pass-classes in
    on-ok c.add_users_in-in-None.result _ _
    (unlisted-added classes.result c.args.dir.now c.args.groups.now
    (classes.ensures.others ∙ c.requires) classes.ensures.who c.args.ranks.now.users.keys
    c.args.named.now.keys c.add_if.new.found.keys c.add_users_in-in-None.new.named.keys
    c.uid.result.now c.gid-gid.result.now c.uid.ensures c.gid-gid.ensures c.in_ok-add_if.ensures
    (sym c.get.ensures ∙ ap option_copied c.in-None.is))
    c.add_users_in-in-None.ensures
