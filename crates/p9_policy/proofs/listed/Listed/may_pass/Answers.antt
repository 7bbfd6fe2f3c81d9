use Rattle.std.proofs.Common.{◌≡◌, ◌∙◌, ◌&&◌, true, sym, ap}
use Rattle.p9_tree.specs.Node.{is_dir}
use Rattle.p9_policy.specs.Classes.{is_of}
use Rattle.p9_policy.specs.Listed.{is_passable, may_pass, some_listed}
use Rattle.p9_policy.proofs.ByClass.{some-same}
use Rattle.p9_policy.proofs.listed.Listed.may_pass.Goals as goal

pub returns-then-is_dir : goal.returns-then-is_dir
unfolding is_passable
returns-then-is_dir g c =
    let n = c.args.node.now in
    let users = c.args.self.users.now in
    let groups = c.args.self.groups.now in
    let dir : is_dir n ≡ true = sym c.is_dir.ensures ∙ c.if-is_dir.true in
    c.is_one_of.ensures ∙ some-same users groups (is_of c.to_pass.result n) (may_pass n) c.to_pass.ensures.who
    ∙ sym (ap (λ b. b && some_listed users groups (may_pass n)) dir)
