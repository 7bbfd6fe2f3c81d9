use Rattle.std.proofs.Common.{◌≡◌, ◌∙◌, ◌&&◌, true, false, sym, ap}
use Rattle.p9_tree.specs.Node.{is_dir}
use Rattle.p9_cert.specs.Classes.{is_of}
use Rattle.p9_cert.specs.Listed.{is_passable, may_pass, some_listed}
use Rattle.p9_policy.proofs.ByClass.{some-same}
use Rattle.p9_judge.proofs.listed.Listed.may_pass.Goals as goal

pub returns-then-is_dir : goal.returns-then-is_dir
unfolding is_passable
returns-then-is_dir g c =
    let n = c.args.node.now in
    let users = c.args.world.now.users in
    let groups = c.args.world.now.groups in
    let dir : is_dir n ≡ true = sym c.is_dir.ensures ∙ c.if-is_dir.true in
    c.has_one_of.ensures ∙ some-same users groups (is_of c.to_pass.result n) (may_pass n) c.to_pass.ensures.who
    ∙ sym (ap (λ b. b && some_listed users groups (may_pass n)) dir)

pub returns-else-is_dir : goal.returns-else-is_dir
unfolding is_passable
returns-else-is_dir g c =
    let n = c.args.node.now in
    let users = c.args.world.now.users in
    let groups = c.args.world.now.groups in
    let file : is_dir n ≡ false = sym c.is_dir.ensures ∙ c.if-is_dir.false in
    c.if-is_dir.false ∙ sym (ap (λ b. b && some_listed users groups (may_pass n)) file)
