use Rattle.std.proofs.Common.{◌∙◌, sym, subst}
use Rattle.std.specs.Option.{option_copied}
use Rattle.p9_nsline.specs.Answer.{Acts}
use Rattle.p9_nsline.proofs.Binding.{mounted_by-root}
use Rattle.p9_nsline.proofs.bind.mount.Goals as goal

pub returns : goal.returns
returns g c =
    subst (λ answer. Acts answer c.args.space.now c.mount_root.new.space c.mount_root.result)
    (sym (mounted_by-root c.args.environment.now c.args.space.now c.args.flags c.args.server.now
    c.as_str.result.now c.args.old.now (option_copied c.args.spec) c.in-Ok.root
    c.in_ok-has_spec.field-0
    (c.as_str.ensures.value ∙ c.in_ok-server.ensures) c.in-Ok.ensures c.in_ok-has_spec.ensures
    c.if-branch.false))
    c.mount_root.ensures
