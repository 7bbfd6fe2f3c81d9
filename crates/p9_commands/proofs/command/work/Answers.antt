use Rattle.std.proofs.Common.{IfOk, Option, refl, subst}
use Rattle.p9_cert.specs.declared.gap.Gap.{Gap}
use Rattle.p9_commands.proofs.Ends.{silent-works}
use Rattle.p9_commands.specs.Command.{printed}
use Rattle.p9_commands.specs.Judgement.{IsPrinted, verified_status, verified_text}
use Rattle.p9_commands.specs.declared.command.Command.TheVariants.{Check, Ns, Verify}
use Rattle.p9_commands.proofs.command.work.Goals as goal

pub returns-in-Play : goal.returns-in-Play
returns-in-Play g c = rw c.in-Play.is c.play.ensures

pub returns-in-Check : goal.returns-in-Check
returns-in-Check g c =
    let p = printed c.args.out.now c.check-status.new.out c.args.err.now c.args.err.now in
    rw c.in-Check.is
    (silent-works Check _ c.args.prepared c.prepared.view_is p c.check-status.result refl c.check-status.ensures)

pub returns-in-Verify : goal.returns-in-Verify
returns-in-Verify g c =
    let p = printed c.args.out.now c.print_verified-status.new.out c.args.err.now c.args.err.now in
    rw c.in-Verify.is
    (silent-works Verify c.args.prepared c.args.prepared refl p c.print_verified-status.result refl
    (subst (λ (gap : Option Gap). IfOk c.print_verified-status.result
    (IsPrinted (verified_status gap) (verified_text gap) p.out_before p.out)) c.gap.ensures
    c.print_verified-status.ensures))

pub returns-in-Ns : goal.returns-in-Ns
returns-in-Ns g c =
    let p = printed c.args.out.now c.list-status.new.out c.args.err.now c.args.err.now in
    rw c.in-Ns.is
    (silent-works Ns _ c.args.prepared c.prepared-in-Ns.view_is p c.list-status.result refl c.list-status.ensures)
