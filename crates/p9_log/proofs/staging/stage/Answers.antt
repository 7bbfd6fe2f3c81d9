use Rattle.std.proofs.Common.{◌≡◌, ◌-◌, ap, sym, ◌∙◌, length, arith}
use Rattle.p9_log.specs.Blocks.{number}
use Rattle.p9_log.specs.Rest.{held}
use Rattle.p9_log.proofs.Staged.{length-held, staged-all}
use Rattle.p9_log.proofs.staging.stage.Goals as goal

pub returns : goal.returns
unfolding number
returns c =
    let old = c.args.buffer.now in
    let long : length (held old c.args.end) ≡ c.args.end - 10 = length-held old c.args.end c.requires.head (omega (arith, c.requires.room)) in
    let sized : c.write_u64.new.buf ≡ number (length (held old c.args.end)) = c.write_u64.ensures ∙ ap number (sym long) in
    staged-all old c.put_over.new.buffer c.put_over-2.new.buffer c.put_over-3.new.buffer c.write_u64.new.buf
    c.args.end c.requires.head c.requires.room sized c.put_over.ensures c.put_over-2.ensures
    c.put_over-3.ensures
