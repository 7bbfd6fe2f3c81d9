use Rattle.std.proofs.Common.{◌<◌, arith}
use Rattle.std.proofs.lemmas.List.Elements.{All-from_get_or}
use Rattle.p9_wire.specs.Message.{r_view}
use Rattle.p9_wire.proofs.Framing.{is_found, is_none}
use Rattle.p9_wire.proofs.RGrammar.{r-decides}
use Rattle.p9_wire.proofs.r_reading.read_r.Goals as goal

pub returns-clause-found : goal.returns-clause-found
returns-clause-found c =
    is_found r-decides (λ x. (x.0, r_view x.1)) c.whole.result c.args.bytes.now
    (All-from_get_or (λ b. b < 256) c.args.bytes.now 0
    (λ i lt. omega (arith, c.type_inv.bytes i))) c.whole.ensures

pub returns-clause-none : goal.returns-clause-none
returns-clause-none c =
    is_none r-decides (λ x. (x.0, r_view x.1)) c.whole.result c.args.bytes.now c.whole.ensures
