use Rattle.std.proofs.Common.{◌<◌, arith}
use Rattle.std.proofs.lemmas.List.Elements.{All-from_get_or}
use Rattle.p9_wire.specs.Message.{t_view}
use Rattle.p9_wire.proofs.Framing.{is_found, is_none}
use Rattle.p9_wire.proofs.TGrammar.{t-decides}
use Rattle.p9_wire.proofs.t_reading.read_t.Goals as goal

pub returns-clause-found : goal.returns-clause-found
returns-clause-found c =
    is_found t-decides (λ x. (x.0, t_view x.1)) c.whole.result c.args.bytes.now
    (All-from_get_or (λ b. b < 256) c.args.bytes.now 0
    (λ i lt. omega (arith, c.type_inv.bytes i))) c.whole.ensures

pub returns-clause-none : goal.returns-clause-none
returns-clause-none c =
    is_none t-decides (λ x. (x.0, t_view x.1)) c.whole.result c.args.bytes.now c.whole.ensures
