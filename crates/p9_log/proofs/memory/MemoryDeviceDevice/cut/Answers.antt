use Rattle.std.proofs.Common.{◌≡◌, take, rules, ◌∙◌}
use Rattle.p9_log.specs.Device.{IsCut}
use Rattle.p9_log.proofs.Pasts.{passes-next, cut-whole}
use Rattle.p9_log.proofs.memory.MemoryDeviceDevice.cut.Goals as goal

pub returns-clause-crash : goal.returns-clause-crash
returns-clause-crash g c how =
    let old = c.args.self.now in
    let past = c.in_ok-replace.ensures.past in
    let next : c.in_ok-next.next.items ≡ take c.args.len old.bytes.items = search rules in
    passes-next (λ m. m.bytes.items) (λ m. m.past.items) how (IsCut how c.args.len) old _ past.0 past.1 past.2
    (cut-whole how old.bytes.items c.replace.new.bytes.items c.args.len c.requires (c.in_ok-replace.ensures.ok ∙ next))
