use Rattle.std.proofs.Common.{◌≡◌, inr, rules, ◌∙◌}
use Rattle.p9_log.specs.Device.{IsPut}
use Rattle.p9_log.proofs.Pasts.{passes-next}
use Rattle.p9_log.proofs.memory.MemoryDeviceDevice.put_draft.Goals as goal

pub returns-clause-crash : goal.returns-clause-crash
returns-clause-crash g c how =
    let old = c.args.self.now in
    let past = c.in_ok-replace.ensures.past in
    let next : c.in_ok-next.next.items ≡ old.draft.items = search rules in
    passes-next (λ m. m.bytes.items) (λ m. m.past.items) how (IsPut old.draft.items) old _ past.0 past.1 past.2
    (inr (c.in_ok-replace.ensures.ok ∙ next))
