use Rattle.std.proofs.Common.{List, ℕ, refl, subst, sym}
use Rattle.p9_log.specs.Device.{Holds, IsWritten}
use Rattle.p9_log.proofs.Pasts.{passes-next, passes-same, written-none, written-whole}
use Rattle.p9_log.proofs.memory.MemoryDeviceDevice.write_at.Goals as goal

pub returns-clause-crash : goal.returns-clause-crash
returns-clause-crash g c how =
    let old = c.args.self.now in
    let past = c.in_ok-replace.ensures.past in
    let holds = subst (λ (file : List ℕ). Holds file c.args.at c.args.bytes.now c.replace.new.bytes.items) c.deref.ensures.value
    (subst (Holds c.deref.result.now c.args.at c.args.bytes.now) (sym c.in_ok-replace.ensures.ok) c.in_ok-next.ensures) in
    passes-next (λ m. m.bytes.items) (λ m. m.past.items) how (IsWritten how c.args.at c.args.bytes.now) old _ past.0 past.1 past.2
    (written-whole how old.bytes.items c.replace.new.bytes.items c.args.bytes.now c.args.at c.requires holds)

pub returns-in_err-next-clause-crash : goal.returns-in_err-next-clause-crash
returns-in_err-next-clause-crash g c how =
    let old = c.args.self.now in
    passes-same (λ m. m.bytes.items) (λ m. m.past.items) how (IsWritten how c.args.at c.args.bytes.now) old old refl refl
    (written-none how old.bytes.items c.args.bytes.now c.args.at)

pub returns-in_err-replace-clause-crash : goal.returns-in_err-replace-clause-crash
returns-in_err-replace-clause-crash g c how =
    let old = c.args.self.now in
    passes-same (λ m. m.bytes.items) (λ m. m.past.items) how (IsWritten how c.args.at c.args.bytes.now) old _
    c.in_err-replace.ensures.err c.in_err-replace.ensures.past_err
    (written-none how old.bytes.items c.args.bytes.now c.args.at)
