use Rattle.std.proofs.Common.{◌≡◌, ap, sym, ◌∙◌, refl, arith, length, min}
use Rattle.p9_restricted.specs.declared.front.Front.TheVariants.{Broken, Frame}
use Rattle.p9_restricted.specs.Front.{front_of}
use Rattle.p9_restricted.specs.Masked.{Gate}
use Rattle.p9_restricted.proofs.Maskings.{front_mask}
use Rattle.p9_restricted.proofs.Onward.{passes_broken, passes_frame}
use Rattle.p9_restricted.proofs.passing.Passing.begin.Goals as goal

pub blank-requires : goal.blank-requires
blank-requires g c =
    front_mask c.as_slice.result.now c.args.bytes.now c.in-Frame.size c.in-Frame.mask
    (sym c.in-Frame.ensures)

pub returns-in-Broken-clause-passed : goal.returns-in-Broken-clause-passed
returns-in-Broken-clause-passed g c =
    let users = ap (λ (gate : Gate). gate.users) c.self.view_is in
    let said : front_of c.args.self.now.users c.args.bytes.now ≡ Broken =
    ap (λ u. front_of u c.args.bytes.now) (sym users ∙ sym c.as_slice.ensures.value)
    ∙ sym c.in-Broken.ensures in
    passes_broken c.args.self.now _ c.args.bytes.now c.requires said users refl

pub returns-in-Frame-clause-passed : goal.returns-in-Frame-clause-passed
returns-in-Frame-clause-passed g c =
    let users = ap (λ (gate : Gate). gate.users) c.self.view_is in
    let said : front_of c.args.self.now.users c.args.bytes.now
    ≡ Frame c.in-Frame.size c.in-Frame.mask =
    ap (λ u. front_of u c.args.bytes.now) (sym users ∙ sym c.as_slice.ensures.value)
    ∙ sym c.in-Frame.ensures in
    let counted : c.min-count.result ≡ min c.in-Frame.size (length c.args.bytes.now) =
    omega (arith, c.blank.auto.bytes) in
    rw c.blank.ensures
    (passes_frame c.args.self.now _ c.args.bytes.now c.in-Frame.size c.in-Frame.mask
    c.min-count.result c.requires said users refl counted)
