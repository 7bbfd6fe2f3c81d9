use Rattle.std.proofs.Common.{◌≡◌, ◌∙◌, ◌<◌, [], List, ℕ, ap, arith, length, subst, sym}
use Rattle.std.proofs.lemmas.List.{get_or-map, length-map}
use Rattle.std.specs.Prelude.{map, slice_index_or}
use Rattle.p9_client.specs.declared.replies.Reply.{Reply}
use Rattle.p9_client.specs.Frame.{HasSize}
use Rattle.p9_client.proofs.replies.Replies.with_tag.Goals as goal

pub returns-then-reply-tag-clause-size : goal.returns-then-reply-tag-clause-size
returns-then-reply-tag-clause-size g c =
    let frame = λ (reply : Reply g.row.A.Denot). reply.frame.items in
    let replies : List (Reply g.row.A.Denot) = c.self.inside.replies.items in
    let index : ℕ = c.loop-reply.reply-index in
    let all : c.as_slice-reply-items.result.now ≡ replies = c.as_slice-reply-items.ensures.value in
    let at : index < length replies = omega (arith, ap length all, c.loop-reply-test.true) in
    let there : slice_index_or (map frame replies) index [] ≡ c.as_slice.result.now =
    get_or-map frame replies index c.reply-item.result [] at
    ∙ sym (c.as_slice.ensures.value ∙ ap frame (c.reply-item.is
    ∙ ap (λ (rs : List (Reply g.row.A.Denot)). slice_index_or rs index c.reply-item.result) all)) in
    subst HasSize there (c.self.invariant index [] (omega (arith, at, length-map replies frame)))
