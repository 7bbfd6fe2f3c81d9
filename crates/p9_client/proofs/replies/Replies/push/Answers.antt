use Rattle.std.proofs.Common.{◌∙◌, ◌++◌, ◌∷◌, [], List, ℕ, ap, map, subst, sym}
use Rattle.std.proofs.lemmas.List.Elements.{All-push, All-same}
use Rattle.std.specs.List.{All}
use Rattle.p9_client.specs.declared.replies.Reply.{Reply}
use Rattle.p9_client.specs.Frame.{HasSize}
use Rattle.p9_client.proofs.Listed.{frames-more}
use Rattle.p9_client.proofs.replies.Replies.push.Goals as goal

pub invariant_of-self : goal.invariant_of-self
invariant_of-self g c =
    subst (λ (replies : List (Reply g.row.A.Denot)). All HasSize (map (λ reply. reply.frame.items) replies))
    (sym c.in_err-push.ensures.items) c.self.invariant

pub invariant_of-self-2 : goal.invariant_of-self-2
invariant_of-self-2 g c =
    let old : List (List ℕ) = map (λ reply. reply.frame.items) c.self.inside.replies.items in
    All-same HasSize _ (old ++ c.args.frame.now ∷ [])
    (frames-more c.self.inside.replies.items _ _ c.args.frame.now c.in_ok-push.ensures.items c.in_ok-frame.ensures.items)
    (All-push HasSize old c.args.frame.now c.self.invariant c.requires)

pub returns : goal.returns
returns g c = record {
  ok = frames-more c.self.inside.replies.items _ _ c.args.frame.now c.in_ok-push.ensures.items
      c.in_ok-frame.ensures.items
      ∙ ap (λ (frames : List (List ℕ)). frames ++ c.args.frame.now ∷ []) c.self.view_is;
}
