use Rattle.std.proofs.Common.{ap, ◌∙◌}
use Rattle.std.specs.String.{string_bytes}
use Rattle.p9_world.specs.World.{World}
use Rattle.p9_explain.proofs.Parts.{claim-some}
use Rattle.p9_explain.proofs.claim.push_claim_about.Goals as goal

pub returns-in_ok-push_paths-in-len1-up : goal.returns-in_ok-push_paths-in-len1-up
returns-in_ok-push_paths-in-len1-up g c =
    claim-some c.args.world.now c.as_slice.result.now c.args.hidden.now (string_bytes c.args.text.now)
    (string_bytes c.push_users.new.text) (string_bytes c.push-in-len1-up.new.text)
    (string_bytes c.push_paths.new.text) c.in-len1-up.len_at_least
    (c.as_slice.ensures.value ∙ ap (λ (w : World). w.users) c.world.view_is)
    c.in_ok-push_users-in-len1-up.ensures c.in_ok-push-in-len1-up.ensures
    c.in_ok-push_paths-in-len1-up.ensures
