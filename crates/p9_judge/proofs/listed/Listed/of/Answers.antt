use Rattle.std.proofs.Common.{◌≡◌, ◌∙◌, ℕ, List, false, ap, subst}
use Rattle.std.specs.List.{list_any}
use Rattle.std.specs.Option.{option_map_or}
use Rattle.std.specs.Str.{bytes_eq}
use Rattle.p9_base.specs.Group.{group_of}
use Rattle.p9_world.specs.World.{World}
use Rattle.p9_judge.specs.Listed.{has_listed}
use Rattle.p9_judge.proofs.listed.Listed.of.Goals as goal

pub returns : goal.returns
returns g c =
    let users = c.in_ok-users.users.keys in
    let groups = c.in_ok-groups.groups.keys in
    record {
      same =
          subst (λ (w : World). (name : List ℕ) → list_any (bytes_eq name) users
          ≡ list_any (bytes_eq name) w.users) c.world.view_is
          (λ name. c.in_ok-users.ensures name ∙ ap (list_any (bytes_eq name)) c.as_slice.ensures.value);
      marked =
          subst (λ (w : World). (name : List ℕ) → list_any (bytes_eq name) groups
          ≡ option_map_or (has_listed users) (group_of name w.groups) false) c.world.view_is
          c.in_ok-groups.ensures;
    }
