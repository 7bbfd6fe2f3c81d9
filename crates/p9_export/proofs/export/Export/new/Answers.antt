use Rattle.std.specs.List.{list_all}
use Rattle.std.specs.List.Sorted.{IsStrictlySortedBy}
use Rattle.std.proofs.Common.{subst, ◌≡◌, true}
use Rattle.p9_base.specs.User.{is_user}
use Rattle.p9_export.proofs.export.Export.new.Goals as goal

pub invariant_of-result : goal.invariant_of-result
unfolding IsStrictlySortedBy
invariant_of-result g c = record {
  served = record {
    fixed = record {
      users = subst (λ users. list_all is_user users ≡ true) c.as_slice.ensures.value
          c.prove_users_valid.ensures;
      groups = c.well_formed-3.ensures;
      table = c.well_formed-4.ensures;
    };
    given = c.requires;
    rising = rw c.new.ensures.empty tt;
    sessions = rw c.new.ensures.empty tt;
  };
  channels = rw c.new.ensures.empty tt;
}
