use Rattle.std.proofs.Common.{◌≡◌, ◌∙◌, Some, ap, refl, subst, sym}
use Rattle.std.specs.Map.{lookup, set_value}
use Rattle.std.specs.Option.{option_copied_mut}
use Rattle.std.specs.Ordering.{nat_cmp}
use Rattle.std.specs.BTreeMap.{is_at}
use Rattle.p9_space.specs.Channel.{trail_of}
use Rattle.p9_fids.specs.Fid.{opened_as, trailed}
use Rattle.p9_fids.specs.Fids.{IsFids}
use Rattle.p9_fids.specs.Held.{AllFit, Held, fid_of, held_fids, map_values}
use Rattle.p9_fids.proofs.Fids.{fids-changed}
use Rattle.p9_fids.proofs.Holding.{changed-held, fit-set, held-there}
use Rattle.p9_fids.proofs.table.FidTable.open_at.Goals as goal

pub unwrap-held-requires : goal.unwrap-held-requires
unwrap-held-requires g c =
    held-there c.args.fid c.self.inside.fids.entries c.get_mut.result c.get_mut.ensures.value
    (rw (← c.self.view_is) at c.requires)

pub invariant_of-self : goal.invariant_of-self
invariant_of-self g c =
    let test = is_at (nat_cmp c.args.fid) in
    let entries = c.self.inside.fids.entries in
    let old : Held = record {
      fid = record {
        user = c.held.inside.user;
        trail = trail_of c.held.inside.channels;
        opened = c.held.inside.opened;
      };
      rows = c.held.inside.channels.rows;
    } in
    let new : Held = record {
      fid = record { user = c.held.inside.user; trail = trail_of c.args.channels; opened = Some c.args.opened };
      rows = c.args.channels.rows;
    } in
    let found : lookup test entries ≡ Some old = rw c.held.view_is
    (sym c.get_mut.ensures.value ∙ ap option_copied_mut c.unwrap-held.ensures) in
    let set : (c.get_mut.follows.lender new).entries ≡ set_value test entries new =
    (c.get_mut.follows.holds new).0 in
    subst IsFids
    (sym (ap (map_values fid_of) set
    ∙ changed-held c.args.fid (λ held. opened_as c.args.opened (trailed (trail_of c.args.channels) held)) entries old new found refl))
    (fids-changed c.args.fid (λ held. opened_as c.args.opened (trailed (trail_of c.args.channels) held)) (map_values fid_of entries) c.self.invariant)

pub returns-clause-opened : goal.returns-clause-opened
returns-clause-opened g c =
    let test = is_at (nat_cmp c.args.fid) in
    let entries = c.self.inside.fids.entries in
    let old : Held = record {
      fid = record {
        user = c.held.inside.user;
        trail = trail_of c.held.inside.channels;
        opened = c.held.inside.opened;
      };
      rows = c.held.inside.channels.rows;
    } in
    let new : Held = record {
      fid = record { user = c.held.inside.user; trail = trail_of c.args.channels; opened = Some c.args.opened };
      rows = c.args.channels.rows;
    } in
    let found : lookup test entries ≡ Some old = rw c.held.view_is
    (sym c.get_mut.ensures.value ∙ ap option_copied_mut c.unwrap-held.ensures) in
    let set : (c.get_mut.follows.lender new).entries ≡ set_value test entries new =
    (c.get_mut.follows.holds new).0 in
    rw (← c.self.view_is)
    (ap (map_values fid_of) set ∙ changed-held c.args.fid (λ held. opened_as c.args.opened (trailed (trail_of c.args.channels) held)) entries old new found refl)

pub returns-clause-fits : goal.returns-clause-fits
returns-clause-fits g c =
    let test = is_at (nat_cmp c.args.fid) in
    let entries = c.self.inside.fids.entries in
    let old : Held = record {
      fid = record {
        user = c.held.inside.user;
        trail = trail_of c.held.inside.channels;
        opened = c.held.inside.opened;
      };
      rows = c.held.inside.channels.rows;
    } in
    let new : Held = record {
      fid = record { user = c.held.inside.user; trail = trail_of c.args.channels; opened = Some c.args.opened };
      rows = c.args.channels.rows;
    } in
    let found : lookup test entries ≡ Some old = rw c.held.view_is
    (sym c.get_mut.ensures.value ∙ ap option_copied_mut c.unwrap-held.ensures) in
    let set : (c.get_mut.follows.lender new).entries ≡ set_value test entries new =
    (c.get_mut.follows.holds new).0 in
    λ table fit fits.
    subst (λ es. AllFit table (held_fids es)) (sym set)
    (fit-set table test entries new (rw (← c.self.view_is) at fit) fits)
