use Rattle.std.proofs.Common.{◌≡◌, ◌∙◌, Some, ap, subst, sym}
use Rattle.std.specs.Map.{lookup, set_value}
use Rattle.std.specs.Option.{option_copied_mut}
use Rattle.std.specs.Ordering.{nat_cmp}
use Rattle.std.specs.BTreeMap.{is_at}
use Rattle.p9_space.specs.Channel.{Channels, trail_of}
use Rattle.p9_fids.specs.Fid.{trailed}
use Rattle.p9_fids.specs.Fids.{IsFids}
use Rattle.p9_fids.specs.Held.{AllFit, Held, fid_of, held_fids, map_values}
use Rattle.p9_fids.proofs.Fids.{fids-changed}
use Rattle.p9_fids.proofs.Holding.{changed-held, fit-set, held-there, room-rows, room-trail}
use Rattle.p9_fids.proofs.table.FidTable.follow.Goals as goal

pub unwrap-held-requires : goal.unwrap-held-requires
unwrap-held-requires g c =
    held-there c.args.fid c.self.inside.fids.entries c.get_mut.result c.get_mut.ensures.value
    (rw (← c.self.view_is) at c.requires.there)

pub follow-requires-clause-trail : goal.follow-requires-clause-trail
follow-requires-clause-trail g c =
    let test = is_at (nat_cmp c.args.fid) in
    let entries = c.self.inside.fids.entries in
    let old : Held = record {
      fid = record {
        user = c.held.inside.user;
        trail = trail_of c.held.inside.channels;
        opened = c.held.inside.opened;
      };
      rows = c.held.inside.channels.rows;
    } in
    let found : lookup test entries ≡ Some old = rw c.held.view_is
    (sym c.get_mut.ensures.value ∙ ap option_copied_mut c.unwrap-held.ensures) in
    room-trail c.args.fid entries old c.args.way.now found
    (rw (← c.self.view_is) at c.requires.room)

pub follow-requires-clause-rows : goal.follow-requires-clause-rows
follow-requires-clause-rows g c =
    let test = is_at (nat_cmp c.args.fid) in
    let entries = c.self.inside.fids.entries in
    let old : Held = record {
      fid = record {
        user = c.held.inside.user;
        trail = trail_of c.held.inside.channels;
        opened = c.held.inside.opened;
      };
      rows = c.held.inside.channels.rows;
    } in
    let found : lookup test entries ≡ Some old = rw c.held.view_is
    (sym c.get_mut.ensures.value ∙ ap option_copied_mut c.unwrap-held.ensures) in
    let fits = c.requires.fits in
    room-rows fits.table c.args.fid entries old c.args.way.now found
    (rw (← c.self.view_is) at c.requires.room)
    (rw (← c.self.view_is) at fits.fids) fits.fits

pub invariant_of-self : goal.invariant_of-self
invariant_of-self g c =
    let test = is_at (nat_cmp c.args.fid) in
    let entries = c.self.inside.fids.entries in
    let old : Held = record {
      fid = record {
        user = c.held.inside.user;
        trail = trail_of c.held.inside.channels;
        opened = c.held.inside.opened;
      };
      rows = c.held.inside.channels.rows;
    } in
    let new : Held = record {
      fid = record {
        user = c.held.inside.user;
        trail = trail_of c.follow.new.self;
        opened = c.held.inside.opened;
      };
      rows = c.follow.new.self.rows;
    } in
    let found : lookup test entries ≡ Some old = rw c.held.view_is
    (sym c.get_mut.ensures.value ∙ ap option_copied_mut c.unwrap-held.ensures) in
    let set : (c.get_mut.follows.lender new).entries ≡ set_value test entries new =
    (c.get_mut.follows.holds new).0 in
    subst IsFids
    (sym (ap (map_values fid_of) set
    ∙ changed-held c.args.fid (trailed (trail_of c.args.way.now)) entries old new found
    (ap (λ (channels : Channels). record {
      user = c.held.inside.user;
      trail = channels.trail;
      opened = c.held.inside.opened;
    }) c.follow.ensures)))
    (fids-changed c.args.fid (trailed (trail_of c.args.way.now)) (map_values fid_of entries) c.self.invariant)

pub returns-clause-moved : goal.returns-clause-moved
returns-clause-moved g c =
    let test = is_at (nat_cmp c.args.fid) in
    let entries = c.self.inside.fids.entries in
    let old : Held = record {
      fid = record {
        user = c.held.inside.user;
        trail = trail_of c.held.inside.channels;
        opened = c.held.inside.opened;
      };
      rows = c.held.inside.channels.rows;
    } in
    let new : Held = record {
      fid = record {
        user = c.held.inside.user;
        trail = trail_of c.follow.new.self;
        opened = c.held.inside.opened;
      };
      rows = c.follow.new.self.rows;
    } in
    let found : lookup test entries ≡ Some old = rw c.held.view_is
    (sym c.get_mut.ensures.value ∙ ap option_copied_mut c.unwrap-held.ensures) in
    let set : (c.get_mut.follows.lender new).entries ≡ set_value test entries new =
    (c.get_mut.follows.holds new).0 in
    rw (← c.self.view_is)
    (ap (map_values fid_of) set
    ∙ changed-held c.args.fid (trailed (trail_of c.args.way.now)) entries old new found
    (ap (λ (channels : Channels). record {
      user = c.held.inside.user;
      trail = channels.trail;
      opened = c.held.inside.opened;
    }) c.follow.ensures))

pub returns-clause-fits : goal.returns-clause-fits
returns-clause-fits g c =
    let test = is_at (nat_cmp c.args.fid) in
    let entries = c.self.inside.fids.entries in
    let new : Held = record {
      fid = record {
        user = c.held.inside.user;
        trail = trail_of c.follow.new.self;
        opened = c.held.inside.opened;
      };
      rows = c.follow.new.self.rows;
    } in
    let set : (c.get_mut.follows.lender new).entries ≡ set_value test entries new =
    (c.get_mut.follows.holds new).0 in
    λ table fit fits.
    subst (λ es. AllFit table (held_fids es)) (sym set)
    (fit-set table test entries new (rw (← c.self.view_is) at fit)
    (rw c.follow.ensures fits))
