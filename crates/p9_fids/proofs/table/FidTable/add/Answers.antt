use Rattle.std.proofs.Common.{◌∙◌, ap, subst, sym}
use Rattle.std.specs.Ordering.{nat_cmp}
use Rattle.p9_fids.specs.Fid.{put_fault}
use Rattle.p9_fids.specs.Fids.{IsFids}
use Rattle.p9_fids.specs.Held.{AllFit, HeldFids, fid_of, held_fids, map_values}
use Rattle.p9_fids.proofs.Fids.{fids-with}
use Rattle.p9_fids.proofs.Holding.{fit-insert}
use Rattle.p9_fids.proofs.Values.{insert-mapped}
use Rattle.p9_fids.proofs.table.FidTable.add.Goals as goal

pub invariant_of-self-2 : goal.invariant_of-self-2
invariant_of-self-2 g c =
    subst IsFids
    (sym (ap (map_values fid_of) c.in_ok-insert.ensures.entries
    ∙ insert-mapped fid_of nat_cmp c.self.inside.fids.entries c.args.fid c.args.held))
    (fids-with c.args.fid _ (map_values fid_of c.self.inside.fids.entries) c.ranges.fid.fits
    (ap (λ (held : HeldFids). put_fault c.args.fid held.fids) c.self.view_is ∙ c.requires)
    c.self.invariant)

pub returns-clause-ok : goal.returns-clause-ok
returns-clause-ok g c =
    rw (← c.self.view_is)
    (ap (map_values fid_of) c.in_ok-insert.ensures.entries
    ∙ insert-mapped fid_of nat_cmp c.self.inside.fids.entries c.args.fid c.args.held)

pub returns-clause-fits : goal.returns-clause-fits
returns-clause-fits g c =
    λ table fit fits.
    subst (λ entries. AllFit table (held_fids entries)) (sym c.in_ok-insert.ensures.entries)
    (fit-insert table c.self.inside.fids.entries c.args.fid c.args.held
    (rw (← c.self.view_is) at fit) fits)
