use Rattle.std.proofs.Common.{◌∙◌, IfSome, ap, subst, sym}
use Rattle.std.specs.Option.{option_map}
use Rattle.std.specs.Ordering.{nat_cmp}
use Rattle.std.specs.BTreeMap.{is_at}
use Rattle.p9_fids.specs.Fids.{IsFids}
use Rattle.p9_fids.specs.Held.{AllFit, HeldFits, fid_of, held_fids, map_values}
use Rattle.p9_fids.proofs.Fids.{fids-without}
use Rattle.p9_fids.proofs.Holding.{fit-found, fit-remove}
use Rattle.p9_fids.proofs.Values.{lookup-mapped, remove-mapped}
use Rattle.p9_fids.proofs.table.FidTable.take.Goals as goal

pub invariant_of-self : goal.invariant_of-self
invariant_of-self g c =
    subst IsFids
    (sym (ap (map_values fid_of) c.remove.ensures.entries
    ∙ remove-mapped fid_of (is_at (nat_cmp c.args.fid)) c.self.inside.fids.entries))
    (fids-without c.args.fid (map_values fid_of c.self.inside.fids.entries) c.self.invariant)

pub returns-clause-value : goal.returns-clause-value
returns-clause-value g c =
    rw (← c.self.view_is)
    (ap (option_map fid_of) c.remove.ensures.value
    ∙ sym (lookup-mapped fid_of (is_at (nat_cmp c.args.fid)) c.self.inside.fids.entries))

pub returns-clause-after : goal.returns-clause-after
returns-clause-after g c =
    rw (← c.self.view_is)
    (ap (map_values fid_of) c.remove.ensures.entries
    ∙ remove-mapped fid_of (is_at (nat_cmp c.args.fid)) c.self.inside.fids.entries)

pub returns-clause-value_fits : goal.returns-clause-value_fits
returns-clause-value_fits g c =
    λ table fit.
    subst (λ o. IfSome o (HeldFits table)) (sym c.remove.ensures.value)
    (fit-found table (is_at (nat_cmp c.args.fid)) c.self.inside.fids.entries
    (rw (← c.self.view_is) at fit))

pub returns-clause-after_fits : goal.returns-clause-after_fits
returns-clause-after_fits g c =
    λ table fit.
    subst (λ entries. AllFit table (held_fids entries)) (sym c.remove.ensures.entries)
    (fit-remove table (is_at (nat_cmp c.args.fid)) c.self.inside.fids.entries
    (rw (← c.self.view_is) at fit))
