use Rattle.std.proofs.Common.{◌∙◌, IfSome, ap, subst, sym}
use Rattle.std.specs.Option.{option_map}
use Rattle.std.specs.Ordering.{nat_cmp}
use Rattle.std.specs.BTreeMap.{is_at}
use Rattle.p9_fids.specs.Held.{HeldFits, fid_of}
use Rattle.p9_fids.proofs.Holding.{fit-found}
use Rattle.p9_fids.proofs.Values.{lookup-mapped}
use Rattle.p9_fids.proofs.table.FidTable.get.Goals as goal

pub returns-clause-fid : goal.returns-clause-fid
returns-clause-fid g c =
    rw (← c.self.view_is)
    (ap (option_map fid_of) c.get.ensures.value
    ∙ sym (lookup-mapped fid_of (is_at (nat_cmp c.args.fid)) c.self.inside.fids.entries))

pub returns-clause-fits : goal.returns-clause-fits
returns-clause-fits g c =
    λ table fit.
    subst (λ o. IfSome o (HeldFits table)) (sym c.get.ensures.value)
    (fit-found table (is_at (nat_cmp c.args.fid)) c.self.inside.fids.entries
    (rw (← c.self.view_is) at fit))
