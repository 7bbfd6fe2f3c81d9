use Rattle.std.proofs.Common.{◌≤◌, ◌∙◌, IfSome, subst, sym}
use Rattle.std.specs.List.{AllByRecursion}
use Rattle.p9_fids.specs.Held.{fid_of}
use Rattle.p9_fids.proofs.Values.{first-mapped, keys-mapped}
use Rattle.p9_fids.proofs.table.FidTable.first.Goals as goal

pub returns-clause-first : goal.returns-clause-first
returns-clause-first g c =
    rw (← c.self.view_is)
    (c.first_of.ensures.first ∙ sym (first-mapped fid_of c.self.inside.fids.entries))

pub returns-clause-least : goal.returns-clause-least
returns-clause-least g c =
    rw (← c.self.view_is)
    (subst (λ keys. IfSome c.first_of.result (λ fid. AllByRecursion (λ other. fid ≤ other) keys))
    (sym (keys-mapped fid_of c.self.inside.fids.entries)) c.first_of.ensures.least)
