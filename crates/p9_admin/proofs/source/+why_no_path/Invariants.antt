use Rattle.std.proofs.Common.{length}
use Rattle.p9_admin.proofs.source.+why_no_path.Given as goal

-- the names that are left
abbrev pub decreases-why_no_path : goal.decreases-why_no_path
decreases-why_no_path l = length l.path.now
