use Rattle.p9_manual_laws.proofs.Walked.{walk_leads_by_table}
use Rattle.p9_manual_laws.proofs.a_walk_leads_by_the_mount_table.Goals as goal

pub returns : goal.returns
returns c = walk_leads_by_table
