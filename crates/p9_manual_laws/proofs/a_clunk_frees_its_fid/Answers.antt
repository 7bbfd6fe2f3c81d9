use Rattle.p9_manual_laws.proofs.Clunked.{clunk_frees_fid}
use Rattle.p9_manual_laws.proofs.a_clunk_frees_its_fid.Goals as goal

pub returns : goal.returns
returns c = clunk_frees_fid
