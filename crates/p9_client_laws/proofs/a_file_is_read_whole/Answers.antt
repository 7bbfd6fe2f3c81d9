use Rattle.p9_client_laws.proofs.Whole.{file_is_read_whole}
use Rattle.p9_client_laws.proofs.a_file_is_read_whole.Goals as goal

pub returns : goal.returns
returns g c = file_is_read_whole g.S.Read.remaining g.S.Write.contents
