use Rattle.p9_client_laws.proofs.Whole.{read_gives_bytes}
use Rattle.p9_client_laws.proofs.a_read_gives_the_bytes_of_the_file.Goals as goal

pub returns : goal.returns
returns g c = read_gives_bytes g.S.Read.remaining g.S.Write.contents
