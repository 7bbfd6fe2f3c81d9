use Rattle.p9_play.proofs.Alikes.{alike-worlds-play-alike}
use Rattle.p9_play.proofs.laws.alike_worlds_play_alike.Goals as goal

pub returns : goal.returns
returns c = alike-worlds-play-alike
