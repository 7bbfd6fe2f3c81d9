-- A world is served as it is without what is inside.
use Rattle.p9_guard.proofs.Sentences.{starts-guarded}
use Rattle.p9_guard.specs.Served.{served}
use Rattle.p9_guard_laws.specs.Grown.{start_of}
use Rattle.p9_input_laws.specs.NeverThere.{WorldsAreAsIfNeverThere}
use Rattle.p9_input_laws.proofs.OuterCertificates.{no-gap-outer, well-outer}
use Rattle.p9_input_laws.proofs.OuterForests.{none-inside}
use Rattle.p9_input_laws.proofs.OuterRuns.{runs-as-if-never-there}

pub worlds-as-if-never-there : WorldsAreAsIfNeverThere
worlds-as-if-never-there world table certificate ok none = record {
  well = well-outer world table ok;
  empty = none-inside world.hidden world.forest ok.forest;
  closed = no-gap-outer world table certificate ok.forest none;
  runs = λ events.
      runs-as-if-never-there world.hidden (start_of certificate world.forest) (served world table)
      events (starts-guarded world table certificate ok none);
}
