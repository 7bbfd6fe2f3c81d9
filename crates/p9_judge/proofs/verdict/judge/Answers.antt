use Rattle.p9_cert.specs.Policy.{policy_of}
use Rattle.p9_judge.proofs.Searches.{search_begins}
use Rattle.p9_judge.proofs.verdict.judge.Goals as goal

pub verdict_of-verdict-requires-clause-search : goal.verdict_of-verdict-requires-clause-search
verdict_of-verdict-requires-clause-search g c =
    let world = c.args.world.now in
    search_begins (policy_of world) world.forest c.args.table.now
    c.in_ok-search.search.places.items c.in_ok-search.search.passed.keys
    c.in_ok-search.ensures.places c.in_ok-search.ensures.passed
