use Rattle.p9_clean.specs.Path.{is_rooted, components_of}
use Rattle.p9_clean.proofs.RuleLemmas.{length-Shortens, CleansTo-left_of}
use Rattle.p9_clean.proofs.laws.rules_lead_to_the_cleaned_path.Goals as goal

pub returns-clause-one : goal.returns-clause-one
returns-clause-one c = λ path. CleansTo-left_of (is_rooted path) (components_of path)

pub returns-clause-ends : goal.returns-clause-ends
returns-clause-ends c = λ rooted components next rule. length-Shortens rule
