use Rattle.p9_clean.proofs.ReadingBack.{is_rooted-cleaned, elements_of-cleaned, cleaned-cleaned}
use Rattle.p9_clean.proofs.laws.cleaned_path_reads_back.Goals as goal

pub returns-clause-rooted : goal.returns-clause-rooted
returns-clause-rooted c = is_rooted-cleaned

pub returns-clause-elements : goal.returns-clause-elements
returns-clause-elements c = elements_of-cleaned

pub returns-clause-again : goal.returns-clause-again
returns-clause-again c = cleaned-cleaned
