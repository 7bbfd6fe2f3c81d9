use Rattle.std.proofs.Common.{ℕ, ◌+◌, ap, ◌∙◌}
use Rattle.p9_wire.specs.Reply.{r_type, r_body, r_spelling}
use Rattle.p9_wire.proofs.Lengths.{length-frame, length-r_body}
use Rattle.p9_wire.proofs.Framing.{one_tag, one_message}
use Rattle.p9_wire.proofs.RGrammar.{r-decides}
use Rattle.p9_wire.proofs.laws.replies_are_spelled_once.Goals as goal

pub returns-clause-sound : goal.returns-clause-sound
returns-clause-sound c = λ bytes tag m fits e. r-decides.sound bytes tag m fits e

pub returns-clause-complete : goal.returns-clause-complete
returns-clause-complete c = λ bytes tag m spelled. r-decides.complete bytes tag m spelled

pub returns-clause-one_message : goal.returns-clause-one_message
returns-clause-one_message c =
    λ bytes s t m n p q.
    (one_tag r-decides bytes s t m n p q, one_message r-decides bytes s t m n p q)

pub returns-clause-len : goal.returns-clause-len
unfolding r_spelling
returns-clause-len c =
    λ tag m. length-frame (r_type m) tag (r_body m) ∙ ap (λ (n : ℕ). 7 + n) (length-r_body m)
