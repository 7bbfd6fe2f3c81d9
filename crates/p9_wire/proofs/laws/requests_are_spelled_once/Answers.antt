use Rattle.std.proofs.Common.{ℕ, ◌+◌, ap, ◌∙◌}
use Rattle.p9_wire.specs.Spelling.{t_type, t_body, t_spelling}
use Rattle.p9_wire.proofs.Lengths.{length-frame, length-t_body}
use Rattle.p9_wire.proofs.Framing.{one_tag, one_message}
use Rattle.p9_wire.proofs.TGrammar.{t-decides}
use Rattle.p9_wire.proofs.laws.requests_are_spelled_once.Goals as goal

pub returns-clause-sound : goal.returns-clause-sound
returns-clause-sound c = λ bytes tag m fits e. t-decides.sound bytes tag m fits e

pub returns-clause-complete : goal.returns-clause-complete
returns-clause-complete c = λ bytes tag m spelled. t-decides.complete bytes tag m spelled

pub returns-clause-one_message : goal.returns-clause-one_message
returns-clause-one_message c =
    λ bytes s t m n p q.
    (one_tag t-decides bytes s t m n p q, one_message t-decides bytes s t m n p q)

pub returns-clause-len : goal.returns-clause-len
unfolding t_spelling
returns-clause-len c =
    λ tag m. length-frame (t_type m) tag (t_body m) ∙ ap (λ (n : ℕ). 7 + n) (length-t_body m)
