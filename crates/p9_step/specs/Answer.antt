-- What comes of a request: an outcome, or the fault that refuses it.
use Rattle.std.specs.Prelude.{Bool, true, false, List, [], Result, Ok, Err}
use Rattle.p9_base.specs.declared.fault.Fault.{Fault}
use Rattle.p9_base.specs.Fault.{text_of}
use Rattle.p9_wire.specs.Message.{RMessage, Rerror}
use Rattle.p9_step.specs.State.{Session}
use Rattle.p9_step.specs.ForestChange.{ForestChange}

-- the changes of the forest, one after another, the session after the request, and the reply
pub record Outcome : Type 0 where
  pub changes : List ForestChange
  pub session : Session
  pub reply : RMessage

-- what is answered, or the fault that refuses
abbrev pub Answer : Type 0
Answer = Result Outcome Fault

-- a refusal changes nothing
abbrev pub outcome_of : Session → Answer → Outcome
outcome_of session (Ok outcome) = outcome
outcome_of session (Err fault) = record {
  changes = [];
  session = session;
  reply = Rerror (text_of fault);
}

-- the reply is a refusal
abbrev pub is_error : RMessage → Bool
is_error (Rerror ename) = true
is_error other = false
