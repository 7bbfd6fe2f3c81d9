-- What a function that answers a request has to do.
use Rattle.std.specs.Prelude.{◌≡◌, ℕ, ◌+◌, ◌≤◌, ◌⊎◌, Bool, true, List, [], Result, Ok, Err}
use Rattle.std.specs.Prelude.{take}
use Rattle.std.specs.Option.{option_map_or}
use Rattle.p9_base.specs.declared.fault.Fault.{Fault}
use Rattle.p9_base.specs.declared.fault.Fault.TheVariants.{OutOfMemory, PhaseError}
use Rattle.p9_base.specs.declared.node_ref.NodeRef.{NodeRef}
use Rattle.p9_base.specs.Fault.{text_of}
use Rattle.p9_tree.specs.Server.{Server}
use Rattle.p9_tree.specs.Forest.{node_of}
use Rattle.p9_wire.specs.Frame.{msize_max}
use Rattle.p9_wire.specs.Message.{RMessage, Rerror, Rread, Rstat}
use Rattle.p9_wire.specs.Spelling.{RFits, r_len}
use Rattle.p9_step.specs.State.{Session}
use Rattle.p9_step.specs.ForestChange.{ForestChange, all_applied}
use Rattle.p9_step.specs.Answer.{Answer}
use Rattle.p9_step.specs.Qid.{stat_of}

-- the changes of the forest that an answer makes: a refusal makes none
abbrev pub changes_of : Answer → List ForestChange
changes_of (Ok outcome) = outcome.changes
changes_of (Err fault) = []

-- the fault is the answer's, or a failed allocation where that may be answered
abbrev pub IsRefusal : Answer → (may_fail : Bool) → Fault → Type 0
IsRefusal answer may_fail fault =
    (answer ≡ Err fault) ⊎ ((fault ≡ OutOfMemory) × (may_fail ≡ true))

-- the forest, the session and the reply are the outcome's; after a refusal the forest and the
-- session are unchanged
abbrev pub Answers : Answer → (may_fail : Bool) (forest forest' : List Server) (old new : Session)
    → Result RMessage Fault → Type 0
Answers answer may_fail forest forest' old new (Ok reply) =
    (answer ≡ Ok (record { changes = changes_of answer; session = new; reply = reply }))
    × (forest' ≡ all_applied (changes_of answer) forest)
Answers answer may_fail forest forest' old new (Err fault) =
    IsRefusal answer may_fail fault × (forest' ≡ forest) × (new ≡ old)

-- a result, with its value as the reply that it makes
abbrev pub replied : {X : Type 0} → (X → RMessage) → Result X Fault → Result RMessage Fault
replied f (Ok x) = Ok (f x)
replied f (Err fault) = Err fault

-- the stat of a node that exists
abbrev pub stat_reply : List Server → NodeRef → RMessage
stat_reply forest at =
    option_map_or (λ n. Rstat (stat_of at n)) (node_of at forest) (Rerror (text_of PhaseError))

-- the data at the front of those bytes
abbrev pub data_reply : List ℕ → ℕ → RMessage
data_reply bytes count = Rread (take count bytes)

-- a reply that has a spelling, which is no longer than a frame
pub record ReplyFits (reply : RMessage) : Type 0 where
  pub fits : RFits reply
  pub short : 7 + r_len reply ≤ msize_max
