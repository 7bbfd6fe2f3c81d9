-- One statement of a script more.
use Rattle.std.proofs.Common.{◌≡◌, ℕ, ◌+◌, ◌<◌, List, [], ◌∷◌, ◌++◌, length, get_or, drop, map}
use Rattle.std.proofs.Common.{Option, None, Some, Result, Err, sym, ap, ◌∙◌}
use Rattle.p9_base.specs.Results.{try_fold}
use Rattle.p9_base.proofs.Results.{try_fold-ok, try_fold-err}
use Rattle.p9_step.specs.Event.{Event}
use Rattle.p9_prepared.specs.Script.{IsScriptFault, event_of, with_event, with_statement}
use Rattle.p9_prepared.specs.declared.script.ScriptError.{ScriptError}
use Rattle.p9_prepared.specs.declared.script.ScriptError.TheVariants.{BadScript, NoMemory}

-- a line that is bad by itself is bad after any events
bad_after : (events : List Event) (line n : ℕ) (event : Option Event)
    → with_event [] line event ≡ Err n → with_event events line event ≡ Err n
bad_after events line n None bad = bad
bad_after events line n (Some event) bad = cc

module _ {X : Type 0} (view : X → ℕ × List (List ℕ)) (items : List X)
    (statements : List (ℕ × List (List ℕ))) (same : map view items ≡ statements)
    (events : List Event) (i : ℕ) (x d : X) (l : i < length items) (at : x ≡ get_or items i d) where
  -- a statement that says an event
  pub script-joined : (event : Event) (after : List Event) (script : Result (List Event) ℕ)
      → event_of (view x).1 ≡ Some event → after ≡ events ++ event ∷ [] →
      try_fold with_statement events (drop i statements) ≡ script
      → try_fold with_statement after (drop (i + 1) statements) ≡ script
  script-joined event after script says is kept =
      ap (λ events. try_fold with_statement events (drop (i + 1) statements)) is
      ∙ try_fold-ok with_statement view items statements same events i (events ++ event ∷ []) x d l
      at (ap (with_event events (view x).0) says) ∙ kept

  -- a statement that says none
  pub script-fault : (error : ScriptError) (script : Result (List Event) ℕ)
      → IsScriptFault (with_event [] (view x).0 (event_of (view x).1)) error →
      try_fold with_statement events (drop i statements) ≡ script → IsScriptFault script error
  script-fault NoMemory script fault kept = tt
  script-fault (BadScript n) script fault kept =
      sym kept
      ∙ try_fold-err with_statement view items statements same events i n x d l at
      (bad_after events (view x).0 n (event_of (view x).1) fault)
