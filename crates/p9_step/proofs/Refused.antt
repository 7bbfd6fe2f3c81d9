-- What refuses a request is the fault of a test, never one about memory.
use Rattle.p9_space.specs.Trail.{stepped}
use Rattle.p9_space.specs.Walk.{walk}
use Rattle.p9_step.specs.State.{who_of}
use Rattle.p9_space.specs.Rights.{Who}
use Rattle.std.proofs.Common.{Bool, Err, List, None, Ok, Option, Result, Some, [], refl, subst}
use Rattle.std.proofs.Common.{false, length, true, ℕ, ◌==◌, ◌∷◌, ◌≡◌, if◌then◌else◌}
use Rattle.std.specs.Option.{option_map_or, option_or}
use Rattle.std.specs.Prelude.{option_and_then}
use Rattle.p9_base.specs.Results.{and_then}
use Rattle.p9_base.specs.declared.fault.Fault.{Fault}
use Rattle.p9_base.specs.declared.fault.Fault.TheVariants.{BadFileName}
use Rattle.p9_base.specs.declared.fault.Fault.TheVariants.{FidInUse, FileExists, FileTooLarge}
use Rattle.p9_base.specs.declared.fault.Fault.TheVariants.{FixedField, IsDirectory, IsRoot}
use Rattle.p9_base.specs.declared.fault.Fault.TheVariants.{Malformed, NotDirectory, NotFound}
use Rattle.p9_base.specs.declared.fault.Fault.TheVariants.{PathTooDeep, PermissionDenied}
use Rattle.p9_base.specs.declared.fault.Fault.TheVariants.{PhaseError, TooManyFids}
use Rattle.p9_base.specs.declared.fault.Fault.TheVariants.{UnknownFid, VersionNotSet}
use Rattle.p9_base.specs.declared.node_ref.NodeRef.{NodeRef}
use Rattle.p9_tree.specs.Node.{Node}
use Rattle.p9_tree.specs.Server.{Server}
use Rattle.p9_space.specs.Table.{MountRow, members_of}
use Rattle.p9_space.specs.Trail.{here, places_max}
use Rattle.p9_space.specs.Walk.{arrived, child_among, step_among, step_down, step_of}
use Rattle.p9_table.specs.declared.row.Member.{Member}
use Rattle.p9_table.specs.declared.trail.Step.{Step}
use Rattle.p9_table.specs.declared.trail.Step.TheVariants.{To}
use Rattle.p9_fids.specs.Fid.{FidRow, put_fault}
use Rattle.p9_wire.specs.Reading.{t_message_of}
use Rattle.p9_step.specs.Request.{request_of}
use Rattle.p9_step.specs.State.{Session, Setting}
use Rattle.p9_step.specs.Walk.{Arrival, Walked, arrival, arrived_by, newfid_fault, step_and_rest, trail_after, walked}
use Rattle.p9_step.specs.Wstat.{Touched, gid_fault, length_fault, mode_fault, name_fault}
use Rattle.p9_step.specs.Wstat.{ruling_fault, wstat_fault}
use Rattle.p9_step.proofs.Done.{IsOfTest}

-- where there is a fault, it is that of a test
abbrev pub IfFault : Option Fault → Type 0
IfFault refusal = (fault : Fault) → refusal ≡ Some fault → IsOfTest fault

-- the same of a result
abbrev pub IfErr : {X : Type 0} → Result X Fault → Type 0
IfErr result = (fault : Fault) → result ≡ Err fault → IsOfTest fault

none-of : IfFault None
none-of fault e = absurd (cc)

some-of : (given : Fault) → IsOfTest given → IfFault (Some given)
some-of given of fault e = let same : given ≡ fault = cc in subst IsOfTest same of

if-of : (test : Bool) (one other : Option Fault) → IfFault one → IfFault other
    → IfFault (if test then one else other)
if-of true one other first second = first
if-of false one other first second = second

or-of : (one other : Option Fault) → IfFault one → IfFault other → IfFault (option_or one other)
or-of (Some given) other first second = first
or-of None other first second = second

and_then-of : {X : Type 0} (f : X → Option Fault) (value : Option X) → ((x : X) → IfFault (f x))
    → IfFault (option_and_then f value)
and_then-of f (Some x) each = each x
and_then-of f None each = none-of

ok-of : {X : Type 0} (x : X) → IfErr (Ok x)
ok-of x fault e = absurd (cc)

err-of : {X : Type 0} (given : Fault) → IsOfTest given → IfErr {X = X} (Err given)
err-of given of fault e = let same : given ≡ fault = cc in subst IsOfTest same of

if-err : {X : Type 0} (test : Bool) (one other : Result X Fault) → IfErr one → IfErr other
    → IfErr (if test then one else other)
if-err true one other first second = first
if-err false one other first second = second

map_or-err : {X Y : Type 0} (f : X → Result Y Fault) (value : Option X) (given : Fault)
    → ((x : X) → IfErr (f x)) → IsOfTest given → IfErr (option_map_or f value (Err given))
map_or-err f (Some x) given each of = each x
map_or-err f None given each of = err-of given of

then-err : {X Y : Type 0} (first : Result X Fault) (next : X → Result Y Fault) → IfErr first
    → ((x : X) → IfErr (next x)) → IfErr (and_then first next)
then-err (Ok x) next of each = each x
then-err (Err given) next of each = err-of given (of given refl)

pub put_fault-of : (fid : ℕ) (fids : List FidRow) → IfFault (put_fault fid fids)
put_fault-of fid fids =
    if-of _ _ _ (some-of UnknownFid refl)
    (if-of _ _ _ (some-of FidInUse refl) (if-of _ _ _ (some-of TooManyFids refl) none-of))

pub newfid_fault-of : (fid newfid : ℕ) (fids : List FidRow)
    → IfFault (newfid_fault fid newfid fids)
newfid_fault-of fid newfid fids =
    if-of _ _ _ (some-of UnknownFid refl) (if-of _ _ _ none-of (put_fault-of newfid fids))

-- a wstat
module _ (who : Who) (forest : List Server) (at : NodeRef) (n : Node) where
  mode_fault-of : (bits : ℕ) → IfFault (mode_fault n bits)
  mode_fault-of bits = if-of _ _ _ none-of (some-of FixedField refl)

  name_fault-of : (name : List ℕ) → IfFault (name_fault who forest at n name)
  name_fault-of name =
      if-of _ _ _ (some-of IsRoot refl)
      (if-of _ _ _ (some-of BadFileName refl)
      (if-of _ _ _ (some-of PermissionDenied refl)
      (if-of _ _ _ (some-of FileExists refl) none-of)))

  length_fault-of : (size : ℕ) → IfFault (length_fault who n size)
  length_fault-of size =
      if-of _ _ _ (some-of IsDirectory refl)
      (if-of _ _ _ (some-of PermissionDenied refl)
      (if-of _ _ _ (some-of FileTooLarge refl) none-of))

  ruling_fault-of : (touched : ℕ) → IfFault (ruling_fault who n touched)
  ruling_fault-of touched = if-of _ _ _ none-of (some-of PermissionDenied refl)

  gid_fault-of : (gid : List ℕ) → IfFault (gid_fault who n gid)
  gid_fault-of gid = if-of _ _ _ none-of (some-of PermissionDenied refl)

  pub wstat_fault-of : (t : Touched) → IfFault (wstat_fault who forest at n t)
  wstat_fault-of t =
      or-of _ _ (and_then-of _ t.mode mode_fault-of)
      (or-of _ _ (and_then-of _ t.name name_fault-of)
      (or-of _ _ (and_then-of _ t.length length_fault-of)
      (or-of _ _ (and_then-of _ t.mode ruling_fault-of)
      (or-of _ _ (and_then-of _ t.mtime ruling_fault-of) (and_then-of _ t.gid gid_fault-of)))))

-- the steps of a walk
module _ (forest : List Server) (table : List MountRow) (who : Option Who) where
  step_down-of : (trail : List NodeRef) (name : List ℕ) (ms : List Member)
      → IfErr (step_down forest who trail name ms)
  step_down-of trail name ms =
      if-err _ _ _ (err-of PermissionDenied refl)
      (map_or-err (λ (place : NodeRef).
      if length trail == places_max then Err PathTooDeep else Ok (To place))
      (child_among forest who name ms) NotFound
      (λ place. if-err (length trail == places_max) (Err PathTooDeep) (Ok (To place))
      (err-of PathTooDeep refl) (ok-of (To place))) refl)

  step_among-of : (trail : List NodeRef) (name : List ℕ) (ms : List Member)
      → IfErr (step_among forest who trail name ms)
  step_among-of trail name ms =
      if-err _ _ _ (err-of PhaseError refl)
      (if-err _ _ _ (err-of NotDirectory refl)
      (if-err _ _ _ (ok-of _) (step_down-of trail name ms)))

  arrived-of : (trail : List NodeRef) (step : Step) → IfErr (arrived forest table trail step)
  arrived-of trail step = if-err _ _ _ (ok-of step) (err-of PhaseError refl)

  step_of-of : (trail : List NodeRef) (name : List ℕ)
      → IfErr (step_of forest table who trail name)
  step_of-of trail name =
      then-err (step_among forest who trail name (members_of (here trail) table)) _
      (step_among-of trail name (members_of (here trail) table)) (arrived-of trail)

  pub walk-of : (trail : List NodeRef) (names : List (List ℕ))
      → IfErr (walk forest table who trail names)
  walk-of trail [] = ok-of trail
  walk-of trail (name ∷ names) =
      then-err (step_of forest table who trail name) _ (step_of-of trail name)
      (λ step. walk-of (stepped trail step) names)

module _ (setting : Setting) (forest : List Server) where
  arrival-of : (trail : List NodeRef) (step : Step) → IfErr (arrival setting forest trail step)
  arrival-of trail step = map_or-err _ _ PhaseError (λ qid. ok-of _) refl

  arrived_by-of : (user : List ℕ) (trail : List NodeRef) (name : List ℕ)
      → IfErr (arrived_by setting forest user trail name)
  arrived_by-of user trail name =
      then-err (step_of forest setting.table (Some (who_of setting user)) trail name) _
      (step_of-of forest setting.table (Some (who_of setting user)) trail name) (arrival-of trail)

  step_and_rest-of : (trail : List NodeRef) (r : Result Arrival Fault) (rest : Walked)
      → IfErr r → IfFault rest.stopped
      → IfFault (step_and_rest trail r rest).stopped
  step_and_rest-of trail (Err fault) rest of later = some-of fault (of fault refl)
  step_and_rest-of trail (Ok a) rest of later = later

  pub walked-of : (user : List ℕ) (trail : List NodeRef) (names : List (List ℕ))
      → IfFault (walked setting forest user trail names).stopped
  walked-of user trail [] = none-of
  walked-of user trail (name ∷ names) =
      let step = arrived_by setting forest user trail name in
      let next = trail_after trail step in
      step_and_rest-of trail step (walked setting forest user next names)
      (arrived_by-of user trail name) (walked-of user next names)

-- a frame that is no request
pub request_of-of : (session : Session) (frame : List ℕ) → IfErr (request_of session frame)
request_of-of session frame =
    if-err _ _ _ (err-of Malformed refl)
    (map_or-err _ (t_message_of frame) Malformed
    (λ m. if-err _ _ _ (ok-of m.1) (err-of VersionNotSet refl)) refl)
