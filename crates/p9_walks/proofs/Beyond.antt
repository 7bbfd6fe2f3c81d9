-- An attach for which no memory was reserved.
use Rattle.std.proofs.Common.{◌≡◌, ◌∷◌, [], ℕ, Bool, true, false, Err, List, None, Ok, Option, Result, Some}
use Rattle.std.proofs.Common.{inl, inr, length, refl, subst, sym}
use Rattle.std.specs.Prelude.{◌==◌, if◌then◌else◌}
use Rattle.std.specs.Option.{option_map_or}
use Rattle.p9_base.specs.declared.fault.Fault.{Fault}
use Rattle.p9_base.specs.declared.fault.Fault.TheVariants.{NotDirectory, NotFound, OutOfMemory}
use Rattle.p9_base.specs.declared.fault.Fault.TheVariants.{PathTooDeep, PermissionDenied, PhaseError}
use Rattle.p9_base.specs.declared.node_ref.NodeRef.{NodeRef}
use Rattle.p9_base.specs.Results.{and_then, need, obtain, unless}
use Rattle.p9_tree.specs.Server.{Server}
use Rattle.p9_clean.specs.Path.{cleaned_elements}
use Rattle.p9_space.specs.Place.{root_place}
use Rattle.p9_space.specs.Rights.{Who}
use Rattle.p9_space.specs.Table.{MountRow, members_of}
use Rattle.p9_space.specs.Trail.{here, places_max, stepped}
use Rattle.p9_space.specs.Walk.{arrived, child_among, step_among, step_down, step_of, walk}
use Rattle.p9_table.specs.declared.row.Member.{Member}
use Rattle.p9_table.specs.declared.trail.Step.{Step}
use Rattle.p9_table.specs.declared.trail.Step.TheVariants.{To}
use Rattle.p9_step.specs.Answer.{Answer, Outcome}
use Rattle.p9_wire.specs.Message.{RMessage}
use Rattle.p9_step.specs.Attach.{attach_answer, attach_walk, attached_at}
use Rattle.p9_step.specs.Memory.{is_beyond_session, is_done, is_of_file}
use Rattle.p9_step.specs.State.{Session, Setting, who_of}
use Rattle.p9_walks.specs.Answers.{Answers, IsRefusal}
use Rattle.p9_walks.specs.Reserved.{attach_rest, attach_tested, attach_with_memory}
use Rattle.p9_walks.specs.Reserved.{with_memory}

-- where a result is a fault, that tells of a file
abbrev pub IfErr : {X : Type 0} → Result X Fault → Type 0
IfErr result = (fault : Fault) → result ≡ Err fault → is_of_file fault ≡ true

ok-of : {X : Type 0} (x : X) → IfErr (Ok x)
ok-of x fault e = absurd (cc)

err-of : {X : Type 0} (given : Fault) → is_of_file given ≡ true → IfErr {X = X} (Err given)
err-of given of fault e = let same : given ≡ fault = cc in subst (λ f. is_of_file f ≡ true) same of

if-err : {X : Type 0} (test : Bool) (one other : Result X Fault) → IfErr one → IfErr other
    → IfErr (if test then one else other)
if-err true one other first second = first
if-err false one other first second = second

map_or-err : {X Y : Type 0} (f : X → Result Y Fault) (value : Option X) (given : Fault)
    → ((x : X) → IfErr (f x)) → is_of_file given ≡ true
    → IfErr (option_map_or f value (Err given))
map_or-err f (Some x) given each of = each x
map_or-err f None given each of = err-of given of

then-err : {X Y : Type 0} (first : Result X Fault) (next : X → Result Y Fault) → IfErr first
    → ((x : X) → IfErr (next x)) → IfErr (and_then first next)
then-err (Ok x) next of each = each x
then-err (Err given) next of each = err-of given (of given refl)

module _ (forest : List Server) (table : List MountRow) (who : Option Who) where
  step_down-of : (trail : List NodeRef) (name : List ℕ) (ms : List Member)
      → IfErr (step_down forest who trail name ms)
  step_down-of trail name ms =
      if-err _ _ _ (err-of PermissionDenied refl)
      (map_or-err (λ (place : NodeRef).
      if length trail == places_max then Err PathTooDeep else Ok (To place))
      (child_among forest who name ms) NotFound
      (λ place. if-err (length trail == places_max) (Err PathTooDeep) (Ok (To place))
      (err-of PathTooDeep refl) (ok-of (To place))) refl)

  step_among-of : (trail : List NodeRef) (name : List ℕ) (ms : List Member)
      → IfErr (step_among forest who trail name ms)
  step_among-of trail name ms =
      if-err _ _ _ (err-of PhaseError refl)
      (if-err _ _ _ (err-of NotDirectory refl)
      (if-err _ _ _ (ok-of _) (step_down-of trail name ms)))

  arrived-of : (trail : List NodeRef) (step : Step) → IfErr (arrived forest table trail step)
  arrived-of trail step = if-err _ _ _ (ok-of step) (err-of PhaseError refl)

  step_of-of : (trail : List NodeRef) (name : List ℕ) → IfErr (step_of forest table who trail name)
  step_of-of trail name =
      then-err (step_among forest who trail name (members_of (here trail) table))
      (arrived forest table trail) (step_among-of trail name (members_of (here trail) table))
      (arrived-of trail)

  -- what refuses a walk tells of a file
  walk-of : (trail : List NodeRef) (names : List (List ℕ)) → IfErr (walk forest table who trail names)
  walk-of trail [] = ok-of trail
  walk-of trail (name ∷ names) =
      then-err (step_of forest table who trail name)
      (λ step. walk forest table who (stepped trail step) names) (step_of-of trail name)
      (λ step. walk-of (stepped trail step) names)

-- an answer that is given once files are looked at
IsBeyond : Answer → Type 0
IsBeyond answer = is_beyond_session answer ≡ true

need-beyond : (test : Bool) (fault : Fault) (answer : Answer) → is_of_file fault ≡ true
    → IsBeyond answer → IsBeyond (need test fault answer)
unfolding IsBeyond need
need-beyond true fault answer of its = its
need-beyond false fault answer of its = of

obtain-beyond : {X : Type 0} (value : Option X) (fault : Fault) (next : X → Answer)
    → is_of_file fault ≡ true → ((x : X) → IsBeyond (next x)) → IsBeyond (obtain value fault next)
unfolding IsBeyond obtain
obtain-beyond (Some x) fault next of each = each x
obtain-beyond None fault next of each = of

then-beyond : {X : Type 0} (first : Result X Fault) (next : X → Answer) → IfErr first
    → ((x : X) → IsBeyond (next x)) → IsBeyond (and_then first next)
unfolding IsBeyond
then-beyond (Ok x) next of each = each x
then-beyond (Err fault) next of each = of fault refl

attached-beyond : (setting : Setting) (forest : List Server) (session : Session) (fid : ℕ)
    (user : List ℕ) (place : NodeRef) → IsBeyond (attached_at setting forest session fid user place)
unfolding IsBeyond
attached-beyond setting forest session fid user place =
    obtain-beyond _ PhaseError _ refl (λ file. need-beyond _ NotDirectory _ refl refl)

rest-beyond : (setting : Setting) (forest : List Server) (session : Session) (fid : ℕ)
    (aname user : List ℕ) → IsBeyond (attach_rest setting forest session fid aname user)
rest-beyond setting forest session fid aname user =
    need-beyond _ PhaseError _ refl
    (then-beyond (attach_walk setting forest user aname)
    (λ trail. attached_at setting forest session fid user (here trail))
    (walk-of forest setting.table (Some (who_of setting user)) (root_place ∷ []) (cleaned_elements aname))
    (λ trail. attached-beyond setting forest session fid user (here trail)))

-- where the first is a fault, it refuses the second, or it is 'out of memory' in the place of that
Refuses : Answer → Answer → Type 0
Refuses first second =
    (fault : Fault) → first ≡ Err fault → IsRefusal second (is_beyond_session second) fault

unless-refuses : (refusal : Option Fault) (first second : Answer) → Refuses first second
    → Refuses (unless refusal first) (unless refusal second)
unfolding Refuses unless
unless-refuses None first second later = later
unless-refuses (Some given) first second later = λ fault e. inl e

need-refuses : (test : Bool) (given : Fault) (first second : Answer) → Refuses first second
    → Refuses (need test given first) (need test given second)
unfolding Refuses need
need-refuses true given first second later = later
need-refuses false given first second later = λ fault e. inl e

obtain-refuses : {X : Type 0} (value : Option X) (given : Fault) (first second : X → Answer)
    → ((x : X) → Refuses (first x) (second x))
    → Refuses (obtain value given first) (obtain value given second)
unfolding Refuses obtain
obtain-refuses (Some x) given first second later = later x
obtain-refuses None given first second later = λ fault e. inl e

last-refuses : (second : Answer) → IsBeyond second → Refuses (Err OutOfMemory) second
unfolding Refuses IsBeyond
last-refuses second beyond fault e = let same : OutOfMemory ≡ fault = cc in inr (sym same, beyond)

-- so it is with an attach
pub attach-refuses : (setting : Setting) (forest : List Server) (session : Session) (fid afid : ℕ)
    (uname aname : List ℕ) (fault : Fault)
    → attach_tested setting session fid afid uname aname (λ user. Err OutOfMemory) ≡ Err fault
    → IsRefusal (attach_answer setting forest session fid afid uname aname)
    (is_beyond_session (attach_answer setting forest session fid afid uname aname)) fault
unfolding Refuses
attach-refuses setting forest session fid afid uname aname =
    unless-refuses _ _ _
    (need-refuses _ _ _ _
    (obtain-refuses _ _ _ _ (λ user.
    need-refuses _ _ _ _
    (last-refuses (attach_rest setting forest session fid aname user)
    (rest-beyond setting forest session fid aname user)))))

-- without memory no attach is granted
Never : Answer → Type 0
Never answer = (outcome : Outcome) → answer ≡ Ok outcome → ⊥

unless-never : (refusal : Option Fault) (answer : Answer) → Never answer → Never (unless refusal answer)
unfolding Never unless
unless-never None answer never = never
unless-never (Some given) answer never = λ outcome e. cc

need-never : (test : Bool) (given : Fault) (answer : Answer) → Never answer → Never (need test given answer)
unfolding Never need
need-never true given answer never = never
need-never false given answer never = λ outcome e. cc

obtain-never : {X : Type 0} (value : Option X) (given : Fault) (next : X → Answer)
    → ((x : X) → Never (next x)) → Never (obtain value given next)
unfolding Never obtain
obtain-never (Some x) given next each = each x
obtain-never None given next each = λ outcome e. cc

last-never : Never (Err OutOfMemory)
unfolding Never
last-never = λ outcome e. cc

never-ok : (setting : Setting) (session : Session) (fid afid : ℕ) (uname aname : List ℕ)
    (outcome : Outcome)
    → attach_tested setting session fid afid uname aname (λ user. Err OutOfMemory) ≡ Ok outcome → ⊥
unfolding Never
never-ok setting session fid afid uname aname =
    unless-never _ _ (need-never _ _ _ (obtain-never _ _ _ (λ user. need-never _ _ _ last-never)))

-- where memory may not be refused, the fault is the answer's
its-own : (answer : Answer) (fault : Fault) → IsRefusal answer false fault → answer ≡ Err fault
its-own answer fault (inl is) = is
its-own answer fault (inr out) = let never : false ≡ true = out.1 in absurd (cc)

weaker : (answer : Answer) (may : Bool) (fault : Fault) → IsRefusal answer false fault
    → IsRefusal answer may fault
weaker answer may fault its = inl (its-own answer fault its)

-- what is answered by whether memory was reserved, as an answer in whose place memory may be refused
module _ (forest forest' : List Server) (session new : Session) (result : Result RMessage Fault) where
  weaker-all : (answer : Answer) (may : Bool) → Answers answer false forest forest' session new result
      → Answers answer may forest forest' session new result
  weaker-all answer may did = go result did
    where
      go : (result : Result RMessage Fault) → Answers answer false forest forest' session new result
          → Answers answer may forest forest' session new result
      go (Ok reply) did = did
      go (Err fault) did = (weaker answer may fault did.0, did.1, did.2)

  without-attach : (setting : Setting) (fid afid : ℕ) (uname aname : List ℕ)
      → Answers (attach_with_memory false setting forest session fid afid uname aname) false forest
      forest' session new result
      → Answers (attach_answer setting forest session fid afid uname aname)
      (is_beyond_session (attach_answer setting forest session fid afid uname aname)) forest forest'
      session new result
  without-attach setting fid afid uname aname did = go result did
    where
      go : (result : Result RMessage Fault)
          → Answers (attach_with_memory false setting forest session fid afid uname aname) false
          forest forest' session new result
          → Answers (attach_answer setting forest session fid afid uname aname)
          (is_beyond_session (attach_answer setting forest session fid afid uname aname)) forest
          forest' session new result
      go (Ok reply) did = absurd (never-ok setting session fid afid uname aname _ did.0)
      go (Err fault) did = (
        attach-refuses setting forest session fid afid uname aname fault
            (its-own (attach_tested setting session fid afid uname aname (λ user. Err OutOfMemory))
            fault did.0),
        did.1,
        did.2,
      )

  pub attach-or : (reserved : Bool) (setting : Setting) (fid afid : ℕ) (uname aname : List ℕ)
      → Answers (attach_with_memory reserved setting forest session fid afid uname aname) false forest
      forest' session new result
      → Answers (attach_answer setting forest session fid afid uname aname)
      (is_beyond_session (attach_answer setting forest session fid afid uname aname)) forest forest'
      session new result
  attach-or true setting fid afid uname aname did = weaker-all _ _ did
  attach-or false setting fid afid uname aname did = without-attach setting fid afid uname aname did

  without : (answer : Answer)
      → Answers (with_memory false answer) false forest forest' session new result
      → Answers answer (is_done answer) forest forest' session new result
  unfolding Never
  without answer did = go answer result did
    where
      go : (answer : Answer) (result : Result RMessage Fault)
          → Answers (with_memory false answer) false forest forest' session new result
          → Answers answer (is_done answer) forest forest' session new result
      go (Ok outcome) (Ok reply) did = absurd (last-never _ did.0)
      go (Ok outcome) (Err fault) did =
          let its : Err OutOfMemory ≡ Err fault = its-own (Err OutOfMemory) fault did.0 in
          let same : OutOfMemory ≡ fault = cc in
          (inr (sym same, refl), did.1, did.2)
      go (Err given) (Ok reply) did = did
      go (Err given) (Err fault) did = (weaker (Err given) false fault did.0, did.1, did.2)

  pub walk-or : (reserved : Bool) (answer : Answer)
      → Answers (with_memory reserved answer) false forest forest' session new result
      → Answers answer (is_done answer) forest forest' session new result
  walk-or true answer did = weaker-all answer (is_done answer) did
  walk-or false answer did = without answer did
