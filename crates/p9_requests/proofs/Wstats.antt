-- The answer to a wstat that no test refuses.
use Rattle.p9_step.specs.State.{who_of}
use Rattle.std.proofs.Common.{◌≡◌, ℕ, Bool, Bor, true, false, List, [], ◌∷◌, Option, Some}
use Rattle.std.proofs.Common.{None, Result, Ok, Err, inl, refl, sym, ap, ◌∙◌, option_and_then}
use Rattle.std.proofs.Common.{subst}
use Rattle.std.specs.Option.{option_copied, option_or}
use Rattle.std.specs.Prelude.{not, if◌then◌else◌}
use Rattle.p9_base.specs.declared.fault.Fault.{Fault}
use Rattle.p9_base.specs.declared.fault.Fault.TheVariants.{FixedField, PermissionDenied, PhaseError}
use Rattle.p9_base.specs.declared.fault.Fault.TheVariants.{UnknownFid}
use Rattle.p9_base.specs.declared.mode.Mode.{Mode}
use Rattle.p9_base.specs.declared.node_ref.NodeRef.{NodeRef}
use Rattle.p9_base.specs.Results.{obtain, need, unless}
use Rattle.p9_space.specs.Rights.{Who}
use Rattle.p9_tree.specs.declared.change.Change.{Change}
use Rattle.p9_tree.specs.Change.{changed}
use Rattle.p9_tree.specs.Node.{Node}
use Rattle.p9_tree.specs.Server.{Server}
use Rattle.p9_tree.specs.Forest.{forest_changed_at, node_of}
use Rattle.p9_wire.specs.Stat.{StatFields}
use Rattle.p9_wire.specs.Message.{Rwstat}
use Rattle.p9_fids.specs.Fid.{Fid, fid_at}
use Rattle.p9_step.specs.State.{Setting, Session, fid_file, fid_ref}
use Rattle.p9_step.specs.Answer.{Answer}
use Rattle.p9_walks.specs.Answers.{Answers, replied}
use Rattle.p9_step.specs.ForestChange.{ForestChange, EditNode, Rewrite, all_applied, applied, edited}
use Rattle.p9_step.specs.End.{parent_marked}
use Rattle.p9_step.specs.Qid.{stat_of}
use Rattle.p9_step.specs.Memory.{is_done}
use Rattle.p9_step.specs.Wstat.{Touched, gid_fault, is_any, length_fault, may_give, mode_fault}
use Rattle.p9_step.specs.Wstat.{name_fault, ruling_fault}
use Rattle.p9_step.specs.Wstat.{node_change}
use Rattle.p9_step.specs.Wstat.{rewriting, touched_of, touches_fixed, wstat_answer}
use Rattle.p9_step.specs.Wstat.{wstat_fault}

-- a chain in which only the last test may refuse
steps : {X Y : Type 0} (o : Option X) (x : X) (p : X → Option Y) (y : Y) (f1 f2 f3 : Fault)
    (fixed : X → Y → Bool) (fault : X → Y → Option Fault) (rest : X → Y → Answer)
    → o ≡ Some x → p x ≡ Some y → fixed x y ≡ false
    → obtain o f1
    (λ a. obtain (p a) f2 (λ b. need (not (fixed a b)) f3 (unless (fault a b) (rest a b))))
    ≡ unless (fault x y) (rest x y)
unfolding need obtain
steps o x p y f1 f2 f3 fixed fault rest e1 e2 e3 = rw (e1, e2, e3) refl

-- the outcome where every test passes
abbrev pub rewritten : Session → List ℕ → ℕ → NodeRef → Node → Touched → Answer
rewritten session user now at n t =
    Ok (record { changes = rewriting user now at n t; session = session; reply = Rwstat })

-- the answer for a file that exists, where no fixed field is touched
pub wstat_answer-tested : (setting : Setting) (forest : List Server) (session : Session)
    (now fid : ℕ) (wanted : StatFields) (v : Fid) (n : Node) (at : NodeRef) (t : Touched)
    → at ≡ fid_ref setting.table v → fid_at fid session.fids ≡ Some v → node_of at forest ≡ Some n
    → touches_fixed (stat_of at n) wanted ≡ false → t ≡ touched_of (stat_of at n) wanted
    → wstat_answer setting forest session now fid wanted
    ≡ unless (wstat_fault (who_of setting v.user) forest at n t)
    (rewritten session v.user now at n t)
wstat_answer-tested setting forest session now fid wanted v n at t at_is held found fixed t_is =
    let place : NodeRef = fid_ref setting.table v in
    let there : node_of place forest ≡ Some n =
    subst (λ a. node_of a forest ≡ Some n) at_is found in
    let unfixed : touches_fixed (stat_of place n) wanted ≡ false =
    subst (λ a. touches_fixed (stat_of a n) wanted ≡ false) at_is fixed in
    let is : t ≡ touched_of (stat_of place n) wanted =
    subst (λ a. t ≡ touched_of (stat_of a n) wanted) at_is t_is in
    let tested : wstat_answer setting forest session now fid wanted
    ≡ unless (wstat_fault (who_of setting v.user) forest place n
    (touched_of (stat_of place n) wanted))
    (rewritten session v.user now place n (touched_of (stat_of place n) wanted)) =
    steps (fid_at fid session.fids) v (fid_file setting.table forest) n UnknownFid PhaseError
    FixedField
    (λ w m. touches_fixed (stat_of (fid_ref setting.table w) m) wanted)
    (λ w m. wstat_fault (who_of setting w.user) forest (fid_ref setting.table w) m
    (touched_of (stat_of (fid_ref setting.table w) m) wanted))
    (λ w m. rewritten session w.user now (fid_ref setting.table w) m
    (touched_of (stat_of (fid_ref setting.table w) m) wanted))
    held there unfixed in
    let of_fields : wstat_answer setting forest session now fid wanted
    ≡ unless (wstat_fault (who_of setting v.user) forest place n t)
    (rewritten session v.user now place n t) = subst
    (λ s. wstat_answer setting forest session now fid wanted
    ≡ unless (wstat_fault (who_of setting v.user) forest place n s)
    (rewritten session v.user now place n s)) (sym is) tested in
    subst (λ a. wstat_answer setting forest session now fid wanted
    ≡ unless (wstat_fault (who_of setting v.user) forest a n t)
    (rewritten session v.user now a n t)) (sym at_is) of_fields

-- where no test refuses
pub not_refused : {X E : Type 0} (answer : Result X E) (fault : Option E) (rest : Result X E)
    → answer ≡ unless fault rest → fault ≡ None → answer ≡ rest
unfolding unless
not_refused answer fault rest is none = is ∙ ap (λ f. unless f rest) none

-- where one does
pub wstat-refused : (answer : Answer) (fault : Option Fault) (rest : Answer) (forest : List Server)
    (session : Session) {X : Type 0} (result : Result X Fault) (due given : Fault)
    → answer ≡ unless fault rest → fault ≡ Some due → result ≡ Err given → given ≡ due
    → Answers answer (is_done answer) forest forest session session (replied (λ _. Rwstat) result)
unfolding unless
wstat-refused answer fault rest forest session result due given is some err same =
    let refused : answer ≡ Err due = is ∙ ap (λ f. unless f rest) some in
    rw (err, same) (inl refused, refl, refl)

if_none : (b : Bool) (changes : List ForestChange) → b ≡ false → (if b then changes else []) ≡ []
if_none false changes e = refl
if_none true changes e = let no : true ≡ false = e in absurd (cc)

-- where nothing is touched, nothing changes
pub wstat-idle : (answer : Answer) (forest : List Server) (session : Session) (user : List ℕ)
    (now : ℕ) (at : NodeRef) (n : Node) (t : Touched)
    → answer ≡ rewritten session user now at n t → is_any t ≡ false
    → Answers answer (is_done answer) forest forest session session (Ok Rwstat)
wstat-idle answer forest session user now at n t done none =
    let no_change : rewriting user now at n t ≡ [] = if_none (is_any t) _ none in
    let all : forest ≡ all_applied (rewriting user now at n t) forest =
    sym (ap (λ changes. all_applied changes forest) no_change) in
    rw done (refl, all)

if_some : (b : Bool) (changes : List ForestChange) → b ≡ true → (if b then changes else []) ≡ changes
if_some true changes e = refl
if_some false changes e = let no : false ≡ true = e in absurd (cc)

-- the node is changed, and its directory is marked
pub wstat-did : (answer : Answer) (forest middle forest' : List Server) (session : Session)
    (user : List ℕ) (now : ℕ) (at : NodeRef) (n : Node) (t : Touched)
    → answer ≡ rewritten session user now at n t
    → is_any t ≡ true
    → middle ≡ forest_changed_at at (changed (node_change user now t)) forest
    → forest' ≡ all_applied (parent_marked user now at n.parent) middle
    → Answers answer (is_done answer) forest forest' session session (Ok Rwstat)
unfolding applied edited
wstat-did answer forest middle forest' session user now at n t done some change mark =
    let marks = parent_marked user now at n.parent in
    let changes : List ForestChange = EditNode at (Rewrite (node_change user now t)) ∷ marks in
    let all : rewriting user now at n t ≡ changes = if_some (is_any t) changes some in
    let made : forest' ≡ all_applied changes forest = mark ∙ ap (all_applied marks) change in
    let whole : forest' ≡ all_applied (rewriting user now at n t) forest =
    subst (λ cs. forest' ≡ all_applied cs forest) (sym all) made in
    rw done (refl, whole)

-- a test that lets a value through
pub passes : {X E : Type 0} (fault : Option E) (x y : X) → Ok y ≡ unless fault (Ok x)
    → (fault ≡ None) × (y ≡ x)
unfolding unless
passes None x y e = let same : Ok y ≡ Ok x = e in (refl, cc)
passes (Some fault) x y e = let no : Ok y ≡ Err fault = e in absurd (cc)

-- one that refuses it
pub refuses : {X E : Type 0} (fault : Option E) (x : X) (error : E)
    → Err error ≡ unless fault (Ok x) → fault ≡ Some error
unfolding unless
refuses None x error e = let no : Err error ≡ Ok x = e in absurd (cc)
refuses (Some fault) x error e = let same : Err error ≡ Err fault = e in cc

-- what comes of a refusal, and of a value that is let through
pub comes_refused : {X E : Type 0} (fault : Option E) (x : X) (result : Result X E) (due given : E)
    → fault ≡ Some due → result ≡ Err given → given ≡ due → result ≡ unless fault (Ok x)
unfolding unless
comes_refused fault x result due given some err same =
    err ∙ ap Err same ∙ sym (ap (λ f. unless f (Ok x)) some)

pub comes_through : {X E : Type 0} (fault : Option E) (x y : X) → fault ≡ None → y ≡ x
    → Ok y ≡ unless fault (Ok x)
unfolding unless
comes_through fault x y none same = ap Ok same ∙ sym (ap (λ f. unless f (Ok x)) none)

third : {X : Type 0} (a b c rest : Option X) (x : X) → a ≡ None → b ≡ None → c ≡ Some x
    → option_or a (option_or b (option_or c rest)) ≡ Some x
third a b c rest x ea eb ec = rw (ea, eb, ec) refl

both : {X : Type 0} (a b c : Option X) → option_or a (option_or b c) ≡ option_or (option_or a b) c
both None b c = refl
both (Some x) b c = refl

behind : {X : Type 0} (a b c d e rest o : Option X) → a ≡ None → b ≡ None → c ≡ None
    → option_or (option_or d e) rest ≡ o
    → option_or a (option_or b (option_or c (option_or d (option_or e rest)))) ≡ o
behind a b c d e rest o ea eb ec eo = rw (ea, eb, ec) (both d e rest ∙ eo)

module _ (who : Who) (forest : List Server) (at : NodeRef) (n : Node) (t : Touched)
    (no_mode : option_and_then (mode_fault n) t.mode ≡ None)
    (no_name : option_and_then (name_fault who forest at n) t.name ≡ None) where
  -- the length is refused
  pub length-refuses : (fault : Fault) → option_and_then (length_fault who n) t.length ≡ Some fault
      → wstat_fault who forest at n t ≡ Some fault
  length-refuses fault some =
      third (option_and_then (mode_fault n) t.mode)
      (option_and_then (name_fault who forest at n) t.name)
      (option_and_then (length_fault who n) t.length) _ fault no_mode no_name some

  -- what comes of the tests behind that of the length
  pub behind-length : (ruled : Option Fault) → option_and_then (length_fault who n) t.length ≡ None
      → ruled ≡ option_or (option_and_then (ruling_fault who n) t.mode)
      (option_and_then (ruling_fault who n) t.mtime)
      → wstat_fault who forest at n t ≡ option_or ruled (option_and_then (gid_fault who n) t.gid)
  behind-length ruled no_length is =
      behind (option_and_then (mode_fault n) t.mode)
      (option_and_then (name_fault who forest at n) t.name)
      (option_and_then (length_fault who n) t.length)
      (option_and_then (ruling_fault who n) t.mode) (option_and_then (ruling_fault who n) t.mtime)
      (option_and_then (gid_fault who n) t.gid) _ no_mode no_name no_length
      (ap (λ r. option_or r (option_and_then (gid_fault who n) t.gid)) (sym is))

-- a group is refused that the user may not give the file to
pub group-refused : (who : Who) (n : Node) (gid : Option (Bor (List ℕ))) (text : Bor (List ℕ))
    → gid ≡ Some text → false ≡ may_give who n text.now
    → Err PermissionDenied ≡ unless (option_and_then (gid_fault who n) (option_copied gid))
    (Ok (option_copied gid))
unfolding unless
group-refused who n gid text is denied =
    rw is (ap (λ b. unless (if b then None else Some PermissionDenied) (Ok (Some text.now))) denied)

-- what is changed
abbrev pub change_of : Option (List ℕ) → Option Mode → Option (List ℕ) → Option ℕ → Option ℕ
    → List ℕ → ℕ → Change
change_of name mode gid length mtime user now = record {
  name = name;
  mode = mode;
  gid = gid;
  length = length;
  mtime = mtime;
  user = user;
  clock = now;
}

pub same-change : (name name' : Option (List ℕ)) (mode mode' : Option Mode)
    (gid gid' : Option (List ℕ)) (length length' mtime : Option ℕ) (user : List ℕ) (now : ℕ)
    → name ≡ name' → mode ≡ mode' → gid ≡ gid' → length ≡ length'
    → change_of name mode gid length mtime user now
    ≡ change_of name' mode' gid' length' mtime user now
same-change name name' mode mode' gid gid' length length' mtime user now en em eg el =
    rw (en, em, eg, el) refl
