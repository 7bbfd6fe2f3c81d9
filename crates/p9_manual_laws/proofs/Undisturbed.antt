-- Reads of one file by two sessions don't disturb each other.
use Rattle.std.proofs.Common.{◌≡◌, ℕ, false, List, [], ◌∷◌, ◌⊎◌, inl, inr, Some, None, Ok, Err}
use Rattle.std.proofs.Common.{Option, refl, ap, sym, ◌∙◌, subst}
use Rattle.p9_base.specs.declared.node_ref.NodeRef.{NodeRef}
use Rattle.p9_base.specs.Results.{obtain}
use Rattle.p9_tree.specs.Forest.{node_of}
use Rattle.p9_tree.specs.Node.{Node, is_dir, touched}
use Rattle.p9_tree.specs.Server.{Server}
use Rattle.p9_tree.proofs.Changed.{keeps-touched}
use Rattle.p9_wire.specs.Message.{Tread}
use Rattle.p9_fids.specs.declared.opened.Opened.{Opened}
use Rattle.p9_fids.specs.Fid.{Fid, fid_at}
use Rattle.p9_step.specs.Answer.{Answer, Outcome, outcome_of}
use Rattle.p9_step.specs.ForestChange.{ForestChange, EditNode, Touch, all_applied, applied, edited}
use Rattle.p9_step.specs.Read.{read_answer, readable}
use Rattle.p9_step.specs.State.{Session, Setting, State, fid_file, fid_ref}
use Rattle.p9_step.proofs.Done.{OnDone}
use Rattle.p9_step.proofs.Found.{node_of-changed}
use Rattle.p9_step.proofs.Passed.{ReadDone, read-done}
use Rattle.p9_manual_laws.specs.Asked.{Asked, after_outcome, asked}
use Rattle.p9_manual_laws.specs.Files.{ReadsDontDisturb}
use Rattle.p9_manual_laws.proofs.Sessions.{session_at-other}

-- of a read: nothing in the forest changes, or the time of a file's last read
Reads : List Server → NodeRef → ℕ → List ForestChange → Type 0
Reads forest at now changes =
    (changes ≡ [])
    ⊎ ((n : Node) × (node_of at forest ≡ Some n) × (is_dir n ≡ false)
    × (changes ≡ EditNode at (Touch now) ∷ []))

read_touches : (setting : Setting) (forest : List Server) (session : Session)
    (now fid offset count : ℕ) (v : Fid) → fid_at fid session.fids ≡ Some v
    → Reads forest (fid_ref setting.table v) now
    (outcome_of session (read_answer setting forest session now fid offset count)).changes
unfolding OnDone Reads
read_touches setting forest session now fid offset count v found =
    go (read_answer setting forest session now fid offset count)
    (read-done setting forest session now fid offset count)
  where
    go : (a : Answer) → OnDone (ReadDone setting forest session now fid offset count) a
        → Reads forest (fid_ref setting.table v) now (outcome_of session a).changes
    go (Err fault) done = inl refl
    go (Ok o) done =
        let one : Some done.v ≡ Some v = sym done.found ∙ found in
        let same : done.v ≡ v = cc in
        elim done.is [
          | inl file ↦ inr (
            done.n,
            subst (λ (w : Fid). fid_file setting.table forest w ≡ Some done.n) same done.there,
            file.0,
            ap (λ (p : Outcome). p.changes) file.1
                ∙ ap (λ w. EditNode (fid_ref setting.table w) (Touch now) ∷ []) same,
          )
          | inr dir ↦ inl (ap (λ (p : Outcome). p.changes) dir.1)
        ]

-- a read of a file gives the same before and after it was touched
same_touched : (setting : Setting) (forest after : List Server) (session : Session)
    (now fid offset count : ℕ) (w : Fid) (n m : Node) → fid_at fid session.fids ≡ Some w
    → fid_file setting.table forest w ≡ Some n → fid_file setting.table after w ≡ Some m
    → is_dir n ≡ false → is_dir m ≡ false → m.bytes ≡ n.bytes
    → (outcome_of session (read_answer setting after session now fid offset count)).reply
    ≡ (outcome_of session (read_answer setting forest session now fid offset count)).reply
unfolding obtain
same_touched setting forest after session now fid offset count w n m found before later plain file
    same =
    go (readable w.opened) refl
  where
    go : (o : Option Opened) → readable w.opened ≡ o
        → (outcome_of session (read_answer setting after session now fid offset count)).reply
        ≡ (outcome_of session (read_answer setting forest session now fid offset count)).reply
    go None e = rw (found, e) refl
    go (Some opened) e = rw (found, e, before, later, plain, file, same) refl

-- so does any read of it after another read
same_read : (setting : Setting) (forest : List Server) (at : NodeRef) (changes : List ForestChange)
    (session : Session) (now later fid offset count : ℕ) (w : Fid)
    → fid_at fid session.fids ≡ Some w → fid_ref setting.table w ≡ at
    → Reads forest at now changes
    → (outcome_of session
    (read_answer setting (all_applied changes forest) session later fid offset count)).reply
    ≡ (outcome_of session (read_answer setting forest session later fid offset count)).reply
unfolding Reads applied edited
same_read setting forest at changes session now later fid offset count w found same (inl none) =
    ap (λ cs. (outcome_of session
    (read_answer setting (all_applied cs forest) session later fid offset count)).reply) none
same_read setting forest at changes session now later fid offset count w found same (inr file) =
    let n = file.0 in
    let there : fid_file setting.table forest w ≡ Some n =
    ap (λ r. node_of r forest) same ∙ file.1 in
    let touch : all_applied changes forest ≡ all_applied (EditNode at (Touch now) ∷ []) forest =
    ap (λ cs. all_applied cs forest) file.3 in
    let there_now : fid_file setting.table (all_applied changes forest) w ≡ Some (touched now n) =
    ap (λ f. fid_file setting.table f w) touch
    ∙ ap (λ r. node_of r (all_applied (EditNode at (Touch now) ∷ []) forest)) same
    ∙ node_of-changed at (touched now) forest n (keeps-touched now) file.1 in
    same_touched setting forest (all_applied changes forest) session later fid offset count w n
    (touched now n) found there there_now file.2 file.2 refl

pub reads_dont_disturb : ReadsDontDisturb
reads_dont_disturb state first second first_session second_session fid other_fid now later v w offset
    other_offset count other_count apart one two same =
    let o : Outcome =
    outcome_of first_session
    (read_answer state.setting state.forest first_session now fid offset count) in
    let is : asked state first now (Tread fid offset count) ≡ after_outcome state first o =
    rw one.session_is refl in
    let after : State = (after_outcome state first o).state in
    let other_is = session_at-other state first second o.session (λ e. apart (sym e))
    ∙ two.session_is in
    let reads =
    read_touches state.setting state.forest first_session now fid offset count v one.fid_is in
    subst (λ (a : Asked). (asked a.state second later
    (Tread other_fid other_offset other_count)).reply
    ≡ (asked state second later (Tread other_fid other_offset other_count)).reply) (sym is)
    (rw (other_is, two.session_is)
    (ap (λ r. Some r)
    (same_read state.setting state.forest (fid_ref state.setting.table v) o.changes second_session
    now later other_fid other_offset other_count w two.fid_is same reads)))
