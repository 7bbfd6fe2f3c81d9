-- A wstat that touches nothing.
use Rattle.std.proofs.Common.{◌≡◌, ◌∙◌, ℕ, ◌-◌, ◌^◌, ◌⊎◌, Bool, true, false, List, [], None}
use Rattle.std.proofs.Common.{Some, Ok, inl, inr, ap, refl, ◌||◌, arith}
use Rattle.std.specs.Prelude.{◌==◌, not}
use Rattle.std.specs.Str.{bytes_eq}
use Rattle.std.proofs.lemmas.Bool.Decides.{nat_tests}
use Rattle.std.proofs.lemmas.Slice.Eq.{bytes_eq-Decides}
use Rattle.p9_base.specs.declared.fault.Fault.TheVariants.{FixedField}
use Rattle.p9_base.specs.declared.node_ref.NodeRef.{NodeRef}
use Rattle.p9_base.specs.declared.qid.Qid.{Qid}
use Rattle.p9_base.specs.Results.{obtain, need, unless}
use Rattle.p9_tree.specs.Node.{Node}
use Rattle.p9_wire.specs.Stat.{StatFields}
use Rattle.p9_wire.specs.Message.{Rwstat}
use Rattle.p9_fids.specs.Fid.{Fid, fid_at}
use Rattle.p9_tree.specs.Server.{Server}
use Rattle.p9_step.specs.Answer.{Answer}
use Rattle.p9_step.specs.Qid.{stat_of}
use Rattle.p9_step.specs.State.{Session, Setting, fid_file, fid_ref, who_of}
use Rattle.p9_step.specs.Wstat.{Touched, is_number_touched, is_text_touched, rewriting, touched_of}
use Rattle.p9_step.specs.Wstat.{touches_fixed, touches_qid, wstat_answer, wstat_fault}
use Rattle.p9_manual_laws.specs.Wstats.{IsNumberUntouched, IsQidUntouched, IsTextUntouched}
use Rattle.p9_manual_laws.specs.Wstats.{IsUntouched, UntouchedStatChangesNothing}
use Rattle.p9_manual_laws.proofs.Sessions.{changed-same}

-- one of two tests is met
either_met : (a b : Bool) → (a ≡ true) ⊎ (b ≡ true) → not (a || b) ≡ false
either_met true b h = refl
either_met false true h = refl
either_met false false (inl e) = absurd (cc)
either_met false false (inr e) = absurd (cc)

number_untouched : (greatest there wanted : ℕ) → IsNumberUntouched greatest there wanted
    → is_number_touched greatest there wanted ≡ false
number_untouched greatest there wanted (inl e) =
    either_met (wanted == greatest) (wanted == there) (inl (grind (arith, nat_tests, e)))
number_untouched greatest there wanted (inr e) =
    either_met (wanted == greatest) (wanted == there) (inr (grind (arith, nat_tests, e)))

text_untouched : (there wanted : List ℕ) → IsTextUntouched there wanted
    → is_text_touched there wanted ≡ false
text_untouched there wanted (inl e) =
    either_met (bytes_eq wanted []) (bytes_eq wanted there) (inl ((bytes_eq-Decides wanted []).1 e))
text_untouched there wanted (inr e) =
    either_met (bytes_eq wanted []) (bytes_eq wanted there)
    (inr ((bytes_eq-Decides wanted there).1 e))

qid_untouched : (there wanted : Qid) → IsQidUntouched there wanted
    → touches_qid there wanted ≡ false
qid_untouched there wanted h =
    rw (
      number_untouched (2 ^ 8 - 1) there.kind wanted.kind h.kind,
      number_untouched (2 ^ 32 - 1) there.version wanted.version h.version,
      number_untouched (2 ^ 64 - 1) there.path wanted.path h.path,
    ) refl

fixed_untouched : (there wanted : StatFields) → IsUntouched there wanted
    → touches_fixed there wanted ≡ false
fixed_untouched there wanted h =
    rw (
      number_untouched (2 ^ 16 - 1) there.kind wanted.kind h.kind,
      number_untouched (2 ^ 32 - 1) there.dev wanted.dev h.dev,
      qid_untouched there.qid wanted.qid h.qid,
      number_untouched (2 ^ 32 - 1) there.atime wanted.atime h.atime,
      text_untouched there.uid wanted.uid h.uid,
      text_untouched there.muid wanted.muid h.muid,
    ) refl

-- no field is touched
none_touched : Touched
none_touched = record { mode = None; name = None; length = None; mtime = None; gid = None }

others_untouched : (there wanted : StatFields) → IsUntouched there wanted
    → touched_of there wanted ≡ none_touched
unfolding none_touched
others_untouched there wanted h =
    rw (
      number_untouched (2 ^ 32 - 1) there.mode wanted.mode h.mode,
      text_untouched there.name wanted.name h.name,
      number_untouched (2 ^ 64 - 1) there.length wanted.length h.length,
      number_untouched (2 ^ 32 - 1) there.mtime wanted.mtime h.mtime,
      text_untouched there.gid wanted.gid h.gid,
    ) refl

-- so a wstat is answered, and changes nothing
answer_untouched : (setting : Setting) (forest : List Server) (session : Session) (now fid : ℕ)
    (v : Fid) (n : Node) (wanted : StatFields) → fid_at fid session.fids ≡ Some v
    → fid_file setting.table forest v ≡ Some n
    → IsUntouched (stat_of (fid_ref setting.table v) n) wanted
    → wstat_answer setting forest session now fid wanted
    ≡ Ok (record { changes = []; session = session; reply = Rwstat })
unfolding obtain need unless none_touched
answer_untouched setting forest session now fid v n wanted found there h =
    rw (found, there)
    (ap (λ fixed. tested fixed (touched_of (stat_of at n) wanted))
    (fixed_untouched (stat_of at n) wanted h)
    ∙ ap (tested false) (others_untouched (stat_of at n) wanted h))
  where
    at : NodeRef
    at = fid_ref setting.table v

    tested : Bool → Touched → Answer
    tested fixed t =
        need (not fixed) FixedField (
        unless (wstat_fault (who_of setting v.user) forest at n t) (
        Ok (record {
          changes = rewriting v.user now at n t;
          session = session;
          reply = Rwstat;
        })))

pub untouched_changes_nothing : UntouchedStatChangesNothing
untouched_changes_nothing state name session fid now v n wanted has there h =
    rw (
      has.session_is,
      answer_untouched state.setting state.forest session now fid v n wanted has.fid_is there h,
    )
    (ap (λ rows. record { state = record state { sessions = rows }; reply = Some Rwstat })
    (changed-same state name session has.session_is))
