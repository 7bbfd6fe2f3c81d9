-- What the outcome of a wstat leads to.
use Rattle.p9_step.specs.State.{who_of}
use Rattle.std.proofs.Common.{Bool, List, None, Option, Some, arith, false, is_some, refl, subst}
use Rattle.std.proofs.Common.{sym, true, ℕ, ◌+◌, ◌-◌, ◌<◌, ◌^◌, ◌∙◌, ◌≡◌}
use Rattle.std.proofs.Math.Nat.{mod-lt}
use Rattle.std.specs.Option.{option_map_or}
use Rattle.std.specs.Prelude.{if◌then◌else◌, unwrap_or}
use Rattle.p9_base.specs.User.{is_user}
use Rattle.p9_base.specs.declared.node_ref.NodeRef.{NodeRef}
use Rattle.p9_tree.specs.Bytes.{resized}
use Rattle.p9_tree.specs.Change.{changed}
use Rattle.p9_tree.specs.Forest.{node_of, server_at}
use Rattle.p9_tree.specs.Node.{IsTellable, Node, has_number, marked, with_bytes}
use Rattle.p9_tree.specs.Server.{Server}
use Rattle.p9_tree.proofs.Renewed.{apart-changed, named, sound-changed}
use Rattle.p9_wire.specs.FieldReading.{◌then◌}
use Rattle.p9_wire.specs.Stat.{StatFields}
use Rattle.p9_step.specs.Answer.{Outcome}
use Rattle.p9_step.specs.ForestChange.{EditNode, Rewrite, applied, edited}
use Rattle.p9_step.specs.Qid.{stat_of}
use Rattle.p9_step.specs.State.{Session, Setting, fid_ref}
use Rattle.p9_step.specs.Wstat.{Touched, is_any, is_number_touched, node_change, rewriting}
use Rattle.p9_step.specs.Wstat.{touched_number, touched_of, wstat_fault}
use Rattle.p9_step.proofs.Evolves.{server_well}
use Rattle.p9_step.proofs.Kept.{IsReady, Kept, kept-changes, user-of}
use Rattle.p9_step.proofs.Lawful.{AllLawful, EditFits, forest-applied, lawful-parent_marked}
use Rattle.p9_step.proofs.Lawful.{node-sound}
use Rattle.p9_step.proofs.Members.{found-member}
use Rattle.p9_step.proofs.Passed.{WstatDone}
use Rattle.p9_step.proofs.Permits.{can_change, nothing_refuses, valid_group, valid_name}

touched_is : (greatest there wanted k : ℕ) → touched_number greatest there wanted ≡ Some k
    → k ≡ wanted
touched_is greatest there wanted k e = go (is_number_touched greatest there wanted) e
  where
    go : (b : Bool) → (if b then Some wanted else None) ≡ Some k → k ≡ wanted
    go true t = let same : Some wanted ≡ Some k = t in cc
    go false t = let no : None ≡ Some k = t in absurd (cc)

-- the node after a wstat can be told
changed-tellable : (user : List ℕ) (now : ℕ) (n : Node) (t : Touched) → is_user user ≡ true
    → now < 2 ^ 32 → IsTellable n → ((gid : List ℕ) → t.gid ≡ Some gid → is_user gid ≡ true)
    → ((k : ℕ) → t.mtime ≡ Some k → k < 2 ^ 32)
    → IsTellable (changed (node_change user now t) n)
changed-tellable user now n t valid short told own small = (
  (told.0.0, group t.gid refl, by t.mtime t.length),
  (version t.length, atime t.length, times t.mtime refl t.length),
)
  where
    sized : Option ℕ → Node
    sized size = option_map_or (λ k. marked user now (with_bytes (resized k) n)) size n

    group : (g : Option (List ℕ)) → t.gid ≡ g → is_user (unwrap_or g n.gid) ≡ true
    group None e = told.0.1
    group (Some g) e = own g e

    by : (m l : Option ℕ) → is_user (if is_some m then user else (
        option_map_or (λ k. marked user now (with_bytes (resized k) n)) l n).muid) ≡ true
    by (Some k) l = valid
    by None None = told.0.2
    by None (Some size) = valid

    version : (l : Option ℕ)
        → (option_map_or (λ k. marked user now (with_bytes (resized k) n)) l n).version < 2 ^ 32
    version None = told.1.0
    version (Some size) = mod-lt (n.version + 1) (omega arith)

    atime : (l : Option ℕ)
        → (option_map_or (λ k. marked user now (with_bytes (resized k) n)) l n).atime < 2 ^ 32
    atime None = told.1.1
    atime (Some size) = short

    times : (m : Option ℕ) → t.mtime ≡ m → (l : Option ℕ) → unwrap_or m (
        option_map_or (λ k. marked user now (with_bytes (resized k) n)) l n).mtime < 2 ^ 32
    times (Some k) e l = small k e
    times None e None = told.1.2
    times None e (Some size) = short

module _ (setting : Setting) (forest : List Server) (session : Session) (now : ℕ)
    (ready : IsReady setting forest session now) where
  lawful-rewrite : (at : NodeRef) (n : Node) (user : List ℕ) (t : Touched) → is_user user ≡ true
      → node_of at forest ≡ Some n → wstat_fault (who_of setting user) forest at n t ≡ None
      → ((k : ℕ) → t.mtime ≡ Some k → k < 2 ^ 32)
      → EditFits forest at (Rewrite (node_change user now t))
  unfolding edited
  lawful-rewrite at n user t valid found none small =
      let permits = nothing_refuses (who_of setting user) forest at n t none in
      let can = can_change (who_of setting user) forest at n t permits now ready.sound found in
      let well =
      server_well forest at.server n ready.sound
      (found-member (has_number at.number) (server_at at.server forest).nodes n found).0 in
      record {
        sound =
            λ m there. let same : Some m ≡ Some n = sym there ∙ found in
            let it : m ≡ n = cc in
            sound-changed (server_at at.server forest) m (node_change user now t) (can m there)
            (λ name is. valid_name (who_of setting user) forest at n t permits name is)
            (named (server_at at.server forest) at.number (node_change user now t) m well can there)
            (changed-tellable user now m t valid ready.short
            (node-sound forest ready.sound at m there).tellable
            (valid_group (who_of setting user) forest at n t permits ready.fixed.groups valid) small);
        apart =
            apart-changed (server_at at.server forest) at.number (node_change user now t) well can;
      }

  lawful-rewriting : (at : NodeRef) (n : Node) (user : List ℕ) (t : Touched)
      → is_user user ≡ true → node_of at forest ≡ Some n → wstat_fault (who_of setting user) forest at n t ≡ None
      → ((k : ℕ) → t.mtime ≡ Some k → k < 2 ^ 32)
      → AllLawful forest (rewriting user now at n t)
  lawful-rewriting at n user t valid found none small = go (is_any t) refl
    where
      first : EditFits forest at (Rewrite (node_change user now t))
      first = lawful-rewrite at n user t valid found none small

      go : (b : Bool) → is_any t ≡ b → AllLawful forest (rewriting user now at n t)
      go true e =
          rw e (
            first,
            lawful-parent_marked setting.table now ready.short
                (applied (EditNode at (Rewrite (node_change user now t))) forest) user at n.parent
                (forest-applied forest (EditNode at (Rewrite (node_change user now t))) ready.sound
                first) valid,
          )
      go false e = rw e tt

  pub kept-wstat : (fid : ℕ) (wanted : StatFields) (o : Outcome) → wanted.mtime < 2 ^ 32
      → WstatDone setting forest session now fid wanted o → Kept setting forest o
  kept-wstat fid wanted o small done =
      let v = done.v in
      let at = fid_ref setting.table v in
      let t = touched_of (stat_of at done.n) wanted in
      subst (Kept setting forest) (sym done.is)
      (kept-changes setting forest session now ready (rewriting v.user now at done.n t) session _
      (lawful-rewriting at done.n v.user t
      (user-of setting forest session now ready fid v done.found) done.there done.fits
      (λ k is. subst (λ j. j < 2 ^ 32)
      (sym (touched_is (2 ^ 32 - 1) done.n.mtime wanted.mtime k is)) small)) ready.its)
