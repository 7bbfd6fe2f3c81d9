-- The replies of outcomes: each has a spelling, of no more bytes than the session takes, and is no
-- refusal.
use Rattle.p9_step.specs.State.{who_of}
use Rattle.std.proofs.Common.{Bool, Err, List, None, Ok, Option, Result, Some, [], arith, false}
use Rattle.std.proofs.Common.{inl, inr, length, refl, subst, sym, true, ℕ, ◌++◌, ◌+◌, ◌-◌, ◌∷◌, ◌≡◌}
use Rattle.std.proofs.Common.{◌≤◌}
use Rattle.std.proofs.Math.Nat.{mod-lt}
use Rattle.std.proofs.lemmas.Bool.Decides.{nat_tests}
use Rattle.std.proofs.lemmas.List.{length-append, length-take}
use Rattle.std.proofs.lemmas.List.Concat.{flat_map-cons}
use Rattle.std.specs.List.{AllByRecursion, flat_map}
use Rattle.std.specs.Prelude.{codes, min, nat_le}
use Rattle.p9_base.specs.NodeRef.{beside}
use Rattle.p9_base.specs.declared.fault.Fault.{Fault}
use Rattle.p9_base.specs.declared.fault.Fault.TheVariants.{PhaseError}
use Rattle.p9_base.specs.declared.node_ref.NodeRef.{NodeRef}
use Rattle.p9_base.proofs.Texts.{is_text-ascii}
use Rattle.p9_tree.specs.Bytes.{cut_to, read_from}
use Rattle.p9_tree.specs.Forest.{IsForest, next_of}
use Rattle.p9_tree.specs.Node.{Node, marked, with_bytes}
use Rattle.p9_tree.specs.Server.{Server}
use Rattle.p9_space.specs.Place.{file_of, file_ref}
use Rattle.p9_space.specs.Trail.{here, stepped}
use Rattle.p9_space.specs.Walk.{step_of}
use Rattle.p9_table.specs.declared.trail.Step.{Step}
use Rattle.p9_wire.specs.Fields.{QidNumbersFit}
use Rattle.p9_wire.specs.Frame.{msize_max}
use Rattle.p9_wire.specs.Stat.{StatFields}
use Rattle.p9_wire.specs.Message.{Rcreate, Rread}
use Rattle.p9_wire.specs.Spelling.{RFits, RNumbersFit, r_len}
use Rattle.p9_fids.specs.Fid.{Fid}
use Rattle.p9_step.specs.Answer.{Outcome, is_error}
use Rattle.p9_step.specs.ForestChange.{AddNode, EditNode, Mark, edited}
use Rattle.p9_step.specs.Create.{created, entered}
use Rattle.p9_step.specs.Listing.{UnionEntry}
use Rattle.p9_step.specs.Open.{is_cut, truncated}
use Rattle.p9_step.specs.Qid.{qid_of}
use Rattle.p9_step.specs.Read.{entry_bytes, fitting}
use Rattle.p9_step.specs.Laws.{refusal_max}
use Rattle.p9_step.specs.State.{Session, Setting, fid_ref, io_header, iounit_of}
use Rattle.p9_step.specs.Version.{msize_min}
use Rattle.p9_step.specs.Walk.{Arrival, arrival, arrived_by, step_and_rest, trail_after, walked}
use Rattle.p9_step.proofs.Lawful.{node-sound}
use Rattle.p9_step.proofs.Passed.{AttachDone, ClunkDone, CreateDone, OpenDone, ReadDone}
use Rattle.p9_step.proofs.Passed.{RemovalDone, StatDone, VersionDone, WalkDone, WriteDone}
use Rattle.p9_step.proofs.Passed.{WstatDone}
use Rattle.p9_step.proofs.Told.{IsSmall, node_of-small, qid-small, qid_fits, stat_fits}
use Rattle.p9_step.proofs.Told.{stat_numbers_fit}

-- the reply has a spelling, is no longer than so many bytes, and is no refusal
pub record Replies (most : ℕ) (outcome : Outcome) : Type 0 where
  pub numbers : RNumbersFit outcome.reply
  pub fits : RFits outcome.reply
  pub short : 7 + r_len outcome.reply ≤ most
  pub plain : is_error outcome.reply ≡ false

-- No more names than a walk has.

length-walked : (setting : Setting) (forest : List Server) (user : List ℕ) (trail : List NodeRef)
    (names : List (List ℕ)) → length (walked setting forest user trail names).qids ≤ length names
length-walked setting forest user trail [] = omega arith
length-walked setting forest user trail (name ∷ names) =
    go (arrived_by setting forest user trail name)
    (λ next. length-walked setting forest user next names)
  where
    go : (r : Result Arrival Fault)
        → ((next : List NodeRef)
        → length (walked setting forest user next names).qids ≤ length names)
        → length
        (step_and_rest trail r
        (walked setting forest user (trail_after trail r) names)).qids
        ≤ length (name ∷ names)
    go (Err fault) later = omega arith
    go (Ok a) later = let rest = later a.trail in omega arith

-- Whole entries that have room are no more bytes than it.

length-fitting : (room : ℕ) (entries : List UnionEntry)
    → length (flat_map entry_bytes (fitting room entries)) ≤ room
length-fitting room [] = omega arith
length-fitting room (entry ∷ es) =
    go (nat_le (length (entry_bytes entry)) room) refl
    (length-fitting (room - length (entry_bytes entry)) es)
  where
    go : (b : Bool) → nat_le (length (entry_bytes entry)) room ≡ b
        → length (flat_map entry_bytes (fitting (room - length (entry_bytes entry)) es))
        ≤ room - length (entry_bytes entry)
        → length (flat_map entry_bytes (fitting room (entry ∷ es))) ≤ room
    go false e later = rw e (omega arith)
    go true is later =
        let le : length (entry_bytes entry) ≤ room = grind (arith, nat_tests, is) in
        rw (is, flat_map-cons entry_bytes entry (fitting (room - length (entry_bytes entry)) es))
        (simp (length-append) (omega (arith, le, later)))

-- Each qid that a walk gives fits.

qids_fit : (setting : Setting) (forest : List Server) → IsForest forest → (user : List ℕ)
    (trail : List NodeRef) (names : List (List ℕ))
    → AllByRecursion QidNumbersFit (walked setting forest user trail names).qids
qids_fit setting forest sound user trail [] = tt
qids_fit setting forest sound user trail (name ∷ names) =
    go (arrived_by setting forest user trail name) refl
    (λ next. qids_fit setting forest sound user next names)
  where
    arrived_fits : (a : Arrival) → arrived_by setting forest user trail name ≡ Ok a
        → QidNumbersFit a.qid
    arrived_fits a e = by_step (step_of forest setting.table (Some (who_of setting user)) trail name) refl
      where
        by_file : (step : Step) (o : Option Node)
            → file_of (here (stepped trail step)) setting.table forest ≡ o
            → arrival setting forest trail step ≡ Ok a → QidNumbersFit a.qid
        by_file step None found t =
            let no : Err PhaseError ≡ Ok a = rw found at t in absurd (cc)
        by_file step (Some n) found t =
            let at = file_ref (here (stepped trail step)) setting.table in
            let is : Ok (record { trail = stepped trail step; qid = qid_of at n }) ≡ Ok a =
            rw found at t in
            let same : qid_of at n ≡ a.qid = cc in
            subst QidNumbersFit same (qid_fits forest at n sound found)

        by_step : (r : Result Step Fault)
            → step_of forest setting.table (Some (who_of setting user)) trail name ≡ r → QidNumbersFit a.qid
        by_step (Err fault) t = let no : Err fault ≡ Ok a = rw t at e in absurd (cc)
        by_step (Ok step) t =
            by_file step (file_of (here (stepped trail step)) setting.table forest) refl
            (rw t at e)

    go : (r : Result Arrival Fault) → arrived_by setting forest user trail name ≡ r
        → ((next : List NodeRef)
        → AllByRecursion QidNumbersFit (walked setting forest user next names).qids)
        → AllByRecursion QidNumbersFit
        (step_and_rest trail r
        (walked setting forest user (trail_after trail r) names)).qids
    go (Err fault) e later = tt
    go (Ok a) e later = (arrived_fits a e, later a.trail)

-- The messages, in the manual's order.

module _ (most : ℕ) (setting : Setting) (forest : List Server) (session : Session)
    (sound : IsForest forest) where
  pub replies-version : refusal_max ≤ most → (now msize : ℕ) (o : Outcome)
      → VersionDone setting forest session now msize o → Replies most o
  replies-version wide now msize o done = elim done.is [
    | inl is ↦ subst (Replies most) (sym is) (record {
      numbers = omega arith;
      fits = record { short = omega arith; valid = is_text-ascii (codes "9P2000") refl refl };
      short = omega (arith, wide);
      plain = refl;
    })
    | inr is ↦ subst (Replies most) (sym is) (record {
      numbers = omega arith;
      fits = record { short = omega arith; valid = is_text-ascii (codes "unknown") refl refl };
      short = omega (arith, wide);
      plain = refl;
    })
  ]

  module _ (wide : msize_min ≤ most) where
    pub replies-attach : (fid : ℕ) (uname aname : List ℕ) (o : Outcome)
        → AttachDone setting forest session fid uname aname o → Replies most o
    replies-attach fid uname aname o done =
        subst (Replies most) (sym done.is) (record {
          numbers =
              qid_fits forest (file_ref (here done.trail) setting.table) done.file sound done.there;
          fits = tt;
          short = omega (arith, wide);
          plain = refl;
        })

    pub replies-walk : (fid newfid : ℕ) (names : List (List ℕ)) (o : Outcome) → length names ≤ 16
        → WalkDone setting forest session fid newfid names o → Replies most o
    replies-walk fid newfid names o few done =
        let w = walked setting forest done.v.user done.v.trail names in
        let less : length w.qids ≤ 16 =
        omega (arith, few, length-walked setting forest done.v.user done.v.trail names) in
        let numbers : AllByRecursion QidNumbersFit w.qids =
        qids_fit setting forest sound done.v.user done.v.trail names in
        elim done.is [
          | inl is ↦ subst (Replies most) (sym is) (record {
            numbers = numbers;
            fits = less;
            short = omega (arith, wide, less);
            plain = refl;
          })
          | inr is ↦ subst (Replies most) (sym is) (record {
            numbers = numbers;
            fits = less;
            short = omega (arith, wide, less);
            plain = refl;
          })
        ]

    pub replies-clunk : (now fid : ℕ) (o : Outcome) → ClunkDone setting forest session now fid o
        → Replies most o
    replies-clunk now fid o done =
        subst (Replies most) (sym done.is) (record {
          numbers = tt;
          fits = tt;
          short = omega (arith, wide);
          plain = refl;
        })

    pub replies-removal : (now : ℕ) (v : Fid) (o : Outcome)
        → RemovalDone setting forest session now v o → Replies most o
    replies-removal now v o done =
        subst (Replies most) (sym done.is) (record {
          numbers = tt;
          fits = tt;
          short = omega (arith, wide);
          plain = refl;
        })

    pub replies-stat : (fid : ℕ) (o : Outcome) → StatDone setting forest session fid o
        → Replies most o
    replies-stat fid o done =
        let at = fid_ref setting.table done.v in
        let its = stat_fits at done.n (node-sound forest sound at done.n done.there) in
        subst (Replies most) (sym done.is) (record {
          numbers = stat_numbers_fit forest at done.n sound done.there;
          fits = its.0;
          short = omega (arith, its.1, wide);
          plain = refl;
        })

    pub replies-wstat : (now fid : ℕ) (wanted : StatFields) (o : Outcome)
        → WstatDone setting forest session now fid wanted o → Replies most o
    replies-wstat now fid wanted o done =
        subst (Replies most) (sym done.is) (record {
          numbers = tt;
          fits = tt;
          short = omega (arith, wide);
          plain = refl;
        })

    pub replies-write : (now fid offset : ℕ) (bytes : List ℕ) (o : Outcome)
        → WriteDone setting forest session now fid offset bytes o → Replies most o
    replies-write now fid offset bytes o done = elim done.is [
      | inl none ↦ subst (Replies most) (sym none.1) (record {
        numbers = omega arith;
        fits = tt;
        short = omega (arith, wide);
        plain = refl;
      })
      | inr some ↦ subst (Replies most) (sym some.1) (record {
        numbers = omega (arith, some.0);
        fits = tt;
        short = omega (arith, wide);
        plain = refl;
      })
    ]

    module _ (room : io_header + iounit_of session ≤ most) (frames : most ≤ msize_max) where
      pub replies-open : (now fid : ℕ) (o : Outcome) → OpenDone setting forest session now fid o
          → Replies most o
      unfolding edited
      replies-open now fid o done =
          subst (Replies most) (sym done.is) (record {
            numbers = (cut (is_cut done.n done.opening) refl, omega (arith, room, frames));
            fits = tt;
            short = omega (arith, wide);
            plain = refl;
          })
        where
          at : NodeRef
          at = fid_ref setting.table done.v

          cut : (b : Bool) → is_cut done.n done.opening ≡ b
              → QidNumbersFit (qid_of at (truncated done.v.user now done.n done.opening))
          cut false e = rw e (qid_fits forest at done.n sound done.there)
          cut true e =
              rw e
              (qid-small at (marked done.v.user now (with_bytes (cut_to 0) done.n))
              (node_of-small forest at done.n sound done.there)
              (mod-lt (done.n.version + 1) (omega arith)))

      pub replies-create : (now fid : ℕ) (name : List ℕ) (perm : ℕ) (o : Outcome)
          → CreateDone setting forest session now fid name perm o → Replies most o
      replies-create now fid name perm o done =
          subst (Replies most) same (record {
            numbers = (qid, omega (arith, room, frames));
            fits = tt;
            short = omega (arith, wide);
            plain = refl;
          })
        where
          target : NodeRef
          target = done.member.node

          place : NodeRef
          place = beside target (next_of target.server forest)

          node : Node
          node =
              created done.v.user now (next_of target.server forest) done.dir name done.asked

          outcome : Outcome
          outcome = record {
            changes = AddNode target.server node ∷ EditNode target (Mark done.v.user now) ∷ [];
            session = entered fid (done.v.trail ++ place ∷ []) done.opening session;
            reply = Rcreate (qid_of place node) (iounit_of session);
          }

          same : outcome ≡ o
          same = let e : Ok outcome ≡ Ok o = sym done.is in cc

          small : IsSmall place
          small =
              let its = node_of-small forest target done.dir sound done.there in
              let free = done.can.room in
              record { server = its.server; number = omega (arith, free) }

          qid : QidNumbersFit (qid_of place node)
          qid = qid-small place node small (omega arith)

      reads-fit : (bytes : List ℕ) (count : ℕ) → length bytes ≤ min count (iounit_of session)
          → (RFits (Rread bytes)) × (7 + r_len (Rread bytes) ≤ most)
      reads-fit bytes count le = (omega (arith, le, room, frames), omega (arith, le, room))

      pub replies-read : (now fid offset count : ℕ) (o : Outcome)
          → ReadDone setting forest session now fid offset count o → Replies most o
      replies-read now fid offset count o done = elim done.is [
        | inl file ↦ (let bytes =
            read_from offset (min count (iounit_of session)) done.n.bytes in
            let le : length bytes ≤ min count (iounit_of session) =
            simp (length-take) (omega arith) in
            let fit = reads-fit bytes count le in
            subst (Replies most) (sym file.1) (record {
              numbers = tt;
              fits = fit.0;
              short = fit.1;
              plain = refl;
            }))
        | inr dir ↦ (let bytes =
            flat_map entry_bytes (fitting (min count (iounit_of session)) dir.0) in
            let fit =
            reads-fit bytes count (length-fitting (min count (iounit_of session)) dir.0) in
            subst (Replies most) (sym dir.1) (record {
              numbers = tt;
              fits = fit.0;
              short = fit.1;
              plain = refl;
            }))
      ]
