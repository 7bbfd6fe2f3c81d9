-- What a step makes of a read of a file.
use Rattle.std.proofs.Common.{◌≡◌, ◌∙◌, ℕ, ◌+◌, ◌-◌, ◌<◌, ◌≤◌, ◌^◌, List, [], ◌∷◌, Some, ap, arith, drop, length, min}
use Rattle.std.proofs.Common.{refl, subst, sym, take}
use Rattle.std.specs.Option.{option_map_or}
use Rattle.p9_base.specs.declared.node_ref.NodeRef.{NodeRef}
use Rattle.p9_base.specs.Results.{obtain}
use Rattle.p9_tree.specs.Bytes.{read_from}
use Rattle.p9_tree.specs.Node.{touched}
use Rattle.p9_tree.proofs.Changed.{keeps-touched}
use Rattle.p9_wire.specs.Message.{RMessage, Rread, TMessage, Tread}
use Rattle.p9_wire.specs.Reply.{r_spelling}
use Rattle.p9_wire.specs.Spelling.{TNumbersFit, t_body, t_spelling, t_type}
use Rattle.p9_wire.proofs.Lengths.{length-frame, length-t_body}
use Rattle.p9_step.specs.ForestChange.{EditNode, Touch, all_applied, applied, edited}
use Rattle.p9_step.specs.State.{State, changed_session, fid_file, fid_ref, io_header, iounit_of, session_at}
use Rattle.p9_step.proofs.Found.{node_of-changed}
use Rattle.p9_manual_laws.specs.Asked.{IsAskedBy, IsSent, asked}
use Rattle.p9_manual_laws.proofs.Frames.{frame_is_asked}
use Rattle.p9_manual_laws.proofs.ReadBack.{read_gives}
use Rattle.p9_manual_laws.proofs.Sessions.{changed-same}
use Rattle.p9_client_laws.specs.Served.{HasFile, IsMsize, request_step}

length-tread : (tag fid offset count : ℕ) → length (t_spelling tag (Tread fid offset count)) ≡ 23
unfolding t_spelling
length-tread tag fid offset count =
    let m : TMessage = Tread fid offset count in
    let long = length-frame (t_type m) tag (t_body m) in
    omega (arith, long, length-t_body m)

-- the bytes that a read gives
abbrev pub bytes_of : (msize offset count : ℕ) → List ℕ → List ℕ
bytes_of msize offset count bytes = take (min count (msize - 24)) (drop offset bytes)

module _ (state : State) (name msize fid : ℕ) (bytes : List ℕ)
    (file : HasFile state name msize fid bytes) (room : IsMsize msize) (tag clock offset count : ℕ)
    (tag_fits : tag < 2 ^ 16) (numbers : TNumbersFit (Tread fid offset count)) where
  frame : List ℕ
  frame = t_spelling tag (Tread fid offset count)

  at : NodeRef
  at = fid_ref state.setting.table file.v

  sent : IsSent state name frame tag (Tread fid offset count)
  unfolding frame
  sent =
      let long = length-tread tag fid offset count in
      record {
        session = file.session;
        is_open = file.has.session_is;
        spelled = record { whole = refl; numbers = numbers; fits = tt; tag_fits = tag_fits };
        small = omega (arith, long);
        short = λ other is.
            let both : Some other ≡ Some msize = sym is ∙ file.agreed in
            let same : other ≡ msize = cc in
            omega (arith, long, same, room.some);
        allowed = λ none. let both = sym none ∙ file.agreed in absurd (cc);
      }

  asked-by : IsAskedBy state name frame clock tag (Tread fid offset count)
  asked-by = frame_is_asked state name frame clock tag (Tread fid offset count) sent

  after : State
  after = record state {
    forest = all_applied (EditNode at (Touch clock) ∷ []) state.forest;
    sessions = changed_session name file.session state.sessions;
  }

  asked-state : (asked state name clock (Tread fid offset count)).state ≡ after
  unfolding obtain after at
  asked-state =
      rw (file.has.session_is, file.has.fid_is, file.is_open, file.there, file.plain) refl

  asked-reply : (asked state name clock (Tread fid offset count)).reply
      ≡ Some (Rread (bytes_of msize offset count bytes))
  asked-reply =
      let unit : iounit_of file.session ≡ msize - 24 =
      ap (λ o. option_map_or (λ m. m - io_header) o 0) file.agreed in
      read_gives state name file.session fid clock offset count file.v file.opened file.node file.has
      file.is_open file.there file.plain
      ∙ ap (λ (n : ℕ). Some (Rread (read_from offset (min count n) file.node.bytes))) unit
      ∙ ap (λ (xs : List ℕ). Some (Rread (read_from offset (min count (msize - 24)) xs)))
      file.bytes_are

  -- the reply has the bytes
  pub step-reply : (request_step state name tag clock (Tread fid offset count)).reply
      ≡ r_spelling tag (Rread (bytes_of msize offset count bytes))
  unfolding frame
  step-reply =
      let both : Some asked-by.reply ≡ Some (Rread (bytes_of msize offset count bytes)) =
      sym asked-by.reply_is ∙ asked-reply in
      let same : asked-by.reply ≡ Rread (bytes_of msize offset count bytes) = cc in
      asked-by.bytes_are ∙ ap (r_spelling tag) same

  file-there : fid_file after.setting.table after.forest file.v ≡ Some (touched clock file.node)
  unfolding after at applied edited
  file-there =
      node_of-changed (fid_ref state.setting.table file.v) (touched clock) state.forest file.node
      (keeps-touched clock) file.there

  file-after : HasFile after name msize fid bytes
  unfolding after
  file-after =
      record {
        session = file.session;
        v = file.v;
        opened = file.opened;
        node = touched clock file.node;
        has = record {
          session_is =
              ap (session_at name) (changed-same state name file.session file.has.session_is)
              ∙ file.has.session_is;
          fid_is = file.has.fid_is;
        };
        agreed = file.agreed;
        is_open = file.is_open;
        there = file-there;
        plain = file.plain;
        bytes_are = file.bytes_are;
      }

  -- and the file is as it was
  pub step-file : HasFile (request_step state name tag clock (Tread fid offset count)).state name msize
      fid bytes
  unfolding frame
  step-file =
      subst (λ (s : State). HasFile s name msize fid bytes) (sym (asked-by.state_is ∙ asked-state))
      file-after
