use Rattle.std.proofs.Common.{arith, ◌≡◌, ◌∙◌, ◌++◌, sym, ap, subst, drop, false, Some, Err, Ok}
use Rattle.std.proofs.lemmas.Result.{err_from_is_err_and}
use Rattle.std.proofs.Math.Seq.{drop-append_seam}
use Rattle.std.specs.BTreeMap.{is_at}
use Rattle.std.specs.Option.{option_copied_mut, option_map_or}
use Rattle.std.specs.Ordering.{nat_cmp}
use Rattle.std.specs.Map.{lookup, set_value}
use Rattle.p9_base.proofs.Rows.{set_value-same}
use Rattle.p9_fids.proofs.Values.{set-mapped}
use Rattle.p9_walks.specs.Held.{SessionsFit, session_in, sessions_in}
use Rattle.p9_requests.proofs.Sessions.{fits-lookup, fits-set, session-held, session-there}
use Rattle.p9_wire.specs.Message.{t_view}
use Rattle.p9_wire.specs.Spelling.{read_header}
use Rattle.p9_step.specs.Open.{is_in_use}
use Rattle.p9_step.specs.Request.{request_of}
use Rattle.p9_step.specs.State.{session_at}
use Rattle.p9_requests.specs.Answers.{request_view}
use Rattle.p9_requests.specs.Taken.{wants_taken_file}
use Rattle.p9_requests.proofs.Among.{among-none, among-request, iounit_of-small}
use Rattle.p9_requests.proofs.Rooms.{data-room}
use Rattle.p9_step.proofs.Settled.{fits-of}
use Rattle.p9_requests.proofs.answer.answer.Goals as goal

pub returns-in_err-request-clause-answer : goal.returns-in_err-request-clause-answer
returns-in_err-request-clause-answer g c =
    let test = is_at (nat_cmp c.args.name) in
    let rows = c.args.sessions.now.entries in
    let its = c.unwrap-session.result.now in
    let found : lookup test rows ≡ Some its =
    sym c.get_mut.ensures.value ∙ ap option_copied_mut c.unwrap-session.ensures in
    let there : session_at c.args.name (sessions_in rows) ≡ Some its.session =
    session-there c.args.name rows its found in
    let unchanged : (c.get_mut.follows.lender its).entries ≡ rows =
    (c.get_mut.follows.holds its).0 ∙ set_value-same test rows its found in
    let is : Err c.in_err-request.field-0.0 ≡ request_of its.session c.args.frame.now =
    sym (ap request_view c.in_err-request.was) ∙ c.request_of.ensures in
    let p = err_from_is_err_and c.from_residual.result c.from_residual.ensures.1 in
    rw (p.1, p.2, unchanged)
    (among-none c.args.setting.now c.args.forest.now
    (sessions_in rows) c.args.name c.args.clock its.session c.args.frame.now
    c.in_err-request.field-0.0 there is)

pub returns-in_err-request-clause-channels : goal.returns-in_err-request-clause-channels
returns-in_err-request-clause-channels g c =
    let test = is_at (nat_cmp c.args.name) in
    let rows = c.args.sessions.now.entries in
    let its = c.unwrap-session.result.now in
    let found : lookup test rows ≡ Some its =
    sym c.get_mut.ensures.value ∙ ap option_copied_mut c.unwrap-session.ensures in
    let unchanged : (c.get_mut.follows.lender its).entries ≡ rows =
    (c.get_mut.follows.holds its).0 ∙ set_value-same test rows its found in
    subst (SessionsFit c.args.setting.now.table) (sym unchanged) c.requires.channels

pub exclusive_file_wanted-requires : goal.exclusive_file_wanted-requires
exclusive_file_wanted-requires g c =
    let test = is_at (nat_cmp c.args.name) in
    let rows = c.args.sessions.now.entries in
    let its = c.unwrap-session.result.now in
    let found : lookup test rows ≡ Some its =
    sym c.get_mut.ensures.value ∙ ap option_copied_mut c.unwrap-session.ensures in
    fits-lookup c.args.setting.now.table test rows its c.requires.channels found

pub message-requires-clause-channels : goal.message-requires-clause-channels
message-requires-clause-channels g c =
    let test = is_at (nat_cmp c.args.name) in
    let rows = c.args.sessions.now.entries in
    let its = c.unwrap-session.result.now in
    let found : lookup test rows ≡ Some its =
    sym c.get_mut.ensures.value ∙ ap option_copied_mut c.unwrap-session.ensures in
    fits-lookup c.args.setting.now.table test rows its c.requires.channels found

pub message-requires-clause-fids : goal.message-requires-clause-fids
message-requires-clause-fids g c =
    let test = is_at (nat_cmp c.args.name) in
    let rows = c.args.sessions.now.entries in
    let its = c.unwrap-session.result.now in
    let found : lookup test rows ≡ Some its =
    sym c.get_mut.ensures.value ∙ ap option_copied_mut c.unwrap-session.ensures in
    let there : session_at c.args.name (sessions_in rows) ≡ Some its.session =
    session-there c.args.name rows its found in
    let sound = rw there at c.requires.sound in
    fits-of c.args.setting.now c.args.forest.now its.session.fids
    sound.each

pub returns-in_default-clause-channels : goal.returns-in_default-clause-channels
returns-in_default-clause-channels g c =
    let test = is_at (nat_cmp c.args.name) in
    let rows = c.args.sessions.now.entries in
    let its = c.unwrap-session.result.now in
    let found : lookup test rows ≡ Some its =
    sym c.get_mut.ensures.value ∙ ap option_copied_mut c.unwrap-session.ensures in
    subst (SessionsFit c.args.setting.now.table)
    (sym (c.get_mut.follows.holds c.message.new.session).0)
    (fits-set c.args.setting.now.table test rows c.message.new.session c.requires.channels
    c.message.ensures.channels)

pub returns-in_default-clause-answer : goal.returns-in_default-clause-answer
returns-in_default-clause-answer g c =
    let test = is_at (nat_cmp c.args.name) in
    let rows = c.args.sessions.now.entries in
    let its = c.unwrap-session.result.now in
    let found : lookup test rows ≡ Some its =
    sym c.get_mut.ensures.value ∙ ap option_copied_mut c.unwrap-session.ensures in
    let there : session_at c.args.name (sessions_in rows) ≡ Some its.session =
    session-there c.args.name rows its found in
    let is : Ok (t_view c.in_ok-request.request) ≡ request_of its.session c.args.frame.now =
    sym (ap request_view c.in_ok-request.was) ∙ c.request_of.ensures in
    let takes : false
    ≡ wants_taken_file c.args.setting.now c.args.forest.now
    (sessions_in rows) its.session (t_view c.in_ok-request.request) =
    sym (c.exclusive_file_wanted.ensures (sessions_in rows)
    ∙ ap (λ o. option_map_or
    (λ at. is_in_use c.args.setting.now.table at (sessions_in rows)) o false)
    c.in_default.is) in
    let behind : drop read_header (c.split_at_mut-buffer.result.0.now ++ c.message.new.buffer)
    ≡ c.message.new.buffer = subst
    (λ n. drop n (c.split_at_mut-buffer.result.0.now ++ c.message.new.buffer)
    ≡ c.message.new.buffer) c.split_at_mut-buffer.ensures.front_len
    (drop-append_seam c.split_at_mut-buffer.result.0.now c.message.new.buffer) in
    rw behind
    (among-request c.args.setting.now c.args.forest.now
    c.message.new.forest (sessions_in rows)
    (sessions_in (c.get_mut.follows.lender c.message.new.session).entries) c.args.name c.args.clock
    its.session its.session c.message.new.session.session
    c.args.frame.now (t_view c.in_ok-request.request) false _ there there is takes
    (ap sessions_in (c.get_mut.follows.holds c.message.new.session).0
    ∙ set-mapped session_in test rows c.message.new.session) (c.message.ensures.answer (sessions_in rows)))

pub is_in_use-taken-requires : goal.is_in_use-taken-requires
is_in_use-taken-requires g c =
    let test = is_at (nat_cmp c.args.name) in
    let rows = c.args.sessions.now.entries in
    let its = c.unwrap-session.result.now in
    let found : lookup test rows ≡ Some its =
    sym c.get_mut.ensures.value ∙ ap option_copied_mut c.unwrap-session.ensures in
    let unchanged : (c.get_mut.follows.lender its).entries ≡ rows =
    (c.get_mut.follows.holds its).0 ∙ set_value-same test rows its found in
    subst (SessionsFit c.setting.inside.table) (sym unchanged)
    (rw (← c.setting.view_is) at c.requires.channels)

pub message-requires-2-clause-channels : goal.message-requires-2-clause-channels
message-requires-2-clause-channels g c =
    let test = is_at (nat_cmp c.args.name) in
    let rows = c.args.sessions.now.entries in
    let its = c.unwrap-session.result.now in
    let found : lookup test rows ≡ Some its =
    sym c.get_mut.ensures.value ∙ ap option_copied_mut c.unwrap-session.ensures in
    let unchanged : (c.get_mut.follows.lender its).entries ≡ rows =
    (c.get_mut.follows.holds its).0 ∙ set_value-same test rows its found in
    let same = c.unwrap-session-2.result.now in
    let found_again : lookup test rows ≡ Some same = ap (lookup test) (sym unchanged)
    ∙ sym c.get_mut-2.ensures.value ∙ ap option_copied_mut c.unwrap-session-2.ensures in
    fits-lookup c.args.setting.now.table test rows same c.requires.channels found_again

pub message-requires-2-clause-fids : goal.message-requires-2-clause-fids
message-requires-2-clause-fids g c =
    let test = is_at (nat_cmp c.args.name) in
    let rows = c.args.sessions.now.entries in
    let its = c.unwrap-session.result.now in
    let found : lookup test rows ≡ Some its =
    sym c.get_mut.ensures.value ∙ ap option_copied_mut c.unwrap-session.ensures in
    let unchanged : (c.get_mut.follows.lender its).entries ≡ rows =
    (c.get_mut.follows.holds its).0 ∙ set_value-same test rows its found in
    let same = c.unwrap-session-2.result.now in
    let found_again : lookup test rows ≡ Some same = ap (lookup test) (sym unchanged)
    ∙ sym c.get_mut-2.ensures.value ∙ ap option_copied_mut c.unwrap-session-2.ensures in
    let again : session_at c.args.name (sessions_in rows) ≡ Some same.session =
    session-there c.args.name rows same found_again in
    let sound = rw again at c.requires.sound in
    fits-of c.args.setting.now c.args.forest.now same.session.fids
    sound.each

pub returns-clause-channels : goal.returns-clause-channels
returns-clause-channels g c =
    let test = is_at (nat_cmp c.args.name) in
    let rows = c.args.sessions.now.entries in
    let its = c.unwrap-session.result.now in
    let found : lookup test rows ≡ Some its =
    sym c.get_mut.ensures.value ∙ ap option_copied_mut c.unwrap-session.ensures in
    let unchanged : (c.get_mut.follows.lender its).entries ≡ rows =
    (c.get_mut.follows.holds its).0 ∙ set_value-same test rows its found in
    subst (SessionsFit c.args.setting.now.table)
    (sym ((c.get_mut-2.follows.holds c.message-2.new.session).0
    ∙ ap (λ rs. set_value test rs c.message-2.new.session) unchanged))
    (fits-set c.args.setting.now.table test rows c.message-2.new.session c.requires.channels
    c.message-2.ensures.channels)

pub returns-clause-answer : goal.returns-clause-answer
returns-clause-answer g c =
    let test = is_at (nat_cmp c.args.name) in
    let rows = c.args.sessions.now.entries in
    let its = c.unwrap-session.result.now in
    let found : lookup test rows ≡ Some its =
    sym c.get_mut.ensures.value ∙ ap option_copied_mut c.unwrap-session.ensures in
    let there : session_at c.args.name (sessions_in rows) ≡ Some its.session =
    session-there c.args.name rows its found in
    let unchanged : (c.get_mut.follows.lender its).entries ≡ rows =
    (c.get_mut.follows.holds its).0 ∙ set_value-same test rows its found in
    let same = c.unwrap-session-2.result.now in
    let found_again : lookup test rows ≡ Some same = ap (lookup test) (sym unchanged)
    ∙ sym c.get_mut-2.ensures.value ∙ ap option_copied_mut c.unwrap-session-2.ensures in
    let again : session_at c.args.name (sessions_in rows) ≡ Some same.session =
    session-there c.args.name rows same found_again in
    let is : Ok (t_view c.in_ok-request.request) ≡ request_of its.session c.args.frame.now =
    sym (ap request_view c.in_ok-request.was) ∙ c.request_of.ensures in
    let used : c.is_in_use-taken.result
    ≡ is_in_use c.args.setting.now.table c.in-Some.at (sessions_in rows) =
    rw (← c.setting.view_is)
    (c.is_in_use-taken.ensures
    ∙ ap (λ rs. is_in_use c.setting.inside.table c.in-Some.at (sessions_in rs)) unchanged) in
    let takes : c.is_in_use-taken.result
    ≡ wants_taken_file c.args.setting.now c.args.forest.now
    (sessions_in rows) its.session (t_view c.in_ok-request.request) =
    used
    ∙ sym (c.exclusive_file_wanted.ensures (sessions_in rows)
    ∙ ap (λ o. option_map_or
    (λ at. is_in_use c.args.setting.now.table at (sessions_in rows)) o false)
    c.in-Some.is) in
    let behind : drop read_header (c.split_at_mut-buffer.result.0.now ++ c.message-2.new.buffer)
    ≡ c.message-2.new.buffer = subst
    (λ n. drop n (c.split_at_mut-buffer.result.0.now ++ c.message-2.new.buffer)
    ≡ c.message-2.new.buffer) c.split_at_mut-buffer.ensures.front_len
    (drop-append_seam c.split_at_mut-buffer.result.0.now c.message-2.new.buffer) in
    rw behind
    (among-request c.args.setting.now c.args.forest.now
    c.message-2.new.forest (sessions_in rows)
    (sessions_in (c.get_mut-2.follows.lender c.message-2.new.session).entries) c.args.name
    c.args.clock its.session same.session c.message-2.new.session.session
    c.args.frame.now (t_view c.in_ok-request.request) c.is_in_use-taken.result _ there again is
    takes
    (ap sessions_in ((c.get_mut-2.follows.holds c.message-2.new.session).0
    ∙ ap (λ rs. set_value test rs c.message-2.new.session) unchanged)
    ∙ set-mapped session_in test rows c.message-2.new.session)
    (c.message-2.ensures.answer (sessions_in rows)))

pub unwrap-session-requires : goal.unwrap-session-requires
unwrap-session-requires g c =
    session-held c.args.name c.args.sessions.now.entries c.get_mut.result c.get_mut.ensures.value
    c.requires.live

pub message-requires-clause-buffer : goal.message-requires-clause-buffer
message-requires-clause-buffer g c =
    let test = is_at (nat_cmp c.args.name) in
    let rows = c.args.sessions.now.entries in
    let its = c.unwrap-session.result.now in
    let found : lookup test rows ≡ Some its =
    sym c.get_mut.ensures.value ∙ ap option_copied_mut c.unwrap-session.ensures in
    let there : session_at c.args.name (sessions_in rows) ≡ Some its.session =
    session-there c.args.name rows its found in
    let sound = rw there at c.requires.sound in
    let most = data-room its.session sound.msize in
    let enough = rw there at c.requires.room in
    let back = c.split_at_mut-buffer.ensures.back_len in
    omega (arith, most, enough, back)

pub message-requires-clause-room : goal.message-requires-clause-room
message-requires-clause-room g c =
    let test = is_at (nat_cmp c.args.name) in
    let rows = c.args.sessions.now.entries in
    let its = c.unwrap-session.result.now in
    let found : lookup test rows ≡ Some its =
    sym c.get_mut.ensures.value ∙ ap option_copied_mut c.unwrap-session.ensures in
    let there : session_at c.args.name (sessions_in rows) ≡ Some its.session =
    session-there c.args.name rows its found in
    let sound = rw there at c.requires.sound in
    iounit_of-small its.session sound.msize

pub returns-in_default-clause-data : goal.returns-in_default-clause-data
returns-in_default-clause-data g c =
    let test = is_at (nat_cmp c.args.name) in
    let rows = c.args.sessions.now.entries in
    let its = c.unwrap-session.result.now in
    let found : lookup test rows ≡ Some its =
    sym c.get_mut.ensures.value ∙ ap option_copied_mut c.unwrap-session.ensures in
    let there : session_at c.args.name (sessions_in rows) ≡ Some its.session =
    session-there c.args.name rows its found in
    rw there c.message.ensures.data

pub message-requires-2-clause-buffer : goal.message-requires-2-clause-buffer
message-requires-2-clause-buffer g c =
    let test = is_at (nat_cmp c.args.name) in
    let rows = c.args.sessions.now.entries in
    let its = c.unwrap-session.result.now in
    let found : lookup test rows ≡ Some its =
    sym c.get_mut.ensures.value ∙ ap option_copied_mut c.unwrap-session.ensures in
    let unchanged : (c.get_mut.follows.lender its).entries ≡ rows =
    (c.get_mut.follows.holds its).0 ∙ set_value-same test rows its found in
    let same = c.unwrap-session-2.result.now in
    let found_again : lookup test rows ≡ Some same = ap (lookup test) (sym unchanged)
    ∙ sym c.get_mut-2.ensures.value ∙ ap option_copied_mut c.unwrap-session-2.ensures in
    let again : session_at c.args.name (sessions_in rows) ≡ Some same.session =
    session-there c.args.name rows same found_again in
    let sound = rw again at c.requires.sound in
    let most = data-room same.session sound.msize in
    let enough = rw again at c.requires.room in
    let back = c.split_at_mut-buffer.ensures.back_len in
    omega (arith, most, enough, back)

pub message-requires-2-clause-room : goal.message-requires-2-clause-room
message-requires-2-clause-room g c =
    let test = is_at (nat_cmp c.args.name) in
    let rows = c.args.sessions.now.entries in
    let its = c.unwrap-session.result.now in
    let found : lookup test rows ≡ Some its =
    sym c.get_mut.ensures.value ∙ ap option_copied_mut c.unwrap-session.ensures in
    let unchanged : (c.get_mut.follows.lender its).entries ≡ rows =
    (c.get_mut.follows.holds its).0 ∙ set_value-same test rows its found in
    let same = c.unwrap-session-2.result.now in
    let found_again : lookup test rows ≡ Some same = ap (lookup test) (sym unchanged)
    ∙ sym c.get_mut-2.ensures.value ∙ ap option_copied_mut c.unwrap-session-2.ensures in
    let again : session_at c.args.name (sessions_in rows) ≡ Some same.session =
    session-there c.args.name rows same found_again in
    let sound = rw again at c.requires.sound in
    iounit_of-small same.session sound.msize

pub returns-clause-data : goal.returns-clause-data
returns-clause-data g c =
    let test = is_at (nat_cmp c.args.name) in
    let rows = c.args.sessions.now.entries in
    let its = c.unwrap-session.result.now in
    let found : lookup test rows ≡ Some its =
    sym c.get_mut.ensures.value ∙ ap option_copied_mut c.unwrap-session.ensures in
    let unchanged : (c.get_mut.follows.lender its).entries ≡ rows =
    (c.get_mut.follows.holds its).0 ∙ set_value-same test rows its found in
    let same = c.unwrap-session-2.result.now in
    let found_again : lookup test rows ≡ Some same = ap (lookup test) (sym unchanged)
    ∙ sym c.get_mut-2.ensures.value ∙ ap option_copied_mut c.unwrap-session-2.ensures in
    let again : session_at c.args.name (sessions_in rows) ≡ Some same.session =
    session-there c.args.name rows same found_again in
    rw again c.message-2.ensures.data
