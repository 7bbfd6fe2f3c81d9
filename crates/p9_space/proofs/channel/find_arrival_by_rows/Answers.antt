use Rattle.std.proofs.Common.{◌≡◌, Ok, Err, IfOk, IfErr, sym, subst, codes, ◌∙◌}
use Rattle.std.specs.Option.{option_map}
use Rattle.std.proofs.lemmas.Slice.Eq.{bytes_eq-Decides}
use Rattle.p9_table.specs.Rights.{who_view}
use Rattle.p9_table.specs.Trail.{here, upward}
use Rattle.p9_space.specs.Walk.{step_of}
use Rattle.p9_space.proofs.ChannelRows.{row-read}
use Rattle.p9_space.proofs.channel.find_arrival_by_rows.Goals as goal

pub arrive_up-requires-clause-row : goal.arrive_up-requires-clause-row
arrive_up-requires-clause-row g c =
    row-read c.args.table.now c.args.trail.now c.args.rows.now c.position_above.result
    (here (upward c.args.trail.now)) c.requires.rows c.position_above.ensures.above

pub returns-then-eq-clause-ok : goal.returns-then-eq-clause-ok
returns-then-eq-clause-ok g c =
    let who = option_map who_view c.args.who in
    let up : c.args.name.now ≡ codes ".." =
    (bytes_eq-Decides c.args.name.now (codes "..")).0 (sym c.eq.ensures ∙ c.if-eq.true) in
    subst (λ name. IfOk c.arrive_up.result (λ arrival. step_of c.args.forest.now c.args.table.now
    who c.args.trail.now name ≡ Ok arrival.step)) (sym up) (c.arrive_up.ensures.ok who)

pub returns-then-eq-clause-err : goal.returns-then-eq-clause-err
returns-then-eq-clause-err g c =
    let who = option_map who_view c.args.who in
    let up : c.args.name.now ≡ codes ".." =
    (bytes_eq-Decides c.args.name.now (codes "..")).0 (sym c.eq.ensures ∙ c.if-eq.true) in
    subst (λ name. IfErr c.arrive_up.result (λ fault. step_of c.args.forest.now c.args.table.now
    who c.args.trail.now name ≡ Err fault)) (sym up) (c.arrive_up.ensures.err who)

pub arrive_up-requires-clause-members : goal.arrive_up-requires-clause-members
arrive_up-requires-clause-members g c = c.as_slice.ensures ∙ c.last_members-members.ensures

pub arrive_down-requires-clause-members : goal.arrive_down-requires-clause-members
arrive_down-requires-clause-members g c = c.as_slice-else-eq.ensures ∙ c.last_members-members.ensures

pub arrive_down-requires-clause-other : goal.arrive_down-requires-clause-other
arrive_down-requires-clause-other g c = sym c.eq.ensures ∙ c.if-eq.false

pub returns-then-eq-clause-row : goal.returns-then-eq-clause-row
returns-then-eq-clause-row g c = c.arrive_up.ensures.row

pub returns-then-eq-clause-at : goal.returns-then-eq-clause-at
returns-then-eq-clause-at g c = c.arrive_up.ensures.at

pub returns-then-eq-clause-file : goal.returns-then-eq-clause-file
returns-then-eq-clause-file g c = c.arrive_up.ensures.file

pub returns-then-eq-clause-places : goal.returns-then-eq-clause-places
returns-then-eq-clause-places g c = c.arrive_up.ensures.places

pub returns-else-eq-clause-ok : goal.returns-else-eq-clause-ok
returns-else-eq-clause-ok g c = c.arrive_down.ensures.ok

pub returns-else-eq-clause-err : goal.returns-else-eq-clause-err
returns-else-eq-clause-err g c = c.arrive_down.ensures.err

pub returns-else-eq-clause-row : goal.returns-else-eq-clause-row
returns-else-eq-clause-row g c = c.arrive_down.ensures.row

pub returns-else-eq-clause-at : goal.returns-else-eq-clause-at
returns-else-eq-clause-at g c = c.arrive_down.ensures.at

pub returns-else-eq-clause-file : goal.returns-else-eq-clause-file
returns-else-eq-clause-file g c = c.arrive_down.ensures.file

pub returns-else-eq-clause-places : goal.returns-else-eq-clause-places
returns-else-eq-clause-places g c = c.arrive_down.ensures.places
