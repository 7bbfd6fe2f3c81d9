-- Inputs that are prepared are well-formed, and `play` prints the same over alike ones.
use Rattle.std.proofs.Common.{◌≡◌, ℕ, ◌<◌, Bool, true, List, [], ◌++◌, Option, Some, None, Result}
use Rattle.std.proofs.Common.{Ok, Err, length, refl, sym, ap, subst, ◌∙◌, arith}
use Rattle.std.specs.Prelude.{◌↔◌, unwrap_or}
use Rattle.std.specs.Option.{option_map_or}
use Rattle.std.specs.List.{AllByRecursion}
use Rattle.std.specs.Str.{is_utf8}
use Rattle.p9_base.specs.declared.node_ref.NodeRef.{NodeRef}
use Rattle.p9_space.specs.Given.{is_table_given}
use Rattle.p9_cert.specs.Gap.{first_gap}
use Rattle.p9_world.specs.Read.{world_of}
use Rattle.p9_world.specs.World.{World}
use Rattle.p9_nsline.specs.Space.{Report}
use Rattle.p9_nsfile.specs.Run.{run_of}
use Rattle.p9_step.specs.Event.{Event, IsEvent}
use Rattle.p9_step.specs.State.{Setting, State}
use Rattle.p9_guard.specs.Sentence.{IsWellFormed}
use Rattle.p9_guard.specs.Served.{served}
use Rattle.p9_guard_laws.specs.Alike.{AreAlike}
use Rattle.p9_guard_laws.proofs.Begins.{alike_verified}
use Rattle.p9_guard.proofs.Sentences.{starts-guarded}
use Rattle.p9_prepared.specs.Bundle.{Texts, bundle_of}
use Rattle.p9_commands.specs.Command.{CommandEnds, Printed, WordEnds, asked, needs_of}
use Rattle.p9_play.specs.Laws.{AlikeWorldsPlayAlike}
use Rattle.p9_play.specs.Guards.{exported}
use Rattle.p9_prepared.specs.NameSpace.{NameSpace, environment_of, gap_over, name_space}
use Rattle.p9_prepared.specs.NameSpace.{or_bad_operation, space_in, space_over, world_in}
use Rattle.p9_play.specs.Play.{play_text}
use Rattle.p9_prepared.specs.Prepared.{Prepared, certificate_in, gap_in, opened, prepared_of}
use Rattle.p9_prepared.specs.Prepared.{rest_in, script_in, with_reports}
use Rattle.p9_prepared.specs.Refusal.{or_refused}
use Rattle.p9_prepared.specs.Script.{script_of}
use Rattle.p9_prepared.specs.Small.{small_world}
use Rattle.p9_commands.specs.declared.command.Command.TheVariants.{Play}
use Rattle.p9_prepared.specs.declared.prepared.Needs.{Needs}
use Rattle.p9_prepared.specs.declared.refusal.Refusal.{Refusal}
use Rattle.p9_prepared.specs.declared.refusal.Refusal.TheVariants.{BadEvent, BadOperation}
use Rattle.p9_prepared.specs.declared.refusal.Refusal.TheVariants.{BadSection, BadWorld}
use Rattle.p9_input_laws.specs.Laws.{AlikeInputsAreExportedAlike, IsWellFormedInput}
use Rattle.p9_input_laws.specs.Laws.{MeetThePremises, PlayAlike, PreparedInputsAreWellFormed}
use Rattle.p9_input_laws.specs.Laws.{play_word}
use Rattle.p9_input_laws.proofs.Events.{script-fine}
use Rattle.p9_input_laws.proofs.Results.{and_then-ok, need-ok, same-ok}
use Rattle.p9_input_laws.proofs.Small.{small-read}
use Rattle.p9_input_laws.proofs.Tables.{run-given, run-sound}
use Rattle.p9_input_laws.proofs.Worlds.{IsRead, world-read}

-- What is prepared.

-- a value that was not refused
or_refused-ok : {X E : Type 0} (refusal : E → Refusal) (r : Result X E) (x : X)
    → or_refused refusal r ≡ Ok x → r ≡ Ok x
or_refused-ok refusal (Ok y) x is = ap Ok (same-ok y x is)
or_refused-ok refusal (Err bad) x is = absurd (cc)

with_reports-ok : {X : Type 0} (reports : List Report) (r : Result X Refusal) (x : X)
    → with_reports reports r ≡ Ok x → r ≡ Ok x
with_reports-ok reports (Ok y) x is = ap Ok (same-ok y x is)
with_reports-ok reports (Err refusal) x is = absurd (cc)

section-read : (text : Option (List ℕ)) (w : World) → world_in text ≡ Ok w
    → IsRead w × (0 < length w.servers)
section-read None w is =
    subst (λ v. IsRead v × (0 < length v.servers)) (same-ok small_world w is)
    (small-read, omega arith)
section-read (Some text) w is =
    world-read text w (or_refused-ok (λ bad. BadWorld bad.0 bad.1) (world_of text) w is)

-- a well-formed world with a well-formed table, which names only nodes that were made
record IsFine (space : NameSpace) : Type 0 where
  well : IsWellFormed space.world space.table
  given : is_table_given space.world.forest space.table ≡ true

space-fine : (world ns : Option (List ℕ)) (space : NameSpace) → space_in world ns ≡ Ok space
    → IsFine space
space-fine world ns space is =
    let text = unwrap_or ns [] in
    let a = and_then-ok (world_in world) (space_over text) space is in
    let run = run_of (environment_of a.0) text [] in
    let b = and_then-ok (or_bad_operation run) _ space a.2 in
    let ran = or_refused-ok (λ bad. BadOperation bad.0 bad.1) run b.0 b.1 in
    let read = section-read world a.0 a.1 in
    let named = (read.0).world.named in
    subst IsFine (same-ok (name_space a.0 b.0) space b.2) (record {
      well = record {
        named = (read.0).world;
        forest = (read.0).forest;
        setting = record {
          users = (read.0).users;
          groups = (read.0).groups;
          table = run-sound (environment_of a.0) text b.0 ran;
        };
      };
      given =
          run-given (environment_of a.0) (read.0).forest (omega (arith, read.1, named))
          (omega (arith, named)) text b.0 ran;
    })

opened-fine : (input : List ℕ) (found : Texts × NameSpace) → opened input ≡ Ok found
    → IsFine found.1
opened-fine input found is =
    let a = need-ok (is_utf8 input) _ _ found is in
    let b = and_then-ok (or_refused BadSection (bundle_of input)) _ found a.1 in
    let c = and_then-ok (space_in (b.0).world (b.0).ns) _ found b.2 in
    subst (λ (f : Texts × NameSpace). IsFine f.1) (same-ok (b.0, c.0) found c.2)
    (space-fine (b.0).world (b.0).ns c.0 c.1)

rest-fine : (needs : Needs) (texts : Texts) (rest : Option (List NodeRef) × List Event)
    → rest_in needs texts ≡ Ok rest → AllByRecursion IsEvent rest.1
rest-fine needs texts rest is =
    let a = and_then-ok (certificate_in needs texts.cert) _ rest is in
    let b = and_then-ok (script_in texts) _ rest a.2 in
    let script = script_of (unwrap_or texts.script []) in
    subst (λ (r : Option (List NodeRef) × List Event). AllByRecursion IsEvent r.1)
    (same-ok (a.0, b.0) rest b.2)
    (script-fine (unwrap_or texts.script []) b.0 (or_refused-ok BadEvent script b.0 b.1))

pub prepared-well : PreparedInputsAreWellFormed
prepared-well needs input prepared is =
    let a = and_then-ok (with_reports [] (opened input)) _ prepared is in
    let texts = (a.0).0 in
    let space = (a.0).1 in
    let b = and_then-ok (with_reports space.reports (rest_in needs texts)) _ prepared a.2 in
    let fine = opened-fine input a.0 (with_reports-ok [] (opened input) a.0 a.1) in
    subst IsWellFormedInput
    (same-ok (record { space = space; rows = (b.0).0; events = (b.0).1 }) prepared b.2) (record {
      space = fine.well;
      given = fine.given;
      events =
          rest-fine needs texts b.0 (with_reports-ok space.reports (rest_in needs texts) b.0 b.1);
    })

-- What is played.

pub exported-alike : AlikeInputsAreExportedAlike
exported-alike input other a b both = record {
  sound = (prepared-well (needs_of Play) other b both.second).space.forest;
  setting = both.alike.setting;
  sessions = refl;
  others = both.alike.others;
  members = both.alike.members;
  places = tt;
}

module _ (law : AlikeWorldsPlayAlike) (input other : List ℕ) (a b : Prepared)
    (meet : MeetThePremises input other a b) where
  its : IsWellFormedInput a
  its = prepared-well (needs_of Play) input a meet.prepared.first

  alike : AreAlike a.space.world.hidden (exported a.space) (exported b.space)
  alike = exported-alike input other a b meet.prepared

  -- the state of the second, by the mount table of the first
  same-state : exported b.space ≡ served b.space.world a.space.table
  same-state =
      ap (λ (s : Setting). served b.space.world s.table) meet.prepared.alike.setting

  same-text : (marks : List Bool)
      → play_text (exported b.space) b.events marks ≡ play_text (exported a.space) a.events marks
  same-text marks =
      ap (λ (events : List Event). play_text (exported b.space) events marks)
      meet.prepared.alike.events
      ∙ ap (λ (s : State). play_text s a.events marks) same-state
      ∙ law a.space.world b.space.world a.space.table meet.certificate its.space meet.closed
      (subst (AreAlike a.space.world.hidden (exported a.space)) same-state alike) a.events marks
      its.events

  -- neither has a gap
  gap-first : gap_in a ≡ None
  gap-first =
      ap (λ (rows : Option (List NodeRef)). option_map_or (gap_over a.space) rows None) meet.rows
      ∙ meet.closed

  gap-second : gap_in b ≡ None
  gap-second =
      ap (λ (rows : Option (List NodeRef)). option_map_or (gap_over b.space) rows None)
      (meet.prepared.alike.rows ∙ meet.rows)
      ∙ ap (λ (hidden : List NodeRef). first_gap (record {
        users = b.space.world.users;
        groups = b.space.world.groups;
        hidden = hidden;
      }) b.space.world.forest b.space.table meet.certificate) meet.prepared.alike.hidden
      ∙ (alike_verified a.space.world.hidden meet.certificate (exported a.space) (exported b.space)
      its.space.forest its.space.setting
      (starts-guarded a.space.world a.space.table meet.certificate its.space
      meet.closed).hidden_given alike).0 meet.closed

  asked-ok : (text : List ℕ) (p : Prepared) → prepared_of (needs_of Play) text ≡ Ok p
      → gap_in p ≡ None → asked Play text ≡ Ok p
  asked-ok text p prepared none = rw (prepared, none) refl

  -- as the one is played, so is the other
  plays : (c d : Prepared)
      → ((marks : List Bool)
      → play_text (exported d.space) d.events marks ≡ play_text (exported c.space) c.events marks)
      → d.space.reports ≡ c.space.reports → (status : ℕ) (p : Printed)
      → CommandEnds Play (Ok c) status p → CommandEnds Play (Ok d) status p
  plays c d same reports status p ends =
      let all = (ends.1).1 in (
        rw reports ends.0,
        (
          (ends.1).0,
          record {
            marks = all.marks;
            text_is =
                all.text_is
                ∙ ap (λ (text : List ℕ). p.out_before ++ text) (sym (same all.marks));
          },
        ),
      )

  -- the command ends over an input as over what it comes to
  over : (text : List ℕ) (c : Prepared) (status : ℕ) (p : Printed) → asked Play text ≡ Ok c
      → WordEnds play_word text status p ↔ CommandEnds Play (Ok c) status p
  over text c status p is = (
    λ ends. subst (λ r. CommandEnds Play r status p) is ends,
    λ ends. subst (λ r. CommandEnds Play r status p) (sym is) ends,
  )

  pub played-alike : PlayAlike input other a b
  played-alike =
      let first = asked-ok input a meet.prepared.first gap-first in
      let second = asked-ok other b meet.prepared.second gap-second in
      record {
        text = same-text;
        ends = λ reports status p. (
          λ ends. (over other b status p second).1
              (plays a b same-text reports status p ((over input a status p first).0 ends)),
          λ ends. (over input a status p first).1
              (plays b a (λ marks. sym (same-text marks)) (sym reports) status p
              ((over other b status p second).0 ends)),
        );
      }
