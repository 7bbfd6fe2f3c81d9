use Rattle.std.proofs.Common.{Result, Ok, Err, OnOk, ◌≡◌, ◌+◌, ℕ, List, take, ap, subst, ◌∙◌}
use Rattle.p9_log.specs.declared.crash.Crash.{Crash}
use Rattle.p9_log.specs.declared.crash.Crash.TheVariants.{Killed, Stopped}
use Rattle.p9_log.specs.Blocks.{content_in}
use Rattle.p9_log.specs.Device.{Only}
use Rattle.p9_log.specs.Log.{IsKept, IsRecovered, StillHas}
use Rattle.p9_log.specs.Reading.{IsCutBehind, IsFound}
use Rattle.p9_log.proofs.Kept.{follows}
use Rattle.p9_log.proofs.Moments.{joined, weaker}
use Rattle.p9_log.proofs.Repaired.{cut-recovered, is_cut, kept-recovered, open-runs, open-same, still-recovered}
use Rattle.p9_log.proofs.repair.repair.Goals as goal

-- both readings of what was brought to the disk
both : {T E : Type 0} (r : Result T E) (new content want : List ℕ) → content ≡ want
    → OnOk r (content_in Killed new ≡ content) → OnOk r (content_in Stopped new ≡ content)
    → OnOk r ((next : Crash) → content_in next new ≡ want)
both (Ok x) new content want is killed stopped = λ next. go next
  where
    go : (next : Crash) → content_in next new ≡ want
    go Killed = killed ∙ is
    go Stopped = stopped ∙ is
both (Err e) new content want is killed stopped = tt

pub returns-in_err-cut_behind-clause-any_moment : goal.returns-in_err-cut_behind-clause-any_moment
returns-in_err-cut_behind-clause-any_moment g c =
    let D = g.D.Device in
    let found = c.args.found.now in
    let start = c.args.device.now in
    let mid = c.cut_behind.new.device in
    let cut = λ (kind : Crash). weaker D.moment D.left_since kind (IsCutBehind found.end (D.seen start)) (IsRecovered c.args.how kind (D.seen start)) start mid
    (c.cut_behind.ensures.any_moment kind) (cut-recovered c.args.how (D.seen start) found.bytes.items found.end found.behind found.kept c.requires.found kind) in
    cut

pub keep-requires-clause-split : goal.keep-requires-clause-split
keep-requires-clause-split g c =
    let D = g.D.Device in
    let found = c.args.found.now in
    let start = c.args.device.now in
    let mid = c.cut_behind.new.device in
    let f = subst (λ k. IsFound c.args.how (D.seen start) found.bytes.items found.end found.behind k) c.in-Some.is c.requires.found in
    let seen = c.in_ok-cut_behind.ensures.seen in
    (is_cut c.args.how (D.seen start) found.bytes.items found.end found.behind c.in-Some.kept f (D.seen mid) seen).split

pub mark_end-requires-clause-blocks : goal.mark_end-requires-clause-blocks
mark_end-requires-clause-blocks g c =
    let D = g.D.Device in
    let found = c.args.found.now in
    let start = c.args.device.now in
    let mid = c.cut_behind.new.device in
    let f = subst (λ k. IsFound c.args.how (D.seen start) found.bytes.items found.end found.behind k) c.in-None.is c.requires.found in
    let seen = c.in_ok-cut_behind.ensures.seen in
    open-runs c.args.how (D.seen start) found.bytes.items found.end found.behind f (D.seen mid) seen

pub returns-in-Some-clause-content : goal.returns-in-Some-clause-content
returns-in-Some-clause-content g c =
    let D = g.D.Device in
    let found = c.args.found.now in
    let start = c.args.device.now in
    let mid = c.cut_behind.new.device in
    let f = subst (λ k. IsFound c.args.how (D.seen start) found.bytes.items found.end found.behind k) c.in-Some.is c.requires.found in
    let seen = c.in_ok-cut_behind.ensures.seen in
    let cut = is_cut c.args.how (D.seen start) found.bytes.items found.end found.behind c.in-Some.kept f (D.seen mid) seen in
    let new = D.seen c.keep.new.device in
    both c.keep.result new (content_in Killed (D.seen mid)) (content_in c.args.how (D.seen start)) cut.written c.keep.ensures.written c.keep.ensures.synced

pub returns-in-Some-clause-front : goal.returns-in-Some-clause-front
returns-in-Some-clause-front g c =
    let D = g.D.Device in
    let found = c.args.found.now in
    let start = c.args.device.now in
    let mid = c.cut_behind.new.device in
    let f = subst (λ k. IsFound c.args.how (D.seen start) found.bytes.items found.end found.behind k) c.in-Some.is c.requires.found in
    let seen = c.in_ok-cut_behind.ensures.seen in
    follows c.keep.result _ _ c.keep.ensures.durable (λ (all : Only (D.seen c.keep.new.device) (D.may_leave c.keep.new.device Stopped)) f now. ap (take (found.end + 1)) (all f now))

pub returns-in-Some-clause-any_moment : goal.returns-in-Some-clause-any_moment
returns-in-Some-clause-any_moment g c =
    let D = g.D.Device in
    let found = c.args.found.now in
    let start = c.args.device.now in
    let mid = c.cut_behind.new.device in
    let f = subst (λ k. IsFound c.args.how (D.seen start) found.bytes.items found.end found.behind k) c.in-Some.is c.requires.found in
    let seen = c.in_ok-cut_behind.ensures.seen in
    let cut = λ (kind : Crash). weaker D.moment D.left_since kind (IsCutBehind found.end (D.seen start)) (IsRecovered c.args.how kind (D.seen start)) start mid
    (c.cut_behind.ensures.any_moment kind) (cut-recovered c.args.how (D.seen start) found.bytes.items found.end found.behind found.kept c.requires.found kind) in
    λ kind. joined D.moment D.may_leave D.left_since kind (IsRecovered c.args.how kind (D.seen start)) start mid c.keep.new.device (cut kind)
    (weaker D.moment D.left_since kind (IsKept kind (D.seen mid)) (IsRecovered c.args.how kind (D.seen start)) mid c.keep.new.device (c.keep.ensures.any_moment kind)
    (kept-recovered c.args.how (D.seen start) found.bytes.items found.end found.behind c.in-Some.kept f (D.seen mid) seen kind))

pub returns-in-None-clause-content : goal.returns-in-None-clause-content
returns-in-None-clause-content g c =
    let D = g.D.Device in
    let found = c.args.found.now in
    let start = c.args.device.now in
    let mid = c.cut_behind.new.device in
    let f = subst (λ k. IsFound c.args.how (D.seen start) found.bytes.items found.end found.behind k) c.in-None.is c.requires.found in
    let seen = c.in_ok-cut_behind.ensures.seen in
    follows c.mark_end.result _ _ c.mark_end.ensures.content (λ (has : (next : Crash) → content_in next (D.seen c.mark_end.new.device) ≡ content_in Stopped (D.seen mid)) next. has next ∙ open-same c.args.how (D.seen start) found.bytes.items found.end found.behind f (D.seen mid) seen)

pub returns-in-None-clause-any_moment : goal.returns-in-None-clause-any_moment
returns-in-None-clause-any_moment g c =
    let D = g.D.Device in
    let found = c.args.found.now in
    let start = c.args.device.now in
    let mid = c.cut_behind.new.device in
    let f = subst (λ k. IsFound c.args.how (D.seen start) found.bytes.items found.end found.behind k) c.in-None.is c.requires.found in
    let seen = c.in_ok-cut_behind.ensures.seen in
    let cut = λ (kind : Crash). weaker D.moment D.left_since kind (IsCutBehind found.end (D.seen start)) (IsRecovered c.args.how kind (D.seen start)) start mid
    (c.cut_behind.ensures.any_moment kind) (cut-recovered c.args.how (D.seen start) found.bytes.items found.end found.behind found.kept c.requires.found kind) in
    λ kind. joined D.moment D.may_leave D.left_since kind (IsRecovered c.args.how kind (D.seen start)) start mid c.mark_end.new.device (cut kind)
    (weaker D.moment D.left_since kind (StillHas kind (content_in Stopped (D.seen mid))) (IsRecovered c.args.how kind (D.seen start)) mid c.mark_end.new.device (c.mark_end.ensures.any_moment kind)
    (still-recovered c.args.how (D.seen start) found.bytes.items found.end found.behind f (D.seen mid) seen kind))
