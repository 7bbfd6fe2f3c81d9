use Rattle.std.proofs.Common.{ap, refl, ◌++◌, ◌∙◌}
use Rattle.std.specs.String.{string_bytes}
use Rattle.p9_explain.specs.Told.{start_text}
use Rattle.p9_explain.proofs.Joins.{more}
use Rattle.p9_explain.proofs.breach.push_way.Goals as goal

pub returns : goal.returns
returns g c =
    let world = c.args.teller.now.world.now in
    let steps = c.args.steps.now in
    let old = string_bytes c.args.text.now in
    let head = string_bytes c.in_ok-head.head in
    let start = start_text world steps in
    let walk = string_bytes c.in_ok-walk.walk in
    let end = string_bytes c.in_ok-end.end in
    let mend = string_bytes c.in_ok-mend.mend in
    let t1 = string_bytes c.add.new.text in
    let t2 = string_bytes c.add-2.new.text in
    let t3 = string_bytes c.add-3.new.text in
    let t4 = string_bytes c.add-4.new.text in
    let t5 = string_bytes c.add-5.new.text in
    let s2 = more old head start t1 t2 c.in_ok-add.ensures
    (c.in_ok-add-2.ensures ∙ ap (λ p. t1 ++ p) c.in_ok-start.ensures) in
    let s3 = more old (head ++ start) walk t2 t3 s2 c.in_ok-add-3.ensures in
    let s4 = more old (head ++ start ++ walk) end t3 t4 s3 c.in_ok-add-4.ensures in (
      head ++ start ++ walk ++ end ++ mend,
      record {
        head = head;
        walk = walk;
        end = end;
        mend = mend;
        head_told = c.in_ok-head.ensures;
        steps_told = c.in_ok-walk.ensures;
        end_told = c.in_ok-end.ensures;
        free = c.in_ok-mend.ensures;
        is = refl;
      },
      more old (head ++ start ++ walk ++ end) mend t4 t5 s4 c.in_ok-add-5.ensures,
    )
