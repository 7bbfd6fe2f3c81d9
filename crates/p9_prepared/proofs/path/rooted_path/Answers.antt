use Rattle.std.proofs.Common.{◌≡◌, Bool, false, sym, ◌∙◌, ◌<◌, length, arith}
use Rattle.std.specs.String.{string_bytes}
use Rattle.std.proofs.lemmas.Bool.Decides.{nat_tests}
use Rattle.p9_prepared.proofs.Paths.{rooted_path-names, slashed-all, slashed-more}
use Rattle.p9_prepared.proofs.path.rooted_path.Goals as goal

pub loop-name-preserved : goal.loop-name-preserved
unfolding lib.Utf8.encode
loop-name-preserved g c =
    slashed-more c.args.names.now c.loop-name.name-index (string_bytes c.loop-name.path) _ _
    (string_bytes c.push.new.self) (string_bytes c.push_str.new.self) c.loop-name-test.true
    c.in_ok-push.ensures.bytes c.in_ok-push_str.ensures.bytes c.loop-name.invariant

pub returns : goal.returns
returns g c =
    let asked = c.if-is_empty.ensures in
    let test : ◌≡◌ {A = Bool} c.is_empty.result false = c.if-is_empty.false in
    let is = c.is_empty.ensures in
    let some : 0 < length c.args.names.now = grind (arith, nat_tests) in
    slashed-all c.args.names.now c.loop-name.name-index (string_bytes c.loop-name.path) _
    (omega arith) c.loop-name.invariant
    ∙ sym (rooted_path-names c.args.names.now some)
