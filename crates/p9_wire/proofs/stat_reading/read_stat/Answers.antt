use Rattle.std.proofs.Common.{◌≡◌, ◌<◌, ◌∙◌, List, ℕ, [], Some, None, ap, arith, eqb, length, sym, true}
use Rattle.std.proofs.lemmas.List.Elements.{All-from_get_or}
use Rattle.std.proofs.lemmas.Option.{same_Some}
use Rattle.p9_wire.specs.Stat.{StatFields, stat_view}
use Rattle.p9_wire.proofs.Codes.{none-left, stat-complete, stat-sound}
use Rattle.p9_wire.proofs.stat_reading.read_stat.Goals as goal

pub returns-in_err-stat-clause-none : goal.returns-in_err-stat-clause-none
returns-in_err-stat-clause-none c =
    rw c.from_residual.ensures
    (λ s numbers fits is.
    absurd
    (let bad : Some (s, []) ≡ None =
    sym (stat-complete c.args.bytes.now s numbers fits is) ∙ c.in_err-stat.ensures in
    cc))

pub returns-then-is_empty-clause-found : goal.returns-then-is_empty-clause-found
returns-then-is_empty-clause-found c =
    let empty =
    none-left c.is_empty.result c.in_ok-stat.rest.now c.is_empty.ensures c.if-is_empty.true in
    stat-sound c.args.bytes.now (stat_view c.in_ok-stat.stat)
    (All-from_get_or (λ b. b < 256) c.args.bytes.now 0
    (λ i lt. omega (arith, c.type_inv.bytes i))) (rw empty at c.in_ok-stat.ensures)

pub returns-else-is_empty-clause-none : goal.returns-else-is_empty-clause-none
returns-else-is_empty-clause-none c = λ s numbers fits is.
    absurd
    (let same =
    same_Some _ _
    (sym c.in_ok-stat.ensures ∙ stat-complete c.args.bytes.now s numbers fits is) in
    let empty : c.in_ok-stat.rest.now ≡ [] =
    ap (λ (x : StatFields × List ℕ). x.1) same in
    let test : c.is_empty.result ≡ true =
    c.is_empty.ensures ∙ ap (λ (rest : List ℕ). eqb (length rest) 0) empty in
    let bad = sym c.if-is_empty.false ∙ test in
    cc)
