-- A record with one more call is made of nothing, as each record is.
use Rattle.p9_disk.proofs.Walks.{[], ◌∷◌, refl, proved, named, Val, vptr, vstruct, vnil, ‵, raw, ◌⊛◌, keep, split, ◌$◌, ◌∵◌, !, qed, move, suffices, done, agg, enter, no_more, returns, alloc_all, pass_all, free_all, look_at, sets, yes, owns, shr_vals, shr_Tells, pure_i, plain, types_at, named_lft, alive, says, Stays, walk_of, stay_none_ref, Goes-none_ref, ends_at}
use Rattle.p9_disk.specs.contracts.record.Record as it
use Rattle.p9_disk.specs.contracts.record.Call as call
use Rattle.p9_disk.specs.Noted.{event_of}
use Rattle.p9_disk.specs.contracts.record.Record.with as f
use Rattle.p9_disk.proofs.record.Record.with.Statement.{statement}
use Rattle.p9_disk.proofs.record.Record.with.Code as code

abbrev stayed : Stays f.ended.signature.params f.ended.kept
stayed = (stay_none_ref (0 ∷ []) tt (plain (λ _. it.the_row)) yes, (stay_none_ref (1 ∷ []) tt (plain (λ κs. call.the_row (named_lft 3 2 tt κs))) yes, tt))

pub with_spec : {M : Type 1} → statement M
with_spec 𝓤 𝓛 𝓜 𝓡 wired =
    let c = f.clauses 𝓛 𝓜.mem 𝓡.returns in let W = walk_of 𝓛 f.ended stayed c in
    proved 𝓛 f.ended stayed c 𝓜 𝓡
    (Goes-none_ref 𝓛 3 (0 ∷ []) tt (plain (λ _. it.the_row)) yes, (Goes-none_ref 𝓛 3 (1 ∷ []) tt (plain (λ κs. call.the_row (named_lft 3 2 tt κs))) yes, tt))
    f.Key.name code.function (code.unfolded 𝓤 𝓛.H 𝓜 𝓡 wired)
    (λ κs. (shr_vals, (shr_vals, tt)))
    (λ κs. (shr_Tells (named 0) κs.0 it.the_row, (shr_Tells (named 1) κs.1.0 (call.the_row (named_lft 3 2 tt κs)), tt)))
    (λ κs qs bounds a g are.
    let before : Val = vptr a.0.ref_ptr.0 a.0.ref_ptr.1 in
    let noted : Val = vptr a.1.0.ref_ptr.0 a.1.0.ref_ptr.1 in
    let y : W.Ghost = ((κs, qs, bounds, a, (before ∷ [], (noted ∷ [], tt))), g) in
    let made : it.the_row.Denot = record { events = event_of a.1.0.now ∷ a.0.now.events } in
    qed 𝓛 ((raw (alive 𝓛 f.signature κs qs) ⊛ ‵ (owns (types_at f.signature.params κs) a y.0.4)) ∷ raw ((c κs a).requires g) ∷ []) ∵ keep ! (0 ∷ []) $ split ! $
    enter ! _ _ _ _ _ $
    alloc_all ! (λ l. pass_all ! refl ((tt, tt), ((tt, tt), tt)) $ sets ! (agg ! (no_more !)) refl (tt, tt) $
    returns ! (look_at ! 0 refl) $ free_all ! refl $
    suffices ! _ (ends_at 𝓛 f.ended stayed c y (vstruct vnil) made (tt, (tt, tt)) (tt, (tt, tt))) $ says ! refl $
    pure_i ! (it.the_row.own_val made (vstruct vnil ∷ [])) ((λ vss. (tt, tt)), tt) ((tt, (refl, tt)), tt) $
    move ! (1 ∷ 2 ∷ 0 ∷ []) $ done !))
