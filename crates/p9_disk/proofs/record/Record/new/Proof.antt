-- A record without calls is made of nothing.
use Rattle.p9_disk.proofs.Walks.{[], ◌∷◌, refl, proved, vstruct, vnil, ‵, raw, ◌⊛◌, keep, split, ◌$◌, ◌∵◌, !, qed, move, suffices, done, agg, enter, no_more, returns, alloc_all, pass_all, free_all, look_at, sets, owns, pure_i, alive, says, Stays, walk_of, ends_at}
use Rattle.p9_disk.specs.contracts.record.Record as it
use Rattle.p9_disk.specs.contracts.record.Record.new as f
use Rattle.p9_disk.proofs.record.Record.new.Statement.{statement}
use Rattle.p9_disk.proofs.record.Record.new.Code as code

abbrev stayed : Stays f.ended.signature.params f.ended.kept
stayed = tt

pub new_spec : {M : Type 1} → statement M
new_spec 𝓤 𝓛 𝓜 𝓡 wired =
    let c = f.clauses 𝓛 𝓜.mem 𝓡.returns in let W = walk_of 𝓛 f.ended stayed c in
    proved 𝓛 f.ended stayed c 𝓜 𝓡 tt f.Key.name code.function (code.unfolded 𝓤 𝓛.H 𝓜 𝓡 wired)
    (λ κs. tt) (λ κs. tt) (λ κs qs bounds a g are.
    let y : W.Ghost = ((κs, qs, bounds, a, tt), g) in
    qed 𝓛 ((raw (alive 𝓛 f.signature κs qs) ⊛ ‵ (owns [] tt tt)) ∷ raw ((c κs a).requires g) ∷ []) ∵ keep ! (0 ∷ []) $ split ! $
    enter ! _ _ _ _ _ $
    alloc_all ! (λ l. pass_all ! refl tt $ sets ! (agg ! (no_more !)) refl (tt, tt) $
    returns ! (look_at ! 0 refl) $ free_all ! refl $
    suffices ! _ (ends_at 𝓛 f.ended stayed c y (vstruct vnil) (record { events = [] }) tt tt) $ says ! refl $
    pure_i ! (it.the_row.own_val (record { events = [] }) (vstruct vnil ∷ [])) ((λ vss. (tt, tt)), tt) ((tt, (refl, tt)), tt) $
    move ! (1 ∷ 2 ∷ 0 ∷ []) $ done !))
