-- Where a step arrives.
use Rattle.std.proofs.Common.{◌≡◌, ℕ, List, [], ◌∷◌, ◌++◌, Option, Some, None, Ok, Err, true, is_some}
use Rattle.std.proofs.Common.{Bool, false, not, cond, Result, IfOk, unwrap_or, ◌<◌, ◌≤◌, length, length-append}
use Rattle.std.proofs.Common.{refl, sym, ap, ◌∙◌, subst, arith}
use Rattle.std.specs.List.{list_any}
use Rattle.std.specs.Prelude.{codes, if◌then◌else◌, slice_get}
use Rattle.std.proofs.lemmas.Grind.{common_steps}
use Rattle.p9_base.specs.declared.fault.Fault.{Fault}
use Rattle.p9_base.specs.declared.fault.Fault.TheVariants.{NotDirectory, PhaseError}
use Rattle.p9_base.specs.declared.node_ref.NodeRef.{NodeRef}
use Rattle.p9_base.specs.Results.{and_then}
use Rattle.p9_tree.specs.Node.{Node, is_child}
use Rattle.p9_tree.specs.Server.{Server, child_of, node_at}
use Rattle.p9_tree.specs.Forest.{IsForest, child_in, no_server, node_of}
use Rattle.p9_tree.proofs.Lookups.{node_at-found}
use Rattle.p9_table.specs.Place.{file_of, file_ref, first_node}
use Rattle.p9_table.specs.Rights.{Who}
use Rattle.p9_table.specs.Row.{member}
use Rattle.p9_table.specs.Table.{MountRow, members_of, row_position}
use Rattle.p9_table.specs.Trail.{here, places_max, stepped}
use Rattle.p9_space.specs.Walk.{arrived, dir_fault, is_alive, is_alive_dir, step_among, step_of}
use Rattle.p9_table.specs.declared.row.Member.{Member}
use Rattle.p9_table.specs.declared.trail.Step.{Step}
use Rattle.p9_table.specs.declared.trail.Step.TheVariants.{To, Up}
use Rattle.p9_table.proofs.Rows.{row_of-none}

-- a child's node is the one of its place
pub child-there : (forest : List Server) → IsForest forest → (dir : NodeRef) (name : List ℕ)
    (n : Node) → child_in dir name forest ≡ Some n
    → node_of (record { server = dir.server; number = n.number }) forest ≡ Some n
child-there forest sound dir name n found = by (slice_get forest dir.server) refl
  where
    by : (s : Option Server) → slice_get forest dir.server ≡ s
        → node_of (record { server = dir.server; number = n.number }) forest ≡ Some n
    by None e = let none : None ≡ Some n = rw e at found in absurd (cc)
    by (Some s) e =
        let here : child_of dir.number name s.nodes ≡ Some n = rw e at found in
        subst (λ o. node_at n.number (unwrap_or o no_server).nodes ≡ Some n) (sym e)
        (node_at-found (is_child dir.number name) s.nodes n (sound.servers dir.server s e).rising
        here)

-- the file of a place without a row is the place itself
pub file_ref-alone : (place : NodeRef) (table : List MountRow) → row_position place table ≡ None
    → file_ref place table ≡ place
file_ref-alone place table none =
    ap (λ row. first_node place (unwrap_or row (member true place ∷ [])))
    (row_of-none place table none)

-- the last place after a step to a place
pub here-pushed : (trail : List NodeRef) (place : NodeRef) → here (trail ++ place ∷ []) ≡ place
here-pushed trail place = grind (arith, common_steps)

-- what holds of a value of which both are known
pub both-ok : {T E : Type 0} (r : Result T E) (P Q R : T → Type 0) → ((x : T) → P x → Q x → R x)
    → IfOk r P → IfOk r Q → IfOk r R
both-ok (Ok x) P Q R f p q = f x p q
both-ok (Err e) P Q R f p q = tt

-- a step arrives where the file of the new place exists
pub step-arrives : (forest : List Server) (table : List MountRow) (who : Option Who)
    (trail : List NodeRef) (name : List ℕ) (ms : List Member) (step : Step) (n : Node)
    → ms ≡ members_of (here trail) table → step_among forest who trail name ms ≡ Ok step
    → file_of (here (stepped trail step)) table forest ≡ Some n
    → step_of forest table who trail name ≡ Ok step
step-arrives forest table who trail name ms step n members among there =
    ap (λ ms. and_then (step_among forest who trail name ms) (arrived forest table trail))
    (sym members)
    ∙ ap (λ step. and_then step (arrived forest table trail)) among
    ∙ ap (λ o. if is_some o then Ok step else Err PhaseError) there

-- and nowhere where it doesn't
pub step-gone : (forest : List Server) (table : List MountRow) (who : Option Who)
    (trail : List NodeRef) (name : List ℕ) (ms : List Member) (step : Step)
    → ms ≡ members_of (here trail) table → step_among forest who trail name ms ≡ Ok step
    → file_of (here (stepped trail step)) table forest ≡ None
    → step_of forest table who trail name ≡ Err PhaseError
step-gone forest table who trail name ms step members among gone =
    ap (λ ms. and_then (step_among forest who trail name ms) (arrived forest table trail))
    (sym members)
    ∙ ap (λ step. and_then step (arrived forest table trail)) among
    ∙ ap (λ o. if is_some o then Ok step else Err PhaseError) gone

-- the same of a step to a place
pub step-found : (forest : List Server) (table : List MountRow) (who : Option Who)
    (trail : List NodeRef) (name : List ℕ) (ms : List Member) (place : NodeRef) (n : Node)
    → ms ≡ members_of (here trail) table → step_among forest who trail name ms ≡ Ok (To place)
    → file_of place table forest ≡ Some n
    → step_of forest table who trail name ≡ Ok (To place)
step-found forest table who trail name ms place n members among there =
    step-arrives forest table who trail name ms (To place) n members among
    (ap (λ p. file_of p table forest) (here-pushed trail place) ∙ there)

pub step-lost : (forest : List Server) (table : List MountRow) (who : Option Who)
    (trail : List NodeRef) (name : List ℕ) (ms : List Member) (place : NodeRef)
    → ms ≡ members_of (here trail) table → step_among forest who trail name ms ≡ Ok (To place)
    → file_of place table forest ≡ None
    → step_of forest table who trail name ≡ Err PhaseError
step-lost forest table who trail name ms place members among gone =
    step-gone forest table who trail name ms (To place) members among
    (ap (λ p. file_of p table forest) (here-pushed trail place) ∙ gone)

-- `..` goes up from members among which is a directory
pub up-among : (forest : List Server) (who : Option Who) (trail : List NodeRef) (ms : List Member)
    → dir_fault forest ms ≡ None → step_among forest who trail (codes "..") ms ≡ Ok Up
up-among forest who trail ms passes =
    by (list_any (is_alive forest) ms) (list_any (is_alive_dir forest) ms) passes
  where
    by : (alive dir : Bool)
        → cond (not alive) (Some PhaseError) (cond (not dir) (Some NotDirectory) None) ≡ None
        → cond (not alive) (Err PhaseError) (cond (not dir) (Err NotDirectory) (Ok Up)) ≡ Ok Up
    by true true passes = refl
    by true false passes = let some : Some NotDirectory ≡ None = passes in absurd (cc)
    by false dir passes = let some : Some PhaseError ≡ None = passes in absurd (cc)

-- and is refused among others
pub up-refused : (forest : List Server) (who : Option Who) (trail : List NodeRef)
    (ms : List Member) (fault : Fault) → dir_fault forest ms ≡ Some fault
    → step_among forest who trail (codes "..") ms ≡ Err fault
up-refused forest who trail ms fault refused =
    by (list_any (is_alive forest) ms) (list_any (is_alive_dir forest) ms) refused
  where
    by : (alive dir : Bool)
        → cond (not alive) (Some PhaseError) (cond (not dir) (Some NotDirectory) None) ≡ Some fault
        → cond (not alive) (Err PhaseError) (cond (not dir) (Err NotDirectory) (Ok Up)) ≡ Err fault
    by true true refused = let none : None ≡ Some fault = refused in absurd (cc)
    by true false refused = let is : Some NotDirectory ≡ Some fault = refused in
        let same : NotDirectory ≡ fault = cc in ap Err same
    by false dir refused = let is : Some PhaseError ≡ Some fault = refused in
        let same : PhaseError ≡ fault = cc in ap Err same

-- a step that is refused among the members is refused
pub step-refused : (forest : List Server) (table : List MountRow) (who : Option Who)
    (trail : List NodeRef) (name : List ℕ) (ms : List Member) (fault : Fault)
    → ms ≡ members_of (here trail) table → step_among forest who trail name ms ≡ Err fault
    → step_of forest table who trail name ≡ Err fault
step-refused forest table who trail name ms fault members refused =
    ap (λ ms. and_then (step_among forest who trail name ms) (arrived forest table trail))
    (sym members)
    ∙ ap (λ step. and_then step (arrived forest table trail)) refused

-- a place more is not too many
pub pushed-few : (trail : List NodeRef) (place : NodeRef) → length trail < places_max
    → length (trail ++ place ∷ []) ≤ places_max
pushed-few trail place few = omega (arith, length-append trail (place ∷ []))

-- a step to a child whose place has no row arrives at the child
pub step-alone : (forest : List Server) (table : List MountRow) (who : Option Who)
    (trail : List NodeRef) (name : List ℕ) (ms : List Member) (place : NodeRef) (n : Node)
    → ms ≡ members_of (here trail) table → step_among forest who trail name ms ≡ Ok (To place)
    → row_position place table ≡ None → node_of place forest ≡ Some n
    → step_of forest table who trail name ≡ Ok (To place)
step-alone forest table who trail name ms place n members among none there =
    step-found forest table who trail name ms place n members among
    (ap (λ at. node_of at forest) (file_ref-alone place table none) ∙ there)
