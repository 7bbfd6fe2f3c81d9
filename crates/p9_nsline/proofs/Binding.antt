-- Steps of a mount.
use Rattle.std.proofs.Common.{◌≡◌, ℕ, Bool, false, List, Option, Ok, Err, sym, ap, ◌∙◌}
use Rattle.std.specs.Prelude.{if◌then◌else◌}
use Rattle.p9_base.specs.declared.node_ref.NodeRef.{NodeRef}
use Rattle.p9_base.specs.Results.{and_then}
use Rattle.p9_nsline.specs.declared.fault.OpFault.TheVariants.{SpecGiven}
use Rattle.p9_nsline.specs.declared.flags.Flags.{Flags}
use Rattle.p9_nsline.specs.Bind.{has_spec, mounted_by, root_mounted}
use Rattle.p9_nsline.specs.Find.{server_root}
use Rattle.p9_nsline.specs.Environment.{Environment}
use Rattle.p9_nsline.specs.Space.{Space}
use Rattle.p9_nsline.specs.Variable.{expanded}

-- a mount whose server is known, without a spec
pub mounted_by-root : (environment : Environment) (space : Space) (flags : Flags) (server name old : List ℕ)
    (spec : Option (List ℕ)) (root : NodeRef) (given : Bool) →
    name ≡ expanded environment.vars server → Ok root ≡ server_root environment.servers name
    → given ≡ has_spec environment spec → given ≡ false →
    mounted_by environment space flags server old spec ≡ root_mounted environment space flags root old
mounted_by-root environment space flags server name old spec root given is there asked none =
    ap (λ answer. and_then answer
    (λ r. if has_spec environment spec then Err SpecGiven
    else root_mounted environment space flags r old))
    (ap (server_root environment.servers) (sym is) ∙ sym there)
    ∙ ap (λ b. if b then Err SpecGiven else root_mounted environment space flags root old)
    (sym asked ∙ none)
