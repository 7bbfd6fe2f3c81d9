-- A line 'set NAME VALUE'.
use Rattle.std.specs.Prelude.{ℕ, ◌==◌, ◌&&◌, ◌||◌, Bool, not, nat_le, List, [], ◌∷◌, ◌++◌, Result}
use Rattle.std.specs.Prelude.{Ok, length}
use Rattle.std.specs.List.{list_any}
use Rattle.std.specs.Str.{bytes_eq}
use Rattle.p9_world.specs.declared.error.LineFault.{LineFault}
use Rattle.p9_world.specs.declared.error.LineFault.TheVariants.{BadName, Duplicate}
use Rattle.p9_base.specs.Name.{is_slash}
use Rattle.p9_base.specs.Results.{need}
use Rattle.p9_base.specs.Variable.{Variable}
use Rattle.p9_world.specs.World.{World}

-- not empty, without '/' and '$'
abbrev pub is_variable_name : List ℕ → Bool
is_variable_name name = nat_le 1 (length name) && not (list_any (λ b. is_slash b || b == 36) name)

-- a variable of this name has a value already
abbrev pub is_set : List ℕ → List Variable → Bool
is_set name vars = list_any (λ var. bytes_eq var.0 name) vars

-- what comes of a world by 'set NAME VALUE': the variable joins the others
abbrev pub set_line : (name value : List ℕ) → World → Result World LineFault
set_line name value w =
    need (is_variable_name name) BadName (
    need (not (is_set name w.vars)) Duplicate (
    Ok (record w { vars = w.vars ++ (name, value) ∷ [] })))
