-- Cleaning as four rules on the components between the slashes of a path, applied in any order.
use Rattle.std.specs.Prelude.{◌≡◌, ◌≢◌, Bool, IsTrue, List, [], ◌∷◌, ◌++◌, codes}
use Rattle.p9_clean.specs.Path.{Component}

-- One rule, applied once: the empty component goes, '.' goes, any other goes with the '..' after
-- it, and '..' goes at the start of a rooted path.
pub data Shortens (rooted : Bool) : List Component → List Component → Type 0 where
  empty_goes : (before after : List Component) →
      Shortens rooted (before ++ [] ∷ after) (before ++ after)
  dot_goes : (before after : List Component) →
      Shortens rooted (before ++ codes "." ∷ after) (before ++ after)
  name_goes : (before after : List Component) (name : Component) →
      name ≢ [] → name ≢ codes "." → name ≢ codes ".." →
      Shortens rooted (before ++ name ∷ codes ".." ∷ after) (before ++ after)
  root_goes : (after : List Component) → IsTrue rooted → Shortens rooted (codes ".." ∷ after) after

-- some rules, one after another
pub data Leads (rooted : Bool) : List Component → List Component → Type 0 where
  here : {components : List Component} → Leads rooted components components
  step : {components next last : List Component} →
      Shortens rooted components next → Leads rooted next last → Leads rooted components last

-- no rule applies
abbrev pub IsClean : Bool → List Component → Type 0
IsClean rooted components = (next : List Component) → ¬ Shortens rooted components next

-- some rules lead from the components to the list, none applies to it, and they lead to no other
-- such list
pub record CleansTo (rooted : Bool) (components last : List Component) : Type 0 where
  pub reached : Leads rooted components last
  pub clean : IsClean rooted last
  pub only : (other : List Component) →
      Leads rooted components other → IsClean rooted other → other ≡ last
