-- What the options of 'pack' ask for.
use Rattle.std.specs.Prelude.{ℕ, List, Option, Some, None, Result, Ok, Err}
use Rattle.p9_base.specs.declared.stop.Stop.{Stop}
use Rattle.p9_base.specs.declared.stop.Stop.TheVariants.{Refused}
use Rattle.p9_world.specs.declared.unfit.Unfit.{Unfit}
use Rattle.p9_world.specs.Unfit.{unfit_user}
use Rattle.p9_admin.specs.declared.settings.BadOption.{BadOption}
use Rattle.p9_admin.specs.declared.settings.Naming.{Naming}

-- a user, unless something is against it
abbrev pub unless_bad : Naming → Option Unfit → List ℕ → Result (Option (List ℕ)) (Stop BadOption)
unless_bad naming None text = Ok (Some text)
unless_bad naming (Some unfit) text = Err (Refused (record { naming = naming; unfit = unfit }))

-- the user that the value of an option names, where the option is there
abbrev pub user_asked : Naming → Option (List ℕ) → Result (Option (List ℕ)) (Stop BadOption)
user_asked naming None = Ok None
user_asked naming (Some text) = unless_bad naming (unfit_user text) text
