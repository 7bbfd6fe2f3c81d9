-- A fixed state at the begin, and after a run.
use Rattle.std.proofs.Common.{◌∙◌, List, [], ◌∷◌, refl, sym, ap, subst}
use Rattle.std.specs.List.{AllByRecursion}
use Rattle.p9_tree.specs.Unread.{all_unread}
use Rattle.p9_step.specs.State.{SessionRow}
use Rattle.p9_step.specs.Step.{step}
use Rattle.p9_fixed_laws.specs.Laws.{FixedBegins, RunStaysFixed}
use Rattle.p9_fixed_laws.specs.States.{HasFixedFids}
use Rattle.p9_fixed_laws.proofs.Steps.{step-stays}

pub fixed-begins : FixedBegins
fixed-begins sealed state sound none same input = record {
  sound = sound;
  input = input;
  forest = ap all_unread same;
  fids =
      subst (λ (rows : List SessionRow).
      AllByRecursion (λ row. HasFixedFids sealed state.setting row.1) rows) (sym none) tt;
}

pub run-stays : RunStaysFixed
run-stays sealed state [] fixed can = record { fixed = fixed; setting = refl; same = refl }
run-stays sealed state (event ∷ events) fixed can =
    let after = step-stays sealed state event.0 event.1 fixed can.0 in
    let later = run-stays sealed (step state event.0 event.1).state events after.fixed can.1 in
    record {
      fixed = later.fixed;
      setting = later.setting ∙ after.setting;
      same = later.same ∙ after.fixed.forest ∙ sym fixed.forest;
    }
