-- What is shown of an input, added to what is there.
use Rattle.std.proofs.Common.{◌∙◌, ◌++◌, ℕ, List, [], Option, Some, None, Result, Ok, Err, ap}
use Rattle.std.proofs.Common.{append-nil}
use Rattle.std.specs.Prelude.{MatchOption, find}
use Rattle.std.specs.Str.{bytes_eq}
use Rattle.p9_space.specs.Rights.{Who}
use Rattle.p9_prepared.specs.NameSpace.{NameSpace}
use Rattle.p9_prepared.specs.Prepared.{Prepared, Rejected, rejected_text}
use Rattle.p9_prepared.specs.Report.{reports_text}
use Rattle.p9_view.specs.Tree.{IsInputShown, IsRefused, IsShown, IsShownTo, unlisted_text, who_in}
use Rattle.p9_inputs.specs.Added.{Adds}

module _ (status : ℕ) (printed reported out_before out_after err_before err_after : List ℕ)
    (adds : Adds printed reported out_before out_after err_before err_after) where
  shown_after : (space : NameSpace) (who : Option Who)
      → IsShown space who status [] printed [] reported
      → IsShown space who status out_before out_after err_before err_after
  shown_after space who shown = record {
    done = shown.done;
    text = shown.text;
    tree = shown.tree;
    printed = adds.0 ∙ ap (λ text. out_before ++ text) shown.printed;
    reported = adds.1 ∙ ap (λ text. err_before ++ text) shown.reported;
  }

  refused_after : (reports : List ℕ) → IsRefused reports status [] printed [] reported
      → IsRefused reports status out_before out_after err_before err_after
  refused_after reports refused = record {
    refused = refused.refused;
    printed = adds.0 ∙ ap (λ text. out_before ++ text) refused.printed ∙ append-nil out_before;
    reported = adds.1 ∙ ap (λ text. err_before ++ text) refused.reported;
  }

  named_after : (space : NameSpace) (name : List ℕ) (user : Option (List ℕ))
      → MatchOption user
      (IsRefused (reports_text space.reports ++ unlisted_text name) status [] printed [] reported)
      (λ user. IsShown space (Some (who_in space.world user)) status [] printed [] reported)
      → MatchOption user
      (IsRefused (reports_text space.reports ++ unlisted_text name) status out_before out_after
      err_before err_after)
      (λ user. IsShown space (Some (who_in space.world user)) status out_before out_after err_before
      err_after)
  named_after space name None refused =
      refused_after (reports_text space.reports ++ unlisted_text name) refused
  named_after space name (Some user) shown = shown_after space (Some (who_in space.world user)) shown

  shown_to_after : (space : NameSpace) (user : Option (List ℕ))
      → IsShownTo space user status [] printed [] reported
      → IsShownTo space user status out_before out_after err_before err_after
  shown_to_after space None shown = shown_after space None shown
  shown_to_after space (Some name) shown =
      named_after space name (find (bytes_eq name) space.world.users) shown

  -- what is shown over nothing is shown over what is there
  pub input_shown_after : (asked : Result Prepared Rejected) (user : Option (List ℕ))
      → IsInputShown asked user status [] printed [] reported
      → IsInputShown asked user status out_before out_after err_before err_after
  input_shown_after (Ok prepared) user shown = shown_to_after prepared.space user shown
  input_shown_after (Err rejected) user refused = refused_after (rejected_text rejected) refused
