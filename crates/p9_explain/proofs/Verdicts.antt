-- A verdict in words.
use Rattle.std.proofs.Common.{◌≡◌, ℕ, IsTrue, List, [], ◌++◌, refl, ap, ◌∙◌, append_assoc, inl, inr, subst, sym}
use Rattle.std.specs.Prelude.{codes}
use Rattle.std.specs.List.{AllByRecursion}
use Rattle.p9_base.specs.declared.node_ref.NodeRef.{NodeRef}
use Rattle.p9_cert.specs.Policy.{policy_of}
use Rattle.p9_judge.specs.Breach.{IsBreach, IsByFirst}
use Rattle.p9_judge.specs.Verdict.{IsLeast}
use Rattle.p9_judge.specs.Verdict.{IsVerdict as IsJudged}
use Rattle.p9_judge.specs.declared.verdict.Verdict.{Verdict}
use Rattle.p9_judge.specs.declared.verdict.Verdict.TheVariants.{Yes, No}
use Rattle.p9_judge.specs.declared.breach.Breach.{Breach}
use Rattle.p9_space.specs.Given.{is_table_given}
use Rattle.p9_commands.specs.Judgement.{no_text, yes_text}
use Rattle.p9_prepared.specs.Prepared.{Prepared, gap_in}
use Rattle.p9_explain.specs.Change.{IsReachTold}
use Rattle.p9_explain.specs.Claim.{claim_text}
use Rattle.p9_explain.specs.Explained.{IsFurtherTold, IsRestTold, IsVerdict, yes_status}
use Rattle.p9_explain.specs.Free.{free_lines}
use Rattle.p9_explain.specs.Told.{IsBreachTold}

-- its claim
abbrev claimed : Prepared → List ℕ
claimed prepared = claim_text prepared.space.world

module _ {A : Type 0} (prepared : Prepared) where
  pub yes-told : (verdict : Verdict A) (rows : List NodeRef) (claim words text : List ℕ)
      → claim ≡ claimed prepared → verdict ≡ Yes rows
      → IsTrue (is_table_given prepared.space.world.forest prepared.space.table) →
      IsJudged (policy_of prepared.space.world) prepared.space.world.forest prepared.space.table verdict
      → IsReachTold prepared.space rows words → text ≡ claim ++ (codes "yes: " ++ words)
      → IsVerdict prepared (yes_status (gap_in prepared)) text
  yes-told verdict rows claim words text claim_is is_yes given judged told written =
      let is : IsLeast (policy_of prepared.space.world) prepared.space.world.forest prepared.space.table rows =
      subst (λ (v : Verdict A). IsJudged (policy_of prepared.space.world) prepared.space.world.forest prepared.space.table v)
      is_yes judged in
      inl (record {
        status_is = refl;
        printed = yes_text rows;
        said = record { rows = rows; printed = (refl, refl); closed = is.closed given; least = is };
        words = words;
        told = told;
        is =
            written
            ∙ ap (λ c. c ++ (codes "yes: " ++ words)) claim_is
            ∙ sym (append_assoc (claimed prepared) (codes "yes: ") words);
      })

  pub no-told : (verdict : Verdict A) (breach : Breach A) (claim words text : List ℕ)
      → claim ≡ claimed prepared → verdict ≡ No breach →
      IsJudged (policy_of prepared.space.world) prepared.space.world.forest prepared.space.table verdict
      → IsBreachTold prepared.space.world breach.steps.items breach.member breach.kind words
      → text ≡ claim ++ (codes "no: " ++ words) → IsVerdict prepared 1 text
  no-told verdict breach claim words text claim_is is_no judged told written =
      let is : IsBreach (policy_of prepared.space.world) prepared.space.world.forest prepared.space.table breach.steps.items
      breach.member breach.kind
      × AllByRecursion (IsByFirst (policy_of prepared.space.world) prepared.space.world.forest) breach.steps.items =
      subst (λ (v : Verdict A). IsJudged (policy_of prepared.space.world) prepared.space.world.forest prepared.space.table v)
      is_no judged in
      inr (record {
        status_is = refl;
        printed = no_text breach.steps.items breach.member breach.kind;
        said = record {
          steps = breach.steps.items;
          member = breach.member;
          kind = breach.kind;
          printed = (refl, refl);
          breach = is.0;
          by_first = is.1;
        };
        words = words;
        told = told;
        is =
            written
            ∙ ap (λ c. c ++ (codes "no: " ++ words)) claim_is
            ∙ sym (append_assoc (claimed prepared) (codes "no: ") words);
      })

-- what follows a verdict, by its parts
pub rest-told : (prepared : Prepared) (none said freed further text : List ℕ) → none ≡ []
    → freed ≡ none ++ free_lines said → text ≡ freed ++ further → IsFurtherTold prepared further
    → IsRestTold prepared text
rest-told prepared none said freed further text none_is freed_is written told = record {
  leaks = said;
  further = further;
  told = told;
  is =
      written
      ∙ ap (λ f. f ++ further) (freed_is ∙ ap (λ n. n ++ free_lines said) none_is);
}
