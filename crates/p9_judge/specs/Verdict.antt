-- What a verdict says.
use Rattle.std.specs.Prelude.{◌≡◌, List, None, IsTrue}
use Rattle.std.specs.List.{AllByRecursion}
use Rattle.p9_base.specs.declared.node_ref.NodeRef.{NodeRef}
use Rattle.p9_tree.specs.Server.{Server}
use Rattle.p9_space.specs.Given.{is_table_given}
use Rattle.p9_space.specs.Table.{MountRow}
use Rattle.p9_cert.specs.Closed.{IsClosed}
use Rattle.p9_cert.specs.Gap.{first_gap}
use Rattle.p9_cert.specs.Policy.{Policy}
use Rattle.p9_cert.specs.Rows.{is_row}
use Rattle.p9_cert.specs.Safe.{Set}
use Rattle.p9_judge.specs.declared.verdict.Verdict.{Verdict}
use Rattle.p9_judge.specs.declared.verdict.Verdict.TheVariants.{Yes, No}
use Rattle.p9_judge.specs.Breach.{IsBreach, IsByFirst}

module _ (policy : Policy) (forest : List Server) (table : List MountRow) where
  -- the rows have no gap, if the mount table names only nodes that were made; and each of them is
  -- in every closed certificate
  pub record IsLeast (rows : List NodeRef) : Type 0 where
    pub closed : IsTrue (is_table_given forest table) → first_gap policy forest table rows ≡ None
    pub least : (other : Set) → IsClosed policy forest table other
        → (at : NodeRef) → IsTrue (is_row rows at) → IsTrue (other at)

  -- yes: the least closed certificate; no: a breach, in which each step's user is the first listed
  -- one who may pass
  abbrev pub IsVerdict : {A : Type 0} → Verdict A → Type 0
  IsVerdict (Yes rows) = IsLeast rows
  IsVerdict (No breach) =
      IsBreach policy forest table breach.steps.items breach.member breach.kind
      × AllByRecursion (IsByFirst policy forest) breach.steps.items
