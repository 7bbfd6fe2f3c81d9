-- What is said of the certificate of an input.
use Rattle.std.specs.Prelude.{◌≡◌, ℕ, List, ◌++◌, Option, Some, None, codes}
use Rattle.p9_base.specs.declared.node_ref.NodeRef.{NodeRef}
use Rattle.p9_cert.specs.declared.gap.Gap.{Gap}
use Rattle.p9_explain.specs.Free.{first_line, free_lines}

-- it has a gap, of which something is said in the same line, and then in free lines
abbrev pub IsGapTold : List ℕ → Type 0
IsGapTold text =
    (said : List ℕ)
    × (text ≡ codes "certificate: not accepted: " ++ first_line said ++ codes "\n"
    ++ free_lines said)

-- there is none, it is accepted, or it is not
abbrev pub IsCertificateTold : Option (List NodeRef) → Option Gap → List ℕ → Type 0
IsCertificateTold None gap text = text ≡ codes "certificate: none\n"
IsCertificateTold (Some rows) None text = text ≡ codes "certificate: accepted\n"
IsCertificateTold (Some rows) (Some gap) text = IsGapTold text
