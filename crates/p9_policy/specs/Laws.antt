-- Laws of certificates' texts.
use Rattle.std.specs.Prelude.{◌≡◌, List, Ok}
use Rattle.p9_base.specs.declared.node_ref.NodeRef.{NodeRef}
use Rattle.p9_policy.specs.Rows.{IsCertificate}
use Rattle.p9_policy.specs.Text.{certificate_of, certificate_text}

-- what is written of a certificate reads back as the same one
abbrev pub WrittenReadsBack : Type 0
WrittenReadsBack =
    (rows : List NodeRef) → IsCertificate rows → certificate_of (certificate_text rows) ≡ Ok rows
