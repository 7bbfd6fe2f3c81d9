-- What the sections of a sealed bundle say.
use Rattle.std.specs.Prelude.{◌≡◌, ℕ, List, Some}
use Rattle.p9_base.specs.Statement.{statements_of}
use Rattle.p9_prepared.specs.Bundle.{Texts}
use Rattle.p9_prepared.specs.Statements.{statements_in}

-- each section of the sealed texts says the same as that of the others, but for the certificate,
-- which says what this text says
pub record HasCertificate (certificate : List ℕ) (texts sealed : Texts) : Type 0 where
  pub world : statements_in sealed.world ≡ statements_in texts.world
  pub ns : statements_in sealed.ns ≡ statements_in texts.ns
  pub cert : statements_in sealed.cert ≡ Some (statements_of certificate)
  pub script : statements_in sealed.script ≡ statements_in texts.script
