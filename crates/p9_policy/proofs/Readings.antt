-- What is reported of a line is reported of the text.
use Rattle.std.proofs.Common.{◌≡◌, ℕ, List, Result, Err}
use Rattle.p9_base.specs.declared.node_ref.NodeRef.{NodeRef}
use Rattle.p9_policy.specs.Text.{IsReadError}
use Rattle.p9_policy.specs.declared.read.ReadError.{ReadError}
use Rattle.p9_policy.specs.declared.read.ReadError.TheVariants.{BadCert, NoMemory}

pub told-of-all : (error : ReadError) (step all : Result (List NodeRef) ℕ) → IsReadError step error
    → ((line : ℕ) → step ≡ Err line → all ≡ Err line) → IsReadError all error
told-of-all NoMemory step all told comes = tt
told-of-all (BadCert line) step all told comes = comes line told
