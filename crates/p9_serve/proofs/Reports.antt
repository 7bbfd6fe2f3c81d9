-- What is reported of an input, whole or cut short.
use Rattle.std.proofs.Common.{ℕ, List, Option, Ok, Err, arith, inr, length, subst, sym, take_all}
use Rattle.std.specs.Prelude.{OnErr, Result}
use Rattle.std.specs.Io.KnownBytes.{Appends}
use Rattle.std.specs.declared.net.socket_addr.SocketAddr.{SocketAddr}
use Rattle.p9_guard.specs.Guard.{Guarded}
use Rattle.p9_commands.specs.Offer.{Offered}
use Rattle.p9_serve.specs.Run.{AppendsFront, BreaksOff, IsCutShort, IsOffer, Known, listening}

-- a fact is one of a result that is an error
pub on_err : {T E P : Type 0} (r : Result T E) → P → OnErr r P
on_err (Ok value) fact = tt
on_err (Err error) fact = fact

-- reports that were cut short, and a front of the line with an address
pub cut_short : (offered : Offered) (w : Known) (address : SocketAddr)
    → IsCutShort offered w.err_before w.err
    → AppendsFront w.out_before w.out (listening address) → BreaksOff offered w
cut_short offered w address short line = record {
  reports = short.reports;
  are_reports = short.are_reports;
  address = address;
  errors = short.errors;
  output = line;
}

-- reports that are whole are a front of themselves
pub reported : (offered : Offered) (before after : Option (List ℕ)) (guard : Option Guarded)
    → IsOffer offered before after guard → IsCutShort offered before after
reported offered before after guard offer = record {
  reports = offer.reports;
  are_reports = inr (guard, offer.serves);
  errors = (
    length offer.reports,
    subst (λ (zs : List ℕ). Appends before after zs)
        (sym (take_all (length offer.reports) offer.reports (omega arith))) offer.errors,
  );
}
