use Rattle.std.proofs.Common.{codes, refl, lit<, lit≤}
use Rattle.p9_base.proofs.Texts.{is_text-ascii}
use Rattle.p9_requests.proofs.version.version.Goals as goal

pub returns-then-not-is_known-clause-reply : goal.returns-then-not-is_known-clause-reply
returns-then-not-is_known-clause-reply g c =
    (record {
      fits = record { short = lit< tt; valid = is_text-ascii (codes "unknown") refl refl };
      short = lit≤ tt;
    })

pub returns-clause-reply : goal.returns-clause-reply
returns-clause-reply g c =
    (record {
      fits = record { short = lit< tt; valid = is_text-ascii (codes "9P2000") refl refl };
      short = lit≤ tt;
    })
