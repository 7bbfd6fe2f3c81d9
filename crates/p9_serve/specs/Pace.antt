-- When a server accepts, and how long it rests between rounds.
use Rattle.std.specs.Prelude.{ℕ, ◌+◌, ◌-◌, ◌*◌, ◌^◌, ◌&&◌, ◌||◌, Bool, max, min, nat_eq, nat_le}
use Rattle.std.specs.Prelude.{nat_lt, if◌then◌else◌}
use Rattle.p9_serve.specs.declared.server.Round.{Round}

-- how many quiet rounds in a row were the last ones, as far as it matters; how many rounds may still
-- pass before one accepts, whatever comes; and how many these were just after the last accept
pub record Pacing : Type 0 where
  pub quiet : ℕ
  pub left : ℕ
  pub wait : ℕ

-- how many rounds pass at least, and at most, between an accept that finds nobody and the next one
abbrev pub shortest_wait : ℕ
shortest_wait = 15

abbrev pub longest_wait : ℕ
longest_wait = 63

-- after this many quiet rounds a server rests before each further one
abbrev pub rest_from : ℕ
rest_from = 5_000

-- after this many quiet rounds a server rests longest
abbrev pub most_quiet : ℕ
most_quiet = 5_007

-- before the first round
abbrev pub new_pacing : Pacing
new_pacing = record { quiet = 0; left = 0; wait = 0 }

-- the rest before the next round, in microseconds: 50 at first, then each time twice as long, up to
-- 4,000
abbrev pub rest_of : (quiet : ℕ) → ℕ
rest_of quiet = if nat_lt quiet rest_from then 0 else min 4_000 (50 * 2 ^ (quiet - rest_from))

-- whether the next round accepts, whoever is there
abbrev pub is_due : Pacing → Bool
is_due p = nat_eq p.left 0 || nat_le rest_from p.quiet

-- whether nothing was taken in, moved or closed
abbrev pub is_quiet : Round → Bool
is_quiet round = nat_eq round.accepted 0 && nat_eq round.moved 0 && nat_eq round.closed 0

-- whether a client was taken in or closed
abbrev pub has_changed : Round → Bool
has_changed round = nat_lt 0 round.accepted || nat_lt 0 round.closed

-- how many rounds pass after an accept: none while clients come and go; after one that finds nobody
-- the fewest, and after each further one twice as many and one, up to the most
abbrev pub wait_after : (was_due : Bool) (wait : ℕ) → Round → ℕ
wait_after was_due wait round =
    if has_changed round then 0
    else if was_due then min (max (2 * wait + 1) shortest_wait) longest_wait
    else wait

-- after one round more
abbrev pub pacing_after : Pacing → Round → Pacing
pacing_after p round =
    let wait = wait_after (is_due p) p.wait round in
    record {
      quiet = (if is_quiet round then min (p.quiet + 1) most_quiet else 0);
      left = (if has_changed round || is_due p then wait else p.left - 1);
      wait = wait;
    }
