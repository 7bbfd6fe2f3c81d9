-- What a count of requests says of them.
use Rattle.std.specs.Prelude.{◌≡◌, ◌+◌, ◌≤◌, ℕ, Some}
use Rattle.p9_testing.specs.declared.count.Requests.{Requests}

-- The k-th request from now on is the one that is refused; the 0-th is the one made last.
abbrev pub Refuses : Requests → ℕ → Type 0
Refuses requests k = requests.refused ≡ Some (requests.made + k)

-- The request that is refused was made.
abbrev pub HasRefused : Requests → Type 0
HasRefused requests = (number : ℕ) × (requests.refused ≡ Some number) × (number ≤ requests.made)
