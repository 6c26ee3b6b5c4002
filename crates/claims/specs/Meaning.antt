-- Which claims and shares of the argument the code's structs mean.
-- An array's words beyond a point's coordinates mean nothing.
use Rattle.std.specs.Prelude.{ℕ, List, [], ◌∷◌, take, Some, None, Option}
use Rattle.arithmetic.specs.Numbers.{Numbers, modulo}
use Rattle.circuits.specs.Words.{modulus}
use Rattle.argument.specs.Claims as claims
use Rattle.claims.specs.declared.claim.Share.{Share}
use Rattle.claims.specs.declared.claim.Shares.{Shares}
use Rattle.claims.specs.declared.claim.Claim.{Claim}

-- the numbers of the programs
abbrev pub numbers : Numbers ℕ
numbers = modulo modulus

-- a share of a claim about a layer of 2^size gates
abbrev pub share_meant : ℕ → Share → claims.Share ℕ
share_meant size s = record { factor = s.factor; point = take size s.point }

abbrev pub others : ℕ → Option Share → List (claims.Share ℕ)
others size None = []
others size (Some s) = share_meant size s ∷ []

abbrev pub shares_meant : ℕ → Shares → List (claims.Share ℕ)
shares_meant size s = share_meant size s.first ∷ others size s.second

abbrev pub claim_meant : ℕ → ℕ → Claim → claims.Claim ℕ
claim_meant copies size k =
    record { copy = take copies k.copy; shares = shares_meant size k.shares; total = k.total }
