-- What the views of shares mean, and what the sums ask of them.
-- A claim has a first share and perhaps a second.
use Rattle.std.specs.Prelude.{◌≡◌, ℕ, ◌<◌, T, List, [], ◌∷◌, length, Some, None, Option}
use Rattle.arithmetic.specs.Numbers.{modulo, all_reduced}
use Rattle.argument.specs.Claims.{Share}
use Rattle.claims.specs.declared.share.ShareView.{ShareView}
use Rattle.claims.specs.declared.share.SharesView.{SharesView}

abbrev pub share_seen : ShareView → Share ℕ
share_seen s = record { factor = s.factor; point = s.point.now }

abbrev pub second_seen : Option ShareView → List (Share ℕ)
second_seen None = []
second_seen (Some s) = share_seen s ∷ []

abbrev pub shares_seen : SharesView → List (Share ℕ)
shares_seen s = share_seen s.first ∷ second_seen s.second

-- a share with a point of so many coordinates, all of it reduced
pub record ShareFits (p size : ℕ) (s : ShareView) : Type 0 where
  pub factor_below : s.factor < p
  pub coordinates : length s.point.now ≡ size
  pub reduced : T (all_reduced (modulo p) s.point.now)

abbrev pub SecondFits : ℕ → ℕ → Option ShareView → Type 0
SecondFits p size None = Unit {0}
SecondFits p size (Some s) = ShareFits p size s

pub record SharesFit (p size : ℕ) (s : SharesView) : Type 0 where
  pub first : ShareFits p size s.first
  pub second : SecondFits p size s.second
