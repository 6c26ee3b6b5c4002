-- The cubic through four values: it has them at 0, 1, 2 and 3, and its degree is below 4.
-- The four equations are identities of the ring once 1, 2 and 3 are known to have inverses.
use Rattle.std.proofs.Common.{◌≡◌, List, [], ◌∷◌, refl, ap}
use Rattle.arithmetic.specs.Numbers.{Numbers}
use Rattle.arithmetic.specs.Cubic.{differences, newton, interpolate}
use Rattle.arithmetic.proofs.Ring.{reduce-sub}
use Rattle.arithmetic.proofs.Solver.{Exp, var, con, ◌:+◌, ◌:*◌, ◌:-◌, solve, solve_by, given}
use Rattle.arithmetic.proofs.Field.{Field}
use Rattle.arithmetic.proofs.Degree.{Deg, deg_next}

-- the four values are the variables 0 to 3, the inverses of 1 to 4 those from 4 to 7
abbrev second : Exp
second = var 2 :- var 1 :- (var 1 :- var 0)

abbrev third : Exp
third = var 3 :- var 2 :- (var 2 :- var 1) :- (var 2 :- var 1 :- (var 1 :- var 0))

abbrev from_third : Exp → Exp
from_third x = third :+ (x :- con 3) :* var 7 :* con 0

abbrev from_second : Exp → Exp
from_second x = second :+ (x :- con 2) :* var 6 :* from_third x

abbrev from_first : Exp → Exp
from_first x = (var 1 :- var 0) :+ (x :- con 1) :* var 5 :* from_second x

abbrev cubic : Exp → Exp
cubic x = var 0 :+ (x :- con 0) :* var 4 :* from_first x

module _ {K : Type 0} {N : Numbers K} (F : Field N) where
  open N use {reduce, add, sub, mul, nat, inverse}
  open F use {ring as R, inverse_one, inverse_two, inverse_three}

  abbrev environment : K → K → K → K → List K
  environment a b c d = a ∷ b ∷ c ∷ d ∷ inverse 1 ∷ inverse 2 ∷ inverse 3 ∷ inverse 4 ∷ []

  pub at0 : (a b c d : K) → interpolate N (a ∷ b ∷ c ∷ d ∷ []) (nat 0) ≡ reduce a
  unfolding differences newton
  at0 a b c d = solve R (environment a b c d) (cubic (con 0)) (var 0) refl

  pub at1 : (a b c d : K) → interpolate N (a ∷ b ∷ c ∷ d ∷ []) (nat 1) ≡ reduce b
  unfolding differences newton
  at1 a b c d =
      solve_by R (environment a b c d) (given (var 1 :- var 0) (var 4) (con 1) ∷ []) (ap reduce inverse_one, tt) (cubic (con 1)) (var 1) refl

  pub at2 : (a b c d : K) → interpolate N (a ∷ b ∷ c ∷ d ∷ []) (nat 2) ≡ reduce c
  unfolding differences newton
  at2 a b c d =
      solve_by R (environment a b c d) (given (con 2 :* from_first (con 2)) (var 4) (con 1) ∷ given second (con 2 :* var 5) (con 1) ∷ [])
      (ap reduce inverse_one, (inverse_two, tt)) (cubic (con 2)) (var 2) refl

  pub at3 : (a b c d : K) → interpolate N (a ∷ b ∷ c ∷ d ∷ []) (nat 3) ≡ reduce d
  unfolding differences newton
  at3 a b c d =
      solve_by R (environment a b c d)
      (given (con 3 :* from_first (con 3)) (var 4) (con 1) ∷ given (con 3 :* from_second (con 3)) (con 2 :* var 5) (con 1) ∷ given third (con 3 :* var 6) (con 1) ∷ [])
      (ap reduce inverse_one, (inverse_two, (inverse_three, tt))) (cubic (con 3)) (var 3) refl

  pub deg_interpolate : (a b c d : K) → reduce a ≡ a → Deg N 4 (interpolate N (a ∷ b ∷ c ∷ d ∷ []))
  unfolding differences newton
  deg_interpolate a b c d e =
      deg_next R 3 (nat 0) (inverse 1) a _ e
      (deg_next R 2 (nat 1) (inverse 2) _ _ (reduce-sub R _ _) (deg_next R 1 (nat 2) (inverse 3) _ _ (reduce-sub R _ _) (deg_next R 0 (nat 3) (inverse 4) _ (λ x. nat 0) (reduce-sub R _ _) (λ x. refl))))
