-- An honest prover's answers depend only on what its functions are at points of the right length.
-- So it may hold any other form of the sum that is left, and go on from that.
use Rattle.std.proofs.Common.{◌≡◌, ℕ, zero, suc, List, [], ◌∷◌, length, refl, ap}
use Rattle.arithmetic.specs.Numbers.{Numbers}
use Rattle.arithmetic.proofs.Ring.{Ring}
use Rattle.tables.specs.Multilinear.{sum_corners}
use Rattle.tables.proofs.Corners.{sum_corners_eq}
use Rattle.argument.specs.Sumcheck.{Prover, four_values, respond}

module _ {K : Type 0} {N : Numbers K} (R : Ring N) where
  open N use {nat}

  pub four_values_same : (g h : K → K) → ((t : K) → g t ≡ h t) → four_values N g ≡ four_values N h
  four_values_same g h e = rw (e (nat 0), e (nat 1), e (nat 2), e (nat 3)) refl

  pub respond_same : (n : ℕ) (G H : List K → K) (next later : List K → Prover K) → ((z : List K) → length z ≡ n → G z ≡ H z) →
      ((z : List K) → length z ≡ n → (coins : List K) → next z coins ≡ later z coins) →
      (coins : List K) → respond N n G next coins ≡ respond N n H later coins
  unfolding respond
  respond_same zero G H next later e f coins = f [] refl coins
  respond_same (suc n) G H next later e f [] =
      four_values_same (λ t. sum_corners N n (λ z. G (t ∷ z))) (λ t. sum_corners N n (λ z. H (t ∷ z)))
      (λ t. sum_corners_eq R n (λ z. G (t ∷ z)) (λ z. H (t ∷ z)) (λ z l. e (t ∷ z) (ap suc l)))
  respond_same (suc n) G H next later e f (r ∷ coins) =
      respond_same n (λ z. G (r ∷ z)) (λ z. H (r ∷ z)) (λ z. next (r ∷ z)) (λ z. later (r ∷ z)) (λ z l. e (r ∷ z) (ap suc l))
      (λ z l. f (r ∷ z) (ap suc l)) coins
