-- A number added at one place of a table adds, to the extension, that number times eq at the place.
-- Both are read off the extension as a sum over places.
use Rattle.std.proofs.Common.{◌≡◌, ℕ, zero, suc, ◌+◌, ◌^◌, ◌<◌, List, [], ◌∷◌, length, get_or, replicate, sym, refl, ap, ◌∙◌, ap₂, le_of_suc-le-suc, not-suc-le-zero, add-zero, arith, length-set}
use lib.ListN.{length-replicate}
use Rattle.arithmetic.specs.Numbers.{Numbers}
use Rattle.arithmetic.proofs.Ring.{Ring}
use Rattle.arithmetic.proofs.Solver.{var, ◌:+◌, ◌:*◌, solve}
use Rattle.tables.specs.Multilinear.{mle, eq_poly, bits_of}
use Rattle.tables.specs.Theorems.{sum_places}
use Rattle.tables.proofs.Places.{sum_places-mle}
use Rattle.fronts.specs.Gathers.{add_at}
use Rattle.phases.proofs.GateTerms.{add_zeros}

module _ {K : Type 0} {N : Numbers K} (R : Ring N) where
  open N use {reduce, add, mul, nat}

  sum_places_added : (k j : ℕ) (table : List K) (i : ℕ) (a : K) (z : List K) → i < length table →
      sum_places N k j (add_at N table i a) z ≡ add (sum_places N k j table z) (mul (eq_poly N (bits_of N k (j + i)) z) a)
  unfolding sum_places
  sum_places_added k j [] i a z h = absurd (not-suc-le-zero h)
  sum_places_added k j (x ∷ xs) zero a z h =
      let e : K = eq_poly N (bits_of N k j) z in
      solve R (e ∷ x ∷ a ∷ sum_places N k (j + 1) xs z ∷ []) (var 0 :* (var 1 :+ var 2) :+ var 3) (var 0 :* var 1 :+ var 3 :+ var 0 :* var 2) refl
      ∙ ap (λ (p : ℕ). add (add (mul e x) (sum_places N k (j + 1) xs z)) (mul (eq_poly N (bits_of N k p) z) a)) (sym (add-zero j))
  sum_places_added k j (x ∷ xs) (suc i) a z h =
      let place : j + 1 + i ≡ j + suc i = omega arith in
      ap (add (mul (eq_poly N (bits_of N k j) z) x)) (sum_places_added k (j + 1) xs i a z (le_of_suc-le-suc h))
      ∙ sym (R.add_assoc (mul (eq_poly N (bits_of N k j) z) x) (sum_places N k (j + 1) xs z) (mul (eq_poly N (bits_of N k (j + 1 + i)) z) a))
      ∙ ap (λ (p : ℕ). add (add (mul (eq_poly N (bits_of N k j) z) x) (sum_places N k (j + 1) xs z)) (mul (eq_poly N (bits_of N k p) z) a)) place

  pub mle_added : (k : ℕ) (table : List K) (i : ℕ) (a : K) (z : List K) → length table ≡ 2 ^ k → i < 2 ^ k → length z ≡ k →
      mle N (add_at N table i a) z ≡ add (mle N table z) (mul (eq_poly N (bits_of N k i) z) a)
  mle_added k table i a z e h f =
      sym (sum_places-mle R k (add_at N table i a) z (length-set table i (add (get_or table i (nat 0)) a) ∙ e) f)
      ∙ sum_places_added k 0 table i a z (omega arith)
      ∙ ap₂ (λ s (p : ℕ). add s (mul (eq_poly N (bits_of N k p) z) a)) (sum_places-mle R k table z e f) (omega arith)

  sum_places_zeros : (k j n : ℕ) (z : List K) → sum_places N k j (replicate n (nat 0)) z ≡ nat 0
  unfolding sum_places
  sum_places_zeros k j zero z = refl
  sum_places_zeros k j (suc n) z = ap₂ add (R.mul_zero _) (sum_places_zeros k (j + 1) n z) ∙ add_zeros R

  pub mle_zeros : (k : ℕ) (z : List K) → length z ≡ k → mle N (replicate (2 ^ k) (nat 0)) z ≡ nat 0
  mle_zeros k z f = sym (sum_places-mle R k (replicate (2 ^ k) (nat 0)) z (length-replicate (2 ^ k) (nat 0)) f) ∙ sum_places_zeros k 0 (2 ^ k) z
