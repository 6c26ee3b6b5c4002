-- A table of powers of two, proved by one test that is computed over the whole of it.
-- The test says of each entry, counted from k on, that it is 2 to its number.
use Rattle.std.proofs.Common.{◌≡◌, ℕ, zero, suc, ◌+◌, ◌^◌, ◌<◌, ◌≤◌, Bool, true, ◌&&◌, eqb, List, [], ◌∷◌, length, get_or, ap, ◌∙◌, le_of_suc-le-suc, arith, pow_pos, pow_mono, eqb-true}
use mathlib.Core.Path.{subst⁻¹}
use Rattle.std.proofs.lemmas.Bool.{and_parts}

unfoldable pub powers_from : ℕ → List ℕ → Bool
powers_from k [] = true
powers_from k (x ∷ xs) = eqb x (2 ^ k) && powers_from (suc k) xs

power_at : (xs : List ℕ) (k i : ℕ) → powers_from k xs ≡ true → i < length xs → get_or xs i 0 ≡ 2 ^ (k + i)
unfolding powers_from
power_at [] k i t h = absurd (omega arith)
power_at (x ∷ xs) k zero t h =
    eqb-true x (2 ^ k) (and_parts (eqb x (2 ^ k)) (powers_from (suc k) xs) t).0 ∙ ap (λ (n : ℕ). 2 ^ n) (omega arith)
power_at (x ∷ xs) k (suc i) t h =
    power_at xs (suc k) i (and_parts (eqb x (2 ^ k)) (powers_from (suc k) xs) t).1 (le_of_suc-le-suc h)
    ∙ ap (λ (n : ℕ). 2 ^ n) (omega arith)

pub bit_places : (xs : List ℕ) (i : ℕ) → powers_from 0 xs ≡ true → i < length xs → get_or xs i 0 ≡ 2 ^ i
bit_places xs i t h = power_at xs 0 i t h ∙ ap (λ (n : ℕ). 2 ^ n) (omega arith)

-- what a caller wants of them too: none is 0, and the first 17 are at most 2^16
pub bit_limit : (xs : List ℕ) (i : ℕ) → powers_from 0 xs ≡ true → i < length xs → i ≤ 16 → get_or xs i 0 ≤ 65536
bit_limit xs i t h small = subst⁻¹ (λ (n : ℕ). n ≤ 65536) (bit_places xs i t h) (pow_mono small)

pub bit_some : (xs : List ℕ) (i : ℕ) → powers_from 0 xs ≡ true → i < length xs → 0 < get_or xs i 0
bit_some xs i t h = subst⁻¹ (λ (n : ℕ). 0 < n) (bit_places xs i t h) (pow_pos i)
