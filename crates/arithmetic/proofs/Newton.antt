-- A cubic's four values one by one, and Newton's form written out as the code goes through it.
-- For lists of numbers modulo p.
use Rattle.std.proofs.Common.{◌≡◌, ℕ, zero, suc, ◌+◌, ◌*◌, ◌%◌, ◌<◌, T, ltb, List, [], ◌∷◌, length, get_or, refl, ap, le_of_suc-le-suc, not-suc-le-zero, add-zero, mod-eq_of_lt, mul-zero, arith, ltb→lt}
use native.Mathlib.Nat.{zero-mod}
use Rattle.arithmetic.specs.Numbers.{modulo, inverse_modulo, all_reduced}
use Rattle.arithmetic.specs.Cubic.{interpolate, newton, differences}
use Rattle.arithmetic.proofs.Truth.{and_left, and_right}

-- each number of a reduced list is below the modulus
pub reduced_at : (p : ℕ) (xs : List ℕ) → T (all_reduced (modulo p) xs) → (i : ℕ) → i < length xs → get_or xs i 0 < p
unfolding all_reduced
reduced_at p [] t i h = absurd (not-suc-le-zero h)
reduced_at p (x ∷ xs) t zero h = ltb→lt x p (and_left (ltb x p) (all_reduced (modulo p) xs) t)
reduced_at p (x ∷ xs) t (suc i) h =
    reduced_at p xs (and_right (ltb x p) (all_reduced (modulo p) xs) t) i (le_of_suc-le-suc h)

pub four_below :
    (p : ℕ) (xs : List ℕ) → T (all_reduced (modulo p) xs) → length xs ≡ 4 →
    (get_or xs 0 0 < p) × (get_or xs 1 0 < p) × (get_or xs 2 0 < p) × (get_or xs 3 0 < p)
four_below p xs t e =
    let at : (i : ℕ) → i < length xs → get_or xs i 0 < p = reduced_at p xs t in
    (at 0 (omega arith), at 1 (omega arith), at 2 (omega arith), at 3 (omega arith))

-- a list of four, place by place
pub four_places : (xs : List ℕ) → length xs ≡ 4 → xs ≡ get_or xs 0 0 ∷ get_or xs 1 0 ∷ get_or xs 2 0 ∷ get_or xs 3 0 ∷ []
four_places [] e = absurd (omega arith)
four_places (a ∷ []) e = absurd (omega arith)
four_places (a ∷ b ∷ []) e = absurd (omega arith)
four_places (a ∷ b ∷ c ∷ []) e = absurd (omega arith)
four_places (a ∷ b ∷ c ∷ d ∷ []) e = refl
four_places (a ∷ b ∷ c ∷ d ∷ x ∷ xs) e = absurd (omega arith)

-- one step of Newton's form
abbrev pub newton_step : ℕ → ℕ → ℕ → ℕ → ℕ → ℕ
newton_step p y i x rest = (y + ((((modulo p).sub x i) * inverse_modulo p (i + 1)) % p * rest) % p) % p

-- the innermost step adds nothing
innermost : (p y k : ℕ) → y < p → (y + (k * 0) % p) % p ≡ y
innermost p y k h = rw (mul-zero k, zero-mod p, add-zero y) (mod-eq_of_lt h)

-- the polynomial through four values, by their first, second and third differences
pub newton_steps :
    (p y0 y1 y2 y3 x : ℕ) →
    let sub : ℕ → ℕ → ℕ = (modulo p).sub in
    let second : ℕ = sub (sub y2 y1) (sub y1 y0) in
    let third : ℕ = sub (sub (sub y3 y2) (sub y2 y1)) second in
    third < p →
    interpolate (modulo p) (y0 ∷ y1 ∷ y2 ∷ y3 ∷ []) x ≡
    newton_step p y0 0 x (newton_step p (sub y1 y0) 1 x (newton_step p second 2 x third))
unfolding newton differences
newton_steps p y0 y1 y2 y3 x h =
    let sub : ℕ → ℕ → ℕ = (modulo p).sub in
    let second : ℕ = sub (sub y2 y1) (sub y1 y0) in
    ap (λ (z : ℕ). newton_step p y0 0 x (newton_step p (sub y1 y0) 1 x (newton_step p second 2 x z))) (innermost p _ _ h)
