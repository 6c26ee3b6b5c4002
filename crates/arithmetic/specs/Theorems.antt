-- What is proved of interpolation modulo p, for every whole p above 3.
-- A cubic is known by its four values, and two different ones agree at most at three numbers.
use Rattle.std.specs.Prelude.{◌≡◌, ℕ, ◌+◌, ◌*◌, ◌%◌, ◌^◌, ◌<◌, ◌≤◌, T, ◌≢◌, List, [], ◌∷◌, length, nat_eq}
use Rattle.arithmetic.specs.Numbers.{modulo, Whole, all_reduced}
use Rattle.arithmetic.specs.Counting.{count_numbers}
use Rattle.arithmetic.specs.Cubic.{interpolate}

-- The interpolation of four numbers below p has them at 0, 1, 2 and 3.
abbrev pub ThroughItsValues : Type 0
ThroughItsValues =
    (p : ℕ) → Whole p → 3 < p → (a b c d : ℕ) → a < p → b < p → c < p → d < p →
    (interpolate (modulo p) (a ∷ b ∷ c ∷ d ∷ []) 0 ≡ a) × (interpolate (modulo p) (a ∷ b ∷ c ∷ d ∷ []) 1 ≡ b) ×
    (interpolate (modulo p) (a ∷ b ∷ c ∷ d ∷ []) 2 ≡ c) × (interpolate (modulo p) (a ∷ b ∷ c ∷ d ∷ []) 3 ≡ d)

-- The polynomial c0 + c1 x + c2 x^2 + c3 x^3 modulo p.
abbrev pub cubic_modulo : ℕ → ℕ → ℕ → ℕ → ℕ → ℕ → ℕ
cubic_modulo p c0 c1 c2 c3 x = (c0 + c1 * x + c2 * x ^ 2 + c3 * x ^ 3) % p

-- Whatever its coefficients, it is everywhere the interpolation of its own values at 0, 1, 2 and 3.
abbrev pub ExactForCubics : Type 0
ExactForCubics =
    (p : ℕ) → Whole p → 3 < p → (c0 c1 c2 c3 x : ℕ) →
    let f = cubic_modulo p c0 c1 c2 c3 in
    f x ≡ interpolate (modulo p) (f 0 ∷ f 1 ∷ f 2 ∷ f 3 ∷ []) x

-- Two different lists of four numbers below p have interpolations that are equal at most at three of the p numbers.
abbrev pub AgreeAtMostThrice : Type 0
AgreeAtMostThrice =
    (p : ℕ) → Whole p → 3 < p → (ys zs : List ℕ) → length ys ≡ 4 → length zs ≡ 4 →
    T (all_reduced (modulo p) ys) → T (all_reduced (modulo p) zs) → ys ≢ zs →
    count_numbers (modulo p) (λ x. nat_eq (interpolate (modulo p) ys x) (interpolate (modulo p) zs x)) ≤ 3

-- The modulus of the programs, 2^31 - 1, is whole.
abbrev pub WholeMersenne31 : Type 0
WholeMersenne31 = Whole 2147483647

-- So are 5 and 31, for which examples are worked out: what is promised for whole moduli is not promised for none.
abbrev pub WholeExamples : Type 0
WholeExamples = Whole 5 × Whole 31

-- The squares 1, 4, 9, 16 go on with 25, and modulo 31 the square of 31 is 0.
abbrev pub ExampleModulo31 : Type 0
ExampleModulo31 =
    (interpolate (modulo 31) (1 ∷ 4 ∷ 9 ∷ 16 ∷ []) 4 ≡ 25) × (interpolate (modulo 31) (1 ∷ 4 ∷ 9 ∷ 16 ∷ []) 30 ≡ 0)
