-- 2^31 - 1 is whole: it has no divisor but 1 and itself, which trying all numbers up to its square root shows.
-- A product that it divides has a factor that it divides, by division with rest again and again.
use Rattle.std.proofs.Common.{◌≡◌, ℕ, zero, suc, ◌+◌, ◌*◌, ◌/◌, ◌%◌, ◌^◌, ◌<◌, ◌≤◌, Bool, true, false, not, ◌&&◌, eqb, ◌⊎◌, [], ◌∷◌, sym, refl, ap, ◌∙◌, inl, inr, mod-lt, mod-eq_of_lt, mul_comm, mul-le-mul, one-mul, div-add-mod', arith}
use native.Mathlib.Nat.{mod_self, mul-mod_left, two-pow-succ}
use native.Mathlib.Decide.{dec_lt}
use Rattle.std.proofs.lemmas.Bool.{and_parts, eq-eqb}
use Rattle.arithmetic.specs.Numbers.{Whole}
use Rattle.arithmetic.proofs.Modulo.{ring_modulo}
use Rattle.arithmetic.proofs.Solver.{var, con, ◌:+◌, ◌:*◌, ◌:-◌, solve_by, given}
use Rattle.arithmetic.specs.Theorems.{WholeMersenne31, WholeExamples}

-- none of the 2^k numbers from d on divides p
unfoldable none_divides : ℕ → ℕ → ℕ → Bool
none_divides p zero d = not (eqb (p % d) 0)
none_divides p (suc k) d = none_divides p k d && none_divides p k (d + 2 ^ k)

not_both : (b : Bool) → b ≡ true → not b ≡ true → ⊥
not_both true e f = let z : ◌≡◌ {A = Bool} false true = f in let w : ◌≡◌ {A = ℕ} 0 1 = cc in omega arith
not_both false e f = let w : ◌≡◌ {A = ℕ} 0 1 = cc in omega arith

none_divides_lem : (p k d : ℕ) → none_divides p k d ≡ true → (e : ℕ) → d ≤ e → e < d + 2 ^ k → p % e ≡ 0 → ⊥
unfolding none_divides
none_divides_lem p zero d t e h l z =
    let same : e ≡ d = omega arith in
    not_both (eqb (p % d) 0) (eq-eqb (p % d) 0 (ap (λ (n : ℕ). p % n) (sym same) ∙ z)) t
none_divides_lem p (suc k) d t e h l z =
    let parts = and_parts (none_divides p k d) (none_divides p k (d + 2 ^ k)) t in
    go (dec_lt e (d + 2 ^ k)) (λ low. none_divides_lem p k d parts.0 e h low z)
    (λ high. none_divides_lem p k (d + 2 ^ k) parts.1 e high (omega (arith, two-pow-succ k)) z)
  where
    go : Dec (e < d + 2 ^ k) → (e < d + 2 ^ k → ⊥) → (d + 2 ^ k ≤ e → ⊥) → ⊥
    go (yes low) f g = f low
    go (no high) f g = g (omega arith)

-- ---- from no divisors to no divisors of 0
module _ (p : ℕ) (several : 1 < p) (prime : (d : ℕ) → 1 < d → d < p → p % d ≡ 0 → ⊥) where
  rest_divides : (a b : ℕ) → (a * b) % p ≡ 0 → (p % a * b) % p ≡ 0
  rest_divides a b h =
      let q : ℕ = p / a in
      let r : ℕ = p % a in
      let zero_is : 0 % p ≡ 0 = mod-eq_of_lt (omega arith) in
      let whole : ((q * a) % p + r) % p ≡ 0 % p =
      modulo-add (q * a) r ∙ ap (λ (n : ℕ). n % p) (div-add-mod' p a) ∙ mod_self p ∙ sym zero_is in
      solve_by (ring_modulo p several) (a ∷ b ∷ q ∷ r ∷ [])
      (given (var 1) (var 2 :* var 0 :+ var 3) (con 0) ∷ given (con 0 :- var 2) (var 0 :* var 1) (con 0) ∷ [])
      (whole, (h ∙ sym zero_is, tt)) (var 3 :* var 1) (con 0) refl
      ∙ zero_is
    where
      modulo-add : (m n : ℕ) → (m % p + n) % p ≡ (m + n) % p
      modulo-add m n = (ring_modulo p several).add_reduce m n

  factor_divided : (fuel a b : ℕ) → a ≤ fuel → 0 < a → a < p → (a * b) % p ≡ 0 → b % p ≡ 0
  factor_divided zero a b f h l z = absurd (omega arith)
  factor_divided (suc fuel) a b f h l z =
      go (dec_lt 1 a) (dec_lt 0 (p % a)) (λ some small. factor_divided fuel (p % a) b (omega arith) some (omega arith) (rest_divides a b z))
    where
      go : Dec (1 < a) → Dec (0 < p % a) → (0 < p % a → p % a < a → b % p ≡ 0) → b % p ≡ 0
      go (yes one) (yes some) again = again some (mod-lt p (omega arith))
      go (yes one) (no none) again = absurd (prime a one l (omega arith))
      go (no small) rest again =
          let is_one : a ≡ 1 = omega arith in
          ap (λ (n : ℕ). n % p) (sym (one-mul b)) ∙ ap (λ (n : ℕ). (n * b) % p) (sym is_one) ∙ z

  whole_of : Whole p
  whole_of = (several, λ a b la lb z. go a b la lb z (dec_lt 0 a))
    where
      go : (a b : ℕ) → a < p → b < p → (a * b) % p ≡ 0 → Dec (0 < a) → (a ≡ 0) ⊎ (b ≡ 0)
      go a b la lb z (yes some) = inr (sym (mod-eq_of_lt lb) ∙ factor_divided a a b (omega arith) some la z)
      go a b la lb z (no none) = inl (omega arith)

-- ---- trying the numbers up to the square root
module _ (p k b : ℕ) (bound : b ≡ 2 + 2 ^ k) (tried : none_divides p k 2 ≡ true) (enough : p < b * b) where
  -- the other factor is small where d is not
  other_factor : (e d : ℕ) → d < p → e * d ≡ p → b ≤ d → Dec (e < b) → ⊥
  other_factor e d less is large (no big) = let square : b * b ≤ e * d = mul-le-mul (omega arith) large in omega arith
  other_factor e d less is large (yes small) =
      let divides : p % e ≡ 0 = ap (λ (n : ℕ). n % e) (sym is ∙ mul_comm e d) ∙ mul-mod_left d e in
      none_divides_lem p k 2 tried e (at_least e is) (omega (arith, bound)) divides
    where
      at_least : (e : ℕ) → e * d ≡ p → 2 ≤ e
      at_least zero is = absurd (omega arith)
      at_least (suc zero) is = absurd (omega arith)
      at_least (suc (suc e)) is = omega arith

  no_divisor : (d : ℕ) → 1 < d → d < p → p % d ≡ 0 → ⊥
  no_divisor d one less z = go (dec_lt d b)
    where
      go : Dec (d < b) → ⊥
      go (yes small) = none_divides_lem p k 2 tried d (omega arith) (omega (arith, bound)) z
      go (no large) =
          let is : p / d * d ≡ p = omega (arith, div-add-mod' p d) in
          other_factor (p / d) d less is (omega arith) (dec_lt (p / d) b)

  whole_tried : 1 < p → Whole p
  whole_tried several = whole_of p several no_divisor

pub whole31 : WholeMersenne31
unfolding none_divides
whole31 = whole_tried 2147483647 16 65538 refl refl (omega arith) (omega arith)

pub whole_examples : WholeExamples
unfolding none_divides
whole_examples = (whole_tried 5 0 3 refl refl (omega arith) (omega arith), whole_tried 31 2 6 refl refl (omega arith) (omega arith))
