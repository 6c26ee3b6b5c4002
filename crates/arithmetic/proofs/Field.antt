-- A ring in which the roots of a polynomial can be counted: no zero divisors, elements distinguished by a test.
-- It also has inverses of 2 and 3, so that a cubic is known by its values at 0, 1, 2 and 3.
use Rattle.std.proofs.Common.{◌≡◌, ℕ, ◌<◌, Bool, true, false, ◌⊎◌, sym, refl, ap, ◌∙◌, true≢false}
use Rattle.arithmetic.specs.Numbers.{Numbers}
use Rattle.arithmetic.proofs.Ring.{Ring}

pub record Field {K : Type 0} (N : Numbers K) : Type 0 where
  pub ring : Ring N
  pub whole : (a b c : K) → N.mul a c ≡ N.mul b c → (N.reduce c ≡ N.nat 0) ⊎ (N.reduce a ≡ N.reduce b)
  pub equal_true : (a b : K) → N.equal a b ≡ true → a ≡ b
  pub equal_refl : (a : K) → N.equal a a ≡ true
  pub reduced_true : (a : K) → N.reduced a ≡ true → N.reduce a ≡ a
  pub reduced_refl : (a : K) → N.reduce a ≡ a → N.reduced a ≡ true
  pub inverse_one : N.inverse 1 ≡ N.nat 1
  pub inverse_two : N.mul (N.nat 2) (N.inverse 2) ≡ N.reduce (N.nat 1)
  pub inverse_three : N.mul (N.nat 3) (N.inverse 3) ≡ N.reduce (N.nat 1)
  pub element_apart : (i j : ℕ) → i < N.order → j < N.order → N.element i ≡ N.element j → i ≡ j
  pub element_reduced : (i : ℕ) → i < N.order → N.reduce (N.element i) ≡ N.element i
  pub element_small : (i : ℕ) → i < 4 → N.element i ≡ N.nat i
  pub order_large : 3 < N.order

module _ {K : Type 0} {N : Numbers K} (F : Field N) where
  open N use {reduce, nat, equal}

  pub equal_false : (a b : K) → equal a b ≡ false → a ≡ b → ⊥
  equal_false a b e h = true≢false (sym (F.equal_refl a) ∙ ap (equal a) h ∙ e)

  pub equal_yes : (a b : K) → a ≡ b → equal a b ≡ true
  equal_yes a b h = ap (equal a) (sym h) ∙ F.equal_refl a

  pub equal_no : (a b : K) → (a ≡ b → ⊥) → equal a b ≡ false
  equal_no a b h = go (equal a b) refl
    where
      go : (t : Bool) → equal a b ≡ t → equal a b ≡ false
      go true e = absurd (h (F.equal_true a b e))
      go false e = e

  -- the numbers that the four values of a cubic stand at
  pub nat_reduced : (i : ℕ) → i < 4 → i < N.order → reduce (nat i) ≡ nat i
  nat_reduced i h k = ap reduce (sym (F.element_small i h)) ∙ F.element_reduced i k ∙ F.element_small i h
