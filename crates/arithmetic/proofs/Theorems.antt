-- The theorems of `specs/Theorems.antt`, from the general ones over any field, at the numbers modulo p.
-- Here sums and products modulo p are joined to those of the plain numbers, reduced once.
use Rattle.std.proofs.Common.{◌≡◌, ℕ, ◌+◌, ◌*◌, ◌%◌, ◌^◌, sym, refl, ap, ◌∙◌, mod-eq_of_lt, mul-one, arith}
use native.Mathlib.Nat.{zero-mod, add-mod-mod, pow-succ', pow-zero}
use Rattle.arithmetic.specs.Numbers.{modulo}
use Rattle.arithmetic.specs.Cubic.{differences, newton}
use Rattle.arithmetic.specs.Theorems.{ThroughItsValues, ExactForCubics, AgreeAtMostThrice, ExampleModulo31, cubic_modulo}
use Rattle.arithmetic.proofs.Ring.{Ring}
use Rattle.arithmetic.proofs.Field.{Field}
use Rattle.arithmetic.proofs.Modulo.{ring_modulo, mul_mod_right}
use Rattle.arithmetic.proofs.FieldModulo.{field_modulo}
use Rattle.arithmetic.proofs.Degree.{Deg, deg_same, deg_horner}
use Rattle.arithmetic.proofs.Interpolation.{at0, at1, at2, at3}
use Rattle.arithmetic.proofs.Agreement.{agree, cubic}

pub through_its_values : ThroughItsValues
through_its_values p w l a b c d ha hb hc hd =
    (at0 F a b c d ∙ mod-eq_of_lt ha, at1 F a b c d ∙ mod-eq_of_lt hb, at2 F a b c d ∙ mod-eq_of_lt hc, at3 F a b c d ∙ mod-eq_of_lt hd)
  where
    F : Field (modulo p)
    F = field_modulo p w l

-- by Horner's rule, one coefficient at a time
horner : (p a x y z : ℕ) → z ≡ y % p → (a + (x * z) % p) % p ≡ (a + x * y) % p
horner p a x y z e =
    ap (λ u. (a + (x * u) % p) % p) e ∙ ap (λ u. (a + u) % p) (mul_mod_right p x y) ∙ add-mod-mod a (x * y) p

plain : (c0 c1 c2 c3 x : ℕ) → c0 + x * (c1 + x * (c2 + x * (c3 + x * 0))) ≡ c0 + c1 * x + c2 * x ^ 2 + c3 * x ^ 3
plain c0 c1 c2 c3 x =
    let one : x ^ 1 ≡ x = pow-succ' x 0 ∙ ap (◌*◌ x) (pow-zero x) ∙ mul-one x in
    let square : x ^ 2 ≡ x * x = pow-succ' x 1 ∙ ap (◌*◌ x) one in
    let cube : x ^ 3 ≡ x * (x * x) = pow-succ' x 2 ∙ ap (◌*◌ x) square in
    rw (square, cube) (omega arith)

pub exact_for_cubics : ExactForCubics
exact_for_cubics p w l c0 c1 c2 c3 x = cubic (field_modulo p w l) (cubic_modulo p c0 c1 c2 c3) degree x
  where
    R : Ring (modulo p)
    R = ring_modulo p w.0

    same : (t : ℕ) → (c0 + (t * ((c1 + (t * ((c2 + (t * ((c3 + (t * 0) % p) % p)) % p) % p)) % p) % p)) % p) % p ≡ cubic_modulo p c0 c1 c2 c3 t
    same t =
        horner p c0 t (c1 + t * (c2 + t * (c3 + t * 0))) _ (horner p c1 t (c2 + t * (c3 + t * 0)) _ (horner p c2 t (c3 + t * 0) _ (horner p c3 t 0 0 (sym (zero-mod p)))))
        ∙ ap (λ u. u % p) (plain c0 c1 c2 c3 t)

    degree : Deg (modulo p) 4 (cubic_modulo p c0 c1 c2 c3)
    degree = deg_same R 4 _ (cubic_modulo p c0 c1 c2 c3) same (deg_horner R 3 c0 _ (deg_horner R 2 c1 _ (deg_horner R 1 c2 _ (deg_horner R 0 c3 (λ t. 0) (λ t. refl)))))

pub agree_at_most_thrice : AgreeAtMostThrice
agree_at_most_thrice p w l ys zs = agree (field_modulo p w l) ys zs

pub example_modulo_31 : ExampleModulo31
unfolding differences newton
example_modulo_31 = (refl, refl)
