-- The multilinear extension as its table varies: linear in the table, and along the first variable a line between the halves.
-- Blending is one case of combining two tables, so a single induction over the point gives all of it.
use Rattle.std.proofs.Common.{◌≡◌, ℕ, zero, suc, ◌/◌, min, List, [], ◌∷◌, ◌++◌, length, take, drop, sym, refl, ap, ◌∙◌, ap₂, suc-ne-zero, arith, length-append, length-drop, length-take, take_at, drop_at}
use native.Mathlib.Nat.{suc-min-suc}
use Rattle.arithmetic.specs.Numbers.{Numbers}
use Rattle.arithmetic.proofs.Ring.{Ring, reduce-reduce}
use Rattle.arithmetic.proofs.Solver.{var, con, ◌:+◌, ◌:*◌, ◌:-◌, red, solve}
use Rattle.tables.specs.Multilinear.{blend, fix_first, mle}
use Rattle.tables.specs.Theorems.{combine}

module _ {K : Type 0} {N : Numbers K} (R : Ring N) where
  open N use {reduce, add, sub, mul, nat}

  pub reduce-mle : (z xs : List K) → reduce (mle N xs z) ≡ mle N xs z
  unfolding mle
  reduce-mle [] xs = reduce-reduce R _
  reduce-mle (r ∷ z) xs = reduce-mle z (fix_first N r xs)

  -- tables combined
  combine-nil : (s t : K) (xs : List K) → combine N s t xs [] ≡ []
  unfolding combine
  combine-nil s t [] = refl
  combine-nil s t (a ∷ xs) = refl

  pub combine-length : (s t : K) (xs ys : List K) → length xs ≡ length ys → length (combine N s t xs ys) ≡ length xs
  unfolding combine
  combine-length s t [] ys e = refl
  combine-length s t (a ∷ xs) [] e = sym e
  combine-length s t (a ∷ xs) (b ∷ ys) e = ap suc (combine-length s t xs ys (omega arith))

  combine-take : (n : ℕ) (s t : K) (xs ys : List K) → take n (combine N s t xs ys) ≡ combine N s t (take n xs) (take n ys)
  unfolding combine
  combine-take zero s t xs ys = refl
  combine-take (suc n) s t [] ys = refl
  combine-take (suc n) s t (a ∷ xs) [] = refl
  combine-take (suc n) s t (a ∷ xs) (b ∷ ys) = ap {B = List K} (λ l. add (mul s a) (mul t b) ∷ l) (combine-take n s t xs ys)

  combine-drop : (n : ℕ) (s t : K) (xs ys : List K) → drop n (combine N s t xs ys) ≡ combine N s t (drop n xs) (drop n ys)
  unfolding combine
  combine-drop zero s t xs ys = refl
  combine-drop (suc n) s t [] ys = refl
  combine-drop (suc n) s t (a ∷ xs) [] = sym (combine-nil s t (drop n xs))
  combine-drop (suc n) s t (a ∷ xs) (b ∷ ys) = combine-drop n s t xs ys

  -- to combine and to blend may change places
  blend-combine : (r s t : K) (xs ys us vs : List K) → blend N r (combine N s t xs us) (combine N s t ys vs) ≡ combine N s t (blend N r xs ys) (blend N r us vs)
  unfolding blend combine
  blend-combine r s t [] ys us vs = refl
  blend-combine r s t (x ∷ xs) [] [] vs = refl
  blend-combine r s t (x ∷ xs) (y ∷ ys) [] vs = refl
  blend-combine r s t (x ∷ xs) [] (u ∷ us) vs = refl
  blend-combine r s t (x ∷ xs) (y ∷ ys) (u ∷ us) [] = refl
  blend-combine r s t (x ∷ xs) (y ∷ ys) (u ∷ us) (v ∷ vs) =
      ap₂ {C = List K} ◌∷◌
      (solve R (r ∷ s ∷ t ∷ x ∷ y ∷ u ∷ v ∷ [])
      ((con 1 :- var 0) :* (var 1 :* var 3 :+ var 2 :* var 5) :+ var 0 :* (var 1 :* var 4 :+ var 2 :* var 6))
      (var 1 :* ((con 1 :- var 0) :* var 3 :+ var 0 :* var 4) :+ var 2 :* ((con 1 :- var 0) :* var 5 :+ var 0 :* var 6)) refl)
      (blend-combine r s t xs ys us vs)

  pub blend-length : (r t : K) (xs ys : List K) → length (blend N r xs ys) ≡ length (blend N t xs ys)
  unfolding blend
  blend-length r t [] ys = refl
  blend-length r t (a ∷ xs) [] = refl
  blend-length r t (a ∷ xs) (b ∷ ys) = ap suc (blend-length r t xs ys)

  blend_size : (r : K) (xs ys : List K) → length (blend N r xs ys) ≡ min (length xs) (length ys)
  unfolding blend
  blend_size r [] ys = omega arith
  blend_size r (a ∷ xs) [] = omega arith
  blend_size r (a ∷ xs) (b ∷ ys) = ap suc (blend_size r xs ys) ∙ sym (suc-min-suc (length xs) (length ys))

  pub fix_first-length : (r : K) (xs : List K) → length (fix_first N r xs) ≡ length xs / 2
  fix_first-length r xs = blend_size r _ _ ∙ simp (length-take, length-drop) (omega arith)

  pub mle-combine : (z : List K) (s t : K) (xs ys : List K) → length xs ≡ length ys →
      mle N (combine N s t xs ys) z ≡ add (mul s (mle N xs z)) (mul t (mle N ys z))
  unfolding mle combine
  mle-combine [] s t [] [] e = solve R (s ∷ t ∷ []) (con 0) (var 0 :* red (con 0) :+ var 1 :* red (con 0)) refl
  mle-combine [] s t [] (b ∷ ys) e = absurd (suc-ne-zero _ (sym e))
  mle-combine [] s t (a ∷ xs) [] e = absurd (suc-ne-zero _ e)
  mle-combine [] s t (a ∷ xs) (b ∷ ys) e =
      solve R (s ∷ t ∷ a ∷ b ∷ []) (red (var 0 :* var 2 :+ var 1 :* var 3)) (var 0 :* red (var 2) :+ var 1 :* red (var 3)) refl
  mle-combine (r ∷ z) s t xs ys e =
      ap (λ l. mle N l z) (halved (length (combine N s t xs ys) / 2) (ap (λ n. n / 2) (combine-length s t xs ys e)) (ap (λ n. n / 2) (combine-length s t xs ys e ∙ e)))
      ∙ mle-combine z s t (fix_first N r xs) (fix_first N r ys) (fix_first-length r xs ∙ ap (λ n. n / 2) e ∙ sym (fix_first-length r ys))
    where
      halved : (h : ℕ) → h ≡ length xs / 2 → h ≡ length ys / 2 →
          blend N r (take h (combine N s t xs ys)) (drop h (combine N s t xs ys)) ≡ combine N s t (fix_first N r xs) (fix_first N r ys)
      halved h f g =
          ap₂ (blend N r) (combine-take h s t xs ys) (combine-drop h s t xs ys)
          ∙ blend-combine r s t (take h xs) (drop h xs) (take h ys) (drop h ys)
          ∙ ap₂ (λ m n. combine N s t (blend N r (take m xs) (drop m xs)) (blend N r (take n ys) (drop n ys))) f g

  -- blending is combining
  blend_is_combine : (r : K) (xs ys : List K) → blend N r xs ys ≡ combine N (sub (nat 1) r) r xs ys
  unfolding blend combine
  blend_is_combine r [] ys = refl
  blend_is_combine r (a ∷ xs) [] = refl
  blend_is_combine r (a ∷ xs) (b ∷ ys) = ap {B = List K} (λ l. add (mul (sub (nat 1) r) a) (mul r b) ∷ l) (blend_is_combine r xs ys)

  pub mle-blend : (z : List K) (r : K) (xs ys : List K) → length xs ≡ length ys →
      mle N (blend N r xs ys) z ≡ add (mul (sub (nat 1) r) (mle N xs z)) (mul r (mle N ys z))
  mle-blend z r xs ys e = ap (λ l. mle N l z) (blend_is_combine r xs ys) ∙ mle-combine z (sub (nat 1) r) r xs ys e

  -- a blend is the same blend of the two at 0 and at 1, whatever the lengths
  blend_ends : (r : K) (xs ys : List K) → blend N r xs ys ≡ blend N r (blend N (nat 0) xs ys) (blend N (nat 1) xs ys)
  unfolding blend
  blend_ends r [] ys = refl
  blend_ends r (a ∷ xs) [] = refl
  blend_ends r (a ∷ xs) (b ∷ ys) =
      ap₂ {C = List K} ◌∷◌
      (solve R (r ∷ a ∷ b ∷ []) ((con 1 :- var 0) :* var 1 :+ var 0 :* var 2)
      ((con 1 :- var 0) :* ((con 1 :- con 0) :* var 1 :+ con 0 :* var 2) :+ var 0 :* ((con 1 :- con 1) :* var 1 :+ con 1 :* var 2)) refl)
      (blend_ends r xs ys)

  -- a line between the values at 0 and at 1, for any table
  pub mle_first : (r : K) (z xs : List K) → mle N xs (r ∷ z) ≡ add (mul (sub (nat 1) r) (mle N xs (nat 0 ∷ z))) (mul r (mle N xs (nat 1 ∷ z)))
  unfolding mle
  mle_first r z xs =
      ap (λ l. mle N l z) (blend_ends r _ _)
      ∙ mle-blend z r (fix_first N (nat 0) xs) (fix_first N (nat 1) xs) (fix_first-length (nat 0) xs ∙ sym (fix_first-length (nat 1) xs))

  -- two tables of one length, one after the other, are the halves of the whole
  pub fix_first_halves : (r : K) (xs ys : List K) → length xs ≡ length ys → fix_first N r (xs ++ ys) ≡ blend N r xs ys
  fix_first_halves r xs ys e = ap₂ (blend N r) (take_at xs ys _ half) (drop_at xs ys _ half)
    where
      half : length xs ≡ length (xs ++ ys) / 2
      half = rw length-append (omega arith)

  pub mle_halves : (xs ys : List K) (r : K) (z : List K) → length xs ≡ length ys →
      mle N (xs ++ ys) (r ∷ z) ≡ add (mul (sub (nat 1) r) (mle N xs z)) (mul r (mle N ys z))
  unfolding mle
  mle_halves xs ys r z e = ap (λ l. mle N l z) (fix_first_halves r xs ys e) ∙ mle-blend z r xs ys e

  pub mle-zero : (xs ys z : List K) → length xs ≡ length ys → mle N (xs ++ ys) (nat 0 ∷ z) ≡ mle N xs z
  mle-zero xs ys z e =
      mle_halves xs ys (nat 0) z e
      ∙ solve R (mle N xs z ∷ mle N ys z ∷ []) ((con 1 :- con 0) :* var 0 :+ con 0 :* var 1) (var 0) refl ∙ reduce-mle z xs

  pub mle-one : (xs ys z : List K) → length xs ≡ length ys → mle N (xs ++ ys) (nat 1 ∷ z) ≡ mle N ys z
  mle-one xs ys z e =
      mle_halves xs ys (nat 1) z e
      ∙ solve R (mle N xs z ∷ mle N ys z ∷ []) ((con 1 :- con 1) :* var 0 :+ con 1 :* var 1) (var 1) refl ∙ reduce-mle z ys
