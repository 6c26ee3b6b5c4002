-- Lists of numbers below a modulus: by their places, in parts, joined and computed.
-- Calls ask for such lists, and writes owe them.
use Rattle.std.proofs.Common.{ℕ, zero, suc, ◌<◌, T, ltb, List, [], ◌∷◌, ◌++◌, map, length, get_or, take, drop, suc-le-suc, arith, ltb→lt, lt→ltb}
use Rattle.arithmetic.specs.Numbers.{modulo, all_reduced}
use Rattle.arithmetic.proofs.Truth.{and_left, and_right, and_both}

module _ (p : ℕ) where
  -- past its end a list reads as 0, which is reduced too
  pub reduced_anywhere : 0 < p → (xs : List ℕ) → T (all_reduced (modulo p) xs) → (i : ℕ) → get_or xs i 0 < p
  unfolding all_reduced
  reduced_anywhere h [] t i = h
  reduced_anywhere h (x ∷ xs) t zero = ltb→lt x p (and_left (ltb x p) (all_reduced (modulo p) xs) t)
  reduced_anywhere h (x ∷ xs) t (suc i) = reduced_anywhere h xs (and_right (ltb x p) (all_reduced (modulo p) xs) t) i

  pub reduced_first : (x : ℕ) (xs : List ℕ) → T (all_reduced (modulo p) (x ∷ xs)) → x < p
  unfolding all_reduced
  reduced_first x xs t = ltb→lt x p (and_left (ltb x p) (all_reduced (modulo p) xs) t)

  pub reduced_rest : (x : ℕ) (xs : List ℕ) → T (all_reduced (modulo p) (x ∷ xs)) → T (all_reduced (modulo p) xs)
  unfolding all_reduced
  reduced_rest x xs t = and_right (ltb x p) (all_reduced (modulo p) xs) t

  pub reduced_from : (xs : List ℕ) → ((i : ℕ) → i < length xs → get_or xs i 0 < p) → T (all_reduced (modulo p) xs)
  unfolding all_reduced
  reduced_from [] h = tt
  reduced_from (x ∷ xs) h =
      and_both (ltb x p) (all_reduced (modulo p) xs) (lt→ltb x p (h 0 (omega arith))) (reduced_from xs (λ i l. h (suc i) (suc-le-suc l)))

  pub reduced_append : (xs ys : List ℕ) → T (all_reduced (modulo p) xs) → T (all_reduced (modulo p) ys) → T (all_reduced (modulo p) (xs ++ ys))
  unfolding all_reduced
  reduced_append [] ys s t = t
  reduced_append (x ∷ xs) ys s t =
      and_both (ltb x p) (all_reduced (modulo p) (xs ++ ys)) (and_left (ltb x p) (all_reduced (modulo p) xs) s)
      (reduced_append xs ys (and_right (ltb x p) (all_reduced (modulo p) xs) s) t)

  pub reduced_take : (n : ℕ) (xs : List ℕ) → T (all_reduced (modulo p) xs) → T (all_reduced (modulo p) (take n xs))
  unfolding all_reduced
  reduced_take zero xs t = tt
  reduced_take (suc n) [] t = tt
  reduced_take (suc n) (x ∷ xs) t =
      and_both (ltb x p) (all_reduced (modulo p) (take n xs)) (and_left (ltb x p) (all_reduced (modulo p) xs) t)
      (reduced_take n xs (and_right (ltb x p) (all_reduced (modulo p) xs) t))

  pub reduced_drop : (n : ℕ) (xs : List ℕ) → T (all_reduced (modulo p) xs) → T (all_reduced (modulo p) (drop n xs))
  unfolding all_reduced
  reduced_drop zero xs t = t
  reduced_drop (suc n) [] t = tt
  reduced_drop (suc n) (x ∷ xs) t = reduced_drop n xs (and_right (ltb x p) (all_reduced (modulo p) xs) t)

  pub reduced_map : (f : ℕ → ℕ) → ((x : ℕ) → f x < p) → (xs : List ℕ) → T (all_reduced (modulo p) (map f xs))
  unfolding all_reduced
  reduced_map f h [] = tt
  reduced_map f h (x ∷ xs) = and_both (ltb (f x) p) (all_reduced (modulo p) (map f xs)) (lt→ltb (f x) p (h x)) (reduced_map f h xs)
