-- Parts of an array's numbers, and an array in which one number is set: each is reduced as the array is.
-- Stated by paths, as the structs' own fields are.
use Rattle.std.proofs.Common.{◌≡◌, ℕ, zero, suc, ◌<◌, true, ltb, List, [], ◌∷◌, ◌++◌, take, drop, set}
use Rattle.std.proofs.lemmas.Bool.{lt-ltb, and_parts, and_from}
use Rattle.arithmetic.specs.Numbers.{modulo, all_reduced}
use Rattle.arithmetic.proofs.Truth.{path_of_T, T_of_path}
use Rattle.tables.proofs.ReducedLists.{reduced_append, reduced_take, reduced_drop}

pub reduced_part : (p from len : ℕ) (xs : List ℕ) → all_reduced (modulo p) xs ≡ true → all_reduced (modulo p) (take len (drop from xs)) ≡ true
reduced_part p from len xs e =
    path_of_T _ (reduced_take p len (drop from xs) (reduced_drop p from xs (T_of_path _ e)))

pub reduced_rest : (p from : ℕ) (xs : List ℕ) → all_reduced (modulo p) xs ≡ true → all_reduced (modulo p) (drop from xs) ≡ true
reduced_rest p from xs e = path_of_T _ (reduced_drop p from xs (T_of_path _ e))

pub reduced_both : (p : ℕ) (xs ys : List ℕ) → all_reduced (modulo p) xs ≡ true → all_reduced (modulo p) ys ≡ true → all_reduced (modulo p) (xs ++ ys) ≡ true
reduced_both p xs ys e f = path_of_T _ (reduced_append p xs ys (T_of_path _ e) (T_of_path _ f))

pub reduced_set : (p : ℕ) (xs : List ℕ) (i x : ℕ) → x < p → all_reduced (modulo p) xs ≡ true → all_reduced (modulo p) (set xs i x) ≡ true
unfolding all_reduced
reduced_set p [] i x h e = e
reduced_set p (y ∷ xs) zero x h e =
    and_from (ltb x p) (all_reduced (modulo p) xs) (lt-ltb x p h) (and_parts (ltb y p) (all_reduced (modulo p) xs) e).1
reduced_set p (y ∷ xs) (suc i) x h e =
    let both = and_parts (ltb y p) (all_reduced (modulo p) xs) e in
    and_from (ltb y p) (all_reduced (modulo p) (set xs i x)) both.0 (reduced_set p xs i x h both.1)
