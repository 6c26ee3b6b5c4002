-- A part of a point that stands in an array: how long it is, and that it is reduced as all the array is.
-- Stated as calls ask for it.
use Rattle.std.proofs.Common.{◌≡◌, ℕ, ◌+◌, ◌≤◌, true, T, List, length, take, drop, arith, length-drop}
use Rattle.std.proofs.lemmas.List.{length-take-le}
use Rattle.arithmetic.specs.Numbers.{modulo, all_reduced}
use Rattle.arithmetic.proofs.Truth.{T_of_path}
use Rattle.circuits.specs.Words.{modulus}
use Rattle.claims.proofs.Cutting.{reduced_part}

pub part_reduced : (from len : ℕ) (xs : List ℕ) → all_reduced (modulo modulus) xs ≡ true → T (all_reduced (modulo modulus) (take len (drop from xs)))
part_reduced from len xs e = T_of_path _ (reduced_part modulus from len xs e)

pub part_length : (from len : ℕ) (xs : List ℕ) → from + len ≤ length xs → length (take len (drop from xs)) ≡ len
part_length from len xs h = length-take-le len (drop from xs) (let room : len ≤ length (drop from xs) = omega (arith, length-drop from xs) in room)
