-- What the code leaves in the memory that it is lent: a table halved again and again, and the table of eq at all corners.
-- And the formulas that it computes number by number.
use Rattle.std.specs.Prelude.{◌/◌, ◌^◌, List, [], ◌∷◌, ◌++◌, map, length, drop}
use Rattle.std.specs.List.{range_with_len}
use Rattle.arithmetic.specs.Numbers.{Numbers}
use Rattle.tables.specs.Multilinear.{fix_first, eq_poly, bits_of}

module _ {K : Type 0} (N : Numbers K) where
  open N use {add, sub, mul, nat}

  -- (1 - r) a + r b, the number at r on the line through a at 0 and b at 1
  abbrev pub on_line : K → K → K → K
  on_line r a b = add (mul (sub (nat 1) r) a) (mul r b)

  -- eq in one variable
  abbrev pub eq_factor : K → K → K
  eq_factor r c = add (mul r c) (mul (sub (nat 1) r) (sub (nat 1) c))

  -- a table after its variables are fixed one by one, each time in the first half of what the one before it left
  unfoldable pub halved_all : List K → List K → List K
  halved_all xs [] = xs
  halved_all xs (r ∷ point) = halved_all (fix_first N r xs) point ++ drop (length xs / 2) xs

  -- the two parts of a number: what is left of it, and r times it
  abbrev pub low_part : K → K → K
  low_part r e = sub e (mul e r)

  abbrev pub high_part : K → K → K
  high_part r e = mul e r

  -- the low parts of a table's numbers, and after all these the high ones
  abbrev pub split_first : K → List K → List K
  split_first r es = map (low_part r) es ++ map (high_part r) es

  -- eq at a point and each corner, in the order of places
  unfoldable pub eq_table : List K → List K
  eq_table point = map (λ place. eq_poly N (bits_of N (length point) place) point) (range_with_len 0 (2 ^ length point))

  -- the same, times a factor
  unfoldable pub scaled_eq_table : K → List K → List K
  scaled_eq_table factor point =
      map (λ place. mul factor (eq_poly N (bits_of N (length point) place) point)) (range_with_len 0 (2 ^ length point))
