-- What is promised of tables: the facts by which a table may be argued about as a polynomial.
-- `mle (modulo p) xs point` is the value, at a point, of the multilinear extension of the table xs.
use Rattle.std.specs.Prelude.{◌≡◌, ℕ, ◌+◌, ◌*◌, ◌%◌, ◌^◌, ◌<◌, ◌≤◌, true, List, [], ◌∷◌, ◌++◌, length, ◌≢◌, slice_index}
use Rattle.arithmetic.specs.Numbers.{Numbers, modulo, Whole, all_reduced}
use Rattle.arithmetic.specs.Counting.{count_rows}
use Rattle.tables.specs.Multilinear.{mle, eq_poly, bits_of}

module _ {K : Type 0} (N : Numbers K) where
  open N use {add, mul, nat}

  -- s times one table plus t times another, place by place
  unfoldable pub combine : K → K → List K → List K → List K
  combine s t [] ys = []
  combine s t (a ∷ xs) [] = []
  combine s t (a ∷ xs) (b ∷ ys) = add (mul s a) (mul t b) ∷ combine s t xs ys

  -- the sum, over the numbers of a list that stand from a place on, of eq at the k bits of the place times the number
  unfoldable pub sum_places : ℕ → ℕ → List K → List K → K
  sum_places k place [] point = nat 0
  sum_places k place (x ∷ xs) point = add (mul (eq_poly N (bits_of N k place) point) x) (sum_places k (place + 1) xs point)

-- At a corner stands the number of the table whose place has the corner's bits.
abbrev pub ValueAtCorner : Type 0
ValueAtCorner =
    (p : ℕ) → 1 < p → (k place : ℕ) (xs : List ℕ) → length xs ≡ 2 ^ k → place < 2 ^ k →
    mle (modulo p) xs (bits_of (modulo p) k place) ≡ slice_index xs place % p

-- At any point the value is the sum, over the places, of eq at the place's bits times the number that stands there.
abbrev pub SumOverPlaces : Type 0
SumOverPlaces =
    (p : ℕ) → 1 < p → (k : ℕ) (xs point : List ℕ) → length xs ≡ 2 ^ k → length point ≡ k →
    mle (modulo p) xs point ≡ sum_places (modulo p) k 0 xs point

-- Along each variable the values lie on a line: (1 - r) times the value at 0 plus r times the value at 1.
abbrev pub LinearInEachVariable : Type 0
LinearInEachVariable =
    (p : ℕ) → 1 < p → (xs before after : List ℕ) (r : ℕ) →
    let N = modulo p in
    mle N xs (before ++ (r ∷ after)) ≡ N.add (N.mul (N.sub 1 r) (mle N xs (before ++ (0 ∷ after)))) (N.mul r (mle N xs (before ++ (1 ∷ after))))

-- The value at a point is linear in the table.
abbrev pub LinearInTable : Type 0
LinearInTable =
    (p : ℕ) → 1 < p → (s t : ℕ) (xs ys point : List ℕ) → length xs ≡ length ys →
    let N = modulo p in
    mle N (combine N s t xs ys) point ≡ N.add (N.mul s (mle N xs point)) (N.mul t (mle N ys point))

-- Two tables of 2^k numbers below p that differ anywhere have the same value at k of p of all points at most.
abbrev pub FewRoots : Type 0
FewRoots =
    (p : ℕ) → Whole p → 3 < p → (k : ℕ) (xs ys : List ℕ) → length xs ≡ 2 ^ k → length ys ≡ 2 ^ k →
    let N = modulo p in
    all_reduced N xs ≡ true → all_reduced N ys ≡ true → (xs ≢ ys) →
    count_rows N k (λ point. N.equal (mle N xs point) (mle N ys point)) * p ≤ k * p ^ k

abbrev pub ExampleModulo31 : Type 0
ExampleModulo31 = mle (modulo 31) (1 ∷ 2 ∷ 3 ∷ 4 ∷ []) (5 ∷ 7 ∷ []) ≡ 18
