-- What the prover's tables stand for while a layer's variables are fixed one by one, for the numbers modulo p.
-- Each table holds, at the front of lent words, what is left when the first variables are the coins so far.
use Rattle.std.specs.Prelude.{◌≡◌, ℕ, suc, ◌*◌, ◌^◌, ◌<◌, T, List, ◌++◌, length, take}
use Rattle.arithmetic.specs.Numbers.{modulo, all_reduced}
use Rattle.tables.specs.Multilinear.{fix_first, mle, eq_poly, sum_corners}
use Rattle.circuits.specs.Circuit.{Layer}
use Rattle.argument.specs.Claims.{Share, Claim, expected}
use Rattle.fronts.specs.Gathers.{layer_weights}
use Rattle.rounds.specs.Phases.{product_sum}

-- a claim with these parts: of no account to a prover is its total
abbrev pub claim_on : List ℕ → List (Share ℕ) → Claim ℕ
claim_on copy shares = record { copy = copy; shares = shares; total = 0 }

-- the layer's expression, X being the table of the values below in all copies
abbrev pub term_of : ℕ → Layer → ℕ → Claim ℕ → List ℕ → List ℕ → List ℕ → List ℕ → ℕ
term_of p l m k X c x y = expected (modulo p) l m k c x y (mle (modulo p) X (c ++ x)) (mle (modulo p) X (c ++ y))

-- n of the copies' variables are left after c: values in v, weights in w, eq in h
pub record CopyTables (p : ℕ) (l : Layer) (m : ℕ) (k : Claim ℕ) (X c : List ℕ) (n : ℕ) (v w h : List ℕ) : Type 0 where
  pub values : (z : List ℕ) → mle (modulo p) (take (2 ^ n * 2 ^ m) v) z ≡ mle (modulo p) X (c ++ z)
  pub values_reduced : T (all_reduced (modulo p) (take (2 ^ n * 2 ^ m) v))
  pub eq : (z : List ℕ) → length z ≡ n → mle (modulo p) (take (2 ^ n) h) z ≡ eq_poly (modulo p) k.copy (c ++ z)
  pub eq_reduced : T (all_reduced (modulo p) (take (2 ^ n) h))
  pub weights : take (2 ^ l.size) w ≡ layer_weights (modulo p) l k.shares
  pub weights_reduced : T (all_reduced (modulo p) (take (2 ^ l.size) w))

-- n variables are left of a sum V H + J, which is G of them; V is F of them
pub record ProductTables (p : ℕ) (F G : List ℕ → ℕ) (n : ℕ) (v h j : List ℕ) : Type 0 where
  pub value : (z : List ℕ) → mle (modulo p) (take (2 ^ n) v) z ≡ F z
  pub total : (z : List ℕ) → length z ≡ n → product_sum (modulo p) (take (2 ^ n) v) (take (2 ^ n) h) (take (2 ^ n) j) z ≡ G z
  pub v_reduced : T (all_reduced (modulo p) (take (2 ^ n) v))
  pub h_reduced : T (all_reduced (modulo p) (take (2 ^ n) h))
  pub j_reduced : T (all_reduced (modulo p) (take (2 ^ n) j))

-- the copies' variables are c, and n of those of x are left after x; w keeps the values at c, and factor is eq at c
pub record LeftTables (p : ℕ) (l : Layer) (m : ℕ) (k : Claim ℕ) (X c x : List ℕ) (n factor : ℕ) (v w h j : List ℕ) : Type 0 where
  pub tables :
      ProductTables p (λ z. mle (modulo p) X (c ++ (x ++ z)))
      (λ z. sum_corners (modulo p) m (λ y. term_of p l m k X c (x ++ z) y)) n v h j
  pub kept : (z : List ℕ) → mle (modulo p) (take (2 ^ m) w) z ≡ mle (modulo p) X (c ++ z)
  pub kept_reduced : T (all_reduced (modulo p) (take (2 ^ m) w))
  pub factor_is : factor ≡ eq_poly (modulo p) k.copy c
  pub factor_below : factor < p

-- x is fixed too, and n of the variables of y are left after y; a is the value at x
pub record RightTables (p : ℕ) (l : Layer) (m : ℕ) (k : Claim ℕ) (X c x y : List ℕ) (n a : ℕ) (v h j : List ℕ) : Type 0 where
  pub tables : ProductTables p (λ z. mle (modulo p) X (c ++ (y ++ z))) (λ z. term_of p l m k X c x (y ++ z)) n v h j
  pub value : a ≡ mle (modulo p) X (c ++ x)
  pub value_below : a < p

-- the quarters, each with room for a layer's values in all copies
pub record Rooms (v w h : List ℕ) : Type 0 where
  pub room_v : length v ≡ 65536
  pub room_w : length w ≡ 65536
  pub room_h : length h ≡ 65536

-- a table after a coin: n variables are left, the first of those before being fixed at r
pub record Fixed (p n r : ℕ) (old new : List ℕ) : Type 0 where
  pub front : take (2 ^ n) new ≡ fix_first (modulo p) r (take (2 ^ suc n) old)
  pub reduced : T (all_reduced (modulo p) (take (2 ^ n) new))

-- the fronts of n variables, reduced
pub record Fronts (p n : ℕ) (v h j : List ℕ) : Type 0 where
  pub front_v : T (all_reduced (modulo p) (take (2 ^ n) v))
  pub front_h : T (all_reduced (modulo p) (take (2 ^ n) h))
  pub front_j : T (all_reduced (modulo p) (take (2 ^ n) j))
