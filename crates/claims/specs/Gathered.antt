-- What the code has gathered of a layer's wiring when it has gone over the gates from some place on.
-- It goes from the last gate to the first, as the definition adds them up.
use Rattle.std.specs.Prelude.{◌≡◌, ℕ, ◌<◌, List, drop, slice_index}
use Rattle.arithmetic.specs.Numbers.{modulo}
use Rattle.tables.specs.Multilinear.{eq_poly, bits_of}
use Rattle.circuits.specs.Circuit.{Kind, sum, product, Gate}
use Rattle.claims.specs.Sums.{weighted_wiring}
use Rattle.claims.specs.declared.wiring.Wiring.{Wiring}

abbrev pub wiring_from : ℕ → Kind → List ℕ → List ℕ → List ℕ → ℕ → List Gate → ℕ
wiring_from p kind weights at_x at_y i gates =
    weighted_wiring (modulo p) kind (λ j. slice_index weights j) (λ j. slice_index at_x j) (λ j. slice_index at_y j) i (drop i gates)

pub record Gathered (p : ℕ) (weights at_x at_y : List ℕ) (gates : List Gate) (i : ℕ) (w : Wiring) : Type 0 where
  pub sums : w.sums ≡ wiring_from p sum weights at_x at_y i gates
  pub products : w.products ≡ wiring_from p product weights at_x at_y i gates
  pub sums_below : w.sums < p
  pub products_below : w.products < p

-- the same of all gates, at the points x and y of the values below
abbrev pub wiring_at : ℕ → Kind → List ℕ → ℕ → List ℕ → List ℕ → List Gate → ℕ
wiring_at p kind weights below x y gates =
    let N = modulo p in
    weighted_wiring N kind (λ j. slice_index weights j) (λ j. eq_poly N (bits_of N below j) x) (λ j. eq_poly N (bits_of N below j) y) 0
    gates

pub record Wired (p : ℕ) (weights : List ℕ) (below : ℕ) (x y : List ℕ) (gates : List Gate) (w : Wiring) : Type 0 where
  pub sums : w.sums ≡ wiring_at p sum weights below x y gates
  pub products : w.products ≡ wiring_at p product weights below x y gates
  pub sums_below : w.sums < p
  pub products_below : w.products < p
