-- From what the loop over the gates gathers to the wiring of the argument's definition.
-- The tables hold eq at each place, and the weights are those of all shares together.
use Rattle.std.proofs.Common.{◌≡◌, ℕ, ◌^◌, ◌<◌, true, List, length, get_or, refl, ap, ◌∙◌, arith}
use Rattle.arithmetic.specs.Numbers.{modulo}
use Rattle.arithmetic.proofs.Modulo.{ring_modulo}
use Rattle.arithmetic.proofs.Truth.{T_of_path}
use Rattle.tables.specs.InPlace.{eq_table}
use Rattle.tables.specs.Multilinear.{eq_poly, bits_of}
use Rattle.tables.proofs.EqSteps.{eq_table_at}
use Rattle.circuits.specs.Circuit.{Kind, sum, product, Gate, Layer, gates_fit}
use Rattle.argument.specs.Claims.{Share, shared_wiring}
use Rattle.claims.specs.declared.wiring.Wiring.{Wiring}
use Rattle.claims.specs.Gathered.{wiring_from, wiring_at, Gathered, Wired}
use Rattle.claims.specs.Sums.{share_weight}
use Rattle.claims.proofs.Weights.{weighted_same, weighted_shares}

module _ (p : ℕ) (several : 1 < p) where
  table_at : (below : ℕ) (x table : List ℕ) → length x ≡ below → table ≡ eq_table (modulo p) x → (j : ℕ) → j < 2 ^ below →
      get_or table j 0 ≡ eq_poly (modulo p) (bits_of (modulo p) below j) x
  table_at below x table e is j h =
      let room : j < 2 ^ length x = omega (arith, ap (λ (n : ℕ). 2 ^ n) e) in
      ap (λ (xs : List ℕ). get_or xs j 0) is ∙ eq_table_at (modulo p) x j 0 room ∙
      ap (λ (n : ℕ). eq_poly (modulo p) (bits_of (modulo p) n j) x) e

  pub wired :
      (weights at_x at_y x y : List ℕ) (below : ℕ) (gates : List Gate) (w : Wiring) →
      gates_fit (2 ^ below) gates ≡ true → length x ≡ below → length y ≡ below →
      at_x ≡ eq_table (modulo p) x → at_y ≡ eq_table (modulo p) y →
      Gathered p weights at_x at_y gates 0 w → Wired p weights below x y gates w
  wired weights at_x at_y x y below gates w fit ex ey tx ty got =
      record {
        sums = got.sums ∙ same sum;
        products = got.products ∙ same product;
        sums_below = got.sums_below;
        products_below = got.products_below;
      }
    where
      same : (kind : Kind) → wiring_from p kind weights at_x at_y 0 gates ≡ wiring_at p kind weights below x y gates
      same kind =
          weighted_same (ring_modulo p several) kind (λ j. get_or at_x j 0) (λ j. get_or at_y j 0) (λ j. get_or weights j 0)
          (λ j. get_or weights j 0) (λ j. eq_poly (modulo p) (bits_of (modulo p) below j) x)
          (λ j. eq_poly (modulo p) (bits_of (modulo p) below j) y) (2 ^ below) (length gates) 0 gates (T_of_path _ fit)
          (omega arith) (λ j h. refl) (table_at below x at_x ex tx) (table_at below y at_y ey ty)

  pub shared :
      (kind : Kind) (weights x y : List ℕ) (below : ℕ) (l : Layer) (shares : List (Share ℕ)) →
      gates_fit (2 ^ below) l.gates ≡ true → length l.gates ≡ 2 ^ l.size →
      ((i : ℕ) → i < 2 ^ l.size → get_or weights i 0 ≡ share_weight (modulo p) l.size shares i) →
      wiring_at p kind weights below x y l.gates ≡ shared_wiring (modulo p) kind l below shares x y
  shared kind weights x y below l shares fit all weigh =
      weighted_same (ring_modulo p several) kind (λ j. eq_poly (modulo p) (bits_of (modulo p) below j) x)
      (λ j. eq_poly (modulo p) (bits_of (modulo p) below j) y) (λ j. get_or weights j 0)
      (share_weight (modulo p) l.size shares) (λ j. eq_poly (modulo p) (bits_of (modulo p) below j) x)
      (λ j. eq_poly (modulo p) (bits_of (modulo p) below j) y) (2 ^ below) (2 ^ l.size) 0 l.gates (T_of_path _ fit)
      (omega arith) weigh (λ j h. refl) (λ j h. refl) ∙
      weighted_shares (ring_modulo p several) kind l below shares x y
