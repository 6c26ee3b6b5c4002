-- One gate more: its term goes to the side of its kind, and the other side stays as it is.
-- What is gathered and what is still to come are the whole wiring; stated over plain lists.
use Rattle.std.proofs.Common.{◌≡◌, ℕ, ◌+◌, ◌*◌, ◌%◌, ◌<◌, ◌≤◌, cond, List, [], ◌∷◌, length, get_or, drop, sym, refl, ap, ◌∙◌, mod-lt, mod-eq_of_lt, add-zero, zero-add}
use Rattle.arithmetic.proofs.Modulo.{ring_modulo}
use Rattle.arithmetic.proofs.Solver.{var, ◌:+◌, solve}
use Rattle.std.proofs.lemmas.List.{drop_more, drop_all}
use Rattle.arithmetic.specs.Numbers.{modulo}
use Rattle.circuits.specs.Circuit.{sum, product, Gate}
use Rattle.circuits.specs.Circuit as circuit
use Rattle.argument.specs.Claims.{same_kind}
use Rattle.claims.specs.Sums.{weighted_wiring}
use Rattle.claims.specs.Gathered.{wiring_from, Gathered}
use Rattle.claims.specs.declared.wiring.Wiring.{Wiring}

-- the term of a gate of one kind, on the side of either kind
abbrev pub on_side : circuit.Kind → circuit.Kind → ℕ → ℕ
on_side side kind term = cond (same_kind side kind) term 0

module _ (p : ℕ) (weights at_x at_y : List ℕ) where
  wiring_more :
      (kind : circuit.Kind) (gates : List Gate) (i : ℕ) (d : Gate) → i < length gates →
      let g = get_or gates i d in
      wiring_from p kind weights at_x at_y i gates ≡
      (on_side kind g.kind ((get_or weights i 0 * ((get_or at_x g.left 0 * get_or at_y g.right 0) % p)) % p) +
      wiring_from p kind weights at_x at_y (i + 1) gates) %
      p
  unfolding weighted_wiring
  wiring_more kind gates i d h =
      ap
      (λ (gs : List Gate). weighted_wiring (modulo p) kind (λ j. get_or weights j 0) (λ j. get_or at_x j 0) (λ j. get_or at_y j 0) i gs)
      (drop_more gates i d h)

  abbrev still : circuit.Kind → List Gate → ℕ → ℕ
  still kind gates i = wiring_from p kind weights at_x at_y i gates

  -- what the gates before place i gave, and that the others make it whole
  pub record Gathering (gates : List Gate) (i : ℕ) (w : Wiring) : Type 0 where
    pub sums : (w.sums + still sum gates i) % p ≡ still sum gates 0
    pub products : (w.products + still product gates i) % p ≡ still product gates 0
    pub sums_below : w.sums < p
    pub products_below : w.products < p

  still_below : (kind : circuit.Kind) (gates : List Gate) (i : ℕ) → 0 < p → still kind gates i < p
  unfolding weighted_wiring
  still_below kind gates i positive = by_rest (drop i gates)
    where
      by_rest : (gs : List Gate) → weighted_wiring (modulo p) kind (λ j. get_or weights j 0) (λ j. get_or at_x j 0) (λ j. get_or at_y j 0) i gs < p
      by_rest [] = positive
      by_rest (g ∷ gs) = mod-lt _ positive

  pub gathering_none : (gates : List Gate) → 0 < p → Gathering gates 0 (record { sums = 0; products = 0 })
  gathering_none gates positive =
      record {
        sums = none sum;
        products = none product;
        sums_below = positive;
        products_below = positive;
      }
    where
      none : (kind : circuit.Kind) → (0 + still kind gates 0) % p ≡ still kind gates 0
      none kind = ap (λ (x : ℕ). x % p) (zero-add (still kind gates 0)) ∙ mod-eq_of_lt (still_below kind gates 0 positive)

  pub gathering_more :
      (several : 1 < p) (gates : List Gate) (i : ℕ) (d g : Gate) (inner term : ℕ) (w v : Wiring) → i < length gates →
      g ≡ get_or gates i d → Gathering gates i w →
      inner ≡ (get_or at_x g.left 0 * get_or at_y g.right 0) % p → term ≡ (get_or weights i 0 * inner) % p →
      v.sums ≡ (on_side sum g.kind term + w.sums) % p →
      v.products ≡ (on_side product g.kind term + w.products) % p →
      v.sums < p → v.products < p → Gathering gates (i + 1) v
  gathering_more several gates i d g inner term w v h eg before ei et es ep bs bp =
      record {
        sums = turned sum w.sums v.sums es ∙ before.sums;
        products = turned product w.products v.products ep ∙ before.products;
        sums_below = bs;
        products_below = bp;
      }
    where
      shifted : (t a b : ℕ) → ((t + a) % p + b) % p ≡ (a + (t + b) % p) % p
      shifted t a b = solve (ring_modulo p several) (t ∷ a ∷ b ∷ []) (var 0 :+ var 1 :+ var 2) (var 1 :+ (var 0 :+ var 2)) refl

      here : (kind : circuit.Kind) → (on_side kind g.kind term + still kind gates (i + 1)) % p ≡ still kind gates i
      here kind =
          let step = wiring_more kind gates i d h in
          let inside : (on_side kind g.kind ((get_or weights i 0 * ((get_or at_x g.left 0 * get_or at_y g.right 0) % p)) % p) + still kind gates (i + 1)) % p ≡ still kind gates i =
          rw eg (sym step)
          in
          ap (λ (x : ℕ). (on_side kind g.kind x + still kind gates (i + 1)) % p)
          (et ∙ ap (λ (x : ℕ). (get_or weights i 0 * x) % p) ei) ∙
          inside

      turned : (kind : circuit.Kind) (a r : ℕ) → r ≡ (on_side kind g.kind term + a) % p →
          (r + still kind gates (i + 1)) % p ≡ (a + still kind gates i) % p
      turned kind a r e =
          ap (λ (x : ℕ). (x + still kind gates (i + 1)) % p) e ∙ shifted (on_side kind g.kind term) a (still kind gates (i + 1)) ∙
          ap (λ (x : ℕ). (a + x) % p) (here kind)

  pub gathering_all : (gates : List Gate) (i : ℕ) (w : Wiring) → length gates ≤ i → Gathering gates i w → Gathered p weights at_x at_y gates 0 w
  unfolding weighted_wiring
  gathering_all gates i w h got =
      record {
        sums = whole sum w.sums got.sums_below got.sums;
        products = whole product w.products got.products_below got.products;
        sums_below = got.sums_below;
        products_below = got.products_below;
      }
    where
      at-end : (kind : circuit.Kind) → still kind gates i ≡ 0
      at-end kind =
          ap
          (λ (gs : List Gate). weighted_wiring (modulo p) kind (λ j. get_or weights j 0) (λ j. get_or at_x j 0) (λ j. get_or at_y j 0) i gs)
          (drop_all i gates h)

      whole : (kind : circuit.Kind) (a : ℕ) → a < p → (a + still kind gates i) % p ≡ still kind gates 0 → a ≡ still kind gates 0
      whole kind a below e =
          sym (ap (λ (x : ℕ). (a + x) % p) (at-end kind) ∙ ap (λ (x : ℕ). x % p) (add-zero a) ∙ mod-eq_of_lt below) ∙ e
