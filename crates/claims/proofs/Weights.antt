-- The wiring over all shares is one sum over the gates, each with its weight.
-- The sum is linear in the weights, and with one share's weights it is that share's wiring times its factor.
use Rattle.std.proofs.Common.{◌≡◌, ℕ, ◌+◌, ◌<◌, ◌≤◌, Bool, true, false, cond, ◌&&◌, T, ltb, List, [], ◌∷◌, length, sym, refl, ap, ◌∙◌, ap₂, arith, ltb→lt}
use Rattle.arithmetic.specs.Numbers.{Numbers}
use Rattle.arithmetic.proofs.Ring.{Ring}
use Rattle.arithmetic.proofs.Solver.{var, con, ◌:+◌, ◌:*◌, solve}
use Rattle.arithmetic.proofs.Truth.{and_left, and_right}
use Rattle.tables.specs.Multilinear.{eq_poly, bits_of}
use Rattle.circuits.specs.Circuit.{Kind, Gate, Layer, gates_fit}
use Rattle.argument.specs.Claims.{Share, same_kind, wiring, shared_wiring}
use Rattle.claims.specs.Sums.{weighted_wiring, share_weight}

module _ {K : Type 0} {N : Numbers K} (R : Ring N) (kind : Kind) (at_x at_y : ℕ → K) where
  open N use {add, mul, nat}

  abbrev term : (ℕ → K) → ℕ → Gate → K
  term weight i g = cond (same_kind kind g.kind) (mul (weight i) (mul (at_x g.left) (at_y g.right))) (nat 0)

  weighted_none : (i : ℕ) (gs : List Gate) → weighted_wiring N kind (λ i. nat 0) at_x at_y i gs ≡ nat 0
  unfolding weighted_wiring
  weighted_none i [] = refl
  weighted_none i (g ∷ gs) =
      ap (add (term (λ i. nat 0) i g)) (weighted_none (i + 1) gs) ∙ by_kind (same_kind kind g.kind) (mul (at_x g.left) (at_y g.right))
    where
      by_kind : (b : Bool) (q : K) → add (cond b (mul (nat 0) q) (nat 0)) (nat 0) ≡ nat 0
      by_kind true q = solve R (q ∷ []) (con 0 :* var 0 :+ con 0) (con 0) refl ∙ R.reduce_zero
      by_kind false q = solve R [] (con 0 :+ con 0) (con 0) refl ∙ R.reduce_zero

  weighted_add :
      (w v : ℕ → K) (i : ℕ) (gs : List Gate) →
      weighted_wiring N kind (λ i. add (w i) (v i)) at_x at_y i gs ≡
      add (weighted_wiring N kind w at_x at_y i gs) (weighted_wiring N kind v at_x at_y i gs)
  unfolding weighted_wiring
  weighted_add w v i [] = sym (solve R [] (con 0 :+ con 0) (con 0) refl ∙ R.reduce_zero)
  weighted_add w v i (g ∷ gs) =
      ap (add (term (λ i. add (w i) (v i)) i g)) (weighted_add w v (i + 1) gs) ∙
      by_kind (same_kind kind g.kind) (mul (at_x g.left) (at_y g.right)) (w i) (v i) _ _
    where
      by_kind : (b : Bool) (q a c x y : K) →
          add (cond b (mul (add a c) q) (nat 0)) (add x y) ≡
          add (add (cond b (mul a q) (nat 0)) x) (add (cond b (mul c q) (nat 0)) y)
      by_kind true q a c x y =
          solve R (q ∷ a ∷ c ∷ x ∷ y ∷ []) ((var 1 :+ var 2) :* var 0 :+ (var 3 :+ var 4))
          (var 1 :* var 0 :+ var 3 :+ (var 2 :* var 0 :+ var 4)) refl
      by_kind false q a c x y =
          solve R (x ∷ y ∷ []) (con 0 :+ (var 0 :+ var 1)) (con 0 :+ var 0 :+ (con 0 :+ var 1)) refl

  -- the weights, and the factors below, are looked at only where there are gates and places
  pub weighted_same :
      (w v at_x' at_y' : ℕ → K) (places n i : ℕ) (gs : List Gate) → T (gates_fit places gs) → i + length gs ≤ n →
      ((j : ℕ) → j < n → w j ≡ v j) → ((j : ℕ) → j < places → at_x j ≡ at_x' j) → ((j : ℕ) → j < places → at_y j ≡ at_y' j) →
      weighted_wiring N kind w at_x at_y i gs ≡ weighted_wiring N kind v at_x' at_y' i gs
  unfolding weighted_wiring gates_fit
  weighted_same w v at_x' at_y' places n i [] fit e hw hx hy = refl
  weighted_same w v at_x' at_y' places n i (g ∷ gs) fit e hw hx hy =
      let rest : Bool = ltb g.right places && gates_fit places gs in
      let l = ltb→lt g.left places (and_left (ltb g.left places) rest fit) in
      let others = and_right (ltb g.left places) rest fit in
      let r = ltb→lt g.right places (and_left (ltb g.right places) (gates_fit places gs) others) in
      let inside = ap₂ mul (hw i (omega arith)) (ap₂ mul (hx g.left l) (hy g.right r)) in
      ap₂ add (ap (λ (t : K). cond (same_kind kind g.kind) t (nat 0)) inside)
      (weighted_same w v at_x' at_y' places n (i + 1) gs (and_right (ltb g.right places) (gates_fit places gs) others) (omega arith) hw hx hy)

module _ {K : Type 0} {N : Numbers K} (R : Ring N) where
  open N use {add, mul, nat}

  weighted_share :
      (kind : Kind) (size below : ℕ) (f : K) (z x y : List K) (i : ℕ) (gs : List Gate) →
      weighted_wiring N kind (λ i. mul f (eq_poly N (bits_of N size i) z)) (λ j. eq_poly N (bits_of N below j) x)
      (λ j. eq_poly N (bits_of N below j) y) i gs ≡
      mul f (wiring N kind size below i gs z x y)
  unfolding weighted_wiring wiring
  weighted_share kind size below f z x y i [] = sym (solve R (f ∷ []) (var 0 :* con 0) (con 0) refl ∙ R.reduce_zero)
  weighted_share kind size below f z x y i (g ∷ gs) =
      ap (add (cond (same_kind kind g.kind) (mul (mul f (eq_poly N (bits_of N size i) z)) (mul (eq_poly N (bits_of N below g.left) x) (eq_poly N (bits_of N below g.right) y))) (nat 0))) (weighted_share kind size below f z x y (i + 1) gs) ∙
      by_kind (same_kind kind g.kind) (eq_poly N (bits_of N size i) z)
      (mul (eq_poly N (bits_of N below g.left) x) (eq_poly N (bits_of N below g.right) y)) _
    where
      by_kind : (b : Bool) (e q w : K) →
          add (cond b (mul (mul f e) q) (nat 0)) (mul f w) ≡ mul f (add (cond b (mul e q) (nat 0)) w)
      by_kind true e q w =
          solve R (f ∷ e ∷ q ∷ w ∷ []) (var 0 :* var 1 :* var 2 :+ var 0 :* var 3) (var 0 :* (var 1 :* var 2 :+ var 3)) refl
      by_kind false e q w = solve R (f ∷ w ∷ []) (con 0 :+ var 0 :* var 1) (var 0 :* (con 0 :+ var 1)) refl

  pub weighted_shares :
      (kind : Kind) (l : Layer) (below : ℕ) (shares : List (Share K)) (x y : List K) →
      weighted_wiring N kind (share_weight N l.size shares) (λ j. eq_poly N (bits_of N below j) x)
      (λ j. eq_poly N (bits_of N below j) y) 0 l.gates ≡
      shared_wiring N kind l below shares x y
  unfolding share_weight shared_wiring
  weighted_shares kind l below [] x y = weighted_none R kind _ _ 0 l.gates
  weighted_shares kind l below (s ∷ ss) x y =
      weighted_add R kind _ _ (λ i. mul s.factor (eq_poly N (bits_of N l.size i) s.point))
      (share_weight N l.size ss) 0 l.gates ∙
      ap₂ add (weighted_share kind l.size below s.factor s.point x y 0 l.gates) (weighted_shares kind l below ss x y)
