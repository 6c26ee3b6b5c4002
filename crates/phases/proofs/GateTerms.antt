-- The wiring of all shares of a claim as one sum over the gates, each with its weight.
-- Both kinds of gates stand in the one sum, since a gate of a kind adds nothing to the wiring of the other.
use Rattle.std.proofs.Common.{◌≡◌, ℕ, ◌+◌, cond, List, [], ◌∷◌, length, sym, refl, ap, ◌∙◌, ap₂}
use Rattle.arithmetic.specs.Numbers.{Numbers}
use Rattle.arithmetic.proofs.Ring.{Ring, zero-mul}
use Rattle.arithmetic.proofs.Solver.{var, con, ◌:+◌, ◌:*◌, solve}
use Rattle.tables.specs.Multilinear.{eq_poly, bits_of}
use Rattle.circuits.specs.Circuit.{Kind, sum, product, Gate, Layer, combine}
use Rattle.argument.specs.Claims.{Share, Claim, same_kind, wiring, shared_wiring, expected}
use Rattle.argument.proofs.Gates.{body}
use Rattle.claims.specs.Sums.{share_weight}
use Rattle.fronts.specs.Gathers.{weights, layer_weights, scaled}

module _ {K : Type 0} (N : Numbers K) where
  open N use {add, mul, nat}

  -- the sum, over gates, of weight times eq of both places times the gate of a and b
  unfoldable pub gate_terms : ℕ → List Gate → List K → List K → List K → K → K → K
  gate_terms m [] ws x y a b = nat 0
  gate_terms m (g ∷ gs) [] x y a b = nat 0
  gate_terms m (g ∷ gs) (w ∷ ws) x y a b =
      add
      (mul w (mul (mul (eq_poly N (bits_of N m g.left) x) (eq_poly N (bits_of N m g.right) y)) (combine N g.kind a b)))
      (gate_terms m gs ws x y a b)

module _ {K : Type 0} {N : Numbers K} (R : Ring N) where
  open N use {reduce, add, mul, nat}

  pub add_zeros : add (nat 0) (nat 0) ≡ nat 0
  add_zeros = R.add_zero (nat 0) ∙ R.reduce_zero

  terms_none : (size m i : ℕ) (gs : List Gate) (x y : List K) (a b : K) →
      gate_terms N m gs (weights N size [] i (length gs)) x y a b ≡ nat 0
  unfolding gate_terms weights share_weight
  terms_none size m i [] x y a b = refl
  terms_none size m i (g ∷ gs) x y a b = ap₂ add (zero-mul R _) (terms_none size m (i + 1) gs x y a b) ∙ add_zeros

  -- the first gate and the first share, apart from the others
  first_gate : (kind : Kind) (f e w p q A M a b rest : K) →
      add (mul (add (mul f e) w) (mul (mul p q) (combine N kind a b))) (add (mul f (body R A M a b)) rest) ≡
      add
      (mul f
      (body R (add (cond (same_kind sum kind) (mul e (mul p q)) (nat 0)) A)
      (add (cond (same_kind product kind) (mul e (mul p q)) (nat 0)) M) a b))
      (add (mul w (mul (mul p q) (combine N kind a b))) rest)
  first_gate sum f e w p q A M a b rest =
      solve R (f ∷ e ∷ w ∷ p ∷ q ∷ A ∷ M ∷ a ∷ b ∷ rest ∷ [])
      ((var 0 :* var 1 :+ var 2) :* (var 3 :* var 4 :* (var 7 :+ var 8)) :+
      (var 0 :* (var 5 :* (var 7 :+ var 8) :+ var 6 :* (var 7 :* var 8)) :+ var 9))
      (var 0 :* ((var 1 :* (var 3 :* var 4) :+ var 5) :* (var 7 :+ var 8) :+ (con 0 :+ var 6) :* (var 7 :* var 8)) :+
      (var 2 :* (var 3 :* var 4 :* (var 7 :+ var 8)) :+ var 9))
      refl
  first_gate product f e w p q A M a b rest =
      solve R (f ∷ e ∷ w ∷ p ∷ q ∷ A ∷ M ∷ a ∷ b ∷ rest ∷ [])
      ((var 0 :* var 1 :+ var 2) :* (var 3 :* var 4 :* (var 7 :* var 8)) :+
      (var 0 :* (var 5 :* (var 7 :+ var 8) :+ var 6 :* (var 7 :* var 8)) :+ var 9))
      (var 0 :* ((con 0 :+ var 5) :* (var 7 :+ var 8) :+ (var 1 :* (var 3 :* var 4) :+ var 6) :* (var 7 :* var 8)) :+
      (var 2 :* (var 3 :* var 4 :* (var 7 :* var 8)) :+ var 9))
      refl

  terms_share : (size m i : ℕ) (gs : List Gate) (s : Share K) (ss : List (Share K)) (x y : List K) (a b : K) →
      gate_terms N m gs (weights N size (s ∷ ss) i (length gs)) x y a b ≡
      add
      (mul s.factor
      (body R (wiring N sum size m i gs s.point x y) (wiring N product size m i gs s.point x y) a b))
      (gate_terms N m gs (weights N size ss i (length gs)) x y a b)
  unfolding gate_terms weights share_weight wiring
  terms_share size m i [] s ss x y a b =
      sym R.reduce_zero ∙
      solve R (s.factor ∷ a ∷ b ∷ []) (con 0)
      (var 0 :* (con 0 :* (var 1 :+ var 2) :+ con 0 :* (var 1 :* var 2)) :+ con 0) refl
  terms_share size m i (g ∷ gs) s ss x y a b =
      let p : K = eq_poly N (bits_of N m g.left) x in
      let q : K = eq_poly N (bits_of N m g.right) y in
      let e : K = eq_poly N (bits_of N size i) s.point in
      let w : K = share_weight N size ss i in
      ap (add (mul (add (mul s.factor e) w) (mul (mul p q) (combine N g.kind a b))))
      (terms_share size m (i + 1) gs s ss x y a b) ∙
      first_gate g.kind s.factor e w p q (wiring N sum size m (i + 1) gs s.point x y)
      (wiring N product size m (i + 1) gs s.point x y) a b
      (gate_terms N m gs (weights N size ss (i + 1) (length gs)) x y a b)

  terms_wiring : (l : Layer) (m : ℕ) (ss : List (Share K)) (x y : List K) (a b : K) →
      body R (shared_wiring N sum l m ss x y) (shared_wiring N product l m ss x y) a b ≡
      gate_terms N m l.gates (layer_weights N l ss) x y a b
  unfolding shared_wiring
  terms_wiring l m [] x y a b =
      solve R (a ∷ b ∷ []) (con 0 :* (var 0 :+ var 1) :+ con 0 :* (var 0 :* var 1)) (con 0) refl ∙
      R.reduce_zero ∙ sym (terms_none l.size m 0 l.gates x y a b)
  terms_wiring l m (s ∷ ss) x y a b =
      let A : K = wiring N sum l.size m 0 l.gates s.point x y in
      let M : K = wiring N product l.size m 0 l.gates s.point x y in
      let A' : K = shared_wiring N sum l m ss x y in
      let M' : K = shared_wiring N product l m ss x y in
      solve R (s.factor ∷ A ∷ M ∷ A' ∷ M' ∷ a ∷ b ∷ [])
      ((var 0 :* var 1 :+ var 3) :* (var 5 :+ var 6) :+ (var 0 :* var 2 :+ var 4) :* (var 5 :* var 6))
      (var 0 :* (var 1 :* (var 5 :+ var 6) :+ var 2 :* (var 5 :* var 6)) :+
      (var 3 :* (var 5 :+ var 6) :+ var 4 :* (var 5 :* var 6))) refl ∙
      ap (add (mul s.factor (body R A M a b))) (terms_wiring l m ss x y a b) ∙
      sym (terms_share l.size m 0 l.gates s ss x y a b)

  pub expected_terms : (l : Layer) (m : ℕ) (k : Claim K) (c x y : List K) (a b : K) →
      expected N l m k c x y a b ≡
      mul (eq_poly N k.copy c) (gate_terms N m l.gates (layer_weights N l k.shares) x y a b)
  expected_terms l m k c x y a b = ap (mul (eq_poly N k.copy c)) (terms_wiring l m k.shares x y a b)

  -- a factor of all the weights is one of the sum
  pub terms_scaled : (f : K) (m : ℕ) (gs : List Gate) (ws x y : List K) (a b : K) →
      gate_terms N m gs (scaled N f ws) x y a b ≡ mul f (gate_terms N m gs ws x y a b)
  unfolding gate_terms
  terms_scaled f m [] ws x y a b = sym (R.mul_zero f)
  terms_scaled f m (g ∷ gs) [] x y a b = sym (R.mul_zero f)
  terms_scaled f m (g ∷ gs) (w ∷ ws) x y a b =
      let t : K = mul (mul (eq_poly N (bits_of N m g.left) x) (eq_poly N (bits_of N m g.right) y)) (combine N g.kind a b) in
      let rest : K = gate_terms N m gs ws x y a b in
      ap (add (mul (mul w f) t)) (terms_scaled f m gs ws x y a b) ∙
      solve R (f ∷ w ∷ t ∷ rest ∷ []) (var 1 :* var 0 :* var 2 :+ var 0 :* var 3) (var 0 :* (var 1 :* var 2 :+ var 3)) refl
