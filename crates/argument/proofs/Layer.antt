-- A layer in all its copies: what a claim says of its values is a sum over corners, of its wiring and the values below.
-- By induction on the variables of the copies; the first of them takes one half of each table or the other.
use Rattle.std.proofs.Common.{◌≡◌, ℕ, zero, suc, ◌*◌, ◌^◌, ◌≤◌, true, List, [], ◌∷◌, ◌++◌, length, sym, refl, ap, ◌∙◌, ap₂, suc-ne-zero}
use native.Mathlib.Nat.{suc_inj}
use Rattle.arithmetic.specs.Numbers.{Numbers}
use Rattle.arithmetic.proofs.Ring.{Ring, reduce-add, one-mul}
use Rattle.arithmetic.proofs.Solver.{var, con, ◌:+◌, ◌:*◌, ◌:-◌, solve}
use Rattle.tables.specs.Multilinear.{mle, eq_poly, sum_corners}
use Rattle.tables.proofs.Corners.{sum_corners_same, sum_corners_scale}
use Rattle.tables.proofs.Extension.{mle_halves, mle-zero, mle-one}
use Rattle.circuits.specs.Circuit.{sum, product, Layer, size_below, layers_fit, gate_values, all_values}
use Rattle.argument.specs.Claims.{Share, Claim, share_sum, shared_wiring, expected}
use Rattle.argument.proofs.Copies.{Reads, fits, Copied, copied}
use Rattle.argument.proofs.Gates.{Long, sum_pairs, sum_pairs_same, sum_pairs_scale, body, shares_sum}

module _ {K : Type 0} {N : Numbers K} (R : Ring N) where
  open N use {reduce, add, sub, mul, nat}

  pub reduce-share_sum : (Y c : List K) (ss : List (Share K)) → reduce (share_sum N Y c ss) ≡ share_sum N Y c ss
  unfolding share_sum
  reduce-share_sum Y c [] = R.reduce_zero
  reduce-share_sum Y c (s ∷ ss) = reduce-add R (mul s.factor (mle N Y (c ++ s.point))) (share_sum N Y c ss)

  share_sum_halves : (Y0 Y1 : List K) (r : K) (c : List K) (ss : List (Share K)) → length Y0 ≡ length Y1 →
      share_sum N (Y0 ++ Y1) (r ∷ c) ss ≡ add (mul (sub (nat 1) r) (share_sum N Y0 c ss)) (mul r (share_sum N Y1 c ss))
  unfolding share_sum
  share_sum_halves Y0 Y1 r c [] e = sym R.reduce_zero ∙ solve R (r ∷ []) (con 0) ((con 1 :- var 0) :* con 0 :+ var 0 :* con 0) refl
  share_sum_halves Y0 Y1 r c (s ∷ ss) e =
      ap₂ (λ a b. add (mul s.factor a) b) (mle_halves R Y0 Y1 r (c ++ s.point) e) (share_sum_halves Y0 Y1 r c ss e)
      ∙ solve R (r ∷ s.factor ∷ mle N Y0 (c ++ s.point) ∷ mle N Y1 (c ++ s.point) ∷ share_sum N Y0 c ss ∷ share_sum N Y1 c ss ∷ [])
      (var 1 :* ((con 1 :- var 0) :* var 2 :+ var 0 :* var 3) :+ ((con 1 :- var 0) :* var 4 :+ var 0 :* var 5))
      ((con 1 :- var 0) :* (var 1 :* var 2 :+ var 4) :+ var 0 :* (var 1 :* var 3 :+ var 5)) refl

  module _ (l : Layer) (m : ℕ) (ss : List (Share K))
      (many : length l.gates ≡ 2 ^ l.size) (reads : Reads (2 ^ m) l.gates) (long : Long l.size ss) where
    -- the expression of the layer, at copies d and below at x and y
    abbrev term : List K → List K → List K → List K → List K → K
    term X c d x y =
        mul (eq_poly N c d)
        (body R (shared_wiring N sum l m ss x y) (shared_wiring N product l m ss x y) (mle N X (d ++ x)) (mle N X (d ++ y)))

    -- with the first variable at 0 or 1 the claim's point adds a factor, and one half of the table is left
    half : (b : ℕ) (X X' : List K) (t r k : K) (c : List K) → ((z : List K) → mle N X (t ∷ z) ≡ mle N X' z) →
        ((d : List K) → eq_poly N (r ∷ c) (t ∷ d) ≡ mul k (eq_poly N c d)) →
        sum_corners N b (λ d. sum_pairs R m (λ x y. term X (r ∷ c) (t ∷ d) x y)) ≡
        mul k (sum_corners N b (λ d. sum_pairs R m (λ x y. term X' c d x y)))
    half b X X' t r k c table weight =
        sum_corners_same R b (λ d. sum_pairs R m (λ x y. term X (r ∷ c) (t ∷ d) x y)) (λ d. mul k (sum_pairs R m (λ x y. term X' c d x y)))
        (λ d.
        sum_pairs_same R m (λ x y. term X (r ∷ c) (t ∷ d) x y) (λ x y. mul k (term X' c d x y))
        (λ x y.
        ap₂ (λ e u. mul e u) (weight d)
        (ap₂ (λ u v. body R (shared_wiring N sum l m ss x y) (shared_wiring N product l m ss x y) u v) (table (d ++ x)) (table (d ++ y)))
        ∙ R.mul_assoc k (eq_poly N c d)
        (body R (shared_wiring N sum l m ss x y) (shared_wiring N product l m ss x y) (mle N X' (d ++ x)) (mle N X' (d ++ y))))
        ∙ sum_pairs_scale R m k (λ x y. term X' c d x y))
        ∙ sum_corners_scale R b k (λ d. sum_pairs R m (λ x y. term X' c d x y))

    layer_sum : (b : ℕ) (X Y c : List K) → Copied N b m l.gates X Y → length c ≡ b →
        sum_corners N b (λ d. sum_pairs R m (λ x y. term X c d x y)) ≡ share_sum N Y c ss
    unfolding sum_corners eq_poly
    layer_sum zero X Y [] h e =
        let whole : K = sum_pairs R m (λ x y. body R (shared_wiring N sum l m ss x y) (shared_wiring N product l m ss x y) (mle N X x) (mle N X y)) in
        sum_pairs_scale R m (nat 1) (λ x y. body R (shared_wiring N sum l m ss x y) (shared_wiring N product l m ss x y) (mle N X x) (mle N X y))
        ∙ one-mul R whole
        ∙ ap reduce (shares_sum R m X h.0 l many reads ss long)
        ∙ reduce-share_sum (gate_values N X l.gates) [] ss
        ∙ ap (λ (T : List K). share_sum N T [] ss) (sym h.1)
    layer_sum zero X Y (r ∷ c) h e = absurd (suc-ne-zero (length c) e)
    layer_sum (suc b) X Y [] h e = absurd (suc-ne-zero b (sym e))
    layer_sum (suc b) X Y (r ∷ c) h e =
        let (X0, X1, Y0, Y1, split_x, split_y, halves_x, halves_y, low, high) = h in
        ap₂ add
        (half b X X0 (nat 0) r (sub (nat 1) r) c (λ z. ap (λ (T : List K). mle N T (nat 0 ∷ z)) split_x ∙ mle-zero R X0 X1 z halves_x)
        (λ d. solve R (r ∷ eq_poly N c d ∷ []) ((var 0 :* con 0 :+ (con 1 :- var 0) :* (con 1 :- con 0)) :* var 1) ((con 1 :- var 0) :* var 1) refl)
        ∙ ap (mul (sub (nat 1) r)) (layer_sum b X0 Y0 c low (suc_inj e)))
        (half b X X1 (nat 1) r r c (λ z. ap (λ (T : List K). mle N T (nat 1 ∷ z)) split_x ∙ mle-one R X0 X1 z halves_x)
        (λ d. solve R (r ∷ eq_poly N c d ∷ []) ((var 0 :* con 1 :+ (con 1 :- var 0) :* (con 1 :- con 1)) :* var 1) (var 0 :* var 1) refl)
        ∙ ap (mul r) (layer_sum b X1 Y1 c high (suc_inj e)))
        ∙ sym (share_sum_halves Y0 Y1 r c ss halves_y)
        ∙ ap (λ (T : List K). share_sum N T (r ∷ c) ss) (sym split_y)

  -- what is summed in a layer, with the values below put in
  abbrev pub summand : Layer → ℕ → Claim K → List K → List K → List K → List K → K
  summand l m k X c x y = expected N l m k c x y (mle N X (c ++ x)) (mle N X (c ++ y))

  pub layer_identity : (l : Layer) (ls : List Layer) (inputs copies : ℕ) (vs : List K) → layers_fit (l ∷ ls) inputs ≡ true →
      2 ^ copies * 2 ^ inputs ≤ length vs → (k : Claim K) → length k.copy ≡ copies → Long l.size k.shares →
      let m = size_below ls inputs in
      let X = all_values N ls (2 ^ inputs) (2 ^ copies) vs in
      sum_corners N copies (λ c. sum_corners N m (λ x. sum_corners N m (λ y. summand l m k X c x y))) ≡
      share_sum N (all_values N (l ∷ ls) (2 ^ inputs) (2 ^ copies) vs) k.copy k.shares
  layer_identity l ls inputs copies vs fit enough k e long =
      let f = fits l ls inputs fit in
      layer_sum l (size_below ls inputs) k.shares f.full f.reading long copies
      (all_values N ls (2 ^ inputs) (2 ^ copies) vs) (all_values N (l ∷ ls) (2 ^ inputs) (2 ^ copies) vs) k.copy
      (copied N l ls inputs fit copies vs enough) e
