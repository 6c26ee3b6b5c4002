-- One step of a walk over words: a gate further along a layer, a layer further down a circuit.
-- Each says what a definition of the specs gives from one place on by what it gives from the next.
use Rattle.std.proofs.Common.{◌≡◌, ℕ, zero, suc, ◌+◌, ◌-◌, ◌*◌, ◌^◌, ◌<◌, ◌≤◌, Bool, true, false, ◌&&◌, eqb, ltb, leb, List, [], length, take, drop, sym, refl, ap, ◌∙◌, ap₂, arith}
use native.Mathlib.Nat.{sub-zero}
use Rattle.std.proofs.lemmas.List.{drop-take, get_or-take}
use Rattle.std.proofs.lemmas.Bool.{leb-true, eq-eqb, and_parts}
use Rattle.circuits.specs.Circuit.{gates_fit, layers_fit, size_below}
use Rattle.circuits.specs.Words.{word, gates_of, layers_of, kinds_known, shaped}
use Rattle.circuits.specs.Parts.{starts_layer, layer_length}

-- the gates' words alone have the same kinds
pub kinds_front : (n m : ℕ) (ws : List ℕ) → 3 * n ≤ m → kinds_known n (take m ws) ≡ kinds_known n ws
unfolding kinds_known
kinds_front zero m ws h = refl
kinds_front (suc n) m ws h =
    let e : m ≡ 3 + (m - 3) = omega arith in
    let d : drop 3 (take m ws) ≡ take (m - 3) (drop 3 ws) = ap (λ k. drop 3 (take k ws)) e ∙ drop-take 3 (m - 3) ws in
    let r : kinds_known n (take (m - 3) (drop 3 ws)) ≡ kinds_known n (drop 3 ws) = kinds_front n (m - 3) (drop 3 ws) (omega arith) in
    ap₂ (λ w b. ltb w 2 && b) (get_or-take m ws 0 0 (omega arith)) (ap (kinds_known n) d ∙ r)

pub and_regroup : (a b c : Bool) → (a && (b && c)) ≡ ((a && b) && c)
and_regroup true b c = refl
and_regroup false b c = refl

pub shaped_more : (copies n i : ℕ) (ws : List ℕ) → i < n →
    shaped copies (n - i) ws ≡ (starts_layer copies ws && shaped copies (n - (i + 1)) (drop (layer_length ws) ws))
unfolding shaped starts_layer
shaped_more copies n i ws h =
    let e : n - i ≡ suc (n - (i + 1)) = omega arith in
    let s = shaped copies (n - (i + 1)) (drop (layer_length ws) ws) in
    let a = leb 1 (length ws) in
    let b = leb (copies + word ws 0) 16 in
    let c = leb (layer_length ws) (length ws) in
    let d = kinds_known (2 ^ word ws 0) (drop 1 ws) in
    ap (λ k. shaped copies k ws) e
    ∙ ap (λ x. a && (b && x)) (and_regroup c d s)
    ∙ ap (λ x. a && x) (and_regroup b (c && d) s)
    ∙ and_regroup a (b && (c && d)) s

pub shaped-all : (copies n i : ℕ) (ws : List ℕ) → n ≤ i → shaped copies (n - i) ws ≡ eqb (length ws) 0
unfolding shaped
shaped-all copies n i ws h =
    let e : n - i ≡ 0 = omega arith in
    ap (λ k. shaped copies k ws) e

pub length-gates_of : (n : ℕ) (ws : List ℕ) → length (gates_of n ws) ≡ n
unfolding gates_of
length-gates_of zero ws = refl
length-gates_of (suc n) ws = ap suc (length-gates_of n (drop 3 ws))

pub length-layers_of : (n : ℕ) (ws : List ℕ) → length (layers_of n ws) ≡ n
unfolding layers_of
length-layers_of zero ws = refl
length-layers_of (suc n) ws = ap suc (length-layers_of n (drop (layer_length ws) ws))

-- the first of some shaped layers is there, within the limits, and what is left is shaped
pub record Starts (copies n : ℕ) (ws : List ℕ) : Type 0 where
  pub one : 1 ≤ length ws
  pub limit : copies + word ws 0 ≤ 16
  pub long : layer_length ws ≤ length ws
  pub rest : shaped copies (n - 1) (drop (layer_length ws) ws) ≡ true

pub shaped_starts : (copies n : ℕ) (ws : List ℕ) → 0 < n → shaped copies n ws ≡ true → Starts copies n ws
unfolding starts_layer
shaped_starts copies n ws h s =
    let e : shaped copies (n - 0) ws ≡ shaped copies n ws = ap (λ k. shaped copies k ws) (sub-zero n) in
    let p = and_parts (starts_layer copies ws) (shaped copies (n - 1) (drop (layer_length ws) ws)) (sym (shaped_more copies n 0 ws h) ∙ e ∙ s) in
    let a = leb 1 (length ws) in
    let b = leb (copies + word ws 0) 16 in
    let c = leb (layer_length ws) (length ws) in
    let d = kinds_known (2 ^ word ws 0) (drop 1 ws) in
    let q = and_parts a (b && (c && d)) p.0 in
    let r = and_parts b (c && d) q.1 in
    let t = and_parts c d r.1 in
    record {
      one = leb-true 1 (length ws) q.0;
      limit = leb-true (copies + word ws 0) 16 r.0;
      long = leb-true (layer_length ws) (length ws) t.0;
      rest = p.1;
    }

-- the gates' words alone give the same gates
pub gates_front : (n m : ℕ) (ws : List ℕ) → 3 * n ≤ m → gates_of n (take m ws) ≡ gates_of n ws
unfolding gates_of
gates_front zero m ws h = refl
gates_front (suc n) m ws h =
    let a : 0 < m = omega arith in
    let b : 1 < m = omega arith in
    let c : 2 < m = omega arith in
    let e : m ≡ 3 + (m - 3) = omega arith in
    let d : drop 3 (take m ws) ≡ take (m - 3) (drop 3 ws) = ap (λ k. drop 3 (take k ws)) e ∙ drop-take 3 (m - 3) ws in
    let r : gates_of n (take (m - 3) (drop 3 ws)) ≡ gates_of n (drop 3 ws) = gates_front n (m - 3) (drop 3 ws) (omega arith) in
    cc (get_or-take m ws 0 0 a, get_or-take m ws 1 0 b, get_or-take m ws 2 0 c, ap (gates_of n) d)

pub top_none : (n inputs : ℕ) (ws : List ℕ) → n ≡ 0 → size_below (layers_of n ws) inputs ≡ inputs
unfolding layers_of
top_none n inputs ws e = ap (λ k. size_below (layers_of k ws) inputs) e

pub top_some : (n inputs : ℕ) (ws : List ℕ) → 0 < n → size_below (layers_of n ws) inputs ≡ word ws 0
unfolding layers_of
top_some n inputs ws h =
    let e : n ≡ suc (n - 1) = omega arith in
    ap (λ k. size_below (layers_of k ws) inputs) e

pub layers_none : (n : ℕ) (ws : List ℕ) → n ≡ 0 → layers_of n ws ≡ []
unfolding layers_of
layers_none n ws e = ap (λ k. layers_of k ws) e

pub layers_fit_none : (n inputs : ℕ) (ws : List ℕ) → n ≡ 0 → layers_fit (layers_of n ws) inputs ≡ true
unfolding layers_fit
layers_fit_none n inputs ws e = ap (λ ls. layers_fit ls inputs) (layers_none n ws e)

pub layers_more : (n m inputs : ℕ) (ws : List ℕ) → m + 1 ≡ n →
    layers_fit (layers_of n ws) inputs ≡ (gates_fit (2 ^ size_below (layers_of m (drop (layer_length ws) ws)) inputs) (gates_of (2 ^ word ws 0) (drop 1 ws)) && layers_fit (layers_of m (drop (layer_length ws) ws)) inputs)
unfolding layers_fit layers_of
layers_more n m inputs ws h =
    let e : n ≡ suc m = omega arith in
    let ls = layers_of m (drop (layer_length ws) ws) in
    let gs = gates_of (2 ^ word ws 0) (drop 1 ws) in
    ap (λ k. layers_fit (layers_of k ws) inputs) e
    ∙ ap (λ b. b && (gates_fit (2 ^ size_below ls inputs) gs && layers_fit ls inputs)) (eq-eqb (length gs) (2 ^ word ws 0) (length-gates_of (2 ^ word ws 0) (drop 1 ws)))
