-- How the values of a lawful circuit lie: the length of each layer's table, and its copies one after the other.
-- `Copied` says, halving by halving, that a table holds all copies of a layer over a table of what lies below.
use Rattle.std.proofs.Common.{◌≡◌, ℕ, zero, suc, ◌+◌, ◌*◌, ◌^◌, ◌<◌, ◌≤◌, true, ◌&&◌, eqb, ltb, List, [], ◌∷◌, ◌++◌, length, take, drop, sym, refl, ap, ◌∙◌, append_assoc, append-nil, suc-mul, add-mul, add_comm, suc-add, zero-add, zero-mul, arith, length-append, length-drop}
use native.Mathlib.Nat.{two-pow-succ}
use Rattle.std.proofs.lemmas.Bool.{and_parts, eqb-true, ltb-true}
use Rattle.std.proofs.lemmas.List.{length-take-le, drop-drop, take-append-drop, nil_from_length}
use Rattle.arithmetic.specs.Numbers.{Numbers}
use Rattle.circuits.specs.Circuit.{Gate, Layer, size_below, gates_fit, layers_fit, gate_values, copy_values, all_values}

-- each gate takes places below n
abbrev pub Reads : ℕ → List Gate → Type 0
Reads n [] = Unit {0}
Reads n (g ∷ gs) = (g.left < n) × (g.right < n) × Reads n gs

reads : (n : ℕ) (gs : List Gate) → gates_fit n gs ≡ true → Reads n gs
unfolding gates_fit
reads n [] h = tt
reads n (g ∷ gs) h =
    let p = and_parts (ltb g.left n) (ltb g.right n && gates_fit n gs) h in
    let q = and_parts (ltb g.right n) (gates_fit n gs) p.1 in
    (ltb-true g.left n p.0, ltb-true g.right n q.0, reads n gs q.1)

-- what is known of the top one of fitting layers
pub record Fits (l : Layer) (ls : List Layer) (inputs : ℕ) : Type 0 where
  pub full : length l.gates ≡ 2 ^ l.size
  pub reading : Reads (2 ^ size_below ls inputs) l.gates
  pub below : layers_fit ls inputs ≡ true

pub fits : (l : Layer) (ls : List Layer) (inputs : ℕ) → layers_fit (l ∷ ls) inputs ≡ true → Fits l ls inputs
unfolding layers_fit
fits l ls inputs h =
    let rest = gates_fit (2 ^ size_below ls inputs) l.gates in
    let p = and_parts (eqb (length l.gates) (2 ^ l.size)) (rest && layers_fit ls inputs) h in
    let q = and_parts rest (layers_fit ls inputs) p.1 in
    record { full = eqb-true (length l.gates) (2 ^ l.size) p.0; reading = reads _ l.gates q.0; below = q.1 }

module _ {K : Type 0} (N : Numbers K) where
  -- ---- one copy
  pub gate_values-length : (X : List K) (gs : List Gate) → length (gate_values N X gs) ≡ length gs
  unfolding gate_values
  gate_values-length X [] = refl
  gate_values-length X (g ∷ gs) = ap suc (gate_values-length X gs)

  copy_values-length : (ls : List Layer) (inputs : ℕ) → layers_fit ls inputs ≡ true → (vs : List K) → length vs ≡ 2 ^ inputs →
      length (copy_values N ls vs) ≡ 2 ^ size_below ls inputs
  unfolding copy_values
  copy_values-length [] inputs h vs e = e
  copy_values-length (l ∷ ls) inputs h vs e = gate_values-length (copy_values N ls vs) l.gates ∙ (fits l ls inputs h).full

  -- ---- all copies
  all_values-length : (ls : List Layer) (n w : ℕ) → ((vs : List K) → length vs ≡ n → length (copy_values N ls vs) ≡ w) →
      (count : ℕ) (vs : List K) → count * n ≤ length vs → length (all_values N ls n count vs) ≡ count * w
  unfolding all_values
  all_values-length ls n w one zero vs h = sym (zero-mul w)
  all_values-length ls n w one (suc count) vs h =
      let enough : n + count * n ≤ length vs = omega (arith, suc-mul count n) in
      let rest : length (all_values N ls n count (drop n vs)) ≡ count * w =
      all_values-length ls n w one count (drop n vs) (omega (arith, length-drop n vs)) in
      let first : length (copy_values N ls (take n vs)) ≡ w = one (take n vs) (length-take-le n vs (omega arith)) in
      length-append (copy_values N ls (take n vs)) (all_values N ls n count (drop n vs)) ∙ omega (arith, first, rest, suc-mul count w)

  pub all_values_full : (ls : List Layer) (inputs : ℕ) → layers_fit ls inputs ≡ true →
      (copies : ℕ) (vs : List K) → 2 ^ copies * 2 ^ inputs ≤ length vs →
      length (all_values N ls (2 ^ inputs) (2 ^ copies) vs) ≡ 2 ^ copies * 2 ^ size_below ls inputs
  all_values_full ls inputs h copies vs enough =
      all_values-length ls (2 ^ inputs) (2 ^ size_below ls inputs) (copy_values-length ls inputs h) (2 ^ copies) vs enough

  all_values-append : (ls : List Layer) (n a b : ℕ) (vs : List K) →
      all_values N ls n (a + b) vs ≡ all_values N ls n a vs ++ all_values N ls n b (drop (a * n) vs)
  unfolding all_values
  all_values-append ls n zero b vs = rw (zero-add b, zero-mul n)
  all_values-append ls n (suc a) b vs =
      rw (suc-add a b, suc-mul a n, all_values-append ls n a b (drop n vs), drop-drop (a * n) n vs, add_comm n (a * n))
      (sym (append_assoc (copy_values N ls (take n vs)) (all_values N ls n a (drop n vs)) (all_values N ls n b (drop (a * n + n) vs))))

  -- with no layers, the values are the inputs
  pub all_values_inputs : (n count : ℕ) (vs : List K) → length vs ≡ count * n → all_values N [] n count vs ≡ vs
  unfolding all_values copy_values
  all_values_inputs n zero vs e = sym (nil_from_length vs (e ∙ zero-mul n))
  all_values_inputs n (suc count) vs e =
      rw (all_values_inputs n count (drop n vs) (omega (arith, length-drop n vs, suc-mul count n)))
      (take-append-drop n vs)

  abbrev pub Copied : ℕ → ℕ → List Gate → List K → List K → Type 0
  Copied zero m gs X Y = (length X ≡ 2 ^ m) × (Y ≡ gate_values N X gs)
  Copied (suc b) m gs X Y =
      (X0 : List K) × (X1 : List K) × (Y0 : List K) × (Y1 : List K) × (X ≡ X0 ++ X1) × (Y ≡ Y0 ++ Y1) ×
      (length X0 ≡ length X1) × (length Y0 ≡ length Y1) × Copied b m gs X0 Y0 × Copied b m gs X1 Y1

  pub copied : (l : Layer) (ls : List Layer) (inputs : ℕ) → layers_fit (l ∷ ls) inputs ≡ true →
      (b : ℕ) (vs : List K) → 2 ^ b * 2 ^ inputs ≤ length vs →
      Copied b (size_below ls inputs) l.gates (all_values N ls (2 ^ inputs) (2 ^ b) vs) (all_values N (l ∷ ls) (2 ^ inputs) (2 ^ b) vs)
  unfolding all_values copy_values
  copied l ls inputs h zero vs enough =
      let X = copy_values N ls (take (2 ^ inputs) vs) in
      rw (append-nil X, append-nil (gate_values N X l.gates))
      (copy_values-length ls inputs (fits l ls inputs h).below (take (2 ^ inputs) vs) (length-take-le (2 ^ inputs) vs (omega arith)), refl)
  copied l ls inputs h (suc b) vs enough =
      let n = 2 ^ inputs in
      let a = 2 ^ b in
      let double : (a + a) * n ≤ length vs = rw (sym (two-pow-succ b)) enough in
      let both : a * n + a * n ≤ length vs = omega (arith, add-mul a a n) in
      let low : a * n ≤ length vs = omega arith in
      let high : a * n ≤ length (drop (a * n) vs) = omega (arith, length-drop (a * n) vs) in
      let under = (fits l ls inputs h).below in
      rw (two-pow-succ b) (
        all_values N ls n a vs,
        all_values N ls n a (drop (a * n) vs),
        all_values N (l ∷ ls) n a vs,
        all_values N (l ∷ ls) n a (drop (a * n) vs),
        all_values-append ls n a a vs,
        all_values-append (l ∷ ls) n a a vs,
        all_values_full ls inputs under b vs low ∙ sym (all_values_full ls inputs under b (drop (a * n) vs) high),
        all_values_full (l ∷ ls) inputs h b vs low ∙ sym (all_values_full (l ∷ ls) inputs h b (drop (a * n) vs) high),
        copied l ls inputs h b vs low,
        copied l ls inputs h b (drop (a * n) vs) high,
      )
