-- The gates that some words hold, taken off one by one from the front or from the back.
-- An iterator over the gates of a layer takes a step by these.
use Rattle.std.proofs.Common.{◌≡◌, ℕ, zero, suc, ◌+◌, ◌-◌, ◌*◌, ◌/◌, ◌<◌, ◌≤◌, List, [], ◌∷◌, ◌++◌, length, take, drop, sym, refl, ap, ◌∙◌, ap₂, subst, ◌^◌, reverse, get_or, ◌⊎◌, inl, inr, Option, Some, None, Bor, Iter, length-drop, arith}
use Rattle.std.proofs.iter.Yields.{fronts}
use Rattle.std.proofs.lemmas.List.{drop-drop, get_or-drop, get_or-take, reverse-append}
use Rattle.std.proofs.lemmas.Iterator.{YieldsList, zips}
use Rattle.std.proofs.lemmas.Iterator.Consumers.{YieldsList-from_first, YieldsList-from_shown}
use Rattle.std.specs.Iterator.{Yields, YieldsFirstBy, YieldsLastBy}
use Rattle.std.specs.Iterator.Adapters.{rev_source, rev_steps, zip_first, zip_second}
use Rattle.std.specs.Slice.Iter.{iter_rest}
use Rattle.std.specs.declared.iter.Zip.{Zip}
use Rattle.std.specs.declared.iter.Rev.{Rev}
use Rattle.circuits.specs.Circuit.{Gate}
use Rattle.circuits.specs.Views.{gate_meant, gates_left, gates_seen, places_below, no_gate}
use Rattle.circuits.specs.declared.gate.Gate as code
use Rattle.circuits.specs.declared.view.Gates.{Gates}
use Rattle.circuits.specs.declared.view.LayerView.{LayerView}
use Rattle.circuits.specs.Words.{gates_of}
use Rattle.circuits.specs.Parts.{gate_at}
use Rattle.circuits.proofs.Steps.{gates_front}
use Rattle.circuits.proofs.Parts.{Within, gate_fits, layer_parts}

pub left_none : (ws : List ℕ) → length ws < 3 → gates_of (length ws / 3) ws ≡ []
unfolding gates_of
left_none ws h =
    let e : length ws / 3 ≡ 0 = omega arith in
    ap (λ n. gates_of n ws) e

pub left_first : (ws front rest : List ℕ) (g : Gate) → 3 ≤ length ws → front ≡ take 3 ws → rest ≡ drop 3 ws → length rest + 3 ≡ length ws → g ≡ gate_at front 0 →
    gates_of (length ws / 3) ws ≡ g ∷ gates_of (length rest / 3) rest
unfolding gates_of
left_first ws front rest g h ef er el eg =
    let e : length ws / 3 ≡ suc (length rest / 3) = omega arith in
    let a = get_or-take 3 ws 0 0 (omega arith) in
    let b = get_or-take 3 ws 1 0 (omega arith) in
    let d = get_or-take 3 ws 2 0 (omega arith) in
    let same : gate_at (take 3 ws) 0 ≡ gate_at ws 0 = cc in
    ap (λ n. gates_of n ws) e ∙ ap₂ (λ x xs. x ∷ gates_of (length rest / 3) xs) (sym (eg ∙ ap (λ xs. gate_at xs 0) ef ∙ same)) (sym er)

gates_push : (n : ℕ) (ws : List ℕ) → gates_of (suc n) ws ≡ gates_of n ws ++ (gate_at (drop (3 * n) ws) 0 ∷ [])
unfolding gates_of
gates_push zero ws = refl
gates_push (suc n) ws =
    let e : 3 + 3 * n ≡ 3 * suc n = omega arith in
    let d : drop (3 * n) (drop 3 ws) ≡ drop (3 * suc n) ws = drop-drop (3 * n) 3 ws ∙ ap (λ k. drop k ws) e in
    ap (λ gs. gate_at ws 0 ∷ gs) (gates_push n (drop 3 ws) ∙ ap (λ xs. gates_of n (drop 3 ws) ++ (gate_at xs 0 ∷ [])) d)

pub left_last : (ws rest back : List ℕ) (g : Gate) → 3 * (length ws / 3) ≡ length ws → 3 ≤ length ws → rest ≡ take (length ws - 3) ws → back ≡ drop (length ws - 3) ws →
    length rest + 3 ≡ length ws → g ≡ gate_at back 0 → gates_of (length ws / 3) ws ≡ gates_of (length rest / 3) rest ++ (g ∷ [])
left_last ws rest back g whole h er eb el eg =
    let n = length rest / 3 in
    let e : length ws / 3 ≡ suc n = omega arith in
    let k : length ws - 3 ≡ 3 * n = omega arith in
    let f : gates_of n (take (3 * n) ws) ≡ gates_of n ws = gates_front n (3 * n) ws (omega arith) in
    let r : gates_of n rest ≡ gates_of n ws = ap (gates_of n) (er ∙ ap (λ j. take j ws) k) ∙ f in
    let b : gate_at (drop (3 * n) ws) 0 ≡ g = sym (eg ∙ ap (λ xs. gate_at xs 0) (eb ∙ ap (λ j. drop j ws) k)) in
    ap (λ j. gates_of j ws) e ∙ gates_push n ws ∙ ap₂ (λ xs x. xs ++ (x ∷ [])) (sym r) b

-- ---- for a caller that goes over a layer's gates
pub YieldsList-from_gates : {s : Gates} (gs : List Gate) → gates_left s ≡ gs → YieldsList (YieldsFirstBy gate_meant gates_left) gate_meant s gs
YieldsList-from_gates gs e = YieldsList-from_first gate_meant gates_left gs e

pub YieldsList-from_rev_gates : {s : Rev Gates} (gs : List Gate) → gates_left (rev_source s) ≡ gs →
    YieldsList (rev_steps (YieldsLastBy gate_meant gates_left)) gate_meant s (reverse gs)
YieldsList-from_rev_gates {s} gs e =
    subst (λ xs. YieldsList (rev_steps (YieldsLastBy gate_meant gates_left)) gate_meant s (reverse xs)) e
    (YieldsList-from_shown (rev_steps (YieldsLastBy gate_meant gates_left)) gate_meant (λ (t : Rev Gates). reverse (gates_left (rev_source t)))
    (λ t u h. ap (λ gates. length (reverse gates)) h.0)
    (λ t x u h. ap reverse h ∙ reverse-append (gates_left (rev_source u)) (gate_meant x ∷ [])) s)

-- a gate of a layer takes places that are there
pub gate_within : (v : LayerView) (i : ℕ) (d : Gate) → i < length (gates_seen v) → Within (2 ^ places_below v) (get_or (gates_seen v) i d)
gate_within v i d h = gate_fits (2 ^ places_below v) (gates_seen v) i d (layer_parts v.size v.below v.words.now v.lawful).fits h

-- ---- a loop over a layer's gates beside a slice of numbers, which has passed the pairs xs
abbrev pub beside : Zip Gates (Iter ℕ) → Option (code.Gate × Bor ℕ) → Zip Gates (Iter ℕ) → Type 0
beside = zips (YieldsFirstBy gate_meant gates_left) fronts

beside_more : (s t : Zip Gates (Iter ℕ)) (r : Option (code.Gate × Bor ℕ)) (p : code.Gate × Bor ℕ) → r ≡ Some p → beside s r t →
    (gates_left (zip_first s) ≡ gate_meant p.0 ∷ gates_left (zip_first t)) × (iter_rest (zip_second s) ≡ p.1.now ∷ iter_rest (zip_second t))
beside_more s t r p e h = subst (λ o. beside s o t) e h

passed : (xs : List (code.Gate × Bor ℕ)) (s t : Zip Gates (Iter ℕ)) → Yields beside s xs t →
    (gates_left (zip_first t) ≡ drop (length xs) (gates_left (zip_first s))) × (iter_rest (zip_second t) ≡ drop (length xs) (iter_rest (zip_second s)))
passed [] s t y = (ap (λ z. gates_left (zip_first z)) (sym y), ap (λ z. iter_rest (zip_second z)) (sym y))
passed (x ∷ xs) s t y =
    let k = passed xs y.0 t y.2 in
    (k.0 ∙ sym (ap (drop (suc (length xs))) y.1.0), k.1 ∙ sym (ap (drop (suc (length xs))) y.1.1))

module _ (v : LayerView) (ws : List ℕ) (xs : List (code.Gate × Bor ℕ)) (s t u : Zip Gates (Iter ℕ)) (r : Option (code.Gate × Bor ℕ))
    (first : gates_left (zip_first s) ≡ gates_seen v) (second : iter_rest (zip_second s) ≡ ws) (y : Yields beside s xs t) where
  gates_next : gates_left (zip_first t) ≡ drop (length xs) (gates_seen v)
  gates_next = (passed xs s t y).0 ∙ ap (drop (length xs)) first

  numbers_next : iter_rest (zip_second t) ≡ drop (length xs) ws
  numbers_next = (passed xs s t y).1 ∙ ap (drop (length xs)) second

  -- the next pair is the gate at its place, which takes places that are there, and the number beside it
  pub gates_turn : (p : code.Gate × Bor ℕ) → r ≡ Some p → beside t r u →
      (length xs < length (gates_seen v)) × (length xs < length ws) × (gate_meant p.0 ≡ get_or (gates_seen v) (length xs) no_gate)
      × (p.1.now ≡ get_or ws (length xs) 0) × Within (2 ^ places_below v) (gate_meant p.0)
  gates_turn p e h =
      let k = beside_more t u r p e h in
      let n = length xs in
      let none : n + 0 ≡ n = omega arith in
      let a : gate_meant p.0 ∷ gates_left (zip_first u) ≡ drop n (gates_seen v) = sym k.0 ∙ gates_next in
      let b : p.1.now ∷ iter_rest (zip_second u) ≡ drop n ws = sym k.1 ∙ numbers_next in
      let i : n < length (gates_seen v) = omega (arith, ap length a, length-drop n (gates_seen v)) in
      let j : n < length ws = omega (arith, ap length b, length-drop n ws) in
      let g : gate_meant p.0 ≡ get_or (gates_seen v) n no_gate =
      ap (λ l. get_or l 0 no_gate) a ∙ get_or-drop n (gates_seen v) 0 no_gate ∙ ap (λ m. get_or (gates_seen v) m no_gate) none in
      let w : p.1.now ≡ get_or ws n 0 = ap (λ l. get_or l 0 0) b ∙ get_or-drop n ws 0 0 ∙ ap (λ m. get_or ws m 0) none in
      (i, j, g, w, subst (Within (2 ^ places_below v)) (sym g) (gate_within v n no_gate i))

  -- where there are as many numbers as gates, the last turn is that of the last gate
  pub gates_end : length ws ≡ length (gates_seen v) → r ≡ None → beside t r u → length (gates_seen v) ≤ length xs
  gates_end same e h = by (subst (λ o. beside t o u) e h)
    where
      by : ((k : Gates) × YieldsFirstBy gate_meant gates_left (zip_first t) None k) ⊎ ((k : Iter ℕ) × fronts (zip_second t) None k) → length (gates_seen v) ≤ length xs
      by (inl a) = omega (arith, ap length (sym a.1.0 ∙ gates_next), length-drop (length xs) (gates_seen v))
      by (inr b) = omega (arith, b.1.0, ap length numbers_next, length-drop (length xs) ws, same)
