-- What the tests on words say of them, in parts: of a circuit, of layers from one of them down, and of a layer.
-- With them, what the parts of a lawful circuit are again.
use Rattle.std.proofs.Common.{◌≡◌, ℕ, zero, suc, ◌+◌, ◌*◌, ◌^◌, ◌<◌, ◌≤◌, true, ◌&&◌, eqb, ltb, leb, List, [], ◌∷◌, length, get_or, take, drop, sym, refl, ap, ◌∙◌, ap₂, arith}
use Rattle.std.proofs.lemmas.List.{drop_more, get_or-drop, get_or-take}
use Rattle.std.proofs.lemmas.Bool.{leb-true, le-leb, ltb-true, eqb-true, eq-eqb, and_parts, and_from}
use Rattle.circuits.specs.Circuit.{Gate, gates_fit, layers_fit, size_below}
use Rattle.circuits.specs.Words.{word, gates_of, layers_of, shaped, is_circuit}
use Rattle.circuits.specs.Parts.{are_layers, is_layer, layer_length, gate_at}
use Rattle.circuits.specs.Circuit as circuit
use Rattle.circuits.specs.Views.{no_layer}
use Rattle.circuits.specs.Split.{SplitOff}
use Rattle.circuits.specs.declared.places.Layer.{Layer}
use Rattle.circuits.specs.declared.shape.Layers.{Layers}
use Rattle.circuits.proofs.Steps.{layers_more, gates_front, length-layers_of}

pub record LayersParts (copies inputs n : ℕ) (ws : List ℕ) : Type 0 where
  pub limit : copies + inputs ≤ 16
  pub form : shaped copies n ws ≡ true
  pub fits : layers_fit (layers_of n ws) inputs ≡ true

pub layers_parts : (copies inputs n : ℕ) (ws : List ℕ) → are_layers copies inputs n ws ≡ true → LayersParts copies inputs n ws
unfolding are_layers
layers_parts copies inputs n ws h =
    let a = leb (copies + inputs) 16 in
    let b = shaped copies n ws in
    let c = layers_fit (layers_of n ws) inputs in
    let p = and_parts a (b && c) h in
    let q = and_parts b c p.1 in
    record { limit = leb-true (copies + inputs) 16 p.0; form = q.0; fits = q.1 }

pub layers_from : (copies inputs n : ℕ) (ws : List ℕ) → LayersParts copies inputs n ws → are_layers copies inputs n ws ≡ true
unfolding are_layers
layers_from copies inputs n ws p =
    let a = leb (copies + inputs) 16 in
    let b = shaped copies n ws in
    let c = layers_fit (layers_of n ws) inputs in
    and_from a (b && c) (le-leb (copies + inputs) 16 p.limit) (and_from b c p.form p.fits)

pub record LayerParts (size below : ℕ) (ws : List ℕ) : Type 0 where
  pub limit : size ≤ 16
  pub limit_below : below ≤ 16
  pub whole : length ws ≡ 3 * 2 ^ size
  pub fits : gates_fit (2 ^ below) (gates_of (2 ^ size) ws) ≡ true

pub layer_parts : (size below : ℕ) (ws : List ℕ) → is_layer size below ws ≡ true → LayerParts size below ws
unfolding is_layer
layer_parts size below ws h =
    let a = leb size 16 in
    let b = leb below 16 in
    let c = eqb (length ws) (3 * 2 ^ size) in
    let d = gates_fit (2 ^ below) (gates_of (2 ^ size) ws) in
    let p = and_parts a (b && (c && d)) h in
    let q = and_parts b (c && d) p.1 in
    let r = and_parts c d q.1 in
    record { limit = leb-true size 16 p.0; limit_below = leb-true below 16 q.0; whole = eqb-true (length ws) (3 * 2 ^ size) r.0; fits = r.1 }

pub layer_from : (size below : ℕ) (ws : List ℕ) → LayerParts size below ws → is_layer size below ws ≡ true
unfolding is_layer
layer_from size below ws p =
    let a = leb size 16 in
    let b = leb below 16 in
    let c = eqb (length ws) (3 * 2 ^ size) in
    let d = gates_fit (2 ^ below) (gates_of (2 ^ size) ws) in
    and_from a (b && (c && d)) (le-leb size 16 p.limit)
    (and_from b (c && d) (le-leb below 16 p.limit_below) (and_from c d (eq-eqb (length ws) (3 * 2 ^ size) p.whole) p.fits))

-- the layers of a lawful circuit
pub circuit_layers : (ws : List ℕ) → is_circuit ws ≡ true → LayersParts (word ws 0) (word ws 1) (word ws 2) (drop 3 ws)
circuit_layers ws h =
    let a = leb 3 (length ws) in
    let b = leb (length ws) (2 ^ 19) in
    let c = leb (word ws 0 + word ws 1) 16 in
    let d = leb 1 (word ws 2) in
    let e = leb (word ws 2) 32 in
    let f = shaped (word ws 0) (word ws 2) (drop 3 ws) in
    let g = leb 1 (length (layers_of (word ws 2) (drop 3 ws))) in
    let i = layers_fit (layers_of (word ws 2) (drop 3 ws)) (word ws 1) in
    let p = and_parts a (b && (c && (d && (e && (f && (g && i)))))) h in
    let q = and_parts b (c && (d && (e && (f && (g && i))))) p.1 in
    let r = and_parts c (d && (e && (f && (g && i)))) q.1 in
    let s = and_parts d (e && (f && (g && i))) r.1 in
    let t = and_parts e (f && (g && i)) s.1 in
    let u = and_parts f (g && i) t.1 in
    let v = and_parts g i u.1 in
    record { limit = leb-true (word ws 0 + word ws 1) 16 r.0; form = u.0; fits = v.1 }

-- the first of some layers, and the others
pub record FirstFits (inputs m : ℕ) (ws : List ℕ) : Type 0 where
  pub gates : gates_fit (2 ^ size_below (layers_of m (drop (layer_length ws) ws)) inputs) (gates_of (2 ^ word ws 0) (drop 1 ws)) ≡ true
  pub others : layers_fit (layers_of m (drop (layer_length ws) ws)) inputs ≡ true

pub first_fits : (inputs n m : ℕ) (ws : List ℕ) → m + 1 ≡ n → layers_fit (layers_of n ws) inputs ≡ true → FirstFits inputs m ws
first_fits inputs n m ws h f =
    let rest = layers_of m (drop (layer_length ws) ws) in
    let p = and_parts (gates_fit (2 ^ size_below rest inputs) (gates_of (2 ^ word ws 0) (drop 1 ws))) (layers_fit rest inputs) (sym (layers_more n m inputs ws h) ∙ f) in
    record { gates = p.0; others = p.1 }

-- a gate by its place
pub get_or-gates_of : (n i : ℕ) (ws : List ℕ) (d : Gate) → i < n → get_or (gates_of n ws) i d ≡ gate_at ws i
unfolding gates_of
get_or-gates_of zero i ws d h = absurd (omega arith)
get_or-gates_of (suc n) zero ws d h = refl
get_or-gates_of (suc n) (suc i) ws d h =
    let e : 3 + 3 * i ≡ 3 * suc i = omega arith in
    let e1 : 3 + (3 * i + 1) ≡ 3 * suc i + 1 = omega arith in
    let e2 : 3 + (3 * i + 2) ≡ 3 * suc i + 2 = omega arith in
    let a = get_or-drop 3 ws (3 * i) 0 ∙ ap (λ k. get_or ws k 0) e in
    let b = get_or-drop 3 ws (3 * i + 1) 0 ∙ ap (λ k. get_or ws k 0) e1 in
    let c = get_or-drop 3 ws (3 * i + 2) 0 ∙ ap (λ k. get_or ws k 0) e2 in
    let r = get_or-gates_of n i (drop 3 ws) d (omega arith) in
    cc

pub record Within (n : ℕ) (g : Gate) : Type 0 where
  pub left : g.left < n
  pub right : g.right < n

pub gate_fits : (p : ℕ) (gs : List Gate) (i : ℕ) (d : Gate) → gates_fit p gs ≡ true → i < length gs → Within p (get_or gs i d)
unfolding gates_fit
gate_fits p [] i d f h = absurd (omega arith)
gate_fits p (g ∷ gs) zero d f h =
    let a = ltb g.left p in
    let b = ltb g.right p in
    let c = gates_fit p gs in
    let q = and_parts a (b && c) f in
    let r = and_parts b c q.1 in
    record { left = ltb-true g.left p q.0; right = ltb-true g.right p r.0 }
gate_fits p (g ∷ gs) (suc i) d f h =
    let a = ltb g.left p in
    let b = ltb g.right p in
    let c = gates_fit p gs in
    gate_fits p gs i d (and_parts b c (and_parts a (b && c) f).1).1 (omega arith)

-- a first layer that was split off is a layer, and those below it are layers
module _ (copies inputs n : ℕ) (ws : List ℕ) (first : Layer) (below : Layers) (parts : LayersParts copies inputs n ws) (split : SplitOff copies n ws first below) where
  pub split_is_layer : (top : ℕ) → top ≡ size_below (layers_of below.count below.words.now) inputs → copies + top ≤ 16 → is_layer first.size top first.gates.now ≡ true
  split_is_layer top et lt =
      let f = first_fits inputs n below.count ws split.one_less parts.fits in
      let front = gates_front (2 ^ word ws 0) (3 * 2 ^ word ws 0) (drop 1 ws) (omega arith) in
      let size = split.size in
      let gates = split.gates in
      let rest = split.rest in
      let t : gates_fit (2 ^ top) (gates_of (2 ^ first.size) first.gates.now) ≡ true = cc f.gates in
      layer_from first.size top first.gates.now (record { limit = omega (arith, split.limit); limit_below = omega arith; whole = split.whole; fits = t })

  pub split_are_layers : shaped below.copies below.count below.words.now ≡ true → are_layers copies inputs below.count below.words.now ≡ true
  split_are_layers s =
      let f = first_fits inputs n below.count ws split.one_less parts.fits in
      layers_from copies inputs below.count below.words.now
      (record {
        limit = parts.limit;
        form = ap (λ k. shaped k below.count below.words.now) (sym split.same_copies) ∙ s;
        fits = ap (λ r. layers_fit (layers_of below.count r) inputs) split.rest ∙ f.others;
      })

  pub split_layers : layers_of n ws ≡ record { size = first.size; gates = gates_of (2 ^ first.size) first.gates.now } ∷ layers_of below.count below.words.now
  unfolding layers_of
  split_layers =
      let front = gates_front (2 ^ word ws 0) (3 * 2 ^ word ws 0) (drop 1 ws) (omega arith) in
      let e : n ≡ suc below.count = omega (arith, split.one_less) in
      let size = split.size in
      let gates = split.gates in
      let rest = split.rest in
      ap (λ k. layers_of k ws) e ∙ cc

-- of words within the limits, it is left to ask for their shape and for the gates' places
pub circuit_by : (ws : List ℕ) → 3 ≤ length ws → length ws ≤ 524288 → word ws 0 + word ws 1 ≤ 16 → 1 ≤ word ws 2 → word ws 2 ≤ 32 →
    is_circuit ws ≡ (shaped (word ws 0) (word ws 2) (drop 3 ws) && layers_fit (layers_of (word ws 2) (drop 3 ws)) (word ws 1))
circuit_by ws l m b c d =
    let e1 : leb 3 (length ws) ≡ true = le-leb 3 (length ws) l in
    let e2 : leb (length ws) 524288 ≡ true = le-leb (length ws) 524288 m in
    let e3 : leb (word ws 0 + word ws 1) 16 ≡ true = le-leb (word ws 0 + word ws 1) 16 b in
    let e4 : leb 1 (word ws 2) ≡ true = le-leb 1 (word ws 2) c in
    let e5 : leb (word ws 2) 32 ≡ true = le-leb (word ws 2) 32 d in
    let e6 : leb 1 (length (layers_of (word ws 2) (drop 3 ws))) ≡ true = ap (leb 1) (length-layers_of (word ws 2) (drop 3 ws)) ∙ e4 in
    rw (e1, e2, e3, e4, e5, e6)

-- what `first` and `rest` of some layers show together
pub parted : (ls rest : List circuit.Layer) (l : circuit.Layer) → 0 < length ls → l ≡ get_or ls 0 no_layer → rest ≡ drop 1 ls → ls ≡ l ∷ rest
parted ls rest l some e f = drop_more ls 0 no_layer some ∙ ap₂ (λ x y. x ∷ y) (sym e) (sym f)

-- a word before the layers
pub head_word : (ws front : List ℕ) (i : ℕ) → front ≡ take 3 ws → i < 3 → get_or front i 0 ≡ word ws i
head_word ws front i e h = ap (λ xs. get_or xs i 0) e ∙ get_or-take 3 ws i 0 h
