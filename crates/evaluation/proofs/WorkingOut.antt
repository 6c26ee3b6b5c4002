-- Values of gates, of copies and of all copies: their lengths, and what they give one after the other.
-- The loops that work a layer out take a step by one of these at each turn.
use Rattle.std.proofs.Common.{◌≡◌, ℕ, zero, suc, ◌+◌, ◌-◌, ◌*◌, ◌^◌, ◌<◌, ◌≤◌, true, ◌&&◌, eqb, List, [], ◌∷◌, ◌++◌, length, get_or, take, drop, set, sym, refl, ap, ◌∙◌, subst, ap₂, ⊎_elim, mul-le-mul_right, mod-lt, suc-mul, add-mul, zero-mul, arith, pow_mono, pow-add}
use native.Mathlib.Nat.{sub-zero}
use borrow.Rule.Slice.PartMut.{put_mid}
use Rattle.std.proofs.lemmas.List.{append-nil, append_assoc, length-append, nil_from_length, take_at, drop_at, take-append-drop, take_more, take_more_set, take_all, drop-drop, length-take, length-take-le, length-drop, get_or-take, get_or-drop, get_or_past}
use Rattle.std.proofs.lemmas.Slice.{take-put_mid}
use Rattle.std.proofs.lemmas.Bool.{cases_lt, eqb-true, and_parts}
use Rattle.arithmetic.specs.Numbers.{Numbers, modulo}
use Rattle.circuits.specs.Circuit.{Kind, sum, product, Gate, Layer, gates_fit, layers_fit, size_below, combine, gate_value, gate_values, copy_values, all_values}
use Rattle.circuits.specs.Values.{EachBelow}

-- one more place filled with what it should hold
pub fill_more : (xs ys : List ℕ) (i y : ℕ) → i < length xs → i < length ys → take i xs ≡ take i ys → y ≡ get_or ys i 0 →
    take (i + 1) (set xs i y) ≡ take (i + 1) ys
fill_more xs ys i y h k e v =
    take_more_set xs i y h ∙ ap₂ (λ f z. f ++ (z ∷ [])) e v ∙ sym (take_more ys i 0 k)

pub fill_all : (xs ys : List ℕ) (i : ℕ) → length xs ≤ i → length ys ≤ i → take i xs ≡ take i ys → xs ≡ ys
fill_all xs ys i h k e = sym (take_all i xs h) ∙ e ∙ take_all i ys k

-- ---- parts of the values of all copies
pub count_limit : (a b : ℕ) → a + b ≤ 16 → 2 ^ a * 2 ^ b ≤ 65536
count_limit a b h = omega (arith, pow-add 2 a b, pow_mono h)

pub front_length : (xs : List ℕ) (k : ℕ) → k ≤ length xs → length (take (k - 0) xs) ≡ k
front_length xs k h = ap (λ j. length (take j xs)) (sub-zero k) ∙ length-take-le k xs h

pub row_end : (i n m : ℕ) → i < n → i * m + m ≤ n * m
row_end i n m h =
    let e = suc-mul i m in
    let l = mul-le-mul_right m h in
    omega arith

pub part_length : (xs : List ℕ) (a k : ℕ) → a + k ≤ length xs → length (take (a + k - a) (drop a xs)) ≡ k
part_length xs a k h =
    let e : a + k - a ≡ k = omega arith in
    ap (λ j. length (take j (drop a xs))) e ∙ length-take-le k (drop a xs) (omega (arith, length-drop a xs))

pub part_below : (p : ℕ) (xs : List ℕ) (a k : ℕ) → EachBelow p xs → EachBelow p (take k (drop a xs))
part_below p xs a k h i =
    let ys = take k (drop a xs) in
    ⊎_elim (λ l. subst (λ v. v < p) (sym (get_or-take k (drop a xs) i 0 l ∙ get_or-drop a xs i 0)) (h (a + i)))
    (λ l. subst (λ v. v < p) (sym (get_or_past ys i 0 (omega (arith, length-take k (drop a xs))))) (omega (arith, h 0)))
    (cases_lt i k)

module _ {K : Type 0} (N : Numbers K) where
  pub length-gate_values : (vs : List K) (gs : List Gate) → length (gate_values N vs gs) ≡ length gs
  unfolding gate_values
  length-gate_values vs [] = refl
  length-gate_values vs (g ∷ gs) = ap suc (length-gate_values vs gs)

  pub gate_values_at : (vs : List K) (gs : List Gate) (i : ℕ) (d : Gate) (e : K) → i < length gs →
      get_or (gate_values N vs gs) i e ≡ gate_value N vs (get_or gs i d)
  unfolding gate_values
  gate_values_at vs [] i d e h = absurd (omega arith)
  gate_values_at vs (g ∷ gs) zero d e h = refl
  gate_values_at vs (g ∷ gs) (suc i) d e h = gate_values_at vs gs i d e (omega arith)

  -- a value that was worked out from the gate at a place
  pub value_at : (vs : List K) (gs : List Gate) (i : ℕ) (g d : Gate) (y e : K) → i < length gs → y ≡ gate_value N vs g → g ≡ get_or gs i d →
      y ≡ get_or (gate_values N vs gs) i e
  value_at vs gs i g d y e h v p = v ∙ ap (gate_value N vs) p ∙ sym (gate_values_at vs gs i d e h)

  -- one more copy
  pub all_more : (ls : List Layer) (n k : ℕ) (vs : List K) →
      all_values N ls n (suc k) vs ≡ all_values N ls n k vs ++ copy_values N ls (take n (drop (k * n) vs))
  unfolding all_values
  all_more ls n zero vs =
      append-nil (copy_values N ls (take n vs)) ∙ ap (λ j. copy_values N ls (take n (drop j vs))) (sym (zero-mul n))
  all_more ls n (suc k) vs =
      let first = copy_values N ls (take n vs) in
      let rest = all_values N ls n k (drop n vs) in
      let e : n + k * n ≡ suc k * n = omega (arith, suc-mul k n) in
      ap (λ r. first ++ r) (all_more ls n k (drop n vs) ∙ ap (λ w. rest ++ copy_values N ls (take n w)) (drop-drop (k * n) n vs ∙ ap (λ j. drop j vs) e))
      ∙ sym (append_assoc first rest (copy_values N ls (take n (drop (suc k * n) vs))))

  pub layer_none : (l : Layer) (n m : ℕ) (vs values : List K) → take (0 * m) values ≡ all_values N (l ∷ []) n 0 vs
  unfolding all_values
  layer_none l n m vs values = ap (λ j. take j values) (zero-mul m)

  -- the same, of a copy of one layer that was written behind those before it
  pub layer_more : (l : Layer) (n m k : ℕ) (vs values new : List K) → take (k * m) values ≡ all_values N (l ∷ []) n k vs →
      new ≡ gate_values N (take (k * n + n - k * n) (drop (k * n) vs)) l.gates → length new ≡ m → k * m ≤ length values →
      take ((k + 1) * m) (put_mid (k * m) (k * m + m - k * m) values new) ≡ all_values N (l ∷ []) n (k + 1) vs
  unfolding copy_values
  layer_more l n m k vs values new before made long within =
      let e : (k + 1) * m ≡ k * m + length new = omega (arith, add-mul k 1 m) in
      let f : k * n + n - k * n ≡ n = omega arith in
      let g : k + 1 ≡ suc k = omega arith in
      take-put_mid (k * m) (k * m + m - k * m) values new ((k + 1) * m) e within
      ∙ ap₂ (λ x y. x ++ y) before (made ∙ ap (λ j. gate_values N (take j (drop (k * n) vs)) l.gates) f)
      ∙ sym (all_more (l ∷ []) n k vs)
      ∙ ap (λ j. all_values N (l ∷ []) n j vs) (sym g)

  -- ---- layers one above the other
  pub length_copy : (ls : List Layer) (inputs : ℕ) (xs : List K) → layers_fit ls inputs ≡ true → length xs ≡ 2 ^ inputs →
      length (copy_values N ls xs) ≡ 2 ^ size_below ls inputs
  unfolding copy_values layers_fit
  length_copy [] inputs xs f e = e
  length_copy (l ∷ ls) inputs xs f e =
      let a = eqb (length l.gates) (2 ^ l.size) in
      let b = gates_fit (2 ^ size_below ls inputs) l.gates && layers_fit ls inputs in
      length-gate_values (copy_values N ls xs) l.gates ∙ eqb-true (length l.gates) (2 ^ l.size) (and_parts a b f).0

  -- each copy of these layers, over n values, gives m values
  pub EachGives : List Layer → ℕ → ℕ → Type 0
  EachGives ls n m = (xs : List K) → length xs ≡ n → length (copy_values N ls xs) ≡ m

  pub length-all : (ls : List Layer) (n m count : ℕ) (vs : List K) → EachGives ls n m → length vs ≡ count * n →
      length (all_values N ls n count vs) ≡ count * m
  unfolding all_values EachGives
  length-all ls n m zero vs each e = sym (zero-mul m)
  length-all ls n m (suc count) vs each e =
      let s = suc-mul count n in
      let t = suc-mul count m in
      let first = copy_values N ls (take n vs) in
      let a : length first ≡ m = each (take n vs) (length-take-le n vs (omega arith)) in
      let b : length (drop n vs) ≡ count * n = omega (arith, length-drop n vs) in
      let r = length-all ls n m count (drop n vs) each b in
      length-append first (all_values N ls n count (drop n vs)) ∙ omega arith

  -- one layer more over all copies is that layer more in each
  pub all_above : (l : Layer) (ls : List Layer) (n m count : ℕ) (vs : List K) → EachGives ls n m → length vs ≡ count * n →
      all_values N (l ∷ []) m count (all_values N ls n count vs) ≡ all_values N (l ∷ ls) n count vs
  unfolding all_values copy_values EachGives
  all_above l ls n m zero vs each e = refl
  all_above l ls n m (suc count) vs each e =
      let s = suc-mul count n in
      let first = copy_values N ls (take n vs) in
      let rest = all_values N ls n count (drop n vs) in
      let a : length first ≡ m = each (take n vs) (length-take-le n vs (omega arith)) in
      let b : length (drop n vs) ≡ count * n = omega (arith, length-drop n vs) in
      ap₂ (λ x y. gate_values N x l.gates ++ all_values N (l ∷ []) m count y) (take_at first rest m a) (drop_at first rest m a)
      ∙ ap (λ r. gate_values N first l.gates ++ r) (all_above l ls n m count (drop n vs) each b)

  pub all_inputs : (n count : ℕ) (vs : List K) → length vs ≡ count * n → all_values N [] n count vs ≡ vs
  unfolding all_values copy_values
  all_inputs n zero vs e = sym (nil_from_length vs (e ∙ zero-mul n))
  all_inputs n (suc count) vs e =
      let s = suc-mul count n in
      let b : length (drop n vs) ≡ count * n = omega (arith, length-drop n vs) in
      ap (λ r. take n vs ++ r) (all_inputs n count (drop n vs) b) ∙ take-append-drop n vs

  -- the first of some layers worked out over those below it, with something behind it
  pub first_over : (ls rest : List Layer) (l : Layer) (copies inputs : ℕ) (vs below new behind : List K) → ls ≡ l ∷ rest →
      layers_fit ls inputs ≡ true → length vs ≡ 2 ^ copies * 2 ^ inputs → below ≡ all_values N rest (2 ^ inputs) (2 ^ copies) vs →
      new ≡ all_values N (l ∷ []) (2 ^ size_below rest inputs) (2 ^ copies) below →
      take (2 ^ copies * 2 ^ size_below ls inputs) (new ++ behind) ≡ all_values N ls (2 ^ inputs) (2 ^ copies) vs
  unfolding EachGives layers_fit
  first_over ls rest l copies inputs vs below new behind e f long b v =
      let f' : layers_fit (l ∷ rest) inputs ≡ true = sym (ap (λ x. layers_fit x inputs) e) ∙ f in
      let t1 = eqb (length l.gates) (2 ^ l.size) in
      let t2 = gates_fit (2 ^ size_below rest inputs) l.gates in
      let fr : layers_fit rest inputs ≡ true = (and_parts t2 (layers_fit rest inputs) (and_parts t1 (t2 && layers_fit rest inputs) f').1).1 in
      let w : new ≡ all_values N (l ∷ rest) (2 ^ inputs) (2 ^ copies) vs =
      v ∙ ap (all_values N (l ∷ []) (2 ^ size_below rest inputs) (2 ^ copies)) b
      ∙ all_above l rest (2 ^ inputs) (2 ^ size_below rest inputs) (2 ^ copies) vs (λ xs h. length_copy rest inputs xs fr h) long in
      let k : length new ≡ 2 ^ copies * 2 ^ l.size =
      ap length w ∙ length-all (l ∷ rest) (2 ^ inputs) (2 ^ l.size) (2 ^ copies) vs (λ xs h. length_copy (l ∷ rest) inputs xs f' h) long in
      ap (λ x. take (2 ^ copies * 2 ^ size_below x inputs) (new ++ behind)) e
      ∙ take_at new behind (2 ^ copies * 2 ^ l.size) k ∙ w ∙ ap (λ x. all_values N x (2 ^ inputs) (2 ^ copies) vs) (sym e)

  -- no layer worked out: the inputs, with something behind them
  pub none_over : (ls : List Layer) (copies inputs : ℕ) (vs new behind : List K) → length ls ≡ 0 →
      length vs ≡ 2 ^ copies * 2 ^ inputs → new ≡ vs →
      take (2 ^ copies * 2 ^ size_below ls inputs) (new ++ behind) ≡ all_values N ls (2 ^ inputs) (2 ^ copies) vs
  none_over ls copies inputs vs new behind none long v =
      let e = nil_from_length ls none in
      ap (λ x. take (2 ^ copies * 2 ^ size_below x inputs) (new ++ behind)) e
      ∙ take_at new behind (2 ^ copies * 2 ^ inputs) (ap length v ∙ long) ∙ v
      ∙ sym (all_inputs (2 ^ inputs) (2 ^ copies) vs long) ∙ ap (λ x. all_values N x (2 ^ inputs) (2 ^ copies) vs) (sym e)

-- ---- values are reduced
module _ (p : ℕ) (some : 0 < p) where
  combine_below : (k : Kind) (a b : ℕ) → combine (modulo p) k a b < p
  combine_below sum a b = mod-lt (a + b) some
  combine_below product a b = mod-lt (a * b) some

  gate_values_below : (vs : List ℕ) (gs : List Gate) → EachBelow p (gate_values (modulo p) vs gs)
  unfolding gate_values
  gate_values_below vs [] k = some
  gate_values_below vs (g ∷ gs) zero = combine_below g.kind (get_or vs g.left 0) (get_or vs g.right 0)
  gate_values_below vs (g ∷ gs) (suc k) = gate_values_below vs gs k

  append_below : (xs ys : List ℕ) → EachBelow p xs → EachBelow p ys → EachBelow p (xs ++ ys)
  append_below [] ys h i k = i k
  append_below (x ∷ xs) ys h i zero = h 0
  append_below (x ∷ xs) ys h i (suc k) = append_below xs ys (λ j. h (suc j)) i k

  copy_values_below : (ls : List Layer) (vs : List ℕ) → EachBelow p vs → EachBelow p (copy_values (modulo p) ls vs)
  unfolding copy_values
  copy_values_below [] vs h = h
  copy_values_below (l ∷ ls) vs h = gate_values_below (copy_values (modulo p) ls vs) l.gates

  pub all_below : (ls : List Layer) (n count : ℕ) (vs : List ℕ) → EachBelow p vs → EachBelow p (all_values (modulo p) ls n count vs)
  unfolding all_values
  all_below ls n zero vs h = λ k. some
  all_below ls n (suc count) vs h =
      append_below (copy_values (modulo p) ls (take n vs)) (all_values (modulo p) ls n count (drop n vs))
      (copy_values_below ls (take n vs) (part_below p vs 0 n h))
      (all_below ls n count (drop n vs) (λ k. subst (λ v. v < p) (sym (get_or-drop n vs k 0)) (h (n + k))))
