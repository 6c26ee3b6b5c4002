-- The eq polynomial from the last variable on, and its table over all corners: what stands at each place,
-- and how one variable more splits each number in two.
use Rattle.std.proofs.Common.{◌≡◌, ℕ, suc, ◌+◌, ◌-◌, ◌%◌, ◌^◌, ◌<◌, T, ◌⊎◌, ⊎_elim, List, [], ◌∷◌, ◌++◌, map, length, get_or, sym, refl, ap, ◌∙◌, ap₂, mod-lt, mod-eq_of_lt, mul-one, arith, length-append}
use native.Mathlib.Nat.{mod-mod, two-pow-succ}
use native.Mathlib.Decide.{dec_lt}
use lib.ListN.{length-map}
use Rattle.std.specs.List.{range_with_len}
use Rattle.std.proofs.lemmas.List.FromFn.{length-map-range_with_len, get_or-map-range_with_len, fill_by_all}
use Rattle.std.proofs.lemmas.List.{get_or-map, get_or_append_left, get_or-append_right}
use Rattle.arithmetic.specs.Numbers.{Numbers, modulo, all_reduced}
use Rattle.arithmetic.proofs.Modulo.{ring_modulo}
use Rattle.arithmetic.proofs.Ring.{Ring, one-mul}
use Rattle.arithmetic.proofs.Solver.{var, con, ◌:+◌, ◌:*◌, ◌:-◌, solve}
use Rattle.tables.specs.InPlace.{eq_factor, low_part, high_part, split_first, eq_table, scaled_eq_table}
use Rattle.tables.specs.Multilinear.{eq_poly, bits_of}
use Rattle.tables.proofs.Places.{bits_low, bits_high}
use Rattle.tables.proofs.ReducedLists.{reduced_map, reduced_first, reduced_rest}

module _ {K : Type 0} (N : Numbers K) where
  open N use {mul, nat}

  -- the table's length, and its places
  pub scaled_length : (f : K) (z : List K) → length (scaled_eq_table N f z) ≡ 2 ^ length z
  unfolding scaled_eq_table
  scaled_length f z = length-map-range_with_len _ 0 (2 ^ length z)

  pub scaled_at : (f : K) (z : List K) (j : ℕ) (d : K) → j < 2 ^ length z →
      get_or (scaled_eq_table N f z) j d ≡ mul f (eq_poly N (bits_of N (length z) j) z)
  unfolding scaled_eq_table
  scaled_at f z j d h = get_or-map-range_with_len (λ (place : ℕ). mul f (eq_poly N (bits_of N (length z) place) z)) 0 (2 ^ length z) j j d h (omega arith)

  pub eq_table-length : (z : List K) → length (eq_table N z) ≡ 2 ^ length z
  unfolding eq_table
  eq_table-length z = length-map-range_with_len _ 0 (2 ^ length z)

  pub eq_table_at : (z : List K) (j : ℕ) (d : K) → j < 2 ^ length z → get_or (eq_table N z) j d ≡ eq_poly N (bits_of N (length z) j) z
  unfolding eq_table
  eq_table_at z j d h = get_or-map-range_with_len (λ (place : ℕ). eq_poly N (bits_of N (length z) place) z) 0 (2 ^ length z) j j d h (omega arith)

-- a table over places, by what it is at the places of its lower and of its upper half
joined_halves : {K : Type 0} (d : K) (low high : K → K) (h : ℕ → K) (es : List K) (k : ℕ) → length es ≡ 2 ^ k →
    ((j : ℕ) → j < 2 ^ k → low (get_or es j d) ≡ h j) →
    ((j : ℕ) → j < 2 ^ k → high (get_or es j d) ≡ h (2 ^ k + j)) →
    map low es ++ map high es ≡ map h (range_with_len 0 (2 ^ suc k))
joined_halves {K} d low high h es k e below above = fill_by_all h (map low es ++ map high es) (2 ^ suc k) d whole at
  where
    whole : length (map low es ++ map high es) ≡ 2 ^ suc k
    whole = simp (length-append, length-map) (omega (arith, two-pow-succ k))

    by : (j : ℕ) → j < 2 ^ suc k → Dec (j < 2 ^ k) → get_or (map low es ++ map high es) j d ≡ h j
    by j l (yes c) =
        let inside : j < length es = omega arith in
        let inside-map : j < length (map low es) = simp length-map inside in
        get_or_append_left (map low es) (map high es) d j inside-map ∙ get_or-map low es j d d inside ∙ below j c
    by j l (no c) =
        let rest : j - 2 ^ k < 2 ^ k = omega (arith, two-pow-succ k) in
        let inside : j - 2 ^ k < length es = omega arith in
        let place : 2 ^ k + (j - 2 ^ k) ≡ j = omega arith in
        get_or-append_right (map low es) (map high es) (2 ^ k) j d (simp length-map e) (omega arith)
        ∙ get_or-map high es (j - 2 ^ k) d d inside ∙ above (j - 2 ^ k) rest ∙ ap h place

    at : (j : ℕ) → j < 2 ^ suc k → get_or (map low es ++ map high es) j d ≡ h j
    at j l = by j l (dec_lt j (2 ^ k))

module _ {K : Type 0} {N : Numbers K} (R : Ring N) where
  open N use {reduce, add, sub, mul, nat}

  eq_low : (r : K) (z : List K) (j : ℕ) → j < 2 ^ length z →
      eq_poly N (bits_of N (suc (length z)) j) (r ∷ z) ≡ mul (sub (nat 1) r) (eq_poly N (bits_of N (length z) j) z)
  unfolding eq_poly
  eq_low r z j h =
      ap (λ (bits : List K). eq_poly N bits (r ∷ z)) (bits_low R (length z) j h)
      ∙ solve R (r ∷ eq_poly N (bits_of N (length z) j) z ∷ [])
      ((con 0 :* var 0 :+ (con 1 :- con 0) :* (con 1 :- var 0)) :* var 1) ((con 1 :- var 0) :* var 1) refl

  eq_high : (r : K) (z : List K) (j : ℕ) → j < 2 ^ length z →
      eq_poly N (bits_of N (suc (length z)) (2 ^ length z + j)) (r ∷ z) ≡ mul r (eq_poly N (bits_of N (length z) j) z)
  unfolding eq_poly
  eq_high r z j h =
      ap (λ (bits : List K). eq_poly N bits (r ∷ z)) (bits_high R (length z) j h)
      ∙ solve R (r ∷ eq_poly N (bits_of N (length z) j) z ∷ [])
      ((con 1 :* var 0 :+ (con 1 :- con 1) :* (con 1 :- var 0)) :* var 1) (var 0 :* var 1) refl

  -- the table of a point with one coordinate more in front
  pub eq_table-cons : (r : K) (z : List K) → eq_table N (r ∷ z) ≡ map (mul (sub (nat 1) r)) (eq_table N z) ++ map (mul r) (eq_table N z)
  unfolding eq_table
  eq_table-cons r z =
      sym
      (joined_halves (nat 0) (mul (sub (nat 1) r)) (mul r) (λ (place : ℕ). eq_poly N (bits_of N (suc (length z)) place) (r ∷ z))
      (eq_table N z) (length z) (eq_table-length N z)
      (λ j h. ap (mul (sub (nat 1) r)) (eq_table_at N z j (nat 0) h) ∙ sym (eq_low r z j h))
      (λ j h. ap (mul r) (eq_table_at N z j (nat 0) h) ∙ sym (eq_high r z j h)))

  -- and as the code makes it, with one multiplication for each number
  pub scaled_split : (f r : K) (z : List K) → split_first N r (scaled_eq_table N f z) ≡ scaled_eq_table N f (r ∷ z)
  unfolding scaled_eq_table
  scaled_split f r z =
      joined_halves (nat 0) (low_part N r) (high_part N r) (λ (place : ℕ). mul f (eq_poly N (bits_of N (suc (length z)) place) (r ∷ z)))
      (scaled_eq_table N f z) (length z) (scaled_length N f z)
      (λ j h. ap (low_part N r) (scaled_at N f z j (nat 0) h) ∙ low (eq_poly N (bits_of N (length z) j) z) ∙ sym (ap (mul f) (eq_low r z j h)))
      (λ j h. ap (high_part N r) (scaled_at N f z j (nat 0) h) ∙ high (eq_poly N (bits_of N (length z) j) z) ∙ sym (ap (mul f) (eq_high r z j h)))
    where
      low : (q : K) → sub (mul f q) (mul (mul f q) r) ≡ mul f (mul (sub (nat 1) r) q)
      low q = solve R (f ∷ r ∷ q ∷ []) (var 0 :* var 2 :- var 0 :* var 2 :* var 1) (var 0 :* ((con 1 :- var 1) :* var 2)) refl

      high : (q : K) → mul (mul f q) r ≡ mul f (mul r q)
      high q = solve R (f ∷ r ∷ q ∷ []) (var 0 :* var 2 :* var 1) (var 0 :* (var 1 :* var 2)) refl

module _ (p : ℕ) where
  pub scaled_none : (f : ℕ) → f < p → scaled_eq_table (modulo p) f [] ≡ f ∷ []
  unfolding scaled_eq_table eq_poly bits_of
  scaled_none f h = ap (λ (x : ℕ). x ∷ []) (ap (λ (x : ℕ). x % p) (mul-one f) ∙ mod-eq_of_lt h)

  pub scaled_reduced : 0 < p → (f : ℕ) (z : List ℕ) → T (all_reduced (modulo p) (scaled_eq_table (modulo p) f z))
  unfolding scaled_eq_table
  scaled_reduced h f z = reduced_map p _ (λ place. mod-lt _ h) (range_with_len 0 (2 ^ length z))

  reduce-eq_poly : 1 < p → (xs ys : List ℕ) → eq_poly (modulo p) xs ys % p ≡ eq_poly (modulo p) xs ys
  unfolding eq_poly
  reduce-eq_poly h [] ys = mod-eq_of_lt h
  reduce-eq_poly h (x ∷ xs) [] = mod-eq_of_lt h
  reduce-eq_poly h (x ∷ xs) (y ∷ ys) = mod-mod _ p

  pub scaled_one : 1 < p → (z : List ℕ) → scaled_eq_table (modulo p) 1 z ≡ eq_table (modulo p) z
  unfolding eq_table
  scaled_one h z =
      fill_by_all (λ (place : ℕ). eq_poly (modulo p) (bits_of (modulo p) (length z) place) z)
      (scaled_eq_table (modulo p) 1 z) (2 ^ length z) 0 (scaled_length (modulo p) 1 z)
      (λ j l. scaled_at (modulo p) 1 z j 0 l ∙ one-mul (ring_modulo p h) _ ∙ reduce-eq_poly h _ z)

-- eq of two points xs and ys as a product from the first variable on: with eq of what is left of the two, it is eq of all.
pub record Multiplied (p : ℕ) (xs ys : List ℕ) (product : ℕ) (left right : List ℕ) : Type 0 where
  pub below : product < p
  pub left_reduced : T (all_reduced (modulo p) left)
  pub right_reduced : T (all_reduced (modulo p) right)
  pub whole : (modulo p).mul product (eq_poly (modulo p) left right) ≡ eq_poly (modulo p) xs ys

pub multiplied_none : {p : ℕ} → 1 < p → (xs ys left right : List ℕ) → left ≡ xs → right ≡ ys → T (all_reduced (modulo p) xs) → T (all_reduced (modulo p) ys) →
    Multiplied p xs ys 1 left right
multiplied_none {p} h xs ys left right l k s t =
    record {
      below = h;
      left_reduced = rw l s;
      right_reduced = rw k t;
      whole = one-mul (ring_modulo p h) _ ∙ reduce-eq_poly p h left right ∙ ap₂ (eq_poly (modulo p)) l k;
    }

module _ {p : ℕ} {xs ys left right left-after right-after : List ℕ} {product r c : ℕ} (m : Multiplied p xs ys product left right)
    (l : left ≡ r ∷ left-after) (k : right ≡ c ∷ right-after) where
  pub multiplied_first : (r < p) × (c < p)
  multiplied_first = (reduced_first p r left-after (rw l at m.left_reduced), reduced_first p c right-after (rw k at m.right_reduced))

  -- the next variable's factor goes from what is left over to the product
  pub multiplied_more : 1 < p → {factor next : ℕ} → factor ≡ eq_factor (modulo p) r c → next ≡ (modulo p).mul product factor →
      Multiplied p xs ys next left-after right-after
  unfolding eq_poly
  multiplied_more h {factor} {next} e f =
      record {
        below = rw f (mod-lt _ (omega arith));
        left_reduced = reduced_rest p r left-after (rw l at m.left_reduced);
        right_reduced = reduced_rest p c right-after (rw k at m.right_reduced);
        whole =
            ap (λ (n : ℕ). (modulo p).mul n (eq_poly (modulo p) left-after right-after)) (f ∙ ap ((modulo p).mul product) e)
            ∙ (ring_modulo p h).mul_assoc product (eq_factor (modulo p) r c) (eq_poly (modulo p) left-after right-after)
            ∙ sym (ap₂ (λ (a b : List ℕ). (modulo p).mul product (eq_poly (modulo p) a b)) l k) ∙ m.whole;
      }

pub multiplied_all : {p : ℕ} {xs ys left right : List ℕ} {product : ℕ} → Multiplied p xs ys product left right → (left ≡ []) ⊎ (right ≡ []) →
    product ≡ eq_poly (modulo p) xs ys
unfolding eq_poly
multiplied_all {p} {xs} {ys} {left} {right} {product} m end =
    sym (ap ((modulo p).mul product) (eq_ended left right end) ∙ simp mul-one (mod-eq_of_lt m.below)) ∙ m.whole
  where
    eq_ended : (left right : List ℕ) → (left ≡ []) ⊎ (right ≡ []) → eq_poly (modulo p) left right ≡ 1
    eq_ended [] right end = refl
    eq_ended (r ∷ left) [] end = refl
    eq_ended (r ∷ left) (c ∷ right) end = ⊎_elim (λ l. cc) (λ k. cc) end
