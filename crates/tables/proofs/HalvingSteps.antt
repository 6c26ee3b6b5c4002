-- A table being halved in place, step by step: the first i places fixed, the others as they were.
-- And a table being halved again and again, its live part first.
use Rattle.std.proofs.Common.{◌≡◌, ℕ, zero, suc, ◌+◌, ◌-◌, ◌/◌, ◌%◌, ◌^◌, ◌<◌, ◌≤◌, T, ltb, List, [], ◌∷◌, ◌++◌, length, get_or, take, drop, set, sym, refl, ap, ◌∙◌, ap₂, append_assoc, le_of_suc-le-suc, not-suc-le-zero, mod-lt, mod-eq_of_lt, add-one, arith, lt→ltb, length-append, length-drop}
use native.Mathlib.Nat.{two-pow-succ}
use Rattle.std.proofs.lemmas.List.{append-nil, length-take-le, take-append-drop, get_or-take, set_at, get_or-drop, get_or-append_right, drop_more, drop_all, take_all, take_at, drop_at}
use Rattle.arithmetic.specs.Numbers.{Numbers, modulo, all_reduced}
use Rattle.arithmetic.proofs.Modulo.{ring_modulo}
use Rattle.arithmetic.proofs.Solver.{var, con, ◌:+◌, ◌:*◌, ◌:-◌, solve}
use Rattle.arithmetic.proofs.Truth.{and_both}
use Rattle.tables.specs.InPlace.{on_line, halved_all}
use Rattle.tables.specs.Multilinear.{blend, fix_first, mle}
use Rattle.tables.proofs.ReducedLists.{reduced_anywhere, reduced_append, reduced_drop}

-- one multiplication does what two did
pub on_line_lem : (p : ℕ) → 1 < p → (r a b : ℕ) →
    (modulo p).add a ((modulo p).mul r ((modulo p).sub b a)) ≡ on_line (modulo p) r a b
on_line_lem p h r a b =
    solve (ring_modulo p h) (r ∷ a ∷ b ∷ []) (var 1 :+ var 0 :* (var 2 :- var 1)) ((con 1 :- var 0) :* var 1 :+ var 0 :* var 2) refl

module _ {K : Type 0} (N : Numbers K) where
  -- a table whose first i places are fixed
  abbrev pub partly_fixed : K → ℕ → ℕ → List K → List K
  partly_fixed r half i xs = blend N r (take i xs) (drop half xs) ++ drop i xs

  blend_more : (r d : K) (i : ℕ) (xs ys : List K) → i < length xs → i < length ys →
      blend N r (take (suc i) xs) ys ≡ blend N r (take i xs) ys ++ (on_line N r (get_or xs i d) (get_or ys i d) ∷ [])
  unfolding blend
  blend_more r d i [] ys h k = absurd (not-suc-le-zero h)
  blend_more r d i (x ∷ xs) [] h k = absurd (not-suc-le-zero k)
  blend_more r d zero (x ∷ xs) (y ∷ ys) h k = refl
  blend_more r d (suc i) (x ∷ xs) (y ∷ ys) h k =
      ap {B = List K} (λ l. on_line N r x y ∷ l) (blend_more r d i xs ys (le_of_suc-le-suc h) (le_of_suc-le-suc k))

  blend_front : (r : K) (i : ℕ) (xs ys : List K) → i ≤ length xs → i ≤ length ys → length (blend N r (take i xs) ys) ≡ i
  unfolding blend
  blend_front r zero xs ys h k = refl
  blend_front r (suc i) [] ys h k = absurd (not-suc-le-zero h)
  blend_front r (suc i) (x ∷ xs) [] h k = absurd (not-suc-le-zero k)
  blend_front r (suc i) (x ∷ xs) (y ∷ ys) h k = ap suc (blend_front r i xs ys (le_of_suc-le-suc h) (le_of_suc-le-suc k))

  front : (r : K) (half i : ℕ) (xs : List K) → half + i ≤ length xs → length (blend N r (take i xs) (drop half xs)) ≡ i
  front r half i xs h = blend_front r i xs (drop half xs) (omega arith) (rw length-drop (omega arith))

  pub partly_none : (r : K) (half : ℕ) (xs : List K) → xs ≡ partly_fixed r half 0 xs
  unfolding blend
  partly_none r half xs = refl

  -- the places from i on are as they were
  pub partly_at : (r d : K) (half i k : ℕ) (xs : List K) → half + i ≤ length xs → i ≤ k → get_or (partly_fixed r half i xs) k d ≡ get_or xs k d
  partly_at r d half i k xs h l =
      let place : i + (k - i) ≡ k = omega arith in
      get_or-append_right _ (drop i xs) i k d (front r half i xs h) l ∙ get_or-drop i xs (k - i) d ∙ ap (λ (j : ℕ). get_or xs j d) place

  pub partly_more : (r d : K) (half i : ℕ) (xs : List K) → half + i < length xs →
      set (partly_fixed r half i xs) i (on_line N r (get_or xs i d) (get_or xs (half + i) d)) ≡ partly_fixed r half (i + 1) xs
  partly_more r d half i xs h =
      let fixed : List K = blend N r (take i xs) (drop half xs) in
      let x : K = on_line N r (get_or xs i d) (get_or xs (half + i) d) in
      let inside : i < length xs = omega arith in
      let second : i < length (drop half xs) = rw length-drop (omega arith) in
      ap (λ (l : List K). set (fixed ++ l) i x) (drop_more xs i d inside)
      ∙ set_at fixed (get_or xs i d) (drop (i + 1) xs) x i (front r half i xs (omega arith))
      ∙ sym (append_assoc fixed (x ∷ []) (drop (i + 1) xs))
      ∙ ap (λ (l : List K). l ++ drop (i + 1) xs) (sym longer)
    where
      longer :
          blend N r (take (i + 1) xs) (drop half xs) ≡
          blend N r (take i xs) (drop half xs) ++ (on_line N r (get_or xs i d) (get_or xs (half + i) d) ∷ [])
      longer =
          let second : i < length (drop half xs) = rw length-drop (omega arith) in
          ap (λ (n : ℕ). blend N r (take n xs) (drop half xs)) (add-one i)
          ∙ blend_more r d i xs (drop half xs) (omega arith) second
          ∙ ap (λ (y : K). blend N r (take i xs) (drop half xs) ++ (on_line N r (get_or xs i d) y ∷ [])) (get_or-drop half xs i d)

blend_reduced : (p : ℕ) → 0 < p → (r : ℕ) (xs ys : List ℕ) → T (all_reduced (modulo p) (blend (modulo p) r xs ys))
unfolding blend all_reduced
blend_reduced p h r [] ys = tt
blend_reduced p h r (x ∷ xs) [] = tt
blend_reduced p h r (x ∷ xs) (y ∷ ys) =
    and_both (ltb (on_line (modulo p) r x y) p) (all_reduced (modulo p) (blend (modulo p) r xs ys))
    (lt→ltb (on_line (modulo p) r x y) p (mod-lt _ h)) (blend_reduced p h r xs ys)

-- a table stays reduced while it is halved
pub partly_reduced : (p : ℕ) → 0 < p → (r half i : ℕ) (xs : List ℕ) → T (all_reduced (modulo p) xs) →
    T (all_reduced (modulo p) (partly_fixed (modulo p) r half i xs))
partly_reduced p h r half i xs t =
    reduced_append p (blend (modulo p) r (take i xs) (drop half xs)) (drop i xs)
    (blend_reduced p h r (take i xs) (drop half xs)) (reduced_drop p i xs t)

-- A table after the first i coordinates of a point: its first `len` numbers are live, and lead to the same value and the same words.
pub record Halving (p : ℕ) (xs point table : List ℕ) (i len : ℕ) : Type 0 where
  pub size : len ≡ 2 ^ (length point - i)
  pub fits : len ≤ length table
  pub value : mle (modulo p) (take len table) (drop i point) ≡ mle (modulo p) xs point
  pub words : halved_all (modulo p) (take len table) (drop i point) ++ drop len table ≡ halved_all (modulo p) xs point
  pub reduced : T (all_reduced (modulo p) table)

pub halving_none : (p : ℕ) (xs point : List ℕ) → length xs ≡ 2 ^ length point → T (all_reduced (modulo p) xs) → Halving p xs point xs 0 (length xs)
halving_none p xs point e t =
    let whole : take (length xs) xs ≡ xs = take_all (length xs) xs (omega arith) in
    let nothing : drop (length xs) xs ≡ [] = drop_all (length xs) xs (omega arith) in
    record {
      size = e ∙ ap (λ (k : ℕ). 2 ^ k) (omega arith);
      fits = omega arith;
      value = ap (λ (l : List ℕ). mle (modulo p) l point) whole;
      words = ap₂ (λ (l m : List ℕ). halved_all (modulo p) l point ++ m) whole nothing ∙ append-nil (halved_all (modulo p) xs point);
      reduced = t;
    }

-- one coordinate more: `live` is what fixing it made of the live part, whose end is `end`
pub halving_more : {p : ℕ} {xs point table : List ℕ} {i len : ℕ} →
    Halving p xs point table i len → (live : List ℕ) (end : ℕ) → end ≡ len → i < length point →
    live ≡ fix_first (modulo p) (get_or point i 0) (take end table) ++ drop (length (take end table) / 2) (take end table) →
    T (all_reduced (modulo p) live) →
    Halving p xs point (live ++ drop end table) (i + 1) (len / 2)
unfolding mle halved_all
halving_more {p} {xs} {point} {table} {i} {len} h live end same inside e t =
    record {
      size = halved;
      fits = simp length-append (omega (arith, ap length e, length-append fixed rest, half_length));
      value =
          ap (λ (l : List ℕ). mle (modulo p) l (drop (i + 1) point)) front-live
          ∙ sym (ap (mle (modulo p) before) next) ∙ ap (λ (n : ℕ). mle (modulo p) (take n table) (drop i point)) same ∙ h.value;
      words =
          ap₂ (λ (l m : List ℕ). halved_all (modulo p) l (drop (i + 1) point) ++ m) front-live rest_live
          ∙ sym (append_assoc (halved_all (modulo p) fixed (drop (i + 1) point)) rest (drop end table))
          ∙ sym (ap (λ (l : List ℕ). halved_all (modulo p) before l ++ drop end table) next)
          ∙ ap (λ (n : ℕ). halved_all (modulo p) (take n table) (drop i point) ++ drop n table) same ∙ h.words;
      reduced = reduced_append p live (drop end table) t (reduced_drop p end table h.reduced);
    }
  where
    before : List ℕ
    before = take end table

    fixed : List ℕ
    fixed = fix_first (modulo p) (get_or point i 0) before

    rest : List ℕ
    rest = drop (length before / 2) before

    next : drop i point ≡ get_or point i 0 ∷ drop (i + 1) point
    next = drop_more point i 0 inside

    halved : len / 2 ≡ 2 ^ (length point - (i + 1))
    halved =
        let left : length point - i ≡ suc (length point - (i + 1)) = omega arith in
        let twice : len ≡ 2 ^ (length point - (i + 1)) + 2 ^ (length point - (i + 1)) =
        h.size ∙ ap (λ (k : ℕ). 2 ^ k) left ∙ two-pow-succ (length point - (i + 1))
        in
        omega arith

    half_length : length fixed ≡ len / 2
    half_length =
        front (modulo p) (get_or point i 0) (length before / 2) (length before / 2) before (omega arith)
        ∙ ap (λ (n : ℕ). n / 2) (length-take-le end table (omega (arith, h.fits)) ∙ same)

    joined : live ++ drop end table ≡ fixed ++ (rest ++ drop end table)
    joined = ap (λ (l : List ℕ). l ++ drop end table) e ∙ append_assoc fixed rest (drop end table)

    front-live : take (len / 2) (live ++ drop end table) ≡ fixed
    front-live = ap (take (len / 2)) joined ∙ take_at fixed (rest ++ drop end table) (len / 2) half_length

    rest_live : drop (len / 2) (live ++ drop end table) ≡ rest ++ drop end table
    rest_live = ap (drop (len / 2)) joined ∙ drop_at fixed (rest ++ drop end table) (len / 2) half_length

-- at the end one number is live, and it is the value
pub halving_all : {p : ℕ} {xs point table : List ℕ} {i len : ℕ} → Halving p xs point table i len → 0 < p → length point ≤ i →
    (get_or table 0 0 ≡ mle (modulo p) xs point) × (get_or table 0 0 < p) × (table ≡ halved_all (modulo p) xs point)
unfolding mle halved_all
halving_all {p} {xs} {point} {table} {i} {len} h positive end = (sym small ∙ value, below, words)
  where
    none : drop i point ≡ []
    none = drop_all i point end

    one : len ≡ 1
    one =
        let left : length point - i ≡ 0 = omega arith in
        h.size ∙ ap (λ (k : ℕ). 2 ^ k) left

    below : get_or table 0 0 < p
    below = reduced_anywhere p positive table h.reduced 0

    small : get_or table 0 0 % p ≡ get_or table 0 0
    small = mod-eq_of_lt below

    value : get_or table 0 0 % p ≡ mle (modulo p) xs point
    value =
        ap (λ (x : ℕ). x % p) (sym (get_or-take len table 0 0 (omega (arith, one))))
        ∙ sym (ap (mle (modulo p) (take len table)) none) ∙ h.value

    words : table ≡ halved_all (modulo p) xs point
    words =
        sym (take-append-drop len table)
        ∙ sym (ap (λ (l : List ℕ). halved_all (modulo p) (take len table) l ++ drop len table) none) ∙ h.words
