-- Splitting each number of a table's first half in two, step by step, and the table of eq as it doubles with each variable.
-- The last variable comes first.
use Rattle.std.proofs.Common.{◌≡◌, ℕ, suc, ◌+◌, ◌*◌, ◌/◌, ◌^◌, ◌<◌, ◌≤◌, T, List, [], ◌∷◌, ◌++◌, map, length, get_or, take, drop, set, sym, refl, ap, ◌∙◌, subst, ap₂, append_assoc, arith, length-append, length-drop, pow_pos, pow_mono}
use native.Mathlib.Nat.{two-pow-succ}
use lib.ListN.{length-map}
use Rattle.std.proofs.lemmas.List.{append-nil, length-take-le, take-take, take_at, drop_more, drop-set-lt, get_or_at, set_at, map_more, take_more_set}
use Rattle.std.proofs.lemmas.Slice.{drop-append-drop}
use Rattle.arithmetic.specs.Numbers.{modulo, all_reduced}
use Rattle.arithmetic.proofs.Modulo.{ring_modulo}
use Rattle.tables.specs.InPlace.{split_first, scaled_eq_table}
use Rattle.tables.proofs.EqSteps.{scaled_length, scaled_none, scaled_split, scaled_reduced}
use Rattle.tables.proofs.ReducedLists.{reduced_anywhere}

-- Of a table's halves, the first as it was and as it is, and the second: the first i numbers are split.
pub record Splitting {K : Type 0} (low high : K → K) (before first second : List K) (i : ℕ) : Type 0 where
  pub kept : first ≡ map low (take i before) ++ drop i before
  pub made : take i second ≡ map high (take i before)

module _ {K : Type 0} {low high : K → K} {before first second : List K} {i : ℕ} (h : Splitting low high before first second i) where
  -- the number that a turn reads is as it was
  pub splitting_at : (d : K) → i < length before → get_or first i d ≡ get_or before i d
  splitting_at d l =
      ap (λ (xs : List K). get_or xs i d) (h.kept ∙ ap (λ (xs : List K). map low (take i before) ++ xs) (drop_more before i d l))
      ∙ get_or_at (map low (take i before)) (get_or before i d) (drop (i + 1) before) d i (length-map (take i before) low ∙ length-take-le i before (omega arith))

  pub splitting_more : (d x y : K) → i < length before → i < length second → x ≡ low (get_or first i d) → y ≡ high (get_or first i d) →
      Splitting low high before (set first i x) (set second i y) (i + 1)
  splitting_more d x y l k e f =
      record {
        kept =
            ap₂ (λ (xs : List K) (z : K). set xs i z) (h.kept ∙ ap (λ (xs : List K). map low (take i before) ++ xs) (drop_more before i d l)) (e ∙ ap low (splitting_at d l))
            ∙ set_at (map low (take i before)) (get_or before i d) (drop (i + 1) before) (low (get_or before i d)) i (length-map (take i before) low ∙ length-take-le i before (omega arith))
            ∙ sym (append_assoc (map low (take i before)) (low (get_or before i d) ∷ []) (drop (i + 1) before))
            ∙ ap (λ (xs : List K). xs ++ drop (i + 1) before) (sym (map_more low before i d l));
        made =
            take_more_set second i y k ∙ ap₂ (λ (xs : List K) (z : K). xs ++ (z ∷ [])) h.made (f ∙ ap high (splitting_at d l)) ∙ sym (map_more high before i d l);
      }

pub splitting_below : {p : ℕ} {low high : ℕ → ℕ} {before first second : List ℕ} {i : ℕ} → Splitting low high before first second i →
    0 < p → T (all_reduced (modulo p) before) → i < length before → get_or first i 0 < p
splitting_below {p} {before = before} {i = i} h positive t l = rw (splitting_at h 0 l) (reduced_anywhere p positive before t i)

-- The table of eq for the coordinates of a point that are done, and past it the words that were there. The last comes first.
pub record Doubling (p factor : ℕ) (point before out left : List ℕ) (len : ℕ) : Type 0 where
  pub done : List ℕ
  pub parts : point ≡ left ++ done
  pub size : len ≡ 2 ^ length done
  pub room : 2 ^ length point ≤ length out
  pub words : out ≡ scaled_eq_table (modulo p) factor done ++ drop len before

pub doubling_none : (p factor : ℕ) (point left xs : List ℕ) → left ≡ point → factor < p → 2 ^ length point ≤ length xs →
    Doubling p factor point (set xs 0 factor) (set xs 0 factor) left 1
doubling_none p factor point left [] e h l = absurd (omega (arith, pow_pos (length point)))
doubling_none p factor point left (x ∷ xs) e h l =
    record {
      done = [];
      parts = sym e ∙ sym (append-nil left);
      size = refl;
      room = l;
      words = sym (ap (λ (es : List ℕ). es ++ xs) (scaled_none p factor h));
    }

-- One turn: the next table lies in the first 2 len places, and the table so far is the first half of it.
module _ {p factor len : ℕ} {point before out left : List ℕ} (h : Doubling p factor point before out left len)
    (left-after : List ℕ) (r : ℕ) (next : left ≡ left-after ++ (r ∷ [])) where
  parts-after : point ≡ left-after ++ (r ∷ h.done)
  parts-after = h.parts ∙ ap (λ (xs : List ℕ). xs ++ h.done) next ∙ append_assoc left-after (r ∷ []) h.done

  pub doubling_room : len * 2 ≤ length out
  doubling_room =
      let longer : suc (length h.done) ≤ length point = rw (parts-after, length-append) (omega arith) in
      let more : 2 ^ suc (length h.done) ≤ 2 ^ length point = pow_mono longer in
      omega (arith, two-pow-succ (length h.done), h.size, h.room)

  pub doubling_next : 0 < p → T (all_reduced (modulo p) point) → r < p
  doubling_next positive t =
      subst (λ (x : ℕ). x < p)
      (ap (λ (xs : List ℕ). get_or xs (length left-after) 0) parts-after ∙ get_or_at left-after r h.done 0 (length left-after) refl)
      (reduced_anywhere p positive point t (length left-after))

  pub place_length : length (take (len * 2) out) ≡ len * 2
  place_length = length-take-le (len * 2) out doubling_room

  table_length : length (scaled_eq_table (modulo p) factor h.done) ≡ len
  table_length = scaled_length (modulo p) factor h.done ∙ sym h.size

  first_half : take (length (take (len * 2) out) / 2) (take (len * 2) out) ≡ scaled_eq_table (modulo p) factor h.done
  first_half =
      let half : length (take (len * 2) out) / 2 ≡ len = omega (arith, place_length) in
      ap (λ (n : ℕ). take n (take (len * 2) out)) half ∙ take-take len (len * 2) out (omega arith) ∙ ap (take len) h.words
      ∙ take_at (scaled_eq_table (modulo p) factor h.done) (drop len before) len table_length

  pub first_half_reduced : 0 < p → T (all_reduced (modulo p) (take (length (take (len * 2) out) / 2) (take (len * 2) out)))
  first_half_reduced positive =
      subst (λ (es : List ℕ). T (all_reduced (modulo p) es)) (sym first_half) (scaled_reduced p positive factor h.done)

  -- `live` is what splitting made of the next table's place
  pub doubling_more : 1 < p → (live : List ℕ) → live ≡ split_first (modulo p) r (take (length (take (len * 2) out) / 2) (take (len * 2) out)) →
      Doubling p factor point before (live ++ drop (len * 2) out) left-after (len * 2)
  doubling_more several live e =
      record { done = r ∷ h.done; parts = parts-after; size = doubled; room = longer; words = ap₂ ◌++◌ made kept }
    where
      doubled : len * 2 ≡ 2 ^ suc (length h.done)
      doubled = omega (arith, two-pow-succ (length h.done), h.size)

      made : live ≡ scaled_eq_table (modulo p) factor (r ∷ h.done)
      made = e ∙ ap (split_first (modulo p) r) first_half ∙ scaled_split (ring_modulo p several) factor r h.done

      kept : drop (len * 2) out ≡ drop (len * 2) before
      kept =
          ap (drop (len * 2)) h.words
          ∙ drop-append-drop len before (scaled_eq_table (modulo p) factor h.done) (len * 2) (omega arith) table_length

      longer : 2 ^ length point ≤ length (live ++ drop (len * 2) out)
      longer =
          let live_length = ap length made ∙ scaled_length (modulo p) factor (r ∷ h.done) ∙ sym doubled in
          let room = h.room in
          simp (length-append, length-drop) (omega arith)

-- at the end the table is that of the whole point; the first write lay within it
pub doubling_all : {p factor : ℕ} {point : List ℕ} (xs : List ℕ) {out left : List ℕ} {len : ℕ} →
    Doubling p factor point (set xs 0 factor) out left len → left ≡ [] →
    out ≡ scaled_eq_table (modulo p) factor point ++ drop (2 ^ length point) xs
doubling_all {p} {factor} {point} xs {out} {left} {len} h end =
    h.words ∙ ap₂ (λ (n : ℕ) (es : List ℕ). scaled_eq_table (modulo p) factor es ++ drop n (set xs 0 factor)) all (sym whole)
    ∙ ap (λ (l : List ℕ). scaled_eq_table (modulo p) factor point ++ l) (drop-set-lt (2 ^ length point) xs 0 factor (pow_pos (length point)))
  where
    whole : point ≡ h.done
    whole = h.parts ∙ ap (λ (es : List ℕ). es ++ h.done) end

    all : len ≡ 2 ^ length point
    all = h.size ∙ sym (ap (λ (es : List ℕ). 2 ^ length es) whole)
