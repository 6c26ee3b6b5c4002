-- A line of numbers grows at its end: a gap, and the digits of one number more, with no gap before the first.
-- Many numbers go line by line: k of them, a line end, and what is left.
use Rattle.std.proofs.Common.{◌≡◌, ℕ, zero, suc, ◌+◌, ◌<◌, ◌≤◌, min, true, List, [], ◌∷◌, ◌++◌, length, get_or, take, drop, is_ok, Ok, decimal, Result, sym, refl, ap, ◌∙◌, ⊎_elim, append_assoc, append-nil, arith, length-drop}
use Rattle.std.proofs.Output.{writes_in_calls_nil, has_written_append, has_written_of_eq}
use Rattle.std.proofs.lemmas.List.{take_more, take_all, drop_all, take_at, drop_at}
use Rattle.std.proofs.lemmas.Bool.{cases_lt}
use Rattle.std.specs.Fmt.{IsPlainFormatter, HasWritten}
use Rattle.std.specs.declared.fmt.Formatter.{Formatter}
use Rattle.texts.specs.Texts.{line_of, lines_by, lines_of}

-- a call that answered `Ok`, as the clauses on what is written want it
pub is_ok_of_ok : {T E : Type 0} (r : Result T E) (x : T) → r ≡ Ok x → is_ok r ≡ true
is_ok_of_ok r x e = ap is_ok e

-- what stands between these numbers and the next
abbrev pub gap_after : List ℕ → List ℕ
gap_after [] = []
gap_after (n ∷ ns) = 32 ∷ []

pub line_push : (ns : List ℕ) (n : ℕ) → line_of (ns ++ n ∷ []) ≡ line_of ns ++ (gap_after ns ++ decimal n)
unfolding line_of
line_push [] n = refl
line_push (m ∷ []) n = refl
line_push (m ∷ k ∷ ns) n = ap (λ (l : List ℕ). decimal m ++ (32 ∷ l)) (line_push (k ∷ ns) n) ∙ sym (append_assoc (decimal m) (32 ∷ line_of (k ∷ ns)) (32 ∷ decimal n))

pub line_more : (ns : List ℕ) (i : ℕ) → i < length ns → line_of (take (i + 1) ns) ≡ line_of (take i ns) ++ (gap_after (take i ns) ++ decimal (get_or ns i 0))
line_more ns i h = ap line_of (take_more ns i 0 h) ∙ line_push (take i ns) (get_or ns i 0)

gap_push : (ns : List ℕ) (n : ℕ) → gap_after (ns ++ n ∷ []) ≡ 32 ∷ []
gap_push [] n = refl
gap_push (m ∷ ns) n = refl

pub gap_more : (ns : List ℕ) (i : ℕ) → i < length ns → gap_after (take (i + 1) ns) ≡ 32 ∷ []
gap_more ns i h = ap gap_after (take_more ns i 0 h) ∙ gap_push (take i ns) (get_or ns i 0)

-- a formatter has written the first i numbers of a line
abbrev pub Shown : {W : Type 0} → (W → List ℕ → W → Type 0) → Formatter W → List ℕ → ℕ → Formatter W → Type 0
Shown took f ns i g = IsPlainFormatter f → HasWritten took f (line_of (take i ns)) g

-- ---- lines
lines_turns : (t u k : ℕ) (ns : List ℕ) → 0 < k → length ns ≤ t → length ns ≤ u → lines_by t k ns ≡ lines_by u k ns
unfolding lines_by
lines_turns zero zero k [] some h g = refl
lines_turns zero (suc u) k [] some h g = refl
lines_turns (suc t) zero k [] some h g = refl
lines_turns (suc t) (suc u) k [] some h g = refl
lines_turns zero u k (n ∷ ns) some h g = absurd (omega arith)
lines_turns (suc t) zero k (n ∷ ns) some h g = absurd (omega arith)
lines_turns (suc t) (suc u) k (n ∷ ns) some h g =
    let left = length-drop k (n ∷ ns) in
    ap (λ (l : List ℕ). line_of (take k (n ∷ ns)) ++ (10 ∷ l)) (lines_turns t u k (drop k (n ∷ ns)) some (omega arith) (omega arith))

lines_step : (k : ℕ) (ns : List ℕ) → 0 < k → 0 < length ns → lines_of k ns ≡ line_of (take k ns) ++ (10 ∷ lines_of k (drop k ns))
unfolding lines_by
lines_step k [] some more = absurd (omega arith)
lines_step k (n ∷ ns) some more =
    let left = length-drop k (n ∷ ns) in
    ap (λ (l : List ℕ). line_of (take k (n ∷ ns)) ++ (10 ∷ l)) (lines_turns (length ns) (length (drop k (n ∷ ns))) k (drop k (n ∷ ns)) some (omega arith) (omega arith))

-- the first k, or all where there are fewer
cut_at : (k m : ℕ) (ns : List ℕ) → m ≡ min k (length ns) → (take m ns ≡ take k ns) × (drop m ns ≡ drop k ns)
cut_at k m ns is =
    ⊎_elim
    (λ (h : k < length ns). let e : m ≡ k = omega arith in (ap (λ x. take x ns) e, ap (λ x. drop x ns) e))
    (λ (h : length ns ≤ k). let e : length ns ≤ m = omega arith in (take_all m ns e ∙ sym (take_all k ns h), drop_all m ns e ∙ sym (drop_all k ns h)))
    (cases_lt k (length ns))

-- a formatter has written lines of k numbers, and with those of what is left they are the lines of all
pub record Laid {W : Type 0} (took : W → List ℕ → W → Type 0) (f : Formatter W) (k : ℕ) (all left : List ℕ) (g : Formatter W) : Type 0 where
  pub written : List ℕ
  pub whole : written ++ lines_of k left ≡ lines_of k all
  pub put : IsPlainFormatter f → HasWritten took f written g

module _ {W : Type 0} (took : W → List ℕ → W → Type 0) (f : Formatter W) (k : ℕ) where
  pub laid_none : (all left : List ℕ) → left ≡ all → Laid took f k all left f
  laid_none all left same = record {
    written = [];
    whole = ap (lines_of k) same;
    put = λ plain. record { wrote = writes_in_calls_nil took f.writer; plain = plain };
  }

  pub laid_more : (all left line left' : List ℕ) (g g' : Formatter W) → 0 < k → 0 < length left → left ≡ line ++ left' → length line ≡ min k (length left) → Laid took f k all left g → (IsPlainFormatter g → HasWritten took g (line_of line ++ (10 ∷ [])) g') → Laid took f k all left' g'
  laid_more all left line left' g g' some more parts least so next =
      let cut = cut_at k (length line) left least in
      let whole-front : line ≡ take k left = sym (take_at line left' (length line) refl) ∙ ap (take (length line)) (sym parts) ∙ cut.0 in
      let whole_back : left' ≡ drop k left = sym (drop_at line left' (length line) refl) ∙ ap (drop (length line)) (sym parts) ∙ cut.1 in
      record {
        written = so.written ++ (line_of line ++ (10 ∷ []));
        whole =
            append_assoc so.written (line_of line ++ (10 ∷ [])) (lines_of k left')
            ∙ ap (λ (l : List ℕ). so.written ++ l) (append_assoc (line_of line) (10 ∷ []) (lines_of k left') ∙ (λ i. line_of (whole-front i) ++ (10 ∷ lines_of k (whole_back i))) ∙ sym (lines_step k left some more))
            ∙ so.whole;
        put = λ plain. let was = so.put plain in has_written_append took f so.written g (line_of line ++ (10 ∷ [])) g' was (next was.plain);
      }

  pub laid_all : (all left : List ℕ) (g : Formatter W) → length left ≡ 0 → Laid took f k all left g → IsPlainFormatter f → HasWritten took f (lines_of k all) g
  unfolding lines_by
  laid_all all [] g none so plain = has_written_of_eq took f so.written (lines_of k all) g (sym (append-nil so.written) ∙ so.whole) (so.put plain)
  laid_all all (n ∷ left) g none so plain = absurd (omega arith)
