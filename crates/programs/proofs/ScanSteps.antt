-- One byte more in a text, in no word or in one: what begins a word is a digit or in no number, and a gap ends a word.
-- Each is the machine's own clause with its tests decided.
use Rattle.std.proofs.Common.{◌≡◌, ℕ, ◌+◌, ◌-◌, ◌*◌, true, false, List, [], ◌∷◌, None, Some, sym, refl, ap, ◌∙◌}
use Rattle.std.proofs.lemmas.Bool.{or_parts}
use Rattle.std.proofs.lemmas.Option.{none-some}
use Rattle.texts.specs.Gaps.{gap_place, Past}
use Rattle.texts.specs.Texts.{is_line_end, is_space, is_gap, is_digit, capped}
use Rattle.texts.specs.Machine.{between, word, with, read_from}
use Rattle.texts.specs.declared.gap.Gap.{Gap}
use Rattle.texts.specs.declared.gap.Gap.TheVariants.{First, Between, Comment}
use Rattle.texts.proofs.Meaning.{by_test}
use Rattle.texts.proofs.RoundTrip.{gap_first, word_stops}

-- a byte that is no gap
module _ (c : ℕ) (rest : List ℕ) (none : is_gap c ≡ false) where
  pub between_digit : is_digit c ≡ true → read_from between (c ∷ rest) ≡ read_from (word (capped (10 * 0 + (c - 48)))) rest
  unfolding read_from
  between_digit d = let p = or_parts (is_line_end c) (is_space c) none in rw (p.0, p.1, d) refl

  pub between_other : is_digit c ≡ false → read_from between (c ∷ rest) ≡ None
  unfolding read_from
  between_other d = let p = or_parts (is_line_end c) (is_space c) none in rw (p.0, p.1, d) refl

  pub word_digit :
      (n : ℕ) → is_digit c ≡ true → read_from (word n) (c ∷ rest) ≡ read_from (word (capped (10 * n + (c - 48)))) rest
  unfolding read_from
  word_digit n d = let p = or_parts (is_line_end c) (is_space c) none in rw (p.0, p.1, d) refl

  pub word_other : (n : ℕ) → is_digit c ≡ false → read_from (word n) (c ∷ rest) ≡ None
  unfolding read_from
  word_other n d = let p = or_parts (is_line_end c) (is_space c) none in rw (p.0, p.1, d) refl

nothing_left : (g : Gap) → read_from (gap_place g) [] ≡ Some []
unfolding read_from
nothing_left First = refl
nothing_left Between = refl
nothing_left Comment = refl

one_left : (n : ℕ) → read_from (word n) [] ≡ Some (n ∷ [])
unfolding read_from
one_left n = refl

-- what is passed between words is a gap: else it would begin a word
is_passed : (c : ℕ) (after : Gap) → Past Between c (Some after) → is_gap c ≡ true
is_passed c after past =
    by_test (is_gap c)
    (λ g. g)
    (λ g. by_test (is_digit c)
    (λ d.
    let e : ◌≡◌ (Some ((capped (10 * 0 + (c - 48))) ∷ [])) (Some []) =
    sym (one_left (capped (10 * 0 + (c - 48)))) ∙ sym (between_digit c [] g d) ∙ past [] ∙ nothing_left after
    in cc)
    (λ d. absurd (none-some [] (sym (between_other c [] g d) ∙ past [] ∙ nothing_left after))))

pub word_passed :
    (n c : ℕ) (after : Gap) → Past Between c (Some after) → (rest : List ℕ) →
    read_from (word n) (c ∷ rest) ≡ with n (read_from (gap_place after) rest)
word_passed n c after past rest =
    let g = is_passed c after past in
    word_stops n (c ∷ rest) g ∙ ap (with n) (sym (gap_first false (c ∷ rest) g) ∙ past rest)
