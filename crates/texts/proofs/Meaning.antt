-- The machine that goes over a text byte by byte answers what the definition by lines and words answers.
-- Each of its places means the words that are left of this line, and then the lines after it.
use Rattle.std.proofs.Common.{◌≡◌, ℕ, ◌+◌, ◌-◌, ◌*◌, Bool, true, false, eqb, List, [], ◌∷◌, ◌++◌, Option, sym, refl, ap, ⊎_elim, arith}
use Rattle.std.specs.List.{flat_map}
use Rattle.std.proofs.lemmas.Bool.{cases_Bool}
use Rattle.texts.specs.Machine.{first, between, comment, word, with, read_from}
use Rattle.texts.specs.Texts.{is_line_end, is_space, is_digit, first_piece, later_pieces, pieces, filled, words_of, capped, number_after, before, numbers_in, numbers_of}

-- ---- what the machine means
-- the words of the lines after this one
abbrev later : List ℕ → List (List ℕ)
later cs = flat_map words_of (later_pieces is_line_end cs)

abbrev line : List ℕ → List ℕ
line cs = first_piece is_line_end cs

abbrev meant_first : List ℕ → Option (List ℕ)
meant_first cs = numbers_in (words_of (line cs) ++ later cs)

abbrev meant_between : List ℕ → Option (List ℕ)
meant_between cs = numbers_in (filled (pieces is_space (line cs)) ++ later cs)

abbrev meant_comment : List ℕ → Option (List ℕ)
meant_comment cs = numbers_in (later cs)

abbrev meant_word : ℕ → List ℕ → Option (List ℕ)
meant_word n cs = before (number_after n (first_piece is_space (line cs))) (numbers_in (filled (later_pieces is_space (line cs)) ++ later cs))

-- cases of a test, with the test first, so that each case knows how it came out
pub by_test : {G : Type 0} (b : Bool) → (b ≡ true → G) → (b ≡ false → G) → G
by_test b so not_so = ⊎_elim so not_so (cases_Bool b)

pub capped_digit : (n d : ℕ) → capped (10 * capped n + d) ≡ capped (10 * n + d)
capped_digit n d = omega arith

mutual
  unfolding read_from first_piece later_pieces filled number_after numbers_in

  mean_first : (cs : List ℕ) → read_from first cs ≡ meant_first cs
  mean_first [] = refl
  mean_first (c ∷ cs) =
      by_test (is_line_end c)
      (λ e. rw e (mean_first cs))
      (λ e. by_test (eqb c 35)
      (λ h. rw (e, h) (mean_comment cs))
      (λ h. by_test (is_space c)
      (λ s. rw (e, h, s) (mean_between cs))
      (λ s. by_test (is_digit c) (λ d. rw (e, h, s, d) (mean_word cs (10 * 0 + (c - 48)))) (λ d. rw (e, h, s, d) refl))))

  mean_between : (cs : List ℕ) → read_from between cs ≡ meant_between cs
  mean_between [] = refl
  mean_between (c ∷ cs) =
      by_test (is_line_end c)
      (λ e. rw e (mean_first cs))
      (λ e. by_test (is_space c)
      (λ s. rw (e, s) (mean_between cs))
      (λ s. by_test (is_digit c) (λ d. rw (e, s, d) (mean_word cs (10 * 0 + (c - 48)))) (λ d. rw (e, s, d) refl)))

  mean_comment : (cs : List ℕ) → read_from comment cs ≡ meant_comment cs
  mean_comment [] = refl
  mean_comment (c ∷ cs) = by_test (is_line_end c) (λ e. rw e (mean_first cs)) (λ e. rw e (mean_comment cs))

  mean_word : (cs : List ℕ) (n : ℕ) → read_from (word (capped n)) cs ≡ meant_word n cs
  mean_word [] n = refl
  mean_word (c ∷ cs) n =
      by_test (is_line_end c)
      (λ e. rw e (ap (with (capped n)) (mean_first cs)))
      (λ e. by_test (is_space c)
      (λ s. rw (e, s) (ap (with (capped n)) (mean_between cs)))
      (λ s. by_test (is_digit c) (λ d. rw (e, s, d, capped_digit n (c - 48)) (mean_word cs (10 * n + (c - 48)))) (λ d. rw (e, s, d) refl)))

pub numbers_of_is : (cs : List ℕ) → numbers_of cs ≡ read_from first cs
unfolding numbers_of
numbers_of_is cs = sym (mean_first cs)
