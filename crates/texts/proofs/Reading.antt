-- From the machine's steps to what the reader answers of a text.
-- The number read stands before those of what is left.
use Rattle.std.proofs.Common.{◌≡◌, ℕ, ◌+◌, ◌<◌, ◌≤◌, List, [], ◌∷◌, ◌++◌, length, get_or, drop, set, Some, None, Ok, Err, Option, sym, refl, ap, ◌∙◌, append_assoc, arith, length-drop}
use Rattle.std.specs.Option.{option_map}
use Rattle.std.proofs.lemmas.List.{drop_all, drop-drop, drop_more, length_push, set_at}
use Rattle.texts.specs.Answers.{Next}
use Rattle.texts.specs.Machine.{first, between, with, read_from}
use Rattle.std.proofs.lemmas.Option.{none-some}
use Rattle.texts.specs.Texts.{first_piece, later_pieces, filled, numbers_in, numbers_of}
use Rattle.texts.specs.declared.error.TextError.{TextError}
use Rattle.texts.specs.declared.error.TextError.TheVariants.{NoNumber, TooMany, NoMemory}
use Rattle.texts.proofs.Meaning.{numbers_of_is}

-- a is where the reader stands, and s how far from there the next word begins
module _ (text : List ℕ) (a s : ℕ) (found : read_from between (drop s (drop a text)) ≡ read_from first (drop a text)) where
  pub none_left : s ≡ length (drop a text) → (numbers_of (drop a text) ≡ Some []) × (drop s (drop a text) ≡ [])
  unfolding read_from
  none_left end =
      let nothing = drop_all s (drop a text) (omega arith) in
      (numbers_of_is (drop a text) ∙ sym found ∙ ap (read_from between) nothing, nothing)

  pub none_read : read_from between (drop s (drop a text)) ≡ None → numbers_of (drop a text) ≡ None
  none_read is = numbers_of_is (drop a text) ∙ sym found ∙ is

  -- the word has e bytes, and writes n
  pub one_read : (e n : ℕ) → 0 < e → e ≤ length (drop s (drop a text)) → read_from between (drop s (drop a text)) ≡ with n (read_from first (drop e (drop s (drop a text)))) → Next (drop a text) (Ok (Some n)) (drop (a + (s + e)) text)
  one_read e n some within is =
      let after : drop e (drop s (drop a text)) ≡ drop (a + (s + e)) text = drop-drop e s (drop a text) ∙ drop-drop (s + e) a text in (
        numbers_of_is (drop a text) ∙ sym found ∙ is ∙ ap (λ l. with n (read_from first l)) after ∙ ap (with n) (sym (numbers_of_is (drop (a + (s + e)) text))),
        simp length-drop (omega (arith, simp length-drop at within)),
      )

-- a text that is refused is not empty
pub refused_some : (text : List ℕ) (e : TextError) (rest : List ℕ) → Next text (Err e) rest → 0 < length text
unfolding numbers_of numbers_in first_piece later_pieces filled
refused_some [] NoNumber rest so = absurd (none-some [] (sym so.0))
refused_some (c ∷ text) NoNumber rest so = omega arith
refused_some text TooMany rest so = absurd so
refused_some text (NoMemory e) rest so = absurd so

-- ---- all numbers
-- numbers read already, before those of what is left
abbrev pub after : List ℕ → Option (List ℕ) → Option (List ℕ)
after ns o = option_map (λ ms. ns ++ ms) o

pub after_none : (o : Option (List ℕ)) → after [] o ≡ o
after_none None = refl
after_none (Some ms) = refl

pub after_one : (ns : List ℕ) (n : ℕ) (o : Option (List ℕ)) → after (ns ++ n ∷ []) o ≡ after ns (with n o)
after_one ns n None = refl
after_one ns n (Some ms) = ap (λ (l : List ℕ). Some l) (append_assoc ns (n ∷ []) ms)

-- the numbers read stand in the first words, as far as there is room, and the words beyond them are as they were
pub record Filled (text left room filled : List ℕ) (count : ℕ) : Type 0 where
  pub numbers : List ℕ
  pub whole : after numbers (numbers_of left) ≡ numbers_of text
  pub counted : count ≡ length numbers
  pub stand : count ≤ length room → filled ≡ numbers ++ drop count room
  pub apart : count + length left ≤ length text

pub filled_more : (text left room filled : List ℕ) (count n : ℕ) (left' filled' : List ℕ) → Filled text left room filled count → numbers_of left ≡ with n (numbers_of left') → length left' < length left → (count < length room → filled' ≡ set filled count n) → Filled text left' room filled' (count + 1)
filled_more text left room filled count n left' filled' so next less put = record {
  numbers = so.numbers ++ n ∷ [];
  whole = after_one so.numbers n (numbers_of left') ∙ ap (after so.numbers) (sym next) ∙ so.whole;
  counted = ap (λ k. k + 1) so.counted ∙ sym (length_push so.numbers n);
  stand =
      λ h.
      let room-left : count < length room = omega arith in
      let was : filled ≡ so.numbers ++ (get_or room count 0 ∷ drop (count + 1) room) = so.stand (omega arith) ∙ ap (λ l. so.numbers ++ l) (drop_more room count 0 room-left) in
      put room-left ∙ ap (λ l. set l count n) was ∙ set_at so.numbers (get_or room count 0) (drop (count + 1) room) n count (sym so.counted) ∙ sym (append_assoc so.numbers (n ∷ []) (drop (count + 1) room));
  apart = omega (arith, so.apart);
}
