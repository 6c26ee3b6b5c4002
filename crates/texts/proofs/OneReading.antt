-- The numbers of a text are those that it reads as, and so a text has one reading at most.
-- From a reading to the machine's answer, and back from the answer to what the text is made of.
use Rattle.std.proofs.Common.{◌≡◌, ℕ, ◌+◌, ◌-◌, ◌*◌, ◌^◌, Bool, true, false, eqb, List, [], ◌∷◌, ◌++◌, length, Some, None, Option, sym, refl, ap, ◌∙◌, subst, add-zero, zero-add, mul-one, arith}
use native.Mathlib.Nat.{pow-succ'}
use Rattle.std.proofs.lemmas.Bool.{eqb-true, or_left, or_right}
use Rattle.std.specs.List.{AllByRecursion}
use Rattle.texts.specs.Machine.{first, between, comment, word, with, read_from}
use Rattle.texts.specs.Texts.{is_line_end, is_space, is_gap, is_digit, capped}
use Rattle.texts.specs.Theorems.{value_of, Stops, Reads, nothing, line_end, space, comment_line, number, OneReading}
use Rattle.texts.proofs.Meaning.{by_test, numbers_of_is, capped_digit}
use Rattle.texts.proofs.RoundTrip.{Digit, weigh, number_read, gap_first}
use Rattle.texts.proofs.Steps.{outside, space_no_hash, space_no_line_end}

abbrev Inside : ℕ → Type 0
Inside c = is_line_end c ≡ false

-- ---- from a reading to the numbers
comment_read : (cs rest : List ℕ) → AllByRecursion Inside cs → Stops is_line_end rest → read_from comment (cs ++ rest) ≡ read_from between rest
unfolding read_from
comment_read [] [] all stops = refl
comment_read [] (c ∷ rest) all stops = rw stops refl
comment_read (c ∷ cs) rest all stops = rw all.0 (comment_read cs rest all.1 stops)

sound : {b : Bool} {text ns : List ℕ} → Reads b text ns → read_from (outside b) text ≡ Some ns
unfolding read_from
sound {b} nothing = gap_first b [] tt
sound {b} (line_end {rest = rest} c e r) = gap_first b (c ∷ rest) (or_left (is_line_end c) (is_space c) e) ∙ rw e (sound r)
sound {b} (space {rest = rest} c s r) = gap_first b (c ∷ rest) (or_right (is_line_end c) (is_space c) s) ∙ rw (space_no_line_end c s, space_no_hash c s, s) (sound r)
sound (comment_line {rest = rest} cs all stops r) = comment_read cs rest all stops ∙ sound r
sound {b} (number {rest = rest} d ds all stops r) =
    number_read b (d ∷ ds) rest (omega arith) all stops ∙ ap (with (capped (value_of (d ∷ ds)))) (sym (gap_first false rest stops) ∙ sound r)

-- ---- from the numbers to a reading
none_some : (ms : List ℕ) → ◌≡◌ {A = Option (List ℕ)} None (Some ms) → ⊥
none_some ms e = let z : ◌≡◌ {A = ℕ} 0 1 = cc in omega arith

with_some : (n : ℕ) (o : Option (List ℕ)) (ms : List ℕ) → with n o ≡ Some ms → (ns : List ℕ) × (o ≡ Some ns) × (ms ≡ n ∷ ns)
with_some n None ms h = absurd (none_some ms h)
with_some n (Some ns) ms h = (ns, refl, cc)

-- a comment's bytes, and what reads on after it
record CommentRest (cs ns : List ℕ) : Type 0 where
  said : List ℕ
  rest : List ℕ
  cut : cs ≡ said ++ rest
  inside : AllByRecursion Inside said
  stops : Stops is_line_end rest
  on : Reads false rest ns

-- a word's further digits, and what reads on after it
record WordRest (n : ℕ) (cs ms : List ℕ) : Type 0 where
  digits : List ℕ
  rest : List ℕ
  ns : List ℕ
  cut : cs ≡ digits ++ rest
  all : AllByRecursion Digit digits
  stops : Stops is_gap rest
  on : Reads false rest ns
  is : ms ≡ capped (n * 10 ^ length digits + value_of digits) ∷ ns

at_end : (b : Bool) (ns : List ℕ) → ◌≡◌ {A = Option (List ℕ)} (Some []) (Some ns) → Reads b [] ns
at_end b ns h = let e : [] ≡ ns = cc in subst (Reads b []) e nothing

comment_here : (cs ns : List ℕ) → Stops is_line_end cs → Reads false cs ns → CommentRest cs ns
comment_here cs ns stops on = record { said = []; rest = cs; cut = refl; inside = tt; stops = stops; on = on }

comment_more : (c : ℕ) (cs ns : List ℕ) → Inside c → CommentRest cs ns → CommentRest (c ∷ cs) ns
comment_more c cs ns e r = record {
  said = c ∷ r.said;
  rest = r.rest;
  cut = ap (λ (l : List ℕ). c ∷ l) r.cut;
  inside = (e, r.inside);
  stops = r.stops;
  on = r.on;
}

from_comment : (c : ℕ) (cs ns : List ℕ) → eqb c 35 ≡ true → CommentRest cs ns → Reads true (c ∷ cs) ns
from_comment c cs ns e r =
    let whole : 35 ∷ (r.said ++ r.rest) ≡ c ∷ cs = ap (λ (l : List ℕ). 35 ∷ l) (sym r.cut) ∙ ap (λ x. x ∷ cs) (sym (eqb-true c 35 e)) in
    subst (λ (l : List ℕ). Reads true l ns) whole (comment_line r.said r.inside r.stops r.on)

word_here : (n : ℕ) (cs ns ms : List ℕ) → Stops is_gap cs → Reads false cs ns → ms ≡ capped n ∷ ns → WordRest n cs ms
word_here n cs ns ms stops on is = record {
  digits = [];
  rest = cs;
  ns = ns;
  cut = refl;
  all = tt;
  stops = stops;
  on = on;
  is = is ∙ ap (λ m. capped m ∷ ns) (sym (add-zero (n * 10 ^ 0) ∙ mul-one n));
}

word_more : (n c : ℕ) (cs ms : List ℕ) → Digit c → WordRest (10 * n + (c - 48)) cs ms → WordRest n (c ∷ cs) ms
word_more n c cs ms d r = record {
  digits = c ∷ r.digits;
  rest = r.rest;
  ns = r.ns;
  cut = ap (λ (l : List ℕ). c ∷ l) r.cut;
  all = (d, r.all);
  stops = r.stops;
  on = r.on;
  is =
      r.is ∙ ap (λ m. capped m ∷ r.ns) (weigh n (c - 48) (10 ^ length r.digits) (value_of r.digits) ∙ ap (λ p. n * p + ((c - 48) * 10 ^ length r.digits + value_of r.digits)) (sym (pow-succ' 10 (length r.digits))));
}

from_word : (b : Bool) (c : ℕ) (cs ms : List ℕ) → Digit c → WordRest (10 * 0 + (c - 48)) cs ms → Reads b (c ∷ cs) ms
from_word b c cs ms d r =
    let whole : c ∷ (r.digits ++ r.rest) ≡ c ∷ cs = ap (λ (l : List ℕ). c ∷ l) (sym r.cut) in
    let value : capped (value_of (c ∷ r.digits)) ∷ r.ns ≡ ms = ap (λ k. capped (k * 10 ^ length r.digits + value_of r.digits) ∷ r.ns) (sym (zero-add (c - 48))) ∙ sym r.is in
    subst (λ (l : List ℕ). Reads b l ms) whole (subst (Reads b (c ∷ (r.digits ++ r.rest))) value (number c r.digits (d, r.all) r.stops r.on))

mutual
  unfolding read_from

  complete_first : (cs ns : List ℕ) → read_from first cs ≡ Some ns → Reads true cs ns
  complete_first [] ns h = at_end true ns h
  complete_first (c ∷ cs) ns h =
      by_test (is_line_end c)
      (λ e. line_end c e (complete_first cs ns (rw e at h)))
      (λ e. by_test (eqb c 35)
      (λ k. from_comment c cs ns k (complete_comment cs ns (rw (e, k) at h)))
      (λ k. by_test (is_space c)
      (λ s. space c s (complete_between cs ns (rw (e, k, s) at h)))
      (λ s. by_test (is_digit c)
      (λ d. from_word true c cs ns d (complete_word cs (10 * 0 + (c - 48)) ns (rw (e, k, s, d) at h)))
      (λ d. absurd (none_some ns (rw (e, k, s, d) at h))))))

  complete_between : (cs ns : List ℕ) → read_from between cs ≡ Some ns → Reads false cs ns
  complete_between [] ns h = at_end false ns h
  complete_between (c ∷ cs) ns h =
      by_test (is_line_end c)
      (λ e. line_end c e (complete_first cs ns (rw e at h)))
      (λ e. by_test (is_space c)
      (λ s. space c s (complete_between cs ns (rw (e, s) at h)))
      (λ s. by_test (is_digit c)
      (λ d. from_word false c cs ns d (complete_word cs (10 * 0 + (c - 48)) ns (rw (e, s, d) at h)))
      (λ d. absurd (none_some ns (rw (e, s, d) at h)))))

  complete_comment : (cs ns : List ℕ) → read_from comment cs ≡ Some ns → CommentRest cs ns
  complete_comment [] ns h = comment_here [] ns tt (at_end false ns h)
  complete_comment (c ∷ cs) ns h =
      by_test (is_line_end c)
      (λ e. comment_here (c ∷ cs) ns e (line_end c e (complete_first cs ns (rw e at h))))
      (λ e. comment_more c cs ns e (complete_comment cs ns (rw e at h)))

  complete_word : (cs : List ℕ) (n : ℕ) (ms : List ℕ) → read_from (word (capped n)) cs ≡ Some ms → WordRest n cs ms
  complete_word [] n ms h = word_here n [] [] ms tt nothing (cc)
  complete_word (c ∷ cs) n ms h =
      by_test (is_line_end c)
      (λ e.
      let p = with_some (capped n) (read_from first cs) ms (rw e at h) in
      word_here n (c ∷ cs) p.0 ms (or_left (is_line_end c) (is_space c) e) (line_end c e (complete_first cs p.0 p.1)) p.2)
      (λ e. by_test (is_space c)
      (λ s.
      let p = with_some (capped n) (read_from between cs) ms (rw (e, s) at h) in
      word_here n (c ∷ cs) p.0 ms (or_right (is_line_end c) (is_space c) s) (space c s (complete_between cs p.0 p.1)) p.2)
      (λ s. by_test (is_digit c)
      (λ d. word_more n c cs ms d (complete_word cs (10 * n + (c - 48)) ms (rw (e, s, d, capped_digit n (c - 48)) at h)))
      (λ d. absurd (none_some ms (rw (e, s, d) at h)))))

-- ---- the theorem
pub one_reading : OneReading
one_reading = record {
  reads = λ text ns h. complete_first text ns (sym (numbers_of_is text) ∙ h);
  found = λ text ns r. numbers_of_is text ∙ sound r;
  one = λ text ns ms r s. let e : ◌≡◌ {A = Option (List ℕ)} (Some ns) (Some ms) = sym (sound r) ∙ sound s in cc;
}
