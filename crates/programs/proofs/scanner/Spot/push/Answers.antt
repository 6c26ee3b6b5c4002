-- A byte in no word begins one or none; in a word it goes on with it, or ends it and makes its number known.
use Rattle.std.proofs.Common.{◌≡◌, ℕ, ◌+◌, ◌-◌, ◌*◌, Ok, Option, sym, ap, subst, ◌∙◌}
use Rattle.texts.specs.Texts.{capped}
use Rattle.texts.specs.Machine.{word, read_from}
use Rattle.programs.specs.Scanning.{Pushed}
use Rattle.programs.specs.declared.scanner.Spot.TheVariants.{Gap}
use Rattle.programs.proofs.ScanSteps.{between_digit, between_other, word_digit, word_other, word_passed}
use Rattle.programs.proofs.scanner.Spot.push.Goals as goal
use Rattle.programs.proofs.scanner.Spot.push.Goals.{in-Gap, in-Word}

pub returns-in-Some : goal.returns-in-Some
returns-in-Some c =
    let fits : Option ℕ → Type 0 = λ before. Pushed c.args.self c.args.byte (Gap c.in-Some.after) (Ok before) in
    elim c.match-self.branch [
      | in-Gap w ↦ subst (λ p. fits p.1) (sym w.gap-is) (rw w.in-Gap.is (rw w.gap-is at c.in-Some.ensures))
      | in-Word w ↦
          subst (λ p. fits p.1) (sym w.gap-is)
          (rw w.in-Word.is (word_passed w.in-Word.number c.args.byte c.in-Some.after (rw w.gap-is at c.in-Some.ensures)))
    ]

pub returns-in-None : goal.returns-in-None
returns-in-None c =
    let d = sym c.is_digit.ensures ∙ c.if-is_digit.true in
    let appended : (n : ℕ) → c.unwrap_or.result ≡ n → capped (10 * n + (c.args.byte - 48)) ≡ c.append_digit.result =
    λ n e. ap (λ (m : ℕ). capped (10 * m + (c.args.byte - 48))) (sym e) ∙ sym c.append_digit.ensures in
    elim c.match-self.branch [
      | in-Gap w ↦ λ rest.
          let p = rw w.gap-is at c.in-None.ensures in
          rw w.in-Gap.is
          (p.1 rest ∙ between_digit _ rest p.0 d
          ∙ ap (λ (n : ℕ). read_from (word n) rest) (appended 0 (rw w.gap-is at c.unwrap_or.ensures)))
      | in-Word w ↦ λ rest.
          let p = rw w.gap-is at c.in-None.ensures in
          rw w.in-Word.is
          (word_digit _ rest p.0 w.in-Word.number d
          ∙ ap (λ (n : ℕ). read_from (word n) rest) (appended w.in-Word.number (rw w.gap-is at c.unwrap_or.ensures)))
    ]

pub returns-in-None-2 : goal.returns-in-None-2
returns-in-None-2 c =
    let d = sym c.is_digit.ensures ∙ c.if-is_digit.false in
    elim c.match-self.branch [
      | in-Gap w ↦ λ rest.
          let p = rw w.gap-is at c.in-None-2.ensures in rw w.in-Gap.is (p.1 rest ∙ between_other _ rest p.0 d)
      | in-Word w ↦ λ rest.
          let p = rw w.gap-is at c.in-None-2.ensures in rw w.in-Word.is (word_other _ rest p.0 w.in-Word.number d)
    ]
