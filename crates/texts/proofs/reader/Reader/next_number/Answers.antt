-- From the machine's steps to the answer: no word, a word that is no number, or a number and what is left.
use Rattle.std.proofs.Common.{drop, refl}
use Rattle.std.proofs.Math.Seq.{drop-length}
use Rattle.std.proofs.lemmas.List.{take_rest}
use Rattle.std.proofs.lemmas.Result.{err_from_is_err_and}
use Rattle.texts.proofs.Reading.{none_left, one_read, none_read}
use Rattle.texts.proofs.reader.Reader.next_number.Goals as goal

pub returns-then-start-rest : goal.returns-then-start-rest
returns-then-start-rest c = (
  (none_left c.args.self.now.text.now c.args.self.now.at c.word_start-start.result (simp take_rest at c.word_start-start.ensures.same) (simp take_rest at c.if-start-rest.true)).0,
  drop-length c.args.self.now.text.now,
)

pub returns-in_err-number : goal.returns-in_err-number
returns-in_err-number c =
    let p = err_from_is_err_and c.from_residual.result c.from_residual.ensures.1 in
    let q = c.in_err-number.ensures in
    rw (p.1, p.2, q.0) (none_read c.args.self.now.text.now c.args.self.now.at c.word_start-start.result (simp take_rest at c.word_start-start.ensures.same) (simp take_rest at q.1), refl {a = drop c.args.self.now.at c.args.self.now.text.now})

pub returns : goal.returns
returns c =
    let word = simp take_rest at c.in_ok-number.ensures in
    one_read c.args.self.now.text.now c.args.self.now.at c.word_start-start.result (simp take_rest at c.word_start-start.ensures.same) c.in_ok-number.len c.in_ok-number.number word.0 word.1 word.2
