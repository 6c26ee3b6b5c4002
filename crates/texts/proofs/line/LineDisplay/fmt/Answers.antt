-- Each turn writes a gap and a number, and so the line of one number more.
-- At the end it is the line of all.
use Rattle.std.proofs.Common.{◌≡◌, ℕ, ◌+◌, true, List, [], ◌∷◌, ◌++◌, get_or, take, decimal, sym, refl, ap, ◌∙◌}
use lib.Utf8.{encode}
use Rattle.std.proofs.Output.{writes_in_calls_nil, has_written_append, has_written_of_eq}
use Rattle.std.proofs.lemmas.List.{take_all}
use Rattle.texts.specs.Texts.{line_of}
use Rattle.texts.proofs.Writing.{line_more, gap_more}
use Rattle.texts.proofs.line.LineDisplay.fmt.Goals as goal

pub loop-number-init : goal.loop-number-init
unfolding line_of
loop-number-init g c = (([], (refl, refl)), refl, λ plain. record { wrote = writes_in_calls_nil g.W.Write.write_str_gives c.args.f.now.writer; plain = plain })

pub loop-number-preserved : goal.loop-number-preserved
unfolding encode
loop-number-preserved g c =
    let ns = c.args.self.now.numbers.now in
    let i = c.loop-number.number-index in
    let grown : line_of (take i ns) ++ (c.loop-number.gap.now ++ decimal (get_or ns i 0)) ≡ line_of (take (i + 1) ns) = ap (λ (l : List ℕ). line_of (take i ns) ++ (l ++ decimal (get_or ns i 0))) c.loop-number.invariant.1 ∙ sym (line_more ns i c.loop-number-test.true) in (
      (32 ∷ [], (refl, refl)),
      sym (gap_more ns i c.loop-number-test.true),
      λ plain.
          let so = c.loop-number.invariant.2 plain in
          has_written_of_eq g.W.Write.write_str_gives c.args.f.now (line_of (take i ns) ++ (c.loop-number.gap.now ++ decimal (get_or ns i 0))) (line_of (take (i + 1) ns)) c.write.new.self grown (has_written_append g.W.Write.write_str_gives c.args.f.now (line_of (take i ns)) c.loop-number.f (c.loop-number.gap.now ++ decimal (get_or ns i 0)) c.write.new.self so (c.in_ok-write.ensures.writes so.plain (refl {a = true}))),
    )

pub returns-clause-writes : goal.returns-clause-writes
returns-clause-writes g c =
    let ns = c.args.self.now.numbers.now in
    λ plain _. has_written_of_eq g.W.Write.write_str_gives c.args.f.now (line_of (take c.loop-number.number-index ns)) (line_of ns) c.loop-number.f (ap line_of (take_all c.loop-number.number-index ns c.loop-number-test.false)) (c.loop-number.invariant.2 plain)
