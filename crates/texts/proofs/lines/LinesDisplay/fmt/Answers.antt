-- Each turn writes one line and its end; where nothing is left, all lines are written.
use Rattle.std.proofs.Common.{◌≡◌, true, length, ap, refl, ◌∙◌, arith}
use Rattle.std.specs.Slice.Iter.{chunks_rest}
use Rattle.texts.proofs.Writing.{laid_none, laid_more, laid_all}
use Rattle.texts.proofs.lines.LinesDisplay.fmt.Goals as goal

pub loop-numbers-init : goal.loop-numbers-init
loop-numbers-init g c =
    let same = c.into_iter-numbers-iterator.ensures.into_iter_gives in
    let size : c.into_iter-numbers-iterator.result.size ≡ 16 = ap (λ s. s.size) same ∙ c.chunks-numbers-items.ensures.size in
    record {
      can = omega arith;
      ends = tt;
      size = size;
      laid = laid_none g.W.Write.write_str_gives c.args.f.now 16 c.args.self.now.numbers.now c.into_iter-numbers-iterator.result.rest.now (ap chunks_rest same ∙ c.chunks-numbers-items.ensures.rest);
    }

pub loop-numbers-preserved : goal.loop-numbers-preserved
loop-numbers-preserved g c =
    let steps = c.in-Some.ensures.steps in
    let so = c.loop-numbers.invariant in
    let parts = steps.1 in
    let least = rw so.size at parts.1 in
    let size = steps.0 ∙ so.size in
    record {
      can = omega (arith, size);
      ends = tt;
      size = size;
      laid = laid_more g.W.Write.write_str_gives c.args.f.now 16 c.args.self.now.numbers.now c.loop-numbers.numbers-iterator.rest.now c.in-Some.numbers.now c.next.new.self.rest.now c.loop-numbers.f c.writeln.new.self (omega arith) parts.2 parts.0 least so.laid (λ plain. c.in_ok-writeln.ensures.writes plain (refl {a = true}));
    }

pub returns-clause-writes : goal.returns-clause-writes
returns-clause-writes g c =
    let none : length c.loop-numbers.numbers-iterator.rest.now ≡ 0 = c.in-None.ensures.steps.1.0 in
    λ plain _. laid_all g.W.Write.write_str_gives c.args.f.now 16 c.args.self.now.numbers.now c.loop-numbers.numbers-iterator.rest.now c.loop-numbers.f none c.loop-numbers.invariant.laid plain
