-- One number more: it stands at its place if there is room, and the words beyond it are as they were.
use Rattle.std.proofs.Common.{◌≡◌, ◌<◌, length, set, arith}
use Rattle.texts.specs.Left.{left}
use Rattle.texts.proofs.Reading.{filled_more}
use Rattle.texts.proofs.whole.read_into.Goals as goal
use Rattle.texts.proofs.whole.read_into.Goals.{then-count-room, else-count-room}

pub loop-number-preserved : goal.loop-number-preserved
loop-number-preserved c =
    let put : c.loop-number.count < length c.args.room.now → c.if-count-room.room ≡ set c.loop-number.room c.loop-number.count c.in_ok-number.number =
    λ h. elim c.if-count-room.branch [ then-count-room w ↦ w.room-is | else-count-room w ↦ absurd (omega arith) ] in
    let steps = rw c.in_ok-number.was at c.in-Some.ensures.steps in
    record {
      can = tt;
      ends = tt;
      filled = filled_more c.args.text.now (left c.loop-number.number-iterator) c.args.room.now c.loop-number.room c.loop-number.count c.in_ok-number.number (left c.next.new.self) c.if-count-room.room c.loop-number.invariant.filled steps.0 steps.1 put;
    }
