-- What is read is the numbers of the line, and the verifier's answer is what the talk goes on with.
use Rattle.std.proofs.Common.{[], ◌∷◌, refl}
use Rattle.programs.proofs.HeardLines.{heard_read, heard_unread, read_fits, front_is}
use Rattle.programs.proofs.hearing.hear.Goals as goal

pub returns-in-Ok : goal.returns-in-Ok
returns-in-Ok c =
    let (ns, e, n, within, filled) = c.in-Ok.ensures in
    record {
      talk = heard_read _ _ ns _ _ e (front_is _ _ ns _ filled n) c.read.ensures;
      fits = read_fits _ _ c.read.result c.read.ensures;
    }

pub returns-in-Err : goal.returns-in-Err
returns-in-Err c =
    record {
      talk =
          heard_unread _ c.args.line.now (0 ∷ 0 ∷ 0 ∷ 0 ∷ 0 ∷ []) c.read_into.new.room c.in-Err.field-0 _
          c.in-Err.ensures refl c.doubt.ensures;
      fits = tt;
    }
