use Rattle.std.proofs.Common.{◌-◌, length}
use Rattle.stream.specs.Steps.{Got}
use Rattle.rows.proofs.rows.fill.Given as goal

abbrev pub invariant-loop-n : goal.invariant-loop-n
invariant-loop-n g l =
    Got (g.S.RawStream.view l.initial.s) (g.S.RawStream.view l.s) l.initial.row l.row l.n

abbrev pub decreases-loop-n : goal.decreases-loop-n
decreases-loop-n g l = length l.initial.row - l.n
