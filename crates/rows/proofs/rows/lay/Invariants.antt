use Rattle.std.proofs.Common.{◌+◌, ◌-◌, ◌<◌, ◌≤◌, length, take}
use Rattle.stream.specs.Steps.{Put}
use Rattle.rows.proofs.rows.lay.Given as goal

abbrev pub invariant-loop-n : goal.invariant-loop-n
invariant-loop-n g l =
    Put (g.S.RawStream.view l.initial.s) (g.S.RawStream.view l.s) (take l.n l.row) × (l.n ≤ length l.row)
    × (0 < l.n → (g.S.RawStream.view l.initial.s).position + length l.row ≤ (g.S.RawStream.view l.initial.s).limit)

abbrev pub decreases-loop-n : goal.decreases-loop-n
decreases-loop-n g l = length l.row - l.n
