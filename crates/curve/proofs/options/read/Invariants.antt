use Rattle.std.specs.Iterator.Adapters.{skip_source}
use Rattle.std.specs.Vec.Iter.{into_iter_len}
use Rattle.curve.proofs.options.read.Given as goal

-- the arguments that are left
abbrev pub decreases-loop-word : goal.decreases-loop-word
decreases-loop-word l = into_iter_len (skip_source l.args)
