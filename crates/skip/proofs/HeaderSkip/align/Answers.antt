use Rattle.std.proofs.Common.{refl, inl}
use Rattle.calls.specs.declared.refusal.Call.TheVariants as call
use Rattle.stream.proofs.Refusals.{passed_up}
use Rattle.skip.proofs.HeaderSkip.align.Goals as goal

pub returns-clause-below : goal.returns-clause-below
returns-clause-below g c = passed_up call.Seek call.Seek _ _ _ _ (inl refl) c.seek.ensures.leaves.source c.map_err.ensures.cases
