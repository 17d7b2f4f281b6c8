use Rattle.std.proofs.Common.{refl, inl}
use Rattle.calls.specs.declared.refusal.Call.TheVariants as call
use Rattle.stream.proofs.Refusals.{passed_up, residual}
use Rattle.skip.proofs.HeaderSkip.start_of.Goals as goal

pub returns-in_err-end-in-End-clause-below : goal.returns-in_err-end-in-End-clause-below
returns-in_err-end-in-End-clause-below g c =
    rw (residual c.from_residual.result _ c.from_residual.ensures.1) (passed_up call.Seek call.Seek _ _ _ _ (inl refl) c.seek.ensures.leaves.source c.in_err-end-in-End.ensures.cases)
