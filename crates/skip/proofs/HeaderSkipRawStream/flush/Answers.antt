use Rattle.std.proofs.Common.{refl, inl}
use Rattle.calls.specs.declared.refusal.Call.TheVariants as call
use Rattle.stream.proofs.Refusals.{passed_up}
use Rattle.skip.proofs.OnSkip.{leaves_up, unsteady_up, says_up, flush_why, flush_skip}
use Rattle.skip.proofs.HeaderSkipRawStream.flush.Goals as goal

pub returns-clause-leaves : goal.returns-clause-leaves
returns-clause-leaves g c =
    let s = c.args.self.now in
    let t = c.flush.new.self in
    let l = c.flush.ensures.leaves in
    leaves_up call.Flush (g.S.RawStream.view s.raw) (g.S.RawStream.view t) (g.S.RawStream.pile s.raw) (g.S.RawStream.pile t) s.head s.head s.pos c.map_err.result refl l.piled (passed_up call.Flush call.Flush _ _ _ _ (inl refl) l.source c.map_err.ensures.cases)

pub returns-clause-rule : goal.returns-clause-rule
returns-clause-rule g c =
    let s = c.args.self.now in
    flush_skip (g.S.RawStream.view s.raw) (g.S.RawStream.view c.flush.new.self) s.head s.pos _ _ c.flush.ensures.rule c.map_err.ensures.cases

pub returns-clause-says : goal.returns-clause-says
returns-clause-says g c =
    let s = c.args.self.now in
    let a = g.S.RawStream.view s.raw in
    let why = unsteady_up ⊥ ⊥ a c.flush.result c.map_err.result (λ x. x) (λ x. x) (flush_why a (g.S.RawStream.view c.flush.new.self) _ c.flush.ensures.rule) c.map_err.ensures.cases in
    says_up call.Flush a s.pos _ c.map_err.result why (passed_up call.Flush call.Flush _ _ _ _ (inl refl) c.flush.ensures.leaves.source c.map_err.ensures.cases)
