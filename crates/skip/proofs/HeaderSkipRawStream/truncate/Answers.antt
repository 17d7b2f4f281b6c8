use Rattle.std.proofs.Common.{◌+◌, ◌-◌, Some, sym, refl, ◌∙◌, arith, w64, to_z}
use Rattle.std.proofs.lemmas.Int.{to_z_pos}
use Rattle.calls.specs.declared.refusal.Call.TheVariants as call
use Rattle.calls.specs.Places.{size_of}
use Rattle.stream.specs.Stream.{Outside}
use Rattle.stream.proofs.Streams.{within_is, within_at, in_range}
use Rattle.skip.proofs.OnSkip.{past_head, leaves_err, says_err, cut_why, cut_skip}
use Rattle.skip.proofs.HeaderSkipRawStream.truncate.Goals as goal

pub returns-in_err-map_err-clause-leaves : goal.returns-in_err-map_err-clause-leaves
returns-in_err-map_err-clause-leaves g c =
    let s = c.args.self.now in
    let t = c.truncate.new.self in
    let l = c.truncate.ensures.leaves in
    leaves_err call.Truncate (g.S.RawStream.view s.raw) (g.S.RawStream.view t) (g.S.RawStream.pile s.raw) (g.S.RawStream.pile t) s.head s.head s.pos c.truncate.result c.from_residual-in_err-map_err.result c.in_err-map_err.field-0.0 refl l.piled l.source c.in_err-map_err.ensures.cases c.from_residual-in_err-map_err.ensures.1

pub returns-in_err-map_err-clause-says : goal.returns-in_err-map_err-clause-says
returns-in_err-map_err-clause-says g c =
    let s = c.args.self.now in
    let a = g.S.RawStream.view s.raw in
    let t = c.truncate.new.self in
    let z = size_of s.pos c.args.size in
    let i = within_is (a.limit - s.head) z c.in_ok-v.v (within_at c.limit.result (a.limit - s.head) z z (Some c.in_ok-v.v) c.limit.ensures refl (sym c.in_ok-v.ensures.ok_part ∙ c.size_of_cut.ensures)) in
    let n = s.head + c.in_ok-v.v in
    let fits = past_head s.head c.in_ok-v.v a.limit s.in_skip.head_fits i.1 in
    let there : Outside a (to_z w64 n) → ⊥ = rw (to_z_pos w64 n (omega (arith, (g.met.S.RawStream.sound s.raw).capped))) (in_range a n fits) in
    says_err call.Truncate (Outside a (to_z w64 n)) ⊥ a (g.S.RawStream.view t) (g.S.RawStream.pile t) s.pos c.truncate.result c.from_residual-in_err-map_err.result c.in_err-map_err.field-0.0 there (λ x. x)
    (cut_why a (g.S.RawStream.view t) _ _ c.truncate.ensures.rule) c.truncate.ensures.leaves.source c.in_err-map_err.ensures.cases c.from_residual-in_err-map_err.ensures.1

pub returns-clause-rule : goal.returns-clause-rule
returns-clause-rule g c =
    let s = c.args.self.now in
    let a = g.S.RawStream.view s.raw in
    let z = size_of s.pos c.args.size in
    let i = within_is (a.limit - s.head) z c.in_ok-v.v (within_at c.limit.result (a.limit - s.head) z z (Some c.in_ok-v.v) c.limit.ensures refl (sym c.in_ok-v.ensures.ok_part ∙ c.size_of_cut.ensures)) in
    let n = s.head + c.in_ok-v.v in
    let fits = past_head s.head c.in_ok-v.v a.limit s.in_skip.head_fits i.1 in
    let w = to_z_pos w64 n (omega (arith, (g.met.S.RawStream.sound s.raw).capped)) in
    cut_skip a (g.S.RawStream.view c.truncate.new.self) s.head s.pos c.in_ok-v.v _ z (to_z w64 n) c.truncate.result i.0 w i.1 c.truncate.ensures.rule c.in_ok-map_err.ensures.cases
