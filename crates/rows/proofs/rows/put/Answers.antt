use Rattle.std.proofs.Common.{ℕ, ◌<◌, length, Some, option_map, ap, sym, ◌∙◌, subst, arith}
use Rattle.stream.proofs.Refusals.{residual}
use Rattle.rows.specs.Rows.{PutRow}
use Rattle.rows.proofs.OnRows.{writes_row, put_unsought, put_laid}
use Rattle.rows.proofs.rows.put.Goals as goal

-- whatever value the row is of
pub lay-requires : goal.lay-requires
lay-requires g c =
    let is = sym c.row_of.ensures ∙ ap (option_map g.Q.Row.AsSlice.items) c.in_ok-row.ensures.ok_part in
    let size = (g.met.Q.Quote.back _ (g.Q.Row.AsSlice.items c.in_ok-row.row) is).1 in
    let same = ap length c.as_slice.ensures in
    omega (arith, g.met.Q.Quote.wide.0)

pub returns-in_err-seek-clause-rule : goal.returns-in_err-seek-clause-rule
returns-in_err-seek-clause-rule g c =
    let row = g.Q.Row.AsSlice.items c.in_ok-row.row in
    let is = writes_row g.Q.Quote.writes g.Q.Row.AsSlice.items c.args.value c.row_of.result c.in_ok-row.row c.ranges.value c.row_of.ensures c.in_ok-row.ensures.ok_part in
    let size = (g.met.Q.Quote.back c.args.value row is).1 in
    let some : 0 < length row = omega (arith, g.met.Q.Quote.wide.0) in
    rw (residual c.from_residual-in_err-seek.result _ c.from_residual-in_err-seek.ensures.1, sym c.start.ensures.place)
    (put_unsought (g.Q.Quote.writes c.args.value) row c.start.result (g.S.RawStream.view c.args.s.now) (g.S.RawStream.view c.seek.new.self) c.in_err-seek.field-0.0 is some c.start.ensures.small c.in_err-seek.ensures.rule)

pub returns-clause-rule : goal.returns-clause-rule
returns-clause-rule g c =
    let is = writes_row g.Q.Quote.writes g.Q.Row.AsSlice.items c.args.value c.row_of.result c.in_ok-row.row c.ranges.value c.row_of.ensures c.in_ok-row.ensures.ok_part ∙ ap Some (sym c.as_slice.ensures) in
    let s = c.args.s.now in
    let u = g.S.RawStream.view c.lay.new.s in
    subst (λ (p : ℕ). PutRow (g.Q.Quote.writes c.args.value) p (g.S.RawStream.view s) u c.lay.result) c.start.ensures.place
    (put_laid (g.Q.Quote.writes c.args.value) c.as_slice.result.now c.start.result (g.S.RawStream.view s) (g.S.RawStream.view c.seek.new.self) u _ c.lay.result is (g.met.S.RawStream.sound s) c.start.ensures.small c.in_ok-seek.ensures.rule c.lay.ensures.rule)
