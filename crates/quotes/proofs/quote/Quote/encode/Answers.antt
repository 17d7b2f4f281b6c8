use Rattle.std.proofs.Common.{rules, arith, ◌≡◌, length}
use Rattle.std.proofs.lemmas.Grind.{common_steps}
use Rattle.quotes.proofs.quote.Quote.encode.Goals as goal

-- the bytes are the value's row, and by the law `back` that row has the kind's width
pub copy_from_slice-requires : goal.copy_from_slice-requires
copy_from_slice-requires g c =
    let wide : length c.as_slice.result.now ≡ g.Self.Quote.WIDTH = (g.met.Self.Quote.back c.args.value c.as_slice.result.now (search rules)).1 in
    grind (arith, common_steps)
