-- An entry by its two numbers: kind 0 lets at most n bytes be moved, where n = 0 is not now; kind 1 is not now; kind 2 says by the call
-- what is bad; any other is a fault with code n.
use Rattle.std.proofs.Common.{◌≡◌, ℕ, cond, ◌&&◌, List, ◌∷◌, Ok, Err, ◌==◌, nat_lt, arith}
use Rattle.std.proofs.lemmas.Bool.Decides.{nat_tests}
use Rattle.calls.specs.declared.refusal.Origin.{Origin}
use Rattle.calls.specs.declared.refusal.Refusal.TheVariants.{NotNow, Fault}
use Rattle.script.specs.declared.Entry.{Entry}
use Rattle.script.specs.Script.{entry_of, second, judged, grants}

pub judged_by_numbers : (kind n : ℕ) (o : Origin) →
    judged (entry_of kind n) o ≡ cond (kind == 0) (cond (n == 0) (Err (NotNow o)) (Ok n)) (cond (kind == 1) (Err (NotNow o)) (cond (kind == 2) (Err (second o n o.call)) (Err (Fault o n))))
judged_by_numbers kind n o = grind (arith, nat_tests)

pub grants_by_numbers : (kind n : ℕ) (es : List Entry) → grants (entry_of kind n ∷ es) ≡ (kind == 0 && (nat_lt 0 n && grants es))
grants_by_numbers kind n es = grind (arith, nat_tests)
