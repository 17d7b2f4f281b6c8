-- A skip of a stream in order is in order.
use Rattle.std.proofs.Common.{ℕ, ◌+◌, List, drop, sym, ap, ◌∙◌, arith, length-drop}
use Rattle.std.proofs.lemmas.List.{get_or-drop, drop-drop}
use Rattle.stream.specs.Stream.{Stream, Pile, Based, Sound, At}
use Rattle.skip.specs.Skip.{skipped, skipped_pile, InSkip}

from_drop : (h : ℕ) (xs : List ℕ) (p b : ℕ) → At (drop h xs) p b → At xs (h + p) b
from_drop h xs p b a = let l = length-drop h xs in let n = a.0 in (omega arith, sym (get_or-drop h xs p 0) ∙ a.1)

pub sound_skip : (a : Stream) (h p : ℕ) → Sound a → InSkip a h p → Sound (skipped a h p)
sound_skip a h p s ok =
    let l = length-drop h a.shown in
    record { capped = omega arith; placed = ok.place_fits; sized = omega arith; showing = λ x y i. s.showing (h + x) y (from_drop h a.shown x y i); storing = λ x y i. s.storing (h + x) y (from_drop h a.stored x y i) }

pub based_skip : (a : Stream) (u : Pile) (h p : ℕ) → Based u a → Based (skipped_pile a u h) (skipped a h p)
based_skip a u h p b = ap (drop h) b ∙ drop-drop h u.headers u.bottom
