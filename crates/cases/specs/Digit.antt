-- A decimal digit in one byte.
use Rattle.std.specs.Prelude.{ℕ, ◌+◌, ◌-◌, cond, ◌&&◌, List, [], ◌∷◌, ℤ, pos, negsuc, Some, None, Option, nat_le}

abbrev pub digit_read : List ℕ → Option ℤ
digit_read [] = None
digit_read (b ∷ []) = cond (nat_le 48 b && nat_le b 57) (Some (pos (b - 48))) None
digit_read (b ∷ (c ∷ cs)) = None

abbrev pub digit_row : ℤ → Option (List ℕ)
digit_row (pos n) = cond (nat_le n 9) (Some ((n + 48) ∷ [])) None
digit_row (negsuc n) = None
