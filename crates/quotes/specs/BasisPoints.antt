-- Basis points: a row of two bytes, low byte first, in two's complement.
use Rattle.std.specs.Prelude.{ℕ, ◌+◌, ◌-◌, ◌*◌, ◌/◌, ◌%◌, Bool, cond, List, [], ◌∷◌, ℤ, pos, negsuc, Some, None, Option, nat_lt}

-- the number that 16 bits stand for
abbrev pub twos : ℕ → ℤ
twos n = cond (nat_lt n 32768) (pos n) (negsuc (65535 - n))

-- the 16 bits of a number
abbrev pub bits_of : ℤ → ℕ
bits_of (pos n) = n
bits_of (negsuc n) = 65535 - n

-- from -32768 to 32767
abbrev pub in16 : ℤ → Bool
in16 (pos n) = nat_lt n 32768
in16 (negsuc n) = nat_lt n 32768

-- the value of a row, if it is one: other lengths are none
abbrev pub bps_read : List ℕ → Option ℤ
bps_read [] = None
bps_read (lo ∷ []) = None
bps_read (lo ∷ (hi ∷ [])) = Some (twos (lo + 256 * hi))
bps_read (lo ∷ (hi ∷ (x ∷ xs))) = None

-- the row that a value writes, if it can be written
abbrev pub bps_row : ℤ → Option (List ℕ)
bps_row z = cond (in16 z) (Some (bits_of z % 256 ∷ (bits_of z / 256 ∷ []))) None
