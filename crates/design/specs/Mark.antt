-- Marks. A mark n says that choice n is taken, and -n that it is left; choices count from 1.
-- A setting is a word in which choice n is bit n - 1.
use Rattle.std.specs.Prelude.{ℕ, ◌-◌, Bool, true, false, not, ◌&&◌, List, [], ◌∷◌, ℤ, pos, negsuc, ◌==◌, nat_le, nat_lt}
use Rattle.bits.specs.Bit.{bit}

-- the mark names one of the choices 1 to n (negsuc k is -(k + 1))
abbrev pub named : ℕ → ℤ → Bool
named n (pos c) = nat_lt 0 c && nat_le c n
named n (negsuc k) = nat_lt k n

unfoldable pub all_are_named : ℕ → List ℤ → Bool
all_are_named n [] = true
all_are_named n (m ∷ ms) = named n m && all_are_named n ms

-- the bit of a mark's choice: choices count from one, bits from zero
abbrev pub bit_of : ℤ → ℕ
bit_of (pos c) = c - 1
bit_of (negsuc k) = k

-- whether a mark is true of a setting
abbrev pub holds : ℕ → ℤ → Bool
holds w (pos c) = bit w (bit_of (pos c))
holds w (negsuc k) = not (bit w (bit_of (negsuc k)))

abbrev pub same_mark : ℤ → ℤ → Bool
same_mark (pos c) (pos d) = c == d
same_mark (pos c) (negsuc k) = false
same_mark (negsuc k) (pos c) = false
same_mark (negsuc j) (negsuc k) = j == k
