-- The choices that marks take, and those that they leave, as words.
use Rattle.std.specs.Prelude.{ℕ, ◌^◌, List, [], ◌∷◌, ℤ, pos, negsuc, bit_or}
use Rattle.design.specs.Mark.{bit_of}

abbrev pub up_bit : ℤ → ℕ
up_bit (pos c) = 2 ^ bit_of (pos c)
up_bit (negsuc k) = 0

abbrev pub down_bit : ℤ → ℕ
down_bit (pos c) = 0
down_bit (negsuc k) = 2 ^ bit_of (negsuc k)

unfoldable pub ups_from : ℕ → List ℤ → ℕ
ups_from u [] = u
ups_from u (m ∷ ms) = ups_from (bit_or u (up_bit m)) ms

unfoldable pub downs_from : ℕ → List ℤ → ℕ
downs_from u [] = u
downs_from u (m ∷ ms) = downs_from (bit_or u (down_bit m)) ms

unfoldable pub ups_of : List ℤ → ℕ
ups_of ms = ups_from 0 ms

unfoldable pub downs_of : List ℤ → ℕ
downs_of ms = downs_from 0 ms
