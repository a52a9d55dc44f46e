-- A word in hexadecimal digits, as many as are asked for.
use Rattle.std.specs.Prelude.{ℕ, zero, suc, ◌/◌, ◌%◌, false, List, [], ◌∷◌, ◌++◌}
use Rattle.std.specs.Fmt.{digit_glyph}

abbrev pub hex : ℕ → ℕ → List ℕ
hex zero w = []
hex (suc k) w = hex k (w / 16) ++ (digit_glyph false (w % 16) ∷ [])
