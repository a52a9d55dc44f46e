-- Prices by mark.
use Rattle.std.specs.Prelude.{◌≡◌, ℕ, ◌+◌, ◌<◌, max, cond, List, [], ◌∷◌, map, ℤ, pos, negsuc, slice_index}
use Rattle.design.specs.Mark.{same_mark}
use Rattle.design.specs.declared.price.Price.{Price}

unfoldable pub marks_in : List Price → List ℤ
marks_in ps = map (λ p. p.mark) ps

-- the largest price of a mark, 0 where it has none
unfoldable pub price_at : List Price → ℤ → ℕ
price_at [] m = 0
price_at (p ∷ ps) m = max (cond (same_mark p.mark m) p.place 0) (price_at ps m)

-- the marks of bit k: to take its choice, and to leave it
abbrev pub take_mark : ℕ → ℤ
take_mark k = pos (k + 1)

abbrev pub leave_mark : ℕ → ℤ
leave_mark k = negsuc k

-- a table by bits has the prices of marks
abbrev pub Tabled : (ℕ → ℤ) → List ℕ → List Price → Type 0
Tabled f table ps = (k : ℕ) → k < 64 → slice_index table k ≡ price_at ps (f k)

-- a mark's price as one of taking its choice, and one of leaving it
abbrev pub take_side : ℤ → ℕ → ℕ
take_side (pos c) p = p
take_side (negsuc k) p = 0

abbrev pub leave_side : ℤ → ℕ → ℕ
leave_side (pos c) p = 0
leave_side (negsuc k) p = p
