-- Prices and costs.
use Rattle.std.specs.Prelude.{ℕ, Bool, false, cond, ◌||◌, List, [], ◌∷◌, ℤ}
use Rattle.scales.specs.Laws.{Places}
use Rattle.design.specs.Mark.{holds, same_mark}
use Rattle.design.specs.declared.price.Price.{Price}

-- what was joined so far, with one price more where its mark passes a test
abbrev pub with_price : Places → (ℤ → Bool) → ℕ → Price → ℕ
with_price s t c p = cond (t p.mark) (s.join c p.place) c

-- the prices whose marks pass a test, joined to a place in order of entry
unfoldable pub total_from : Places → (ℤ → Bool) → ℕ → List Price → ℕ
total_from s t c [] = c
total_from s t c (p ∷ ps) = total_from s t (with_price s t c p) ps

-- and joined from nothing, which is at place 0
unfoldable pub total : Places → (ℤ → Bool) → List Price → ℕ
total s t ps = total_from s t 0 ps

-- the cost of a setting joins the prices whose marks are true
abbrev pub cost : Places → List Price → ℕ → ℕ
cost s ps w = total s (holds w) ps

-- whether a mark has a price
unfoldable pub priced : List Price → ℤ → Bool
priced [] m = false
priced (p ∷ ps) m = same_mark p.mark m || priced ps m
