-- The order of a list of entries.
use Rattle.std.specs.Prelude.{ℕ, ◌+◌, ◌<◌, ◌≤◌, Bool, false, ◌&&◌, ◌||◌, List, [], ◌∷◌, nat_le}
use Rattle.planner.specs.declared.entry.Entry.{Entry}

-- cost A rises from a least one, and cost B falls from below a bound
abbrev pub Ordered : ℕ → ℕ → List Entry → Type 0
Ordered low high [] = Unit {0}
Ordered low high (e ∷ es) = (low ≤ e.a) × (e.b < high) × Ordered (e.a + 1) e.b es

-- one more than the last cost A, or the least one where nothing is listed
abbrev pub past_a : ℕ → List Entry → ℕ
past_a low [] = low
past_a low (e ∷ es) = past_a (e.a + 1) es

-- the last cost B, or the bound where nothing is listed
abbrev pub last_b : ℕ → List Entry → ℕ
last_b high [] = high
last_b high (e ∷ es) = last_b e.b es

-- whether a listed point covers a point
abbrev pub covered : List Entry → ℕ → ℕ → Bool
covered [] a b = false
covered (e ∷ es) a b = (nat_le e.a a && nat_le e.b b) || covered es a b

abbrev pub All : (Entry → Type 0) → List Entry → Type 0
All P [] = Unit {0}
All P (e ∷ es) = P e × All P es
