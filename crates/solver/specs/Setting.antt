-- Settings of any number of choices, counted from 1, and the clauses that they meet.
use Rattle.std.specs.Prelude.{ℕ, suc, ◌-◌, Bool, true, false, not, ◌&&◌, ◌||◌, List, [], ◌∷◌, ℤ, pos, negsuc, slice_index_or}
use Rattle.design.specs.Mark.{all_are_named}

-- whether a mark is true of a setting, which tells of each choice whether it is taken
abbrev pub truth : (ℕ → Bool) → ℤ → Bool
truth f (pos n) = f n
truth f (negsuc k) = not (f (suc k))

-- a clause is a list of marks, met where at least one of them is true; none meets one without marks
unfoldable pub meets : (ℕ → Bool) → List ℤ → Bool
meets f [] = false
meets f (m ∷ ms) = truth f m || meets f ms

unfoldable pub meets_all : (ℕ → Bool) → List (List ℤ) → Bool
meets_all f [] = true
meets_all f (c ∷ cs) = meets f c && meets_all f cs

-- assumptions are marks that are all to be true
unfoldable pub all_true : (ℕ → Bool) → List ℤ → Bool
all_true f [] = true
all_true f (m ∷ ms) = truth f m && all_true f ms

-- each clause names choices from 1 to n only
unfoldable pub clauses_named : ℕ → List (List ℤ) → Bool
clauses_named n [] = true
clauses_named n (c ∷ cs) = all_are_named n c && clauses_named n cs

-- a list of values as a setting: choice n is its element n - 1, and what lies beyond it is left
abbrev pub setting : List Bool → ℕ → Bool
setting b k = slice_index_or b (k - 1) false
