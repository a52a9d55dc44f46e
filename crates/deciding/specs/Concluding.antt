-- What decide leaves of a store.
use Rattle.std.specs.Prelude.{◌≡◌, ℕ, ◌+◌, Bool, true, false, List, map, length, take, ℤ}
use Rattle.solver.specs.State.{Admits}
use Rattle.store.specs.Parts.{is_taken, meaning_of, held_of}
use Rattle.sweeping.specs.Trail.{Meets}
use Rattle.assuming.specs.Assumed.{MakesAllTrue}

-- what is held after an answer: a setting that meets the clauses and the assumptions, or what was, and
-- there is none
abbrev pub Answered : List (List ℤ) → List ℤ → List ℤ → List ℤ → Bool → Type 0
Answered cs ms h h' true = Meets cs (map is_taken h') × MakesAllTrue ms (map is_taken h')
Answered cs ms h h' false = (h' ≡ h) × ((b : List Bool) → Meets cs b → MakesAllTrue ms b → ⊥)

-- a yes holds a setting that is admitted; a no says that there is none, and keeps the one held
abbrev pub Concluded : List ℤ → ℕ → ℕ → ℕ → List ℤ → List ℤ → Bool → Type 0
Concluded s used m k ms s' true = (length s' ≡ length s) × (take k s' ≡ take k s) × Admits (meaning_of s used m k) ms (held_of s' m k)
Concluded s used m k ms s' false = (length s' ≡ length s) × (take (k + m) s' ≡ take (k + m) s) × ((b : List Bool) → Admits (meaning_of s used m k) ms b → ⊥)
