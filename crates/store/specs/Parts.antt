-- The parts of a store of M choices and clause room K: from 0 the clauses, of which the first `used`
-- numbers are taken; from K the held setting; from K + M the trail; from K + 2M the values; from
-- K + 3M spare numbers.
use Rattle.std.specs.Prelude.{◌≡◌, ℕ, zero, suc, ◌+◌, ◌*◌, ◌≤◌, Bool, true, false, List, ◌++◌, map, length, take, drop, ℤ, pos, negsuc}
use Rattle.solver.specs.Setting.{clauses_named}
use Rattle.solver.specs.State.{Solving}
use Rattle.store.specs.Coding.{clauses_in, encode_all}

-- a number above 0 says that its choice is taken
abbrev pub is_taken : ℤ → Bool
is_taken (pos zero) = false
is_taken (pos (suc n)) = true
is_taken (negsuc n) = false

abbrev pub trail_from : ℕ → ℕ → ℕ
trail_from m k = k + m

abbrev pub values_from : ℕ → ℕ → ℕ
values_from m k = k + 2 * m

-- the numbers of a part
unfoldable pub part : List ℤ → ℕ → ℕ → List ℤ
part s from long = take long (drop from s)

unfoldable pub clauses_of : List ℤ → ℕ → List (List ℤ)
clauses_of s used = clauses_in (take used s)

abbrev pub held_of : List ℤ → ℕ → ℕ → List Bool
held_of s m k = map is_taken (part s k m)

abbrev pub values_of : List ℤ → ℕ → ℕ → List ℤ
values_of s m k = part s (values_from m k) m

-- a list with another written over it from a place on
abbrev pub over : {X : Type 0} → List X → ℕ → List X → List X
over s at new = take at s ++ (new ++ drop (at + length new) s)

-- what a store means
abbrev pub meaning_of : List ℤ → ℕ → ℕ → ℕ → Solving
meaning_of s used m k = record { choices = m; room = k; clauses = clauses_of s used; held = held_of s m k }

-- what holds of every store
pub record Stored (s : List ℤ) (used m k : ℕ) : Type 0 where
  pub some_choice : 1 ≤ m
  pub few_choices : m ≤ 32767
  pub low : used ≤ k
  pub high : k + 4 * m ≤ length s
  pub sound : encode_all (clauses_of s used) ≡ take used s
  pub named : clauses_named m (clauses_of s used) ≡ true
