-- Partial settings: a list of values, of which the one at n - 1 is for choice n. Above 0 is taken,
-- below 0 left, and 0 open.
use Rattle.std.specs.Prelude.{◌≡◌, ℕ, zero, suc, ◌+◌, Bool, true, false, List, [], ◌∷◌, map, get_or, ℤ, pos, negsuc, Some, None, Option, slice_index_or}
use Rattle.design.specs.Mark.{bit_of, named}
use Rattle.store.specs.Parts.{is_taken}
use Rattle.values.specs.declared.State.{State}
use Rattle.values.specs.declared.State.TheVariants.{Met, Broken, Last, Several}

-- whether a mark is true by a value of its choice, unless that is open
abbrev pub said : ℤ → ℤ → Option Bool
said (pos c) (pos zero) = None
said (pos c) (pos (suc n)) = Some true
said (pos c) (negsuc n) = Some false
said (negsuc k) (pos zero) = None
said (negsuc k) (pos (suc n)) = Some false
said (negsuc k) (negsuc n) = Some true

abbrev pub truth_in : List ℤ → ℤ → Option Bool
truth_in v m = said m (slice_index_or v (bit_of m) (pos 0))

-- the value that makes a mark true, and the one that makes it false
abbrev pub value_that_holds : ℤ → ℤ
value_that_holds (pos c) = pos 1
value_that_holds (negsuc k) = negsuc 0

abbrev pub value_that_fails : ℤ → ℤ
value_that_fails (pos c) = negsuc 0
value_that_fails (negsuc k) = pos 1

-- of two marks the first that is met where its choice is left, if one is, and else the first
abbrev pub first_left : ℤ → ℤ → ℤ
first_left (negsuc j) m = negsuc j
first_left (pos c) (negsuc k) = negsuc k
first_left (pos c) (pos d) = pos c

-- one more mark, which is open
abbrev pub with_open : State → ℤ → State
with_open Met m = Met
with_open Broken m = Last m
with_open (Last k) m = Several (first_left k m)
with_open (Several k) m = Several (first_left k m)

-- by a mark's truth: met, or what the other marks say without it, or with it as an open one
abbrev pub by_truth : Option Bool → State → State → State
by_truth (Some true) without with = Met
by_truth (Some false) without with = without
by_truth None without with = with

-- what values say of a clause whose first marks came to a state
unfoldable pub state_from : List ℤ → State → List ℤ → State
state_from v s [] = s
state_from v s (m ∷ ms) = by_truth (truth_in v m) (state_from v s ms) (state_from v (with_open s m) ms)

-- a value and whether its choice is taken
abbrev pub Fits : ℤ → Bool → Type 0
Fits (pos zero) x = Unit {0}
Fits (pos (suc n)) x = x ≡ true
Fits (negsuc n) x = x ≡ false

-- a setting that keeps what has a value
abbrev pub Agrees : List ℤ → List Bool → Type 0
Agrees v b = (i : ℕ) → Fits (slice_index_or v i (pos 0)) (slice_index_or b i false)

-- the setting in which what is open is left
abbrev pub setting_of : List ℤ → List Bool
setting_of v = map is_taken v

abbrev pub is_open : ℤ → ℕ
is_open (pos zero) = 1
is_open (pos (suc n)) = 0
is_open (negsuc n) = 0

-- the number of open choices
unfoldable pub opens : List ℤ → ℕ
opens [] = 0
opens (x ∷ xs) = is_open x + opens xs

-- an open mark of the choices 1 to n
pub record Opened (n : ℕ) (v : List ℤ) (m : ℤ) : Type 0 where
  pub names : named n m ≡ true
  pub zero_there : get_or v (bit_of m) (pos 0) ≡ pos 0
