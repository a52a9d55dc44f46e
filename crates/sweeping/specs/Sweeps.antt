-- What a sweep over the clauses finds.
use Rattle.std.specs.Prelude.{◌≡◌, ℕ, Bool, true, ◌⊎◌, List, length, ℤ, pos, negsuc, Some, None, Ok, Err, Option, Result}
use Rattle.solver.specs.Setting.{setting, meets}
use Rattle.values.specs.Partial.{Agrees, setting_of, Opened}
use Rattle.sweeping.specs.declared.assignment.Assignment.{Assignment}
use Rattle.sweeping.specs.declared.assignment.Clash.{Clash}
use Rattle.sweeping.specs.Trail.{values_in, clauses_at, OpenIn, Meets, Reached}

abbrev pub MeetsOne : List ℤ → List Bool → Type 0
MeetsOne c b = meets (setting b) c ≡ true

-- no setting that agrees with the values is good
abbrev pub Nowhere : (List Bool → Type 0) → List ℤ → Type 0
Nowhere Good v = (b : List Bool) → Agrees v b → Good b → ⊥

-- each setting that agrees with the values is good
abbrev pub Everywhere : (List Bool → Type 0) → List ℤ → Type 0
Everywhere Good v = (b : List Bool) → Agrees v b → Good b

-- the open mark that is noted: the first that asks for its choice to be taken
abbrev pub note : Option ℤ → ℤ → Option ℤ
note (Some k) m = Some k
note None (negsuc k) = None
note None (pos c) = Some (pos c)

-- what one more clause makes of the open mark that is noted; where there is none, the clause is met
-- with what is open left
abbrev pub NotedOne : List ℤ → ℕ → List ℤ → Option ℤ → Option ℤ → Type 0
NotedOne c n v before None = (before ≡ None) × MeetsOne c (setting_of v)
NotedOne c n v before (Some m) = (before ≡ Some m) ⊎ Opened n v m

abbrev pub Visited : List ℤ → Assignment → Option ℤ → Assignment → Result (Option ℤ) Clash → Type 0
Visited c a o b (Err e) = (b ≡ a) × Nowhere (MeetsOne c) (values_in a)
Visited c a o b (Ok o') = Reached (MeetsOne c) a b × (b.top ≡ a.top → NotedOne c (length (values_in a)) (values_in a) o o')

-- an open mark, or all clauses met with what is open left
abbrev pub Noted : List (List ℤ) → Assignment → Option ℤ → Type 0
Noted cs a None = Meets cs (setting_of (values_in a))
Noted cs a (Some m) = OpenIn a m

-- a sweep: what is noted counts where nothing moved
abbrev pub Swept : Assignment → Assignment → Result (Option ℤ) Clash → Type 0
Swept a b (Err e) = Reached (Meets (clauses_at a)) a b × Nowhere (Meets (clauses_at a)) (values_in b)
Swept a b (Ok o) = Reached (Meets (clauses_at a)) a b × (b.top ≡ a.top → Noted (clauses_at a) b o)

-- sweeps until nothing moves
abbrev pub Settled : Assignment → Assignment → Result (Option ℤ) Clash → Type 0
Settled a b (Err e) = Reached (Meets (clauses_at a)) a b × Nowhere (Meets (clauses_at a)) (values_in b)
Settled a b (Ok o) = Reached (Meets (clauses_at a)) a b × Noted (clauses_at a) b o
