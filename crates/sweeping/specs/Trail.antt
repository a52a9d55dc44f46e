-- Values settled one after the other, with their marks on a trail.
use Rattle.std.specs.Prelude.{◌≡◌, ℕ, ◌+◌, ◌-◌, ◌≤◌, Bool, true, List, [], ◌∷◌, length, take, ℤ, pos, slice_set}
use Rattle.design.specs.Mark.{bit_of}
use Rattle.solver.specs.Setting.{setting, meets_all}
use Rattle.store.specs.Coding.{clauses_in}
use Rattle.store.specs.Parts.{part}
use Rattle.values.specs.Partial.{Agrees, opens, Opened}
use Rattle.sweeping.specs.declared.assignment.Assignment.{Assignment}

abbrev pub values_in : Assignment → List ℤ
values_in a = a.values.now

abbrev pub clauses_at : Assignment → List (List ℤ)
clauses_at a = clauses_in a.clauses.cells.now

-- the marks on the trail from a place on
abbrev pub marks_from : ℕ → Assignment → List ℤ
marks_from base a = part a.trail.now base (a.top - base)

-- a mark of an open choice
abbrev pub OpenIn : Assignment → ℤ → Type 0
OpenIn a m = Opened (length (values_in a)) (values_in a) m

-- the choices of a trail's marks opened again, the last of them first
unfoldable pub reopened : List ℤ → List ℤ → List ℤ
reopened v [] = v
reopened v (m ∷ ms) = slice_set (reopened v ms) (bit_of m) (pos 0)

-- settings that meet every clause of a list
abbrev pub Meets : List (List ℤ) → List Bool → Type 0
Meets cs b = meets_all (setting b) cs ≡ true

-- the same clauses, and the same places for as many values and marks
pub record Same (a b : Assignment) : Type 0 where
  pub clauses : clauses_at b ≡ clauses_at a
  pub values : b.values.ghost_name ≡ a.values.ghost_name
  pub choices : length (values_in b) ≡ length (values_in a)
  pub trail : b.trail.ghost_name ≡ a.trail.ghost_name
  pub long : length b.trail.now ≡ length a.trail.now

-- a value for the choice of a mark, which is the trail's last then
pub record Given (a : Assignment) (m z : ℤ) (b : Assignment) : Type 0 where
  pub same : Same a b
  pub top : b.top ≡ a.top + 1
  pub trail : b.trail.now ≡ slice_set a.trail.now a.top m
  pub values : values_in b ≡ slice_set (values_in a) (bit_of m) z

-- the trail cut back to a place, and the choices of what was cut off opened
pub record Undone (a : Assignment) (base : ℕ) (b : Assignment) : Type 0 where
  pub same : Same a b
  pub top : b.top ≡ base
  pub trail : b.trail.now ≡ a.trail.now
  pub values : values_in b ≡ reopened (values_in a) (marks_from base a)

-- values settled further: no good setting is lost, and the trail leads back
pub record Reached (Good : List Bool → Type 0) (a b : Assignment) : Type 0 where
  pub same : Same a b
  pub front : take a.top b.trail.now ≡ take a.top a.trail.now
  pub low : a.top ≤ b.top
  pub count : b.top + opens (values_in b) ≡ a.top + opens (values_in a)
  pub back : reopened (values_in b) (marks_from a.top b) ≡ values_in a
  pub wider : (x : List Bool) → Agrees (values_in b) x → Agrees (values_in a) x
  pub keeps : (x : List Bool) → Agrees (values_in a) x → Good x → Agrees (values_in b) x

-- all as it was, but for what lies past the trail's end
pub record Restored (a b : Assignment) : Type 0 where
  pub same : Same a b
  pub top : b.top ≡ a.top
  pub front : take a.top b.trail.now ≡ take a.top a.trail.now
  pub values : values_in b ≡ values_in a
