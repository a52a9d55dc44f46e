-- What a search from given values finds.
use Rattle.std.specs.Prelude.{◌≡◌, Bool, true, false, take}
use Rattle.values.specs.Partial.{Agrees, setting_of}
use Rattle.sweeping.specs.declared.assignment.Assignment.{Assignment}
use Rattle.sweeping.specs.Trail.{values_in, clauses_at, Meets, Same, Restored}
use Rattle.sweeping.specs.Sweeps.{Nowhere}

-- a yes: with what is open left, the values are a setting that keeps those given and meets every clause
pub record Found (a b : Assignment) : Type 0 where
  pub same : Same a b
  pub front : take a.top b.trail.now ≡ take a.top a.trail.now
  pub agrees : Agrees (values_in a) (setting_of (values_in b))
  pub meeting : Meets (clauses_at a) (setting_of (values_in b))

-- a no: there is none, and the values are as they were
pub record Lost (a b : Assignment) : Type 0 where
  pub restored : Restored a b
  pub none : Nowhere (Meets (clauses_at a)) (values_in a)

abbrev pub Searched : Assignment → Assignment → Bool → Type 0
Searched a b true = Found a b
Searched a b false = Lost a b
