-- What a scale is.
use Rattle.std.specs.Prelude.{◌≡◌, ℕ, ◌≤◌, min}

-- a scale by its places alone: its top, and the place of the values at two places joined
pub record Places : Type 0 where
  pub top : ℕ
  pub join : ℕ → ℕ → ℕ

-- values of a type V in rising order, by their places 0 to the top, and the joining of two
pub record Laws {V : Type 0} (s : Places) (place : V → ℕ) (at : ℕ → V) (joined : V → V → V) : Type 0 where
  pub low : 1 ≤ s.top
  pub high : s.top ≤ 200
  -- each value has exactly one place, and a place above the top is read as the top
  pub place_at : (p : ℕ) → place (at p) ≡ min p s.top
  pub at_place : (v : V) → at (place v) ≡ v
  pub assoc : (u v w : V) → joined (joined u v) w ≡ joined u (joined v w)
  pub comm : (u v : V) → joined u v ≡ joined v u
  -- nothing, the value at place 0, is neutral
  pub neutral : (v : V) → joined (at 0) v ≡ v
  pub monotone : (u v w : V) → place u ≤ place v → place (joined u w) ≤ place (joined v w)
  pub join_is : (p q : ℕ) → s.join p q ≡ place (joined (at p) (at q))
