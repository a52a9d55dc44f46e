-- Many values joined.
use Rattle.std.specs.Prelude.{◌≡◌, ℕ, ◌<◌, ◌≤◌, List, [], ◌∷◌, ◌++◌, length, slice_index_or}

-- the values of a list joined to a first one, in order
unfoldable pub joined_all : {V : Type 0} → (V → V → V) → V → List V → V
joined_all joined u [] = u
joined_all joined u (v ∷ vs) = joined_all joined (joined u v) vs

-- the same values in another order
pub data Reordered {V : Type 0} : List V → List V → Type 0 where
  same : {vs : List V} → Reordered vs vs
  swapped : {u v : V} {vs : List V} → Reordered (u ∷ (v ∷ vs)) (v ∷ (u ∷ vs))
  behind : {v : V} {us vs : List V} → Reordered us vs → Reordered (v ∷ us) (v ∷ vs)
  further : {us vs ws : List V} → Reordered us vs → Reordered vs ws → Reordered us ws

-- r is what the values of a list come to
pub record JoinedMany {V : Type 0} (place : V → ℕ) (at : ℕ → V) (joined : V → V → V) (vs : List V) (r : V) : Type 0 where
  pub in_order : r ≡ joined_all joined (at 0) vs
  pub any_order : (us : List V) → Reordered vs us → r ≡ joined_all joined (at 0) us
  pub any_group : (us ws : List V) → vs ≡ us ++ ws → r ≡ joined (joined_all joined (at 0) us) (joined_all joined (at 0) ws)
  pub no_less : (k : ℕ) (d : V) → k < length vs → place (slice_index_or vs k d) ≤ place r
