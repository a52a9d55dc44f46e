-- One seek of a search for the next point.
use Rattle.std.proofs.Common.{◌≡◌, ℕ, ◌%◌, ◌^◌, ◌≤◌, sym, ap, ◌∙◌, mod-eq_of_lt, arith}
use Rattle.scales.proofs.ByPlaces.{PlaceLaws}
use Rattle.design.specs.Mark.{holds}
use Rattle.design.proofs.Totals.{total_under}
use Rattle.design.specs.Plan.{Scales, Meaning, Plan, cost_a, cost_b}
use Rattle.planner.specs.Search.{Held}

-- no cost is above the top, and no top above 200
pub small_a : (s : Scales) (m : Meaning) (v : ℕ) → PlaceLaws s.a → cost_a s m v ≤ 200
unfolding cost_a
small_a s m v l = omega (arith, total_under s.a l (holds v) m.prices_a, l.few)

-- what costs says of a plan
pub held_by : (s : Scales) (m : Meaning) (w a b : ℕ) → Plan s m w → a ≡ cost_a s m (w % 2 ^ m.choices) → b ≡ cost_b s m (w % 2 ^ m.choices) → Held s m (record { a = a; b = b; word = w })
held_by s m w a b p e f =
    let i : w % 2 ^ m.choices ≡ w = mod-eq_of_lt p.fits in
    record { plan = p; is_a = sym (e ∙ ap (cost_a s m) i); is_b = sym (f ∙ ap (cost_b s m) i) }
