-- Plans of a layer, by those of the judge below it.
use Rattle.std.proofs.Common.{ℕ, min, Some, None, Option, arith}
use Rattle.design.specs.Plan.{Scales, Meaning, Within, Sought, cost_a, cost_b}
use Rattle.layers.specs.Meanings.{lowered, swapped, swapped_scales}

-- a plan under limits is one within the lowered bounds, and the other way round
pub raise : (s : Scales) (m : Meaning) (x y a b w : ℕ) → Within s m (min a x) (min b y) w → Within s (lowered x y m) a b w
unfolding cost_a cost_b
raise s m x y a b w h = record {
  plan = record { fits = h.plan.fits; rules = h.plan.rules; within_a = omega (arith, h.plan.within_a, h.at_a); within_b = omega (arith, h.plan.within_b, h.at_b) };
  at_a = omega (arith, h.at_a);
  at_b = omega (arith, h.at_b);
}

pub lower : (s : Scales) (m : Meaning) (x y a b w : ℕ) → Within s (lowered x y m) a b w → Within s m (min a x) (min b y) w
unfolding cost_a cost_b
lower s m x y a b w h = record {
  plan = record { fits = h.plan.fits; rules = h.plan.rules; within_a = omega (arith, h.plan.within_a); within_b = omega (arith, h.plan.within_b) };
  at_a = omega (arith, h.plan.within_a, h.at_a);
  at_b = omega (arith, h.plan.within_b, h.at_b);
}

pub lowered_sought : (s : Scales) (m : Meaning) (x y a b : ℕ) (r : Option ℕ) → Sought s m (min a x) (min b y) r → Sought s (lowered x y m) a b r
lowered_sought s m x y a b (Some w) h = raise s m x y a b w h
lowered_sought s m x y a b None h = λ w p. h w (lower s m x y a b w p)

-- a plan is one of the exchanged costs within the exchanged bounds; exchanging twice, this is both ways
pub exchange : (s : Scales) (m : Meaning) (a b w : ℕ) → Within s m b a w → Within (swapped_scales s) (swapped m) a b w
unfolding cost_a cost_b
exchange s m a b w h = record {
  plan = record { fits = h.plan.fits; rules = h.plan.rules; within_a = h.plan.within_b; within_b = h.plan.within_a };
  at_a = h.at_b;
  at_b = h.at_a;
}

pub swapped_sought : (s : Scales) (m : Meaning) (a b : ℕ) (r : Option ℕ) → Sought s m b a r → Sought (swapped_scales s) (swapped m) a b r
swapped_sought s m a b (Some w) h = exchange s m a b w h
swapped_sought s m a b None h = λ w p. h w (exchange (swapped_scales s) (swapped m) b a w p)
