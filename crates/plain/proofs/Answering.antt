-- From what the search found to what the judge answers.
use Rattle.std.proofs.Common.{◌≡◌, ℕ, ◌-◌, ◌^◌, Some, None, Option, sym, subst, arith}
use Rattle.std.proofs.lemmas.Nat.{pow_pos}
use Rattle.design.specs.Mark.{holds}
use Rattle.design.specs.Plan.{Scales, Sought, cost_a, cost_b}
use Rattle.design.proofs.Totals.{total_under}
use Rattle.scales.proofs.ByPlaces.{PlaceLaws}
use Rattle.propagation.specs.Narrowing.{Agrees}
use Rattle.plain.specs.declared.state.Plain.{Plain}
use Rattle.plain.specs.Held.{meaning_of}
use Rattle.plain.specs.Asked.{query}
use Rattle.plain.specs.Search.{Found}
use Rattle.plain.proofs.Searching.{all_open}

pub answered : {X Y : Type 0} (s : Scales) (j : Plain X Y) (a b up : ℕ) (r : Option ℕ) → PlaceLaws s.a → PlaceLaws s.b → up ≡ 2 ^ j.sizes.choices - 1
    → Found (query s j a b) (record { up = up; down = 2 ^ 64 - 1 }) r → Sought s (meaning_of s j) a b r
unfolding cost_a cost_b
answered s j a b up None la lb e f = λ w g.
    f w (subst (λ (x : ℕ). Agrees x (2 ^ 64 - 1) w) (sym e) (all_open j.sizes.choices w j.sizes.few_choices g.plan.fits))
    (record { met = g.plan.rules; within_a = g.at_a; within_b = g.at_b })
answered s j a b up (Some w) la lb e f = record {
  plan = record {
    fits = omega (arith, f.0, pow_pos j.sizes.choices);
    rules = f.1.met;
    within_a = total_under s.a la (holds w) _;
    within_b = total_under s.b lb (holds w) _;
  };
  at_a = f.1.within_a;
  at_b = f.1.within_b;
}
