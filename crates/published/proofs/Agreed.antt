-- A table's meaning agrees with its instance.
use Rattle.std.proofs.Common.{◌≡◌, ℕ, zero, suc, ◌^◌, ◌<◌, ◌≤◌, Bool, true, false, ◌↔◌, List, [], ◌∷◌, Some, None, Option, sym, refl, ap, ◌∙◌, subst, arith}
use Rattle.scales.specs.Laws.{Places}
use Rattle.scales.specs.Many.{joined_all}
use Rattle.scales.proofs.ByPlaces.{PlaceLaws}
use Rattle.bits.specs.Bit.{bit}
use Rattle.bits.proofs.OfBits.{same_bits}
use Rattle.design.specs.Rule.{meets_all}
use Rattle.design.specs.Plan.{Scales, Meaning, Table, Plan, Within, Sought, Beats, cost_a, cost_b, point}
use Rattle.published.specs.Literature.{Assignment, formula_value, Solution, counted, Objective, objective_value, Instance, Feasible, Dominates, ParetoOptimal}
use Rattle.published.specs.Reading.{truth_value, value_in, assignment_of, instance_of, image, StandsFor, Best, ReadsAs, WithinBounds, Solved}
use Rattle.published.proofs.Values.{Gives, formula_met, objective_cost}
use Rattle.published.proofs.Words.{word_for}

truth_one : (b : Bool) → truth_value b ≡ 1 → b ≡ true
truth_one true e = refl
truth_one false e = absurd (omega arith)

truth_same : (x y : Bool) → truth_value x ≡ truth_value y → x ≡ y
truth_same true y e = sym (truth_one y (sym e))
truth_same false true e = absurd (omega arith)
truth_same false false e = refl

joined_below : (s : Places) → PlaceLaws s → (c : ℕ) (ps : List ℕ) → c ≤ s.top → joined_all s.join c ps ≤ s.top
unfolding joined_all
joined_below s l c [] h = h
joined_below s l c (p ∷ ps) h = joined_below s l (s.join c p) ps (l.under c p)

objective_below : (O : Objective) → PlaceLaws O.scale → (τ : Assignment) → objective_value τ O ≤ O.scale.top
objective_below O l τ = joined_below O.scale l 0 (counted τ O.terms) (omega arith)

beats_dominates : (I : Instance) (σ τ : Assignment) → Beats (image I σ) (image I τ) ↔ Dominates I σ τ
beats_dominates I σ τ = (λ b. record { first = b.0.0; second = b.0.1; less = b.1 }, λ d. ((d.first, d.second), d.less))

module _ (s : Scales) (m : Meaning) (t : Table m) where
  -- an assignment that a word gives
  module _ (w : ℕ) (τ : Assignment) (gives : Gives m.choices w τ) where
    formula_is : formula_value τ (instance_of s m).formula ≡ truth_value (meets_all w m.rules)
    formula_is = formula_met m.choices w τ gives m.rules t.kept_rules

    first_is : objective_value τ (instance_of s m).first ≡ cost_a s m w
    unfolding cost_a
    first_is = objective_cost m.choices w τ gives s.a m.prices_a t.kept_a

    second_is : objective_value τ (instance_of s m).second ≡ cost_b s m w
    unfolding cost_b
    second_is = objective_cost m.choices w τ gives s.b m.prices_b t.kept_b

    image_is : image (instance_of s m) τ ≡ point s m w
    image_is = λ i. (first_is i, second_is i)

    solution_is : (meets_all w m.rules ≡ true) ↔ Solution τ (instance_of s m).formula
    solution_is = (λ e. formula_is ∙ ap truth_value e, λ e. truth_one _ (sym formula_is ∙ e))

    feasible_is : w < 2 ^ m.choices → Plan s m w ↔ Feasible (instance_of s m) τ
    feasible_is h = (
      λ p. record { solution = solution_is.0 p.rules; first_within = omega (arith, first_is, p.within_a); second_within = omega (arith, second_is, p.within_b) },
      λ f. record { fits = h; rules = solution_is.1 f.solution; within_a = omega (arith, first_is, f.first_within); within_b = omega (arith, second_is, f.second_within) },
    )

    within_is : (a b : ℕ) → w < 2 ^ m.choices → Within s m a b w ↔ WithinBounds (instance_of s m) a b τ
    within_is a b h = (
      λ p. record { feasible = (feasible_is h).0 p.plan; first = omega (arith, first_is, p.at_a); second = omega (arith, second_is, p.at_b) },
      λ f. record { plan = (feasible_is h).1 f.feasible; at_a = omega (arith, first_is, f.first); at_b = omega (arith, second_is, f.second) },
    )

  own : (w : ℕ) → Gives m.choices w (assignment_of w)
  own w = λ k h. refl

  beats_at : (v w : ℕ) (σ τ : Assignment) → Gives m.choices v σ → Gives m.choices w τ → Beats (point s m v) (point s m w) ↔ Dominates (instance_of s m) σ τ
  beats_at v w σ τ e f =
      let P : ℕ × ℕ → ℕ × ℕ → Type 0 = λ p q. Beats p q ↔ Dominates (instance_of s m) σ τ in
      subst (λ q. P (point s m v) q) (image_is w τ f) (subst (λ p. P p (image (instance_of s m) τ)) (image_is v σ e) (beats_dominates (instance_of s m) σ τ))

  stands : (τ : Assignment) → (w : ℕ) × StandsFor s m w τ
  stands τ =
      let r = word_for m.choices τ in
      let w = r.0 in
      let o = own w in (
        w,
        record {
          fits = r.1;
          variables = same w r.2;
          formula = formula_is w (assignment_of w) o ∙ sym (formula_is w τ r.2);
          values = image_is w (assignment_of w) o ∙ sym (image_is w τ r.2);
          feasible = (λ f. (feasible_is w τ r.2 r.1).0 ((feasible_is w (assignment_of w) o r.1).1 f), λ f. (feasible_is w (assignment_of w) o r.1).0 ((feasible_is w τ r.2 r.1).1 f));
        },
      )
    where
      same : (w : ℕ) → Gives m.choices w τ → (x : ℕ) → 1 ≤ x → x ≤ m.choices → value_in w x ≡ τ.value x
      same w g zero l h = absurd (omega arith)
      same w g (suc k) l h = sym (g k (omega arith))

  optimal_is : (w : ℕ) → w < 2 ^ m.choices → Best s m w ↔ ParetoOptimal (instance_of s m) (assignment_of w)
  optimal_is w h =
      let i = feasible_is w (assignment_of w) (own w) h in (
        λ b. record {
          feasible = i.0 b.plan;
          undominated = λ σ f d.
              let r = word_for m.choices σ in
              b.unbeaten r.0 ((feasible_is r.0 σ r.2 r.1).1 f) ((beats_at r.0 w σ (assignment_of w) r.2 (own w)).1 d);
        },
        λ o. record {
          plan = i.1 o.feasible;
          unbeaten = λ v p b. o.undominated (assignment_of v) ((feasible_is v (assignment_of v) (own v) p.fits).0 p) ((beats_at v w (assignment_of v) (assignment_of w) (own v) (own w)).0 b);
        },
      )

  unique_is : (τ : Assignment) (v w : ℕ) → StandsFor s m v τ → StandsFor s m w τ → v ≡ w
  unique_is τ v w x y =
      same_bits m.choices v w x.fits y.fits (λ k h. truth_same (bit v k) (bit w k) (x.variables (suc k) (omega arith) (omega arith) ∙ sym (y.variables (suc k) (omega arith) (omega arith))))

  pub image_read : (w : ℕ) → image (instance_of s m) (assignment_of w) ≡ point s m w
  image_read w = image_is w (assignment_of w) (own w)

  pub solved : (a b : ℕ) (r : Option ℕ) → Sought s m a b r → Solved (instance_of s m) a b r
  solved a b (Some w) h = (within_is w (assignment_of w) (own w) a b h.plan.fits).0 h
  solved a b None h = λ τ f. let r = word_for m.choices τ in h r.0 ((within_is r.0 τ r.2 a b r.1).1 f)

  module _ (la : PlaceLaws s.a) (lb : PlaceLaws s.b) where
    pub reads_as : ReadsAs s m
    reads_as = record {
      solutions = λ w. solution_is w (assignment_of w) (own w);
      costs = image_read;
      plans = λ w h. feasible_is w (assignment_of w) (own w) h;
      beats = λ v w. beats_at v w (assignment_of v) (assignment_of w) (own v) (own w);
      complete = stands;
      unique = unique_is;
      unlimited = λ a b τ h. record {
        solution = h;
        first_within = omega (arith, objective_below (instance_of s m).first la τ);
        second_within = omega (arith, objective_below (instance_of s m).second lb τ);
      };
      optimal = optimal_is;
    }
