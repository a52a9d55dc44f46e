-- A list that covers every plan is the Pareto front.
use Rattle.std.proofs.Common.{◌≡◌, ℕ, ◌<◌, ◌≤◌, true, ◌&&◌, leb, ◌⊎◌, List, [], ◌∷◌, sym, ap, ◌∙◌, subst, inl, inr, arith}
use Rattle.std.proofs.lemmas.Bool.{cases_lt, or_cases, and_parts, leb-true}
use Rattle.design.specs.Plan.{Scales, Meaning, Plan, Beats, point, cost_a, cost_b}
use Rattle.published.specs.Literature.{Assignment, ParetoOptimal}
use Rattle.published.specs.Reading.{instance_of, assignment_of, image, ReadsAs}
use Rattle.planner.specs.declared.entry.Entry.{Entry}
use Rattle.planner.specs.Order.{All, covered}
use Rattle.planner.specs.Points.{Listed, Listing}
use Rattle.planner.specs.Front.{Lists, Optimal, AllListed}

module _ (s : Scales) (m : Meaning) (r : ReadsAs s m) where
  optimal_of : (e : Entry) → Listed s m e → Optimal s m e
  optimal_of e l = record {
    optimal = (r.optimal e.word l.plan.fits).0 (record {
      plan = l.plan;
      unbeaten = λ v p b. l.unbeaten v p (subst (λ (q : ℕ × ℕ). Beats (point s m v) q) l.shows b);
    });
    at = r.costs e.word ∙ l.shows;
  }

  all_optimal : (es : List Entry) → All (Listed s m) es → All (Optimal s m) es
  all_optimal [] l = tt
  all_optimal (e ∷ es) l = (optimal_of e l.0, all_optimal es l.1)

  -- an entry that covers an optimal point is at it
  at_point : (τ : Assignment) → ParetoOptimal (instance_of s m) τ → (x y : ℕ) → image (instance_of s m) τ ≡ (x, y) → (e : Entry) → Optimal s m e → e.a ≤ x → e.b ≤ y → (e.a, e.b) ≡ image (instance_of s m) τ
  at_point τ o x y i e f la lb =
      elim (cases_lt e.a x) [
        | inl p ↦ absurd (beaten (inl (omega (arith, a_is, x_is))))
        | inr p ↦
            elim (cases_lt e.b y) [
              | inl q ↦ absurd (beaten (inr (omega (arith, b_is, y_is))))
              | inr q ↦
                  let same_a : e.a ≡ x = omega arith in
                  let same_b : e.b ≡ y = omega arith in
                  cc
            ]
      ]
    where
      a_is : (image (instance_of s m) (assignment_of e.word)).0 ≡ e.a
      a_is = ap (λ (p : ℕ × ℕ). p.0) f.at

      b_is : (image (instance_of s m) (assignment_of e.word)).1 ≡ e.b
      b_is = ap (λ (p : ℕ × ℕ). p.1) f.at

      x_is : (image (instance_of s m) τ).0 ≡ x
      x_is = ap (λ (p : ℕ × ℕ). p.0) i

      y_is : (image (instance_of s m) τ).1 ≡ y
      y_is = ap (λ (p : ℕ × ℕ). p.1) i

      beaten : ((image (instance_of s m) (assignment_of e.word)).0 < (image (instance_of s m) τ).0) ⊎ ((image (instance_of s m) (assignment_of e.word)).1 < (image (instance_of s m) τ).1) → ⊥
      beaten less = o.undominated (assignment_of e.word) f.optimal.feasible (record { first = omega (arith, a_is, x_is); second = omega (arith, b_is, y_is); less = less })

  lists_covered : (τ : Assignment) → ParetoOptimal (instance_of s m) τ → (x y : ℕ) → image (instance_of s m) τ ≡ (x, y) → (es : List Entry) → All (Optimal s m) es → covered es x y ≡ true → Lists es (image (instance_of s m) τ)
  lists_covered τ o x y i [] f h = cc
  lists_covered τ o x y i (e ∷ es) f h =
      elim (or_cases (leb e.a x && leb e.b y) (covered es x y) h) [
        | inl t ↦ let p = and_parts _ _ t in inl (at_point τ o x y i e f.0 (leb-true e.a x p.0) (leb-true e.b y p.1))
        | inr t ↦ inr (lists_covered τ o x y i es f.1 t)
      ]

  pub all_listed : (es : List Entry) → Listing s m es → ((v : ℕ) → Plan s m v → covered es (cost_a s m v) (cost_b s m v) ≡ true) → AllListed s m es
  all_listed es l c = record {
    covers = c;
    front = record { sound = all_optimal es l.listed; complete = whole; ordered = l.ordered };
  }
    where
      whole : (τ : Assignment) → ParetoOptimal (instance_of s m) τ → Lists es (image (instance_of s m) τ)
      whole τ o =
          let w = r.complete τ in
          let p : Plan s m w.0 = (r.plans w.0 w.1.fits).1 (w.1.feasible.1 o.feasible) in
          let i : image (instance_of s m) τ ≡ point s m w.0 = sym w.1.values ∙ r.costs w.0 in
          lists_covered τ o (cost_a s m w.0) (cost_b s m w.0) i es (all_optimal es l.listed) (c w.0 p)
