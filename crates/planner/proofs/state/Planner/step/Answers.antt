use Rattle.std.proofs.Common.{◌≡◌, Some, None, vec_items, sym, refl, ap, ◌∙◌, subst, arith}
use Rattle.scales.proofs.ByPlaces.{PlaceLaws, place_laws}
use Rattle.design.specs.Plan.{Scales}
use Rattle.published.specs.Reading.{ReadsAs}
use Rattle.published.proofs.Agreed.{reads_as}
use Rattle.planner.specs.Order.{last_b}
use Rattle.planner.proofs.Lists.{last_more}
use Rattle.planner.proofs.Extend.{extend_some, extend_none}
use Rattle.planner.proofs.state.Planner.step.Given.{Over}
use Rattle.planner.proofs.state.Planner.step.Goals as goal

laws_a : (g : Over) → PlaceLaws (g.J.Judge.scales).a
laws_a g = subst PlaceLaws (ap (λ (x : Scales). x.a) (sym g.met.J.Judge.tied)) (place_laws _ _ _ _ g.J.CostA.Scale.laws)

laws_b : (g : Over) → PlaceLaws (g.J.Judge.scales).b
laws_b g = subst PlaceLaws (ap (λ (x : Scales). x.b) (sym g.met.J.Judge.tied)) (place_laws _ _ _ _ g.J.CostB.Scale.laws)

reads : (g : Over) (j : g.row.J.Denot) → ReadsAs g.J.Judge.scales (g.J.Judge.meaning j)
reads g j = reads_as g.J.Judge.scales _ (g.J.Judge.table j) (laws_a g) (laws_b g)

pub returns-then-below-eq0 : goal.returns-then-below-eq0
returns-then-below-eq0 g c = record { run = (None, refl, extend_none _ _ _ _ _ (laws_b g) (reads g c.args.self.now.judge) (λ v p lt. omega (arith, c.next_below-below.ensures)) refl) }

pub returns-in_err-entry : goal.returns-in_err-entry
returns-in_err-entry g c =
    let h = c.in_err-entry.ensures in
    record { run = (None, c.from_residual.ensures, extend_none _ _ _ _ _ (laws_b g) (reads g c.args.self.now.judge) (λ v p lt. h.answer v p (omega (arith, c.next_below-below.ensures))) h.same) }

pub invariant_of-self-2 : goal.invariant_of-self-2
invariant_of-self-2 g c =
    let e : last_b 201 (vec_items c.push_reserved.new.self) ≡ c.in_ok-entry.entry.b = ap (last_b 201) c.push_reserved.ensures.items ∙ last_more 201 (vec_items c.args.self.now.entries) c.in_ok-entry.entry in
    record {
      memory = omega (arith, c.push_reserved.ensures.capacity, c.args.self.now.memory);
      falls = omega (arith, e, c.push_reserved.ensures.len, c.in_ok-entry.ensures.answer.in_bound, c.args.self.now.falls);
      shut = λ q. cc;
    }

pub returns : goal.returns
returns g c =
    let h = c.in_ok-entry.ensures in
    record { run = (Some c.in_ok-entry.entry, refl, extend_some _ _ _ _ _ _ _ _ (laws_b g) (omega (arith, c.next_below-below.ensures)) h.answer h.same c.push_reserved.ensures.items) }
