use Rattle.std.proofs.Common.{length, refl, ap, ◌∙◌, arith}
use Rattle.scales.proofs.ByPlaces.{place_laws}
use Rattle.judge.specs.declared.sizes.Sizes.{Sizes}
use Rattle.plain.specs.Held.{pair_of, meaning_of}
use Rattle.totalizer.proofs.Directions.{plans_extend, settings_are_plans, root_is_cost}
use Rattle.finder.proofs.Booking.{design_of, small_a, small_b}
use Rattle.finder.proofs.Deciding.{bounds_are, is_answered, found, stays}
use Rattle.finder.proofs.decide.decide_within.Goals as goal

pub new-heap_a-requires : goal.new-heap_a-requires
new-heap_a-requires g c =
    let s = pair_of g.A.Scale.places g.B.Scale.places in
    let j = c.args.book.now in
    small_a s (meaning_of s j) (design_of s j) (g.S.Solver.meaning c.args.solver.now) (g.S.Solver.kept c.args.solver.now) c.requires.choices
    c.from.result s.a.top c.prices_a.result.now (c.from.ensures ∙ ap (λ (z : Sizes). z.choices) c.sizes.ensures) refl c.prices_a.ensures

pub new-heap_b-requires : goal.new-heap_b-requires
new-heap_b-requires g c =
    let s = pair_of g.A.Scale.places g.B.Scale.places in
    let j = c.args.book.now in
    small_b s (meaning_of s j) (design_of s j) (g.S.Solver.meaning c.args.solver.now) (g.S.Solver.kept c.args.solver.now) c.requires.choices
    c.past_a.result s.b.top c.prices_b.result.now c.past_a.ensures refl c.prices_b.ensures

pub assume-requires-2 : goal.assume-requires-2
assume-requires-2 g c = omega (arith, g.A.Scale.laws.high, g.B.Scale.laws.high, c.assume.ensures.few, ap length c.new-marks.ensures)

pub unwrap-requires : goal.unwrap-requires
unwrap-requires g c =
    let a = g.A.Scale in
    let b = g.B.Scale in
    let s = pair_of a.places b.places in
    let la = place_laws a.places a.place a.at a.joined a.laws in
    let lb = place_laws b.places b.place b.at b.joined b.laws in
    let j = c.args.book.now in
    let m = meaning_of s j in
    let e = c.as_slice.ensures.value ∙ bounds_are s m c.args.a c.args.b c.new-heap_a.result.base c.new-heap_b.result.base c.new-heap_a.result.prices.now c.new-heap_b.result.prices.now
    (c.new-heap_a.ensures.base ∙ c.from.ensures ∙ ap (λ (z : Sizes). z.choices) c.sizes.ensures) (c.new-heap_a.ensures.prices ∙ c.prices_a.ensures)
    (c.new-heap_b.ensures.base ∙ c.past_a.ensures) (c.new-heap_b.ensures.prices ∙ c.prices_b.ensures)
    c.new-marks.result.items c.assume.new.marks.items c.assume-2.new.marks.items c.new-marks.ensures c.assume.ensures.items c.assume-2.ensures.items in
    is_answered g.S.Solver.meaning s la lb m (design_of s j) c.args.solver.now c.decide.new.self c.requires c.args.a c.args.b _ c.decide.result e c.decide.ensures

pub returns : goal.returns
returns g c =
    let a = g.A.Scale in
    let b = g.B.Scale in
    let s = pair_of a.places b.places in
    let la = place_laws a.places a.place a.at a.joined a.laws in
    let lb = place_laws b.places b.place b.at b.joined b.laws in
    let j = c.args.book.now in
    let m = meaning_of s j in
    let e = c.as_slice.ensures.value ∙ bounds_are s m c.args.a c.args.b c.new-heap_a.result.base c.new-heap_b.result.base c.new-heap_a.result.prices.now c.new-heap_b.result.prices.now
    (c.new-heap_a.ensures.base ∙ c.from.ensures ∙ ap (λ (z : Sizes). z.choices) c.sizes.ensures) (c.new-heap_a.ensures.prices ∙ c.prices_a.ensures)
    (c.new-heap_b.ensures.base ∙ c.past_a.ensures) (c.new-heap_b.ensures.prices ∙ c.prices_b.ensures)
    c.new-marks.result.items c.assume.new.marks.items c.assume-2.new.marks.items c.new-marks.ensures c.assume.ensures.items c.assume-2.ensures.items in
    record {
      answer = found g.S.Solver.meaning s la lb m (design_of s j) c.args.solver.now c.decide.new.self c.requires c.args.a c.args.b _ c.decide.result c.unwrap.result e c.unwrap.ensures c.decide.ensures;
      same = stays g.S.Solver.meaning s la lb m (design_of s j) c.args.solver.now c.decide.new.self c.requires c.args.a c.args.b _ c.decide.result c.unwrap.result e c.unwrap.ensures c.decide.ensures;
      extend = plans_extend s la lb;
      roots = (root_is_cost a.places la, root_is_cost b.places lb);
      dropped = settings_are_plans s la lb;
    }
