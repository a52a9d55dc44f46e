use Rattle.std.proofs.Common.{refl, ap, ◌∙◌}
use Rattle.scales.proofs.ByPlaces.{place_laws}
use Rattle.judge.specs.declared.sizes.Sizes.{Sizes}
use Rattle.propagation.specs.Held.{rules_of}
use Rattle.plain.specs.Held.{pair_of, meaning_of}
use Rattle.finder.proofs.Booking.{design_of, small_a, small_b, takes_rules, ruled, takes_a, past_tree, takes_b, all_written}
use Rattle.finder.proofs.book.write_book.Goals as goal

pub write_rules-requires : goal.write_rules-requires
write_rules-requires g c =
    let a = g.A.Scale in
    let b = g.B.Scale in
    let s = pair_of a.places b.places in
    let la = place_laws a.places a.place a.at a.joined a.laws in
    let lb = place_laws b.places b.place b.at b.joined b.laws in
    let j = c.args.book.now in
    let v = g.S.Solver.meaning c.args.solver.now in
    takes_rules s la lb (meaning_of s j) (design_of s j) v c.requires (g.S.Solver.meaning c.clear.new.self) c.rules.result.now c.clear.ensures (ap rules_of c.rules.ensures)

pub new-heap_b-requires : goal.new-heap_b-requires
new-heap_b-requires g c =
    let s = pair_of g.A.Scale.places g.B.Scale.places in
    let j = c.args.book.now in
    small_b s (meaning_of s j) (design_of s j) (g.S.Solver.meaning c.args.solver.now) (g.S.Solver.kept c.args.solver.now) c.requires.choices
    c.past_a.result s.b.top c.prices_b.result.now c.past_a.ensures refl c.prices_b.ensures

pub new-heap_a-requires : goal.new-heap_a-requires
new-heap_a-requires g c =
    let s = pair_of g.A.Scale.places g.B.Scale.places in
    let j = c.args.book.now in
    small_a s (meaning_of s j) (design_of s j) (g.S.Solver.meaning c.args.solver.now) (g.S.Solver.kept c.args.solver.now) c.requires.choices
    c.from.result s.a.top c.prices_a.result.now (c.from.ensures ∙ ap (λ (z : Sizes). z.choices) c.sizes.ensures) refl c.prices_a.ensures

pub write-requires : goal.write-requires
write-requires g c =
    let a = g.A.Scale in
    let b = g.B.Scale in
    let s = pair_of a.places b.places in
    let la = place_laws a.places a.place a.at a.joined a.laws in
    let lb = place_laws b.places b.place b.at b.joined b.laws in
    let j = c.args.book.now in
    let m = meaning_of s j in
    let v = g.S.Solver.meaning c.args.solver.now in
    let v₂ = g.S.Solver.meaning c.write_rules.new.solver in
    let r = ruled s la lb m (design_of s j) v c.requires (g.S.Solver.meaning c.clear.new.self) v₂ c.rules.result.now c.clear.ensures (ap rules_of c.rules.ensures) c.write_rules.ensures in
    let n = c.new-heap_a.ensures.base ∙ c.from.ensures ∙ ap (λ (z : Sizes). z.choices) c.sizes.ensures in
    let ps = c.new-heap_a.ensures.prices ∙ c.prices_a.ensures in
    takes_a s la lb m (design_of s j) v c.requires v₂ c.new-heap_a.result.base c.new-heap_a.result.prices.now r n ps

pub write-requires-2 : goal.write-requires-2
write-requires-2 g c =
    let a = g.A.Scale in
    let b = g.B.Scale in
    let s = pair_of a.places b.places in
    let la = place_laws a.places a.place a.at a.joined a.laws in
    let lb = place_laws b.places b.place b.at b.joined b.laws in
    let j = c.args.book.now in
    let m = meaning_of s j in
    let v = g.S.Solver.meaning c.args.solver.now in
    let v₂ = g.S.Solver.meaning c.write_rules.new.solver in
    let v₃ = g.S.Solver.meaning c.write.new.solver in
    let r = ruled s la lb m (design_of s j) v c.requires (g.S.Solver.meaning c.clear.new.self) v₂ c.rules.result.now c.clear.ensures (ap rules_of c.rules.ensures) c.write_rules.ensures in
    let n = c.new-heap_a.ensures.base ∙ c.from.ensures ∙ ap (λ (z : Sizes). z.choices) c.sizes.ensures in
    let ps = c.new-heap_a.ensures.prices ∙ c.prices_a.ensures in
    let h = past_tree s la lb m (design_of s j) v c.requires v₂ v₃ c.new-heap_a.result.base c.new-heap_a.result.prices.now n ps c.write.ensures in
    let n' = c.new-heap_b.ensures.base ∙ c.past_a.ensures in
    let ps' = c.new-heap_b.ensures.prices ∙ c.prices_b.ensures in
    takes_b s la lb m (design_of s j) v c.requires v₂ v₃ c.new-heap_b.result.base c.new-heap_b.result.prices.now r h n' ps'

pub returns : goal.returns
returns g c =
    let a = g.A.Scale in
    let b = g.B.Scale in
    let s = pair_of a.places b.places in
    let la = place_laws a.places a.place a.at a.joined a.laws in
    let lb = place_laws b.places b.place b.at b.joined b.laws in
    let j = c.args.book.now in
    let m = meaning_of s j in
    let v = g.S.Solver.meaning c.args.solver.now in
    let v₂ = g.S.Solver.meaning c.write_rules.new.solver in
    let v₃ = g.S.Solver.meaning c.write.new.solver in
    let r = ruled s la lb m (design_of s j) v c.requires (g.S.Solver.meaning c.clear.new.self) v₂ c.rules.result.now c.clear.ensures (ap rules_of c.rules.ensures) c.write_rules.ensures in
    let n = c.new-heap_a.ensures.base ∙ c.from.ensures ∙ ap (λ (z : Sizes). z.choices) c.sizes.ensures in
    let ps = c.new-heap_a.ensures.prices ∙ c.prices_a.ensures in
    let h = past_tree s la lb m (design_of s j) v c.requires v₂ v₃ c.new-heap_a.result.base c.new-heap_a.result.prices.now n ps c.write.ensures in
    let n' = c.new-heap_b.ensures.base ∙ c.past_a.ensures in
    let ps' = c.new-heap_b.ensures.prices ∙ c.prices_b.ensures in
    all_written s la lb m (design_of s j) v c.requires v₂ v₃ (g.S.Solver.meaning c.write-2.new.solver) c.new-heap_b.result.base c.new-heap_b.result.prices.now r h n' ps' c.write-2.ensures
