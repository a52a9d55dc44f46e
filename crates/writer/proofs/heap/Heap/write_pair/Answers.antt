use Rattle.std.proofs.Common.{length, refl, sym, ap, ◌∙◌, subst, arith}
use Rattle.scales.proofs.ByPlaces.{place_laws}
use Rattle.solver.specs.State.{with_clauses}
use Rattle.totalizer.proofs.Sizes.{number_last}
use Rattle.writer.specs.Writes.{Takes}
use Rattle.writer.proofs.Parts.{pair_nothing, pair_joins, wrote_none}
use Rattle.writer.proofs.heap.Heap.write_pair.Goals as goal

pub number-joined-requires : goal.number-joined-requires
number-joined-requires g c =
    let s = g.C.Scale in
    let w = (place_laws s.places s.place s.at s.joined s.laws).under c.args.left c.args.right in
    let h = c.args.self.now in
    omega (arith, w, h.small.few, h.small.numbers, c.requires.inner.first, c.requires.inner.last, number_last h.base s.places.top (length h.prices.now) c.args.node c.join_places.result)

pub write_joining-requires : goal.write_joining-requires
write_joining-requires g c =
    let s = g.C.Scale in
    let h = c.args.self.now in
    let e = pair_joins s.places h.base h.prices.now c.args.node c.args.left c.args.right s.places.top c.join_places.result c.number-joined.result c.literal-at_left.result c.literal-at_right.result
    (λ p q. omega arith) refl c.join_places.ensures c.literal-at_left.ensures.is c.literal-at_right.ensures.is c.number-joined.ensures.is in
    record {
      small = c.number-joined.ensures.small;
      marks = (c.literal-at_left.ensures.short, c.literal-at_right.ensures.short);
      takes = subst (Takes (g.S.Solver.meaning c.args.solver.now)) e c.requires.takes;
    }

pub returns-then-right-eq0 : goal.returns-then-right-eq0
returns-then-right-eq0 g c = wrote_none _ _ (pair_nothing _ _ _ _ _ _ (omega arith) (omega arith))

pub returns : goal.returns
returns g c =
    let s = g.C.Scale in
    let h = c.args.self.now in
    let e = pair_joins s.places h.base h.prices.now c.args.node c.args.left c.args.right s.places.top c.join_places.result c.number-joined.result c.literal-at_left.result c.literal-at_right.result
    (λ p q. omega arith) refl c.join_places.ensures c.literal-at_left.ensures.is c.literal-at_right.ensures.is c.number-joined.ensures.is in
    c.write_joining.ensures ∙ ap (with_clauses (g.S.Solver.meaning c.args.solver.now)) (sym e)
