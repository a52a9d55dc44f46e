use Rattle.std.proofs.Common.{List, ap, ◌∙◌, subst, ap₂, arith}
use lib.Bits.{bit_or}
use Rattle.scales.proofs.ByPlaces.{place_laws}
use Rattle.propagation.specs.declared.rule.Rule.{Rule}
use Rattle.propagation.specs.declared.sides.Sides.{Sides}
use Rattle.propagation.specs.Easing.{Eased}
use Rattle.plain.specs.Held.{pair_of}
use Rattle.plain.specs.Asked.{query}
use Rattle.plain.proofs.Laws.{sound}
use Rattle.plain.proofs.Searching.{leaf, through, eased_found, halved}
use Rattle.plain.proofs.state.Plain.+search.Goals as goal

pub returns-then-here-eq0 : goal.returns-then-here-eq0
returns-then-here-eq0 g t c =
    let x = g.A.Scale in
    let y = g.B.Scale in
    let s = pair_of x.places y.places in
    let j = c.args.self.now in
    let h = c.in_ok-here.ensures in (
      h.0.up_le,
      leaf (query s j c.args.a c.args.b)
          (sound s j c.args.a c.args.b (place_laws x.places x.place x.at x.joined x.laws) (place_laws y.places y.place y.at y.joined y.laws))
          c.in_ok-here.here (omega (arith, h.0.up_le)) (omega (arith, h.0.down_le)) h.1 c.if-here-eq0.true,
    )

pub returns-then-ne : goal.returns-then-ne
returns-then-ne g t c =
    let x = g.A.Scale in
    let y = g.B.Scale in
    let s = pair_of x.places y.places in
    let j = c.args.self.now in
    let h = c.in_ok-here.ensures in
    let q = query s j c.args.a c.args.b in
    let x1 = c.priced_choices-priced_a.ensures in
    let x2 = c.priced_choices.ensures in
    let p = c.with-priced.ensures in
    let eu = ap (λ (z : Sides). z.ups) p ∙ ap₂ (λ (y z : Sides). bit_or y.ups z.ups) x1 x2 in
    let ed = ap (λ (z : Sides). z.downs) p ∙ ap₂ (λ (y z : Sides). bit_or y.downs z.downs) x1 x2 in
    through q c.args.at c.in_ok-here.here c.search.result h.0
    (eased_found q
    (sound s j c.args.a c.args.b (place_laws x.places x.place x.at x.joined x.laws) (place_laws y.places y.place y.at y.joined y.laws))
    c.in_ok-here.here c.ease-eased.result c.search.result c.with-priced.result.ups c.with-priced.result.downs eu ed
    (subst (λ (rs : List Rule). Eased rs c.with-priced.result.ups c.with-priced.result.downs c.in_ok-here.here c.ease-eased.result) c.as_slice.ensures.value c.ease-eased.ensures)
    c.search.ensures)

pub returns-in-None : goal.returns-in-None
returns-in-None g t c =
    let s = pair_of g.A.Scale.places g.B.Scale.places in
    let q = query s c.args.self.now c.args.a c.args.b in
    let h = c.in_ok-here.ensures in
    through q c.args.at c.in_ok-here.here c.search-in-None.result h.0
    (halved q c.in_ok-here.here c.split.result.0 c.split.result.1 c.search-in-None.result c.split.ensures c.in-None.ensures c.search-in-None.ensures)
