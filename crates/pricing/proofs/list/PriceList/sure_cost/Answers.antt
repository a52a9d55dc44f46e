use Rattle.std.proofs.Common.{◌≡◌, cond, List, get_or, pos, sym, ap, ◌∙◌, arith, w8, SFits, rules}
use Rattle.std.proofs.lemmas.Int.{to_z-of_z}
use Rattle.std.proofs.lemmas.List.{take_all}
use Rattle.design.specs.declared.price.Price.{Price}
use Rattle.design.specs.Mark.{named, all_are_named}
use Rattle.design.specs.Cost.{total}
use Rattle.design.proofs.Totals.{total_none, total_next}
use Rattle.pricing.specs.Tables.{marks_in}
use Rattle.pricing.specs.Bounds.{sure}
use Rattle.pricing.proofs.Costing.{mark_named, joined_place}
use Rattle.pricing.proofs.list.PriceList.sure_cost.Goals as goal
use Rattle.pricing.proofs.list.PriceList.sure_cost.Goals.{then-is_sure, else-is_sure}

pub is_sure-requires : goal.is_sure-requires
is_sure-requires g c =
    let ps = c.as_slice-price-items.result.now in
    let p = get_or ps c.loop-price.price-index (record { mark = pos 0; place = 0 }) in
    let f : SFits w8 p.mark = search rules in
    ap (named 64) (to_z-of_z w8 p.mark f)
    ∙ mark_named 64 ps c.loop-price.price-index (record { mark = pos 0; place = 0 }) (ap (λ (x : List Price). all_are_named 64 (marks_in x)) c.as_slice-price-items.ensures.value ∙ c.args.self.now.named) c.loop-price-test.true

pub loop-price-init : goal.loop-price-init
loop-price-init g c =
    let s = g.S.Scale in
    let z = total_none s.places (sure c.args.at) in
    ap s.place c.nothing-sum.ensures ∙ s.laws.place_at 0 ∙ omega arith

pub loop-price-preserved : goal.loop-price-preserved
loop-price-preserved g c =
    let s = g.S.Scale in
    let ps = c.as_slice-price-items.result.now in
    let d : Price = record { mark = pos 0; place = 0 } in
    let p = get_or ps c.loop-price.price-index (record { mark = pos 0; place = 0 }) in
    let f : SFits w8 p.mark = search rules in
    let h : c.is_sure.result ≡ sure c.args.at p.mark = c.is_sure.ensures ∙ ap (sure c.args.at) (to_z-of_z w8 p.mark f) in
    let e : c.if-is_sure.sum ≡ cond c.is_sure.result (s.joined c.loop-price.sum (s.at p.place)) c.loop-price.sum =
    elim c.if-is_sure.branch [
      | then-is_sure w ↦ w.sum-is ∙ w.join-sum.ensures ∙ ap (s.joined c.loop-price.sum) w.from_place.ensures ∙ sym (ap (λ k. cond k (s.joined c.loop-price.sum (s.at p.place)) c.loop-price.sum) w.if-is_sure.true)
      | else-is_sure w ↦ w.sum-is ∙ sym (ap (λ k. cond k (s.joined c.loop-price.sum (s.at p.place)) c.loop-price.sum) w.if-is_sure.false)
    ] in
    joined_place s.places s.place s.at s.joined s.laws (sure c.args.at) _ p _ _ _ c.loop-price.invariant h e
    ∙ sym (total_next s.places (sure c.args.at) ps c.loop-price.price-index d c.loop-price-test.true)

pub returns : goal.returns
returns g c =
    let s = g.S.Scale in
    c.place_of.ensures ∙ c.loop-price.invariant ∙ ap (total s.places (sure c.args.at)) (take_all _ _ c.loop-price-test.false ∙ c.as_slice-price-items.ensures.value)
