use Rattle.std.proofs.Common.{◌≡◌, ℕ, ◌<◌, true, List, get_or, pos, vec_items, sym, ap, ◌∙◌, subst, arith, w8, SFits, to_z, of_z, rules}
use Rattle.std.proofs.lemmas.Int.{to_z-of_z}
use Rattle.scales.proofs.ByPlaces.{place_laws}
use Rattle.design.specs.declared.price.Price.{Price}
use Rattle.design.specs.Mark.{named, all_are_named, holds}
use Rattle.design.proofs.OfMarks.{named_fits}
use Rattle.design.proofs.Totals.{total_under, total_wider, offered_at}
use Rattle.propagation.specs.declared.partial.Partial.{Partial}
use Rattle.propagation.specs.Narrowing.{Narrow}
use Rattle.propagation.proofs.Narrows.{narrow_same}
use Rattle.pricing.specs.Tables.{marks_in}
use Rattle.pricing.specs.Bounds.{sure, sure_total, Affordable}
use Rattle.pricing.proofs.Costing.{mark_named, wider_named, sure_holds}
use Rattle.pricing.proofs.Bounding.{excluded, narrow_drop}
use Rattle.pricing.proofs.list.PriceList.within.Goals as goal
use Rattle.pricing.proofs.list.PriceList.within.Goals.{then-join_places-bound+then-not-is_sure, else-join_places-bound}

pub returns-then-bound-TOP : goal.returns-then-bound-TOP
returns-then-bound-TOP g c =
    let s = g.S.Scale in
    let l = place_laws s.places s.place s.at s.joined s.laws in (
      narrow_same _ c.args.at.up c.args.at.down,
      omega (arith, total_under s.places l (sure c.args.at) (vec_items c.args.self.now.entries), g.S.Scale.topped, c.if-bound-TOP.true),
    )

pub returns-then-sum-bound : goal.returns-then-sum-bound
returns-then-sum-bound g c w a good =
    let s = g.S.Scale in
    let l = place_laws s.places s.place s.at s.joined s.laws in
    let ps = vec_items c.args.self.now.entries in
    let t = total_wider s.places l (sure c.args.at) (holds w) ps (wider_named 64 ps _ _ c.args.self.now.named (sure_holds c.args.at w a)) in
    omega (arith, c.sure_cost-sum.ensures, c.if-sum-bound.true)

-- the marks of the prices name choices
pub is_sure-requires : goal.is_sure-requires
is_sure-requires g c =
    let ps = c.as_slice-price-items.result.now in
    let p = get_or ps c.loop-price.price-index (record { mark = pos 0; place = 0 }) in
    let f : SFits w8 p.mark = search rules in
    ap (named 64) (to_z-of_z w8 p.mark f)
    ∙ mark_named 64 ps c.loop-price.price-index (record { mark = pos 0; place = 0 }) (ap (λ (x : List Price). all_are_named 64 (marks_in x)) c.as_slice-price-items.ensures.value ∙ c.args.self.now.named) c.loop-price-test.true

pub exclude-here-requires : goal.exclude-here-requires
exclude-here-requires g c =
    let ps = c.as_slice-price-items.result.now in
    let p = get_or ps c.loop-price.price-index (record { mark = pos 0; place = 0 }) in
    let f : SFits w8 p.mark = search rules in
    ap (named 64) (to_z-of_z w8 p.mark f)
    ∙ mark_named 64 ps c.loop-price.price-index (record { mark = pos 0; place = 0 }) (ap (λ (x : List Price). all_are_named 64 (marks_in x)) c.as_slice-price-items.ensures.value ∙ c.args.self.now.named) c.loop-price-test.true

pub loop-price-init : goal.loop-price-init
loop-price-init g c = narrow_same _ c.args.at.up c.args.at.down

pub loop-price-preserved : goal.loop-price-preserved
loop-price-preserved g c =
    let s = g.S.Scale in
    let l = place_laws s.places s.place s.at s.joined s.laws in
    let ps = c.as_slice-price-items.result.now in
    let i = c.loop-price.price-index in
    let d : Price = record { mark = pos 0; place = 0 } in
    let p = get_or ps c.loop-price.price-index (record { mark = pos 0; place = 0 }) in
    let q = c.args.at in
    let v = c.as_slice-price-items.ensures.value in
    let n : all_are_named 64 (marks_in ps) ≡ true = ap (λ (x : List Price). all_are_named 64 (marks_in x)) v ∙ c.args.self.now.named in
    let e : to_z w8 (of_z w8 p.mark) ≡ p.mark = to_z-of_z w8 p.mark (named_fits p.mark (mark_named 64 ps i d n c.loop-price-test.true)) in
    let t : c.sure_cost-sum.result ≡ sure_total s.places ps q = c.sure_cost-sum.ensures ∙ ap (λ (x : List Price). sure_total s.places x q) (sym v) in
    let Good : ℕ → Type 0 = Affordable s.places ps c.args.bound in
    let P : Partial → Type 0 = λ x. Narrow Good q.up q.down x.up x.down in
    elim c.if-join_places-bound.branch [
      | then-join_places-bound+then-not-is_sure w ↦
          subst P (sym w.here-is)
          (narrow_drop Good q.up q.down c.loop-price.here.up c.loop-price.here.down w.exclude-here.result.up w.exclude-here.result.down c.loop-price.invariant
          w.exclude-here.ensures.up_le w.exclude-here.ensures.down_le
          (λ x a good here. w.exclude-here.ensures.keeps x here
          (ap (holds x) e
          ∙ excluded s.places l ps q p.mark p.place c.sure_cost-sum.result c.args.bound x n t
          (subst (λ (y : ℕ). c.args.bound < y) c.join_places.ensures w.if-join_places-bound.true)
          (sym (ap (sure q) e) ∙ sym w.is_sure.ensures ∙ w.if-not-is_sure.true) (offered_at ps i d c.loop-price-test.true) a good)))
      | else-join_places-bound w ↦ subst P (sym w.here-is) c.loop-price.invariant
    ]

pub returns : goal.returns
returns g c =
    let s = g.S.Scale in
    let q = c.args.at in (
      subst (λ (x : List Price). Narrow (Affordable s.places x c.args.bound) q.up q.down c.loop-price.here.up c.loop-price.here.down) c.as_slice-price-items.ensures.value c.loop-price.invariant,
      omega (arith, c.sure_cost-sum.ensures, c.if-sum-bound.false),
    )
