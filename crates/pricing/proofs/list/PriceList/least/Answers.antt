use Rattle.std.proofs.Common.{◌≡◌, ℕ, ◌≤◌, vec_items, sym, ◌∙◌, subst, arith}
use Rattle.scales.proofs.ByPlaces.{place_laws}
use Rattle.design.specs.Mark.{holds}
use Rattle.design.specs.Cost.{total}
use Rattle.design.proofs.Totals.{total_wider}
use Rattle.propagation.proofs.Hits.{item_hit}
use lib.Bits.{bit_and, bit_or}
use Rattle.propagation.specs.declared.sides.Sides.{Sides}
use Rattle.pricing.specs.Bounds.{sure, Cheap}
use Rattle.pricing.proofs.Costing.{wider_named}
use Rattle.pricing.proofs.Bounding.{counts, sure_counts, counts_holds, hit_adds}
use Rattle.pricing.proofs.list.PriceList.least.Goals as goal
use Rattle.pricing.proofs.list.PriceList.least.Goals.{then-open-seen-eq0+then-price-gt0, then-open-seen-eq0+else-price-gt0, else-open-seen-eq0}

pub loop-rule-init : goal.loop-rule-init
loop-rule-init g c w a m =
    let s = g.S.Scale in
    let l = place_laws s.places s.place s.at s.joined s.laws in
    let ps = vec_items c.args.self.now.entries in
    let t = total_wider s.places l (sure c.args.at) (counts w _) ps (wider_named 64 ps _ _ c.args.self.now.named (sure_counts c.args.at w a)) in
    omega (arith, c.sure_cost-sum.ensures)

pub loop-rule-preserved : goal.loop-rule-preserved
loop-rule-preserved g c n a m =
    let s = g.S.Scale in
    let l = place_laws s.places s.place s.at s.joined s.laws in
    let ps = vec_items c.args.self.now.entries in
    let r = c.rule-item.result in
    let p = c.args.at in
    let inv = c.loop-rule.invariant n a m in
    let P : ℕ → ℕ → Type 0 = λ sum seen. sum ≤ total s.places (counts n seen) ps in
    elim c.if-open-seen-eq0.branch [
      | then-open-seen-eq0+then-price-gt0 w ↦
          let e = c.possible-open.ensures in
          let x = w.cheapest-price.result in
          subst (λ (x : ℕ). P x c.if-open-seen-eq0.seen) (sym (w.sum-is ∙ w.join_places-sum.ensures))
          (subst (P _) (sym w.seen-is)
          (subst (λ (z : Sides). P (s.places.join c.loop-rule.sum x) (bit_or c.loop-rule.seen (bit_or z.ups z.downs))) (sym e)
          (hit_adds s.places l ps r.sides.ups r.sides.downs p.up p.down n c.loop-rule.seen x c.loop-rule.sum c.args.self.now.named a
          (item_hit c.args.rules.now c.loop-rule.rule-index r c.rule-item.is c.loop-rule-test.true n m)
          (subst (λ (z : Sides). bit_and (bit_or z.ups z.downs) c.loop-rule.seen ≡ 0) e w.if-open-seen-eq0.true)
          (subst (λ (z : Sides). Cheap ps z.ups z.downs x) e w.cheapest-price.ensures) inv)))
      | then-open-seen-eq0+else-price-gt0 w ↦
          subst (λ (x : ℕ). P x c.if-open-seen-eq0.seen) (sym w.sum-is) (subst (P _) (sym w.seen-is) inv)
      | else-open-seen-eq0 w ↦
          subst (λ (x : ℕ). P x c.if-open-seen-eq0.seen) (sym w.sum-is) (subst (P _) (sym w.seen-is) inv)
    ]

pub returns : goal.returns
returns g c w a m =
    let s = g.S.Scale in
    let l = place_laws s.places s.place s.at s.joined s.laws in
    let ps = vec_items c.args.self.now.entries in
    let t = total_wider s.places l (counts w c.loop-rule.seen) (holds w) ps (wider_named 64 ps _ _ c.args.self.now.named (counts_holds w c.loop-rule.seen)) in
    omega (arith, c.loop-rule.invariant w a m)
