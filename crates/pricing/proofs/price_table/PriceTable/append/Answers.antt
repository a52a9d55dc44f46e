use Rattle.std.proofs.Common.{◌≡◌, [], ◌∷◌, ◌++◌, length, ℤ, vec_items, vec_len, ap, ◌∙◌, arith, length-append, w8, to_z, of_z}
use Rattle.std.proofs.lemmas.Int.{to_z-of_z}
use Rattle.design.specs.declared.price.Price.{Price}
use Rattle.design.specs.Mark.{named}
use Rattle.design.proofs.OfMarks.{named_up}
use Rattle.pricing.proofs.Entering.{kept_price}
use Rattle.pricing.proofs.price_table.PriceTable.append.Goals as goal

pub push-requires-clause-named : goal.push-requires-clause-named
push-requires-clause-named g c =
    let n = c.requires.fresh in
    let s = c.args.self.now.sizes in
    ap (named 64) (to_z-of_z w8 c.args.mark c.ranges.mark) ∙ named_up s.choices c.args.mark s.few_choices n.names

pub invariant_of-self : goal.invariant_of-self
invariant_of-self g c =
    let t = c.args.self.now in
    let ps = vec_items t.list.entries in
    let qs = vec_items c.push.new.self.entries in
    let p : Price = record { mark = c.args.mark; place = c.args.place } in
    let f : to_z w8 (of_z w8 c.args.mark) ≡ c.args.mark = to_z-of_z w8 c.args.mark c.ranges.mark in
    let i : qs ≡ ps ++ p ∷ [] = c.push.ensures.items ∙ ap (λ (m : ℤ). ps ++ record { mark = m; place = c.args.place } ∷ []) f in
    let n = c.requires.fresh in
    let old : vec_len t.list.entries ≡ length ps = t.list.entries.ok.0 in
    let new : vec_len c.push.new.self.entries ≡ length qs = c.push.new.self.entries.ok.0 in
    record {
      fits = omega (arith, n.fits, old, new, ap length i, length-append ps (p ∷ []));
      kept = kept_price t.sizes.choices ps qs p i t.kept n.names n.first;
    }
