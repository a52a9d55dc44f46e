use Rattle.std.proofs.Common.{◌≡◌, ℕ, ◌<◌, max, [], ◌∷◌, ◌++◌, length, get_or, ℤ, vec_items, ap, ◌∙◌, w8, to_z, of_z, rules}
use Rattle.std.proofs.lemmas.Int.{to_z-of_z}
use Rattle.design.specs.declared.price.Price.{Price}
use Rattle.design.specs.Mark.{bit_of}
use Rattle.propagation.specs.declared.sides.Sides.{Sides}
use Rattle.propagation.specs.Masks.{up_bit, down_bit}
use Rattle.pricing.specs.Tables.{take_side, leave_side}
use Rattle.pricing.proofs.Tabling.{named_next, ups_next, downs_next, take_next, leave_next}
use Rattle.pricing.proofs.list.PriceList.push.Goals as goal

pub invariant_of-self : goal.invariant_of-self
invariant_of-self c =
    let l = c.args.self.now in
    let ps = vec_items l.entries in
    let qs = vec_items c.push_reserved.new.self in
    let p : Price = record { mark = c.args.mark; place = c.args.place } in
    let f : to_z w8 (of_z w8 c.args.mark) ≡ c.args.mark = to_z-of_z w8 c.args.mark c.ranges.mark in
    let i : qs ≡ ps ++ p ∷ [] = c.push_reserved.ensures.items ∙ ap (λ (m : ℤ). ps ++ record { mark = m; place = c.args.place } ∷ []) f in
    let k : c.choice_bit-k.result ≡ bit_of c.args.mark = c.choice_bit-k.ensures.bit ∙ ap bit_of f in
    let a : c.choice_bit-k.result < length l.taking = search rules in
    let b : c.choice_bit-k.result < length l.leaving = search rules in
    let t : c.sides-take.result.0 ≡ take_side c.args.mark c.args.place = ap (λ (x : ℕ × ℕ). x.0) c.sides-take.ensures ∙ ap (λ (m : ℤ). take_side m c.args.place) f in
    let v : c.sides-take.result.1 ≡ leave_side c.args.mark c.args.place = ap (λ (x : ℕ × ℕ). x.1) c.sides-take.ensures ∙ ap (λ (m : ℤ). leave_side m c.args.place) f in
    record {
      named = named_next 64 ps qs p i l.named c.requires.named;
      take_table = take_next ps qs p l.taking c.choice_bit-k.result c.max.result i k a c.requires.named (c.max.ensures ∙ ap (max (get_or l.taking c.choice_bit-k.result 0)) t) l.take_table;
      leave_table = leave_next ps qs p l.leaving c.choice_bit-k.result c.max-2.result i k b c.requires.named (c.max-2.ensures ∙ ap (max (get_or l.leaving c.choice_bit-k.result 0)) v) l.leave_table;
      up_word = ap (λ (z : Sides). z.ups) c.with-self.ensures ∙ ups_next ps qs p l.sides.ups c.of.result.ups i l.up_word (ap (λ (z : Sides). z.ups) c.of.ensures ∙ ap up_bit f);
      down_word = ap (λ (z : Sides). z.downs) c.with-self.ensures ∙ downs_next ps qs p l.sides.downs c.of.result.downs i l.down_word (ap (λ (z : Sides). z.downs) c.of.ensures ∙ ap down_bit f);
    }
