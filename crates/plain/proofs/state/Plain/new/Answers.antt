use Rattle.std.proofs.Common.{List, [], ℤ, vec_items, vec_capacity, ap, ◌∙◌, arith}
use Rattle.design.specs.declared.price.Price.{Price}
use Rattle.plain.specs.Held.{pair_of}
use Rattle.plain.proofs.Entering.{no_units, no_rules, no_rules_of}
use Rattle.plain.proofs.state.Plain.new.Goals as goal

pub invariant_of-result : goal.invariant_of-result
invariant_of-result g c =
    let r = c.args.room in
    record {
      units = no_units (vec_items r.rules) r.no_rules;
      rules_fit = omega arith;
      a_sizes = c.new.ensures.sizes;
      b_sizes = c.new-2.ensures.sizes;
      kept_rules = no_rules c.args.sizes.choices (vec_items r.rules) r.no_rules;
      rule_memory = r.rule_memory;
      a_memory = omega (arith, r.a_memory, ap vec_capacity c.new.ensures.entries);
      b_memory = omega (arith, r.b_memory, ap vec_capacity c.new-2.ensures.entries);
    }

pub returns : goal.returns
returns g c =
    let s = pair_of g.A.Scale.places g.B.Scale.places in
    let n = c.args.sizes in
    let r = c.args.room in
    let rs = no_rules_of (vec_items r.rules) r.no_rules in
    let a = ap vec_items c.new.ensures.entries ∙ r.no_a in
    let b = ap vec_items c.new-2.ensures.entries ∙ r.no_b in
    ap (λ (x : List (List ℤ)). record { choices = n.choices; price_room = n.price_room; rule_room = n.rule_room; rules = x; prices_a = vec_items c.new.result.list.entries; prices_b = vec_items c.new-2.result.list.entries; limit_a = s.a.top; limit_b = s.b.top }) rs
    ∙ ap (λ (x : List Price). record { choices = n.choices; price_room = n.price_room; rule_room = n.rule_room; rules = []; prices_a = x; prices_b = vec_items c.new-2.result.list.entries; limit_a = s.a.top; limit_b = s.b.top }) a
    ∙ ap (λ (x : List Price). record { choices = n.choices; price_room = n.price_room; rule_room = n.rule_room; rules = []; prices_a = []; prices_b = x; limit_a = s.a.top; limit_b = s.b.top }) b
