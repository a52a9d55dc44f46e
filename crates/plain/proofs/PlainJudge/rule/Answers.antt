use Rattle.std.proofs.Common.{◌≡◌, ℕ, List, length, ℤ, vec_items, vec_len, refl, ap, ◌∙◌, arith}
use Rattle.std.proofs.lemmas.Result.{err_from_is_err_and}
use Rattle.design.specs.Fault.{refused_or}
use Rattle.design.proofs.OfMarks.{all_up}
use Rattle.judge.specs.Calls.{rule_fault, rule_answer}
use Rattle.propagation.proofs.Making.{rules_next}
use Rattle.plain.specs.Held.{pair_of}
use Rattle.plain.proofs.Entering.{rule_passed, kept_rule, units_next, units_long}
use Rattle.plain.proofs.PlainJudge.rule.Goals as goal

pub returns-in_err-check_rule : goal.returns-in_err-check_rule
unfolding rule_answer
returns-in_err-check_rule g c =
    let j = c.args.self.now in
    let p = err_from_is_err_and c.from_residual.result c.from_residual.ensures.1 in
    rw (p.1, p.2)
    (record {
      answer = c.in_err-check_rule.ensures ∙ ap (λ (n : ℕ). refused_or (rule_fault j.sizes.choices n j.sizes.rule_room c.args.marks.now) tt) j.units;
      after = refl;
    })

pub new-requires : goal.new-requires
new-requires g c =
    let j = c.args.self.now in
    let p = rule_passed j.sizes.choices j.used j.sizes.rule_room c.args.marks.now c.in_ok-check_rule.ensures in
    record { short = p.short; named = all_up j.sizes.choices c.args.marks.now j.sizes.few_choices p.names }

pub push_reserved-requires : goal.push_reserved-requires
push_reserved-requires g c =
    let j = c.args.self.now in
    let p = rule_passed j.sizes.choices j.used j.sizes.rule_room c.args.marks.now c.in_ok-check_rule.ensures in
    let l = units_long (vec_items j.rules) in
    let v : vec_len j.rules ≡ length (vec_items j.rules) = j.rules.ok.0 in
    omega (arith, j.units, p.fits, j.sizes.few_rules, j.rule_memory)

pub invariant_of-self : goal.invariant_of-self
invariant_of-self g c =
    let j = c.args.self.now in
    let ms = c.args.marks.now in
    let rs = vec_items j.rules in
    let qs = vec_items c.push_reserved.new.self in
    let p = rule_passed j.sizes.choices j.used j.sizes.rule_room c.args.marks.now c.in_ok-check_rule.ensures in
    let e = units_next rs qs c.new.result ms c.push_reserved.ensures.items c.new.ensures in
    record {
      units = omega (arith, j.units);
      rules_fit = omega (arith, p.fits);
      a_sizes = j.a_sizes;
      b_sizes = j.b_sizes;
      kept_rules = kept_rule j.sizes.choices rs qs c.new.result ms c.push_reserved.ensures.items c.new.ensures j.kept_rules p.short p.names;
      rule_memory = omega (arith, j.rule_memory, c.push_reserved.ensures.capacity);
      a_memory = j.a_memory;
      b_memory = j.b_memory;
    }

pub returns : goal.returns
unfolding rule_answer
returns g c =
    let s = pair_of g.A.Scale.places g.B.Scale.places in
    let j = c.args.self.now in
    let ms = c.args.marks.now in
    let e = rules_next (vec_items j.rules) (vec_items c.push_reserved.new.self) c.new.result ms c.push_reserved.ensures.items c.new.ensures in
    record {
      answer = c.in_ok-check_rule.ensures ∙ ap (λ (n : ℕ). refused_or (rule_fault j.sizes.choices n j.sizes.rule_room ms) tt) j.units;
      after = ap (λ (x : List (List ℤ)). record {
        choices = j.sizes.choices;
        price_room = j.sizes.price_room;
        rule_room = j.sizes.rule_room;
        rules = x;
        prices_a = vec_items j.prices_a.list.entries;
        prices_b = vec_items j.prices_b.list.entries;
        limit_a = s.a.top;
        limit_b = s.b.top;
      }) e;
    }
