-- What a plain judge means: what it holds, with the tops of its scales as limits.
use Rattle.std.specs.Prelude.{vec_items}
use Rattle.scales.specs.Laws.{Places}
use Rattle.design.specs.Plan.{Scales, Meaning}
use Rattle.propagation.specs.Held.{rules_of}
use Rattle.plain.specs.declared.state.Plain.{Plain}

abbrev pub pair_of : Places → Places → Scales
pair_of a b = record { a = a; b = b }

abbrev pub meaning_of : {X Y : Type 0} → Scales → Plain X Y → Meaning
meaning_of s j = record {
  choices = j.sizes.choices;
  price_room = j.sizes.price_room;
  rule_room = j.sizes.rule_room;
  rules = rules_of (vec_items j.rules);
  prices_a = vec_items j.prices_a.list.entries;
  prices_b = vec_items j.prices_b.list.entries;
  limit_a = s.a.top;
  limit_b = s.b.top;
}
