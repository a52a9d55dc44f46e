-- The query that a plain judge answers.
use Rattle.std.specs.Prelude.{ℕ, vec_items}
use Rattle.design.specs.Plan.{Scales}
use Rattle.plain.specs.declared.state.Plain.{Plain}
use Rattle.plain.specs.Search.{Query}

abbrev pub query : {X Y : Type 0} → Scales → Plain X Y → ℕ → ℕ → Query
query s j a b = record {
  scales = s;
  rules = vec_items j.rules;
  prices_a = vec_items j.prices_a.list.entries;
  prices_b = vec_items j.prices_b.list.entries;
  bound_a = a;
  bound_b = b;
}
