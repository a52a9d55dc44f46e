-- A layer keeps the table of the judge below it.
use Rattle.std.specs.Prelude.{ℕ}
use Rattle.design.specs.Plan.{Meaning, Table}
use Rattle.layers.specs.Meanings.{lowered, swapped}

pub lowered_table : (a b : ℕ) (m : Meaning) → Table m → Table (lowered a b m)
lowered_table a b m t = record {
  some_choice = t.some_choice;
  few_choices = t.few_choices;
  some_prices = t.some_prices;
  few_prices = t.few_prices;
  some_rules = t.some_rules;
  few_rules = t.few_rules;
  kept_rules = t.kept_rules;
  kept_a = t.kept_a;
  kept_b = t.kept_b;
  rules_fit = t.rules_fit;
  a_fits = t.a_fits;
  b_fits = t.b_fits;
}

pub swapped_table : (m : Meaning) → Table m → Table (swapped m)
swapped_table m t = record {
  some_choice = t.some_choice;
  few_choices = t.few_choices;
  some_prices = t.some_prices;
  few_prices = t.few_prices;
  some_rules = t.some_rules;
  few_rules = t.few_rules;
  kept_rules = t.kept_rules;
  kept_a = t.kept_b;
  kept_b = t.kept_a;
  rules_fit = t.rules_fit;
  a_fits = t.b_fits;
  b_fits = t.a_fits;
}
