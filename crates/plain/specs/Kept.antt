-- The table that a plain judge keeps.
use Rattle.std.proofs.Common.{◌∙◌, sym, ap, arith}
use Rattle.design.specs.Plan.{Scales, Table, prices_kept}
use Rattle.judge.specs.declared.sizes.Sizes.{Sizes}
use Rattle.plain.specs.Held.{meaning_of}
use Rattle.plain.specs.declared.state.Plain.{Plain}

pub table_of : {X Y : Type 0} (s : Scales) (j : Plain X Y) → Table (meaning_of s j)
table_of s j = record {
  some_choice = j.sizes.some_choice;
  few_choices = j.sizes.few_choices;
  some_prices = j.sizes.some_prices;
  few_prices = j.sizes.few_prices;
  some_rules = j.sizes.some_rules;
  few_rules = j.sizes.few_rules;
  kept_rules = j.kept_rules;
  kept_a = ap (λ (z : Sizes). prices_kept z.choices j.prices_a.list.entries.items) (sym j.a_sizes) ∙ j.prices_a.kept;
  kept_b = ap (λ (z : Sizes). prices_kept z.choices j.prices_b.list.entries.items) (sym j.b_sizes) ∙ j.prices_b.kept;
  rules_fit = omega (arith, j.units, j.rules_fit);
  a_fits = omega (arith, j.prices_a.list.entries.ok.0, j.prices_a.fits, ap (λ (z : Sizes). z.price_room) j.a_sizes);
  b_fits = omega (arith, j.prices_b.list.entries.ok.0, j.prices_b.fits, ap (λ (z : Sizes). z.price_room) j.b_sizes);
}
