-- What a layer makes of the meaning below it.
use Rattle.std.specs.Prelude.{◌≡◌, ℕ, min}
use Rattle.design.specs.Plan.{Scales, Meaning}

-- each limit lowered to the layer's own where that is smaller
abbrev pub lowered : ℕ → ℕ → Meaning → Meaning
lowered a b m = record {
  choices = m.choices;
  price_room = m.price_room;
  rule_room = m.rule_room;
  rules = m.rules;
  prices_a = m.prices_a;
  prices_b = m.prices_b;
  limit_a = min m.limit_a a;
  limit_b = min m.limit_b b;
}

-- A and B exchanged
abbrev pub swapped : Meaning → Meaning
swapped m = record {
  choices = m.choices;
  price_room = m.price_room;
  rule_room = m.rule_room;
  rules = m.rules;
  prices_a = m.prices_b;
  prices_b = m.prices_a;
  limit_a = m.limit_b;
  limit_b = m.limit_a;
}

abbrev pub swapped_scales : Scales → Scales
swapped_scales s = record { a = s.b; b = s.a }

-- exchanging twice exchanges nothing
pub record SwapsBack : Type 0 where
  pub meanings : (m : Meaning) → swapped (swapped m) ≡ m
  pub scales : (s : Scales) → swapped_scales (swapped_scales s) ≡ s
