-- What the calls that enter something answer, and what they leave.
use Rattle.std.specs.Prelude.{◌≡◌, ℕ, ◌+◌, Bool, not, ◌||◌, List, [], ◌∷◌, ◌++◌, length, ℤ, Ok, Err, Option, Result, nat_le, nat_lt}
use Rattle.design.specs.Mark.{named, all_are_named}
use Rattle.design.specs.Rule.{rule_units, units_used}
use Rattle.design.specs.Cost.{priced}
use Rattle.design.specs.Plan.{Scales, Meaning}
use Rattle.design.specs.Fault.{first_that_holds, refused_or}
use Rattle.design.specs.declared.price.Price.{Price}
use Rattle.design.specs.declared.fault.JudgeFault.{JudgeFault}
use Rattle.design.specs.declared.fault.JudgeFault.TheVariants.{Choices, Capacity, LongRule, BadMark, BadPlace, PricedTwice, Full}

-- a number lies outside low to high
abbrev pub outside : ℕ → ℕ → ℕ → Bool
outside low high n = nat_lt n low || nat_lt high n

-- the refusals of a making, the first in order deciding
abbrev pub sizes_fault : ℕ → ℕ → ℕ → Option JudgeFault
sizes_fault n q r = first_that_holds ((outside 1 64 n, Choices) ∷ ((outside 1 64 q || outside 1 1024 r, Capacity) ∷ []))

-- the refusals of a rule, by N, the units used, R and the rule's marks
abbrev pub rule_fault : ℕ → ℕ → ℕ → List ℤ → Option JudgeFault
rule_fault n used room r =
    first_that_holds ((nat_lt 8 (length r), LongRule) ∷ ((not (all_are_named n r), BadMark) ∷ ((nat_lt room (used + rule_units r), Full) ∷ [])))

-- the refusals of a price, by N, Q, the scale's top and the prices of this cost
abbrev pub price_fault : ℕ → ℕ → ℕ → List Price → ℤ → ℕ → Option JudgeFault
price_fault n room top ps m p =
    first_that_holds ((not (named n m), BadMark) ∷ ((outside 1 top p, BadPlace) ∷ ((priced ps m, PricedTwice) ∷ ((nat_le room (length ps), Full) ∷ []))))

abbrev pub price_of : ℤ → ℕ → Price
price_of m p = record { mark = m; place = p }

-- the meaning with a rule, or a price, appended; the rest of it stays
abbrev pub with_rule : Meaning → List ℤ → Meaning
with_rule m r = record {
  choices = m.choices;
  price_room = m.price_room;
  rule_room = m.rule_room;
  rules = m.rules ++ r ∷ [];
  prices_a = m.prices_a;
  prices_b = m.prices_b;
  limit_a = m.limit_a;
  limit_b = m.limit_b;
}

abbrev pub with_price_a : Meaning → Price → Meaning
with_price_a m p = record {
  choices = m.choices;
  price_room = m.price_room;
  rule_room = m.rule_room;
  rules = m.rules;
  prices_a = m.prices_a ++ p ∷ [];
  prices_b = m.prices_b;
  limit_a = m.limit_a;
  limit_b = m.limit_b;
}

abbrev pub with_price_b : Meaning → Price → Meaning
with_price_b m p = record {
  choices = m.choices;
  price_room = m.price_room;
  rule_room = m.rule_room;
  rules = m.rules;
  prices_a = m.prices_a;
  prices_b = m.prices_b ++ p ∷ [];
  limit_a = m.limit_a;
  limit_b = m.limit_b;
}

-- what a judge answers to a rule or a price
unfoldable pub rule_answer : Meaning → List ℤ → Result (Unit {0}) JudgeFault
rule_answer m r = refused_or (rule_fault m.choices (units_used m.rules) m.rule_room r) tt

unfoldable pub price_a_answer : Scales → Meaning → ℤ → ℕ → Result (Unit {0}) JudgeFault
price_a_answer s m k p = refused_or (price_fault m.choices m.price_room s.a.top m.prices_a k p) tt

unfoldable pub price_b_answer : Scales → Meaning → ℤ → ℕ → Result (Unit {0}) JudgeFault
price_b_answer s m k p = refused_or (price_fault m.choices m.price_room s.b.top m.prices_b k p) tt

-- a call that enters something: it changes the meaning to the next where it is accepted, and where
-- it is refused it leaves the judge whole as it was
abbrev pub Entered : {J : Type 0} → (J → Meaning) → J → Meaning → Result (Unit {0}) JudgeFault → J → Type 0
Entered meaning j next (Ok u) k = meaning k ≡ next
Entered meaning j next (Err f) k = k ≡ j

-- a judge just made: no rules, no prices
abbrev pub no_entries : ℕ → ℕ → ℕ → ℕ → ℕ → Meaning
no_entries n q r a b = record { choices = n; price_room = q; rule_room = r; rules = []; prices_a = []; prices_b = []; limit_a = a; limit_b = b }
