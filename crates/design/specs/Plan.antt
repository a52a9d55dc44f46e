-- What a judge means, what its plans are, and how their points compare.
use Rattle.std.specs.Prelude.{◌≡◌, ℕ, ◌^◌, ◌<◌, ◌≤◌, Bool, true, not, ◌&&◌, ◌⊎◌, List, [], ◌∷◌, length, ℤ, Some, None, Option, nat_le}
use Rattle.scales.specs.Laws.{Places}
use Rattle.design.specs.Mark.{named, all_are_named}
use Rattle.design.specs.Rule.{meets_all, units_used}
use Rattle.design.specs.Cost.{cost, priced}
use Rattle.design.specs.declared.price.Price.{Price}

-- the scales of cost A and cost B
pub record Scales : Type 0 where
  pub a : Places
  pub b : Places

pub record Meaning : Type 0 where
  -- N, the number of choices
  pub choices : ℕ
  -- Q, how many prices each cost may have
  pub price_room : ℕ
  -- R, how many units the rules may take
  pub rule_room : ℕ
  pub rules : List (List ℤ)
  pub prices_a : List Price
  pub prices_b : List Price
  pub limit_a : ℕ
  pub limit_b : ℕ

unfoldable pub cost_a : Scales → Meaning → ℕ → ℕ
cost_a s m w = cost s.a m.prices_a w

unfoldable pub cost_b : Scales → Meaning → ℕ → ℕ
cost_b s m w = cost s.b m.prices_b w

-- a setting's two costs
abbrev pub point : Scales → Meaning → ℕ → ℕ × ℕ
point s m w = (cost_a s m w, cost_b s m w)

-- a setting that meets every rule and whose costs are at most the limits
pub record Plan (s : Scales) (m : Meaning) (w : ℕ) : Type 0 where
  pub fits : w < 2 ^ m.choices
  pub rules : meets_all w m.rules ≡ true
  pub within_a : cost_a s m w ≤ m.limit_a
  pub within_b : cost_b s m w ≤ m.limit_b

pub record Within (s : Scales) (m : Meaning) (a b w : ℕ) : Type 0 where
  pub plan : Plan s m w
  pub at_a : cost_a s m w ≤ a
  pub at_b : cost_b s m w ≤ b

-- what seek answers: a plan within both bounds, or nothing exactly where there is none
abbrev pub Sought : Scales → Meaning → ℕ → ℕ → Option ℕ → Type 0
Sought s m a b (Some w) = Within s m a b w
Sought s m a b None = (w : ℕ) → Within s m a b w → ⊥

-- a point covers another that it is at most in both costs
abbrev pub Covers : ℕ × ℕ → ℕ × ℕ → Type 0
Covers p q = (p.0 ≤ q.0) × (p.1 ≤ q.1)

-- and beats it where it is less in one
abbrev pub Beats : ℕ × ℕ → ℕ × ℕ → Type 0
Beats p q = Covers p q × ((p.0 < q.0) ⊎ (p.1 < q.1))

-- each rule has at most 8 marks, all of them of the choices 1 to n
unfoldable pub rules_kept : ℕ → List (List ℤ) → Bool
rules_kept n [] = true
rules_kept n (r ∷ rs) = (nat_le (length r) 8 && all_are_named n r) && rules_kept n rs

-- the prices are of the choices 1 to n, one for a mark
unfoldable pub prices_kept : ℕ → List Price → Bool
prices_kept n [] = true
prices_kept n (p ∷ ps) = (named n p.mark && not (priced ps p.mark)) && prices_kept n ps

-- what holds of the table that a judge keeps
pub record Table (m : Meaning) : Type 0 where
  pub some_choice : 1 ≤ m.choices
  pub few_choices : m.choices ≤ 64
  pub some_prices : 1 ≤ m.price_room
  pub few_prices : m.price_room ≤ 64
  pub some_rules : 1 ≤ m.rule_room
  pub few_rules : m.rule_room ≤ 1024
  pub kept_rules : rules_kept m.choices m.rules ≡ true
  pub kept_a : prices_kept m.choices m.prices_a ≡ true
  pub kept_b : prices_kept m.choices m.prices_b ≡ true
  pub rules_fit : units_used m.rules ≤ m.rule_room
  pub a_fits : length m.prices_a ≤ m.price_room
  pub b_fits : length m.prices_b ≤ m.price_room
