-- Bytes read one after another, and what entering a design leaves as it was.
use Rattle.std.specs.Prelude.{◌≡◌, ℕ, ◌+◌, ◌*◌, List, slice_index_or}
use Rattle.design.specs.Plan.{Meaning}

-- the byte at a place, 0 past the end
abbrev pub byte_at : List ℕ → ℕ → ℕ
byte_at bs k = slice_index_or bs k 0

-- a number of two bytes, low byte first
abbrev pub number_at : List ℕ → ℕ
number_at bs = byte_at bs 0 + 256 * byte_at bs 1

-- a judge's sizes and limits; only rules and prices were entered
pub record Grown (m m' : Meaning) : Type 0 where
  pub choices : m'.choices ≡ m.choices
  pub price_room : m'.price_room ≡ m.price_room
  pub rule_room : m'.rule_room ≡ m.rule_room
  pub limit_a : m'.limit_a ≡ m.limit_a
  pub limit_b : m'.limit_b ≡ m.limit_b

-- only prices of A, or of B, were entered
pub record GrownInA (m m' : Meaning) : Type 0 where
  pub grown : Grown m m'
  pub rules : m'.rules ≡ m.rules
  pub prices_b : m'.prices_b ≡ m.prices_b

pub record GrownInB (m m' : Meaning) : Type 0 where
  pub grown : Grown m m'
  pub rules : m'.rules ≡ m.rules
  pub prices_a : m'.prices_a ≡ m.prices_a
