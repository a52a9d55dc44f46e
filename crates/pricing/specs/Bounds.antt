-- What a bound on a cost makes of a partial setting, and what a plan costs at least.
use Rattle.std.specs.Prelude.{◌≡◌, ℕ, ◌<◌, ◌≤◌, Bool, true, false, not, List, ℤ, pos, negsuc, Some, None, Option, slice_index}
use Rattle.scales.specs.Laws.{Places}
use Rattle.bits.specs.Bit.{bit}
use Rattle.design.specs.Mark.{bit_of, holds}
use Rattle.design.specs.Cost.{total, cost}
use Rattle.design.specs.declared.price.Price.{Price}
use Rattle.propagation.specs.Held.{Met}
use Rattle.propagation.specs.Narrowing.{Agrees, Narrow, Nowhere}
use Rattle.propagation.specs.declared.rule.Rule.{Rule}
use Rattle.propagation.specs.declared.partial.Partial.{Partial}
use Rattle.pricing.specs.Tables.{price_at, take_mark, leave_mark}

-- the mark is true whatever the open choices are
abbrev pub sure : Partial → ℤ → Bool
sure p (pos c) = not (bit p.down (bit_of (pos c)))
sure p (negsuc k) = not (bit p.up (bit_of (negsuc k)))

-- what the sure marks cost
abbrev pub sure_total : Places → List Price → Partial → ℕ
sure_total s ps p = total s (sure p) ps

-- less is left open, and no setting is lost of which the mark is false
pub record Excluded (p : Partial) (m : ℤ) (q : Partial) : Type 0 where
  pub up_le : q.up ≤ p.up
  pub down_le : q.down ≤ p.down
  pub keeps : (w : ℕ) → Agrees p.up p.down w → holds w m ≡ false → Agrees q.up q.down w

-- a setting whose cost is within the bound
abbrev pub Affordable : Places → List Price → ℕ → ℕ → Type 0
Affordable s ps bound w = cost s ps w ≤ bound

-- what is left where the marks that would break the bound are excluded
abbrev pub Bounded : Places → List Price → ℕ → Partial → Option Partial → Type 0
Bounded s ps bound p None = Nowhere (Affordable s ps bound) p.up p.down
Bounded s ps bound p (Some q) = Narrow (Affordable s ps bound) p.up p.down q.up q.down × (sure_total s ps p ≤ bound)

-- every setting that agrees and meets the rules costs at least r
abbrev pub Least : Places → List Rule → List Price → Partial → ℕ → Type 0
Least s rs ps p r = (w : ℕ) → Agrees p.up p.down w → Met rs w → r ≤ cost s ps w

-- r is at most a number and each entry of a table at a bit of a word
pub record AtMost (table : List ℕ) (word start r : ℕ) : Type 0 where
  pub from : r ≤ start
  pub each : (k : ℕ) → bit word k ≡ true → r ≤ slice_index table k

-- no mark of two words, to take and to leave, costs less than r
pub record Cheap (ps : List Price) (takes leaves r : ℕ) : Type 0 where
  pub taking : (k : ℕ) → k < 64 → bit takes k ≡ true → r ≤ price_at ps (take_mark k)
  pub leaving : (k : ℕ) → k < 64 → bit leaves k ≡ true → r ≤ price_at ps (leave_mark k)
