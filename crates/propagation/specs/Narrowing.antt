-- Partial settings: `up` has the choices that may still be taken, `down` those that may still be
-- left, so that a choice in both is open.
use Rattle.std.specs.Prelude.{◌≡◌, ℕ, ◌+◌, ◌^◌, ◌<◌, ◌≤◌, true, false, cond, ◌⊎◌, List, [], ◌∷◌, Some, None, Option, ◌≢◌, bit_and}
use Rattle.bits.specs.Bit.{bit}
use Rattle.propagation.specs.declared.rule.Rule.{Rule}
use Rattle.propagation.specs.declared.partial.Partial.{Partial}
use Rattle.propagation.specs.Held.{Met}

-- each taken choice of w may be taken, and each left one may be left
pub record Agrees (up down w : ℕ) : Type 0 where
  pub low : w < 2 ^ 64
  pub kept : (k : ℕ) → k < 64 → cond (bit w k) (bit up k) (bit down k) ≡ true

-- a rule, by its two words, has a true mark
abbrev pub Hit : ℕ → ℕ → ℕ → Type 0
Hit ups downs w = (k : ℕ) × (k < 64) × (cond (bit w k) (bit ups k) (bit downs k) ≡ true)

-- no good setting agrees
abbrev pub Nowhere : (ℕ → Type 0) → ℕ → ℕ → Type 0
Nowhere Good up down = (w : ℕ) → Agrees up down w → Good w → ⊥

-- less is left open, and no good setting is lost
pub record Narrow (Good : ℕ → Type 0) (up down up' down' : ℕ) : Type 0 where
  pub up_le : up' ≤ up
  pub down_le : down' ≤ down
  pub keeps : (w : ℕ) → Agrees up down w → Good w → Agrees up' down' w

-- some mark can still meet the rule
abbrev pub Alive : ℕ → ℕ → ℕ → ℕ → Type 0
Alive ups downs up down = bit_and ups up ≡ 0 → bit_and downs down ≢ 0

unfoldable pub AllAlive : List Rule → ℕ → ℕ → Type 0
AllAlive [] up down = Unit {0}
AllAlive (r ∷ rs) up down = Alive r.sides.ups r.sides.downs up down × AllAlive rs up down

-- what one rule makes of a partial setting
abbrev pub Applied : Rule → Partial → Option Partial → Type 0
Applied r p None = Nowhere (Hit r.sides.ups r.sides.downs) p.up p.down
Applied r p (Some q) = Narrow (Hit r.sides.ups r.sides.downs) p.up p.down q.up q.down × Alive r.sides.ups r.sides.downs p.up p.down

-- what one sweep over the rules makes of it: where nothing changes, each rule can still be met
abbrev pub Swept : List Rule → Partial → Option Partial → Type 0
Swept rs p None = Nowhere (Met rs) p.up p.down
Swept rs p (Some q) =
    Narrow (Met rs) p.up p.down q.up q.down × (q.up ≡ p.up → q.down ≡ p.down → AllAlive rs p.up p.down)

-- a mark of the rule cannot be false any more
abbrev pub SureMark : Rule → Partial → Type 0
SureMark r p = (k : ℕ) × (k < 64) × (((bit r.sides.ups k ≡ true) × (bit p.down k ≡ false)) ⊎ ((bit r.sides.downs k ≡ true) × (bit p.up k ≡ false)))

-- every setting that agrees has a true mark of the rule
abbrev pub SurelyMet : Rule → Partial → Type 0
SurelyMet r p = (w : ℕ) → Agrees p.up p.down w → Hit r.sides.ups r.sides.downs w

-- a trial: two partial settings with less open, to one of which each setting belongs
pub record Halves (p first second : Partial) : Type 0 where
  pub first_in : first.up ≤ p.up
  pub second_in : second.up ≤ p.up
  pub first_less : first.up + first.down < p.up + p.down
  pub second_less : second.up + second.down < p.up + p.down
  pub either : (w : ℕ) → Agrees p.up p.down w → Agrees first.up first.down w ⊎ Agrees second.up second.down w
