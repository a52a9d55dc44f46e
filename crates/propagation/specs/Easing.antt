-- Easing: a choice whose one value no open rule asks for, and whose other value costs nothing, needs
-- no trial. A setting is moved to that other value and stays a plan.
use Rattle.std.specs.Prelude.{◌≡◌, ℕ, ◌<◌, ◌≤◌, true, false, ◌⊎◌, List, [], ◌∷◌}
use Rattle.bits.specs.Bit.{bit}
use Rattle.propagation.specs.declared.rule.Rule.{Rule}
use Rattle.propagation.specs.declared.partial.Partial.{Partial}
use Rattle.propagation.specs.Held.{Met}
use Rattle.propagation.specs.Narrowing.{Agrees, SurelyMet}

-- the second word has the first one's bits
abbrev pub Inside : ℕ → ℕ → Type 0
Inside a b = (k : ℕ) → bit a k ≡ true → bit b k ≡ true

-- each rule is surely met, or names only choices that two words have
unfoldable pub Asked : List Rule → Partial → ℕ → ℕ → Type 0
Asked [] p ups downs = Unit {0}
Asked (r ∷ rs) p ups downs = (SurelyMet r p ⊎ (Inside r.sides.ups ups × Inside r.sides.downs downs)) × Asked rs p ups downs

-- where v differs from w, it neither takes a choice of one word nor leaves one of the other
pub record NoDearer (ups downs w v : ℕ) : Type 0 where
  pub takes : (k : ℕ) → k < 64 → bit ups k ≡ true → bit v k ≡ true → bit w k ≡ true
  pub leaves : (k : ℕ) → k < 64 → bit downs k ≡ true → bit v k ≡ false → bit w k ≡ false

-- a setting that agrees with p and meets the rules has one that agrees with q, meets them and is no
-- dearer, where `ups` are the choices that cost something to take and `downs` to leave
pub record Moved (rs : List Rule) (ups downs : ℕ) (q : Partial) (w v : ℕ) : Type 0 where
  pub agrees : Agrees q.up q.down v
  pub met : Met rs v
  pub dearer : NoDearer ups downs w v

pub record Eased (rs : List Rule) (ups downs : ℕ) (p q : Partial) : Type 0 where
  pub up_le : q.up ≤ p.up
  pub down_le : q.down ≤ p.down
  pub moves : (w : ℕ) → Agrees p.up p.down w → Met rs w → (v : ℕ) × Moved rs ups downs q w v
