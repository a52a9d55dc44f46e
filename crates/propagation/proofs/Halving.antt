-- The two halves of a trial.
use Rattle.std.proofs.Common.{◌≡◌, ℕ, ◌<◌, true, false, ◌⊎◌, inl, inr, arith}
use Rattle.bits.specs.Bit.{bit}
use Rattle.bits.proofs.OfBits.{Dropped}
use Rattle.design.proofs.Truth.{tell}
use Rattle.propagation.specs.declared.partial.Partial.{Partial}
use Rattle.propagation.specs.Narrowing.{Agrees, Halves}
use Rattle.propagation.proofs.Narrows.{drop_up, drop_down}

-- left first
pub halves : (p : Partial) (k up down : ℕ) → Dropped p.up k up → Dropped p.down k down → up < p.up → down < p.down
    → Halves p (record { up = up; down = p.down }) (record { up = p.up; down = down })
halves p k up down du dd lu ld = record {
  first_in = omega arith;
  second_in = omega arith;
  first_less = omega arith;
  second_less = omega arith;
  either = λ w a. by w a (tell (bit w k));
}
  where
    by : (w : ℕ) → Agrees p.up p.down w → (bit w k ≡ true) ⊎ (bit w k ≡ false) → Agrees up p.down w ⊎ Agrees p.up down w
    by w a (inl t) = inr (drop_down p.up p.down k down w dd a t)
    by w a (inr f) = inl (drop_up p.up p.down k up w du a f)

pub turned : {p q r : Partial} → Halves p q r → Halves p r q
turned h = record {
  first_in = h.second_in;
  second_in = h.first_in;
  first_less = h.second_less;
  second_less = h.first_less;
  either = λ w a. elim (h.either w a) [ inl x ↦ inr x | inr x ↦ inl x ];
}
