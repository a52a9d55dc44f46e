-- Marks of 16 bits and their opposites.
use Rattle.std.proofs.Common.{◌≡◌, zero, suc, ◌^◌, ◌<◌, ℤ, pos, negsuc, ◌-ℤ◌, neg_ℤ, nat_abs, ap, ◌∙◌, arith, w16, SFits, to_z, of_z}
use Rattle.std.proofs.lemmas.Int.{to_z-of_z, ints}

short_fits : (z : ℤ) → nat_abs z < 2 ^ 15 → SFits w16 z
short_fits (pos n) h = record { sfits = omega arith }
short_fits (negsuc n) h = record { sfits = omega arith }

other_fits : (z : ℤ) → nat_abs z < 2 ^ 15 → SFits w16 (neg_ℤ z)
other_fits (pos zero) h = record { sfits = omega arith }
other_fits (pos (suc n)) h = record { sfits = omega arith }
other_fits (negsuc n) h = record { sfits = omega arith }

minus : (z : ℤ) → pos 0 -ℤ z ≡ neg_ℤ z
minus z = omega (arith, ints)

-- the opposite of a mark of a choice below 2 ^ 15, as the code has it
pub turned : (z : ℤ) → nat_abs z < 2 ^ 15 → to_z w16 (of_z w16 (pos 0 -ℤ to_z w16 (of_z w16 z))) ≡ neg_ℤ z
turned z h =
    ap (λ (y : ℤ). to_z w16 (of_z w16 (pos 0 -ℤ y))) (to_z-of_z w16 z (short_fits z h))
    ∙ ap (λ (y : ℤ). to_z w16 (of_z w16 y)) (minus z)
    ∙ to_z-of_z w16 (neg_ℤ z) (other_fits z h)
