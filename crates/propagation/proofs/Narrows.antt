use Rattle.std.proofs.Common.{◌≡◌, ℕ, ◌^◌, ◌<◌, Bool, true, false, cond, not, ◌&&◌, ◌⊎◌, sym, ap, ◌∙◌, subst, inl, inr, arith}
use lib.Bits.{bit_and}
use Rattle.bits.specs.Bit.{bit}
use Rattle.design.proofs.Truth.{never, tell, both}
use Rattle.bits.proofs.OfBits.{bit_of_and, power_only, zero_bit, Dropped}
use Rattle.propagation.specs.Narrowing.{Agrees, Hit, Narrow, Nowhere}

pub taken_in : {up down w k : ℕ} → Agrees up down w → k < 64 → bit w k ≡ true → bit up k ≡ true
taken_in {up} {down} {w} {k} a h e = subst (λ (x : Bool). cond x (bit up k) (bit down k) ≡ true) e (a.kept k h)

pub left_in : {up down w k : ℕ} → Agrees up down w → k < 64 → bit w k ≡ false → bit down k ≡ true
left_in {up} {down} {w} {k} a h e = subst (λ (x : Bool). cond x (bit up k) (bit down k) ≡ true) e (a.kept k h)

-- two words without a bit in common
pub apart : (a b k : ℕ) → bit_and a b ≡ 0 → bit a k ≡ true → bit b k ≡ true → ⊥
apart a b k z e f = never (sym (bit_of_and a b k ∙ both _ _ e f) ∙ ap (λ (n : ℕ). bit n k) z ∙ zero_bit k)

-- where two words have only bit j in common
pub common : (a b j k : ℕ) → bit_and a b ≡ 2 ^ j → bit a k ≡ true → bit b k ≡ true → k ≡ j
common a b j k z e f = power_only j k (ap (λ (n : ℕ). bit n k) (sym z) ∙ bit_of_and a b k ∙ both _ _ e f)

pub broken : (ups downs up down : ℕ) → bit_and ups up ≡ 0 → bit_and downs down ≡ 0 → Nowhere (Hit ups downs) up down
broken ups downs up down p q w a h = by (tell (bit w h.0))
  where
    by : (bit w h.0 ≡ true) ⊎ (bit w h.0 ≡ false) → ⊥
    by (inl e) = apart ups up h.0 p (subst (λ (x : Bool). cond x (bit ups h.0) (bit downs h.0) ≡ true) e h.2) (taken_in a h.1 e)
    by (inr e) = apart downs down h.0 q (subst (λ (x : Bool). cond x (bit ups h.0) (bit downs h.0) ≡ true) e h.2) (left_in a h.1 e)

-- a rule's last open mark is true
pub must_leave : (ups downs up down j w : ℕ) → bit_and ups up ≡ 0 → bit_and downs down ≡ 2 ^ j → Agrees up down w → Hit ups downs w → bit w j ≡ false
must_leave ups downs up down j w p q a h = by (tell (bit w h.0))
  where
    by : (bit w h.0 ≡ true) ⊎ (bit w h.0 ≡ false) → bit w j ≡ false
    by (inl e) = absurd (apart ups up h.0 p (subst (λ (x : Bool). cond x (bit ups h.0) (bit downs h.0) ≡ true) e h.2) (taken_in a h.1 e))
    by (inr e) =
        let i : h.0 ≡ j = common downs down j h.0 q (subst (λ (x : Bool). cond x (bit ups h.0) (bit downs h.0) ≡ true) e h.2) (left_in a h.1 e) in
        ap (bit w) (sym i) ∙ e

pub must_take : (ups downs up down j w : ℕ) → bit_and ups up ≡ 2 ^ j → bit_and downs down ≡ 0 → Agrees up down w → Hit ups downs w → bit w j ≡ true
must_take ups downs up down j w p q a h = by (tell (bit w h.0))
  where
    by : (bit w h.0 ≡ true) ⊎ (bit w h.0 ≡ false) → bit w j ≡ true
    by (inr e) = absurd (apart downs down h.0 q (subst (λ (x : Bool). cond x (bit ups h.0) (bit downs h.0) ≡ true) e h.2) (left_in a h.1 e))
    by (inl e) =
        let i : h.0 ≡ j = common ups up j h.0 p (subst (λ (x : Bool). cond x (bit ups h.0) (bit downs h.0) ≡ true) e h.2) (taken_in a h.1 e) in
        ap (bit w) (sym i) ∙ e

other_bit : (w j k : ℕ) (b : Bool) → bit w j ≡ b → bit w k ≡ not b → bit (2 ^ j) k ≡ false
other_bit w j k b e f = by (tell (bit (2 ^ j) k))
  where
    not_self : (b : Bool) → not b ≡ b → ⊥
    not_self true q = never (sym q)
    not_self false q = never q

    by : (bit (2 ^ j) k ≡ true) ⊎ (bit (2 ^ j) k ≡ false) → bit (2 ^ j) k ≡ false
    by (inr n) = n
    by (inl t) = absurd (not_self b (sym f ∙ ap (bit w) (power_only j k t) ∙ e))

still : (v j r k : ℕ) → Dropped v j r → bit v k ≡ true → bit (2 ^ j) k ≡ false → bit r k ≡ true
still v j r k d e f = d k ∙ ap (λ (x : Bool). x && not (bit (2 ^ j) k)) e ∙ ap not f

pub drop_up : (up down j r w : ℕ) → Dropped up j r → Agrees up down w → bit w j ≡ false → Agrees r down w
drop_up up down j r w d a e = record { low = a.low; kept = λ k h. by k h (tell (bit w k)) }
  where
    by : (k : ℕ) → k < 64 → (bit w k ≡ true) ⊎ (bit w k ≡ false) → cond (bit w k) (bit r k) (bit down k) ≡ true
    by k h (inl t) = rw t (still up j r k d (taken_in a h t) (other_bit w j k false e t))
    by k h (inr f) = rw f (left_in a h f)

pub drop_down : (up down j r w : ℕ) → Dropped down j r → Agrees up down w → bit w j ≡ true → Agrees up r w
drop_down up down j r w d a e = record { low = a.low; kept = λ k h. by k h (tell (bit w k)) }
  where
    by : (k : ℕ) → k < 64 → (bit w k ≡ true) ⊎ (bit w k ≡ false) → cond (bit w k) (bit up k) (bit r k) ≡ true
    by k h (inl t) = rw t (taken_in a h t)
    by k h (inr f) = rw f (still down j r k d (left_in a h f) (other_bit w j k true e f))

pub narrow_same : (Good : ℕ → Type 0) (up down : ℕ) → Narrow Good up down up down
narrow_same Good up down = record { up_le = omega arith; down_le = omega arith; keeps = λ w a g. a }

pub narrow_more : (Good Less : ℕ → Type 0) (up down u d u₂ d₂ : ℕ) → ((w : ℕ) → Good w → Less w) → Narrow Good up down u d → Narrow Less u d u₂ d₂ → Narrow Good up down u₂ d₂
narrow_more Good Less up down u d u₂ d₂ f m n =
    record { up_le = omega arith; down_le = omega arith; keeps = λ w a g. n.keeps w (m.keeps w a g) (f w g) }
