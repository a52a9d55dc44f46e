-- Each assignment of the variables 1 to n is given by a word of n bits.
use Rattle.std.proofs.Common.{◌≡◌, ℕ, zero, suc, ◌+◌, ◌*◌, ◌/◌, ◌%◌, ◌^◌, ◌<◌, Bool, true, false, eqb, ◌⊎◌, sym, ap, ◌∙◌, inl, inr, arith}
use Rattle.std.proofs.lemmas.Bool.{eq-eqb, ne_eqb}
use Rattle.std.proofs.lemmas.Nat.{pow-add, shr-shr}
use Rattle.bits.specs.Bit.{bit}
use Rattle.published.specs.Literature.{Assignment}
use Rattle.published.specs.Reading.{truth_value}
use Rattle.published.proofs.Values.{Gives}

low_bit : (b : Bool) (r : ℕ) → bit (truth_value b + 2 * r) 0 ≡ b
unfolding bit
low_bit true r = eq-eqb _ 1 (omega arith)
low_bit false r = ne_eqb _ 1 (λ e. omega arith)

half : (b : Bool) (r : ℕ) → (truth_value b + 2 * r) / 2 ≡ r
half true r = omega arith
half false r = omega arith

later_bit : (b : Bool) (r k : ℕ) → bit (truth_value b + 2 * r) (suc k) ≡ bit r k
unfolding bit
later_bit b r k =
    let s : suc k ≡ 1 + k = omega arith in
    let e = ap (λ (x : ℕ). (truth_value b + 2 * r) / 2 ^ x) s ∙ sym (shr-shr (truth_value b + 2 * r) 1 k) ∙ ap (λ (x : ℕ). x / 2 ^ k) (half b r) in
    ap (λ (x : ℕ). eqb (x % 2) 1) e

below : (b : Bool) (r n : ℕ) → r < 2 ^ n → truth_value b + 2 * r < 2 ^ suc n
below b r n h =
    let s : 2 ^ suc n ≡ 2 * 2 ^ n = ap (λ (x : ℕ). 2 ^ x) (omega arith) ∙ pow-add 2 1 n in
    by b s
  where
    by : (b : Bool) → 2 ^ suc n ≡ 2 * 2 ^ n → truth_value b + 2 * r < 2 ^ suc n
    by true s = omega arith
    by false s = omega arith

word_with : (n : ℕ) (f : ℕ → Bool) → (w : ℕ) × (w < 2 ^ n) × ((k : ℕ) → k < n → bit w k ≡ f k)
word_with zero f = (0, omega arith, λ k h. absurd (omega arith))
word_with (suc n) f =
    let r = word_with n (λ k. f (suc k)) in
    (truth_value (f 0) + 2 * r.0, below (f 0) r.0 n r.1, bits r.0 r.2)
  where
    bits : (r : ℕ) → ((k : ℕ) → k < n → bit r k ≡ f (suc k)) → (k : ℕ) → k < suc n → bit (truth_value (f 0) + 2 * r) k ≡ f k
    bits r e zero h = low_bit (f 0) r
    bits r e (suc k) h = later_bit (f 0) r k ∙ e k (omega arith)

truth_of : (v : ℕ) → (v ≡ 0) ⊎ (v ≡ 1) → v ≡ truth_value (eqb v 1)
truth_of v (inl e) = rw e
truth_of v (inr e) = rw e

pub word_for : (n : ℕ) (τ : Assignment) → (w : ℕ) × (w < 2 ^ n) × Gives n w τ
word_for n τ =
    let r = word_with n (λ k. eqb (τ.value (suc k)) 1) in
    (r.0, r.1, λ k h. truth_of (τ.value (suc k)) (τ.two_valued (suc k)) ∙ ap truth_value (sym (r.2 k h)))
