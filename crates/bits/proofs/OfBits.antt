use Rattle.std.proofs.Common.{◌≡◌, ℕ, zero, suc, ◌+◌, ◌-◌, ◌*◌, ◌/◌, ◌%◌, ◌^◌, ◌<◌, ◌≤◌, min, max, Bool, true, false, not, ◌&&◌, ◌||◌, eqb, ◌⊎◌, sym, refl, ap, ◌∙◌, inl, inr, mod-eq_of_lt, add-mul, one-mul, arith}
use lib.Bits.{bit_and, bit_or, bit_xor, and_step, or_step, xor_step, differ, xor_lt, and_le_l}
use Rattle.std.proofs.lemmas.Nat.{and_mask, and_shr, or_shr, xor_shr, one_shl, pow_pos, pow-add, shl-shr, shr-shr, mod_below, pow_below, div_below, le-div}
use Rattle.std.proofs.lemmas.Bool.{cases_lt}
use Rattle.bits.specs.Bit.{bit, Single}

-- a bit as a number
two : (n : ℕ) → (n % 2 ≡ 0) ⊎ (n % 2 ≡ 1)
two n = by (cases_lt (n % 2) 1)
  where
    by : (n % 2 < 1) ⊎ (1 ≤ n % 2) → (n % 2 ≡ 0) ⊎ (n % 2 ≡ 1)
    by (inl l) = inl (omega arith)
    by (inr l) = inr (omega (arith, mod_below n 2 (omega arith)))

and_num : (x y a b : ℕ) → (x ≡ 0) ⊎ (x ≡ 1) → (y ≡ 0) ⊎ (y ≡ 1) → eqb (min x y) 1 ≡ (eqb x 1 && eqb y 1)
and_num x y a b (inl e) (inl f) = rw (e, f)
and_num x y a b (inl e) (inr f) = rw (e, f)
and_num x y a b (inr e) (inl f) = rw (e, f)
and_num x y a b (inr e) (inr f) = rw (e, f)

or_num : (x y : ℕ) → (x ≡ 0) ⊎ (x ≡ 1) → (y ≡ 0) ⊎ (y ≡ 1) → eqb (max x y) 1 ≡ (eqb x 1 || eqb y 1)
or_num x y (inl e) (inl f) = rw (e, f)
or_num x y (inl e) (inr f) = rw (e, f)
or_num x y (inr e) (inl f) = rw (e, f)
or_num x y (inr e) (inr f) = rw (e, f)

-- exclusive or, as bits
abbrev pub either_one : Bool → Bool → Bool
either_one true b = not b
either_one false b = b

xor_num : (x y : ℕ) → (x ≡ 0) ⊎ (x ≡ 1) → (y ≡ 0) ⊎ (y ≡ 1) → eqb (differ x y) 1 ≡ either_one (eqb x 1) (eqb y 1)
xor_num x y (inl e) (inl f) = rw (e, f)
xor_num x y (inl e) (inr f) = rw (e, f)
xor_num x y (inr e) (inl f) = rw (e, f)
xor_num x y (inr e) (inr f) = rw (e, f)

and_low : (a b : ℕ) → bit_and a b % 2 ≡ min (a % 2) (b % 2)
and_low a b = let s = and_step a b in let l : min (a % 2) (b % 2) < 2 = omega (arith, mod_below a 2 (omega arith), mod_below b 2 (omega arith)) in omega arith

or_low : (a b : ℕ) → bit_or a b % 2 ≡ max (a % 2) (b % 2)
or_low a b = let s = or_step a b in let l : max (a % 2) (b % 2) < 2 = omega (arith, mod_below a 2 (omega arith), mod_below b 2 (omega arith)) in omega arith

differ_below : (x y : ℕ) → (x ≡ 0) ⊎ (x ≡ 1) → (y ≡ 0) ⊎ (y ≡ 1) → differ x y < 2
differ_below x y (inl e) (inl f) = rw (e, f) (omega arith)
differ_below x y (inl e) (inr f) = rw (e, f) (omega arith)
differ_below x y (inr e) (inl f) = rw (e, f) (omega arith)
differ_below x y (inr e) (inr f) = rw (e, f) (omega arith)

xor_low : (a b : ℕ) → bit_xor a b % 2 ≡ differ (a % 2) (b % 2)
xor_low a b = let s = xor_step a b in let l : differ (a % 2) (b % 2) < 2 = differ_below _ _ (two a) (two b) in omega arith

pub bit_of_and : (a b k : ℕ) → bit (bit_and a b) k ≡ (bit a k && bit b k)
unfolding bit
bit_of_and a b k = ap (λ x. eqb (x % 2) 1) (and_shr a b k) ∙ ap (λ x. eqb x 1) (and_low (a / 2 ^ k) (b / 2 ^ k)) ∙ and_num (a / 2 ^ k % 2) (b / 2 ^ k % 2) 0 0 (two (a / 2 ^ k)) (two (b / 2 ^ k))

pub bit_of_or : (a b k : ℕ) → bit (bit_or a b) k ≡ (bit a k || bit b k)
unfolding bit
bit_of_or a b k = ap (λ x. eqb (x % 2) 1) (or_shr a b k) ∙ ap (λ x. eqb x 1) (or_low (a / 2 ^ k) (b / 2 ^ k)) ∙ or_num (a / 2 ^ k % 2) (b / 2 ^ k % 2) (two (a / 2 ^ k)) (two (b / 2 ^ k))

pub bit_of_xor : (a b k : ℕ) → bit (bit_xor a b) k ≡ either_one (bit a k) (bit b k)
unfolding bit
bit_of_xor a b k = ap (λ x. eqb (x % 2) 1) (xor_shr a b k) ∙ ap (λ x. eqb x 1) (xor_low (a / 2 ^ k) (b / 2 ^ k)) ∙ xor_num (a / 2 ^ k % 2) (b / 2 ^ k % 2) (two (a / 2 ^ k)) (two (b / 2 ^ k))

bool_drop : (x y : Bool) → either_one x (x && y) ≡ (x && not y)
bool_drop true true = refl
bool_drop true false = refl
bool_drop false true = refl
bool_drop false false = refl

pub bit_drop : (a b k : ℕ) → bit (bit_xor a (bit_and a b)) k ≡ (bit a k && not (bit b k))
bit_drop a b k = bit_of_xor a (bit_and a b) k ∙ ap (either_one (bit a k)) (bit_of_and a b k) ∙ bool_drop (bit a k) (bit b k)

-- 2 ^ j at bit k
pub power_same : (j : ℕ) → bit (2 ^ j) j ≡ true
unfolding bit
power_same j =
    let q : 2 ^ j / 2 ^ j ≡ 1 = ap (λ n. n / 2 ^ j) (omega arith) ∙ shl-shr 1 j in
    ap (λ x. eqb (x % 2) 1) q

pub power_other : (j k : ℕ) → (k ≡ j → ⊥) → bit (2 ^ j) k ≡ false
unfolding bit
power_other j k n = ap (λ x. eqb x 1) (by (cases_lt k j))
  where
    by : (k < j) ⊎ (j ≤ k) → 2 ^ j / 2 ^ k % 2 ≡ 0
    by (inl l) =
        let i : j ≡ ((j - k - 1) + 1) + k = omega arith in
        let e : 2 ^ j ≡ 2 ^ ((j - k - 1) + 1) * 2 ^ k = ap (λ x. 2 ^ x) i ∙ pow-add 2 ((j - k - 1) + 1) k in
        let q : 2 ^ j / 2 ^ k ≡ 2 ^ ((j - k - 1) + 1) = ap (λ x. x / 2 ^ k) e ∙ shl-shr (2 ^ ((j - k - 1) + 1)) k in
        let h : 2 ^ ((j - k - 1) + 1) ≡ 2 ^ (j - k - 1) * 2 = pow-add 2 (j - k - 1) 1 in
        ap (λ x. x % 2) (q ∙ h) ∙ omega arith
    by (inr l) =
        let b : 2 ^ j < 2 ^ k = pow_below j k (omega arith) in
        let z : 2 ^ j / 2 ^ k < 1 = div_below (2 ^ j) (2 ^ k) 1 (pow_pos k) (omega arith) in
        let o : 2 ^ j / 2 ^ k ≡ 0 = omega arith in
        ap (λ x. x % 2) o

-- a bit of 2 ^ j is bit j
pub power_only : (j k : ℕ) → bit (2 ^ j) k ≡ true → k ≡ j
power_only j k t = by (cases_lt k j) (cases_lt j k)
  where
    by : (k < j) ⊎ (j ≤ k) → (j < k) ⊎ (k ≤ j) → k ≡ j
    by (inl l) g = absurd (clash (power_other j k (λ e. omega arith)))
      where
        clash : bit (2 ^ j) k ≡ false → ⊥
        clash f = let z : true ≡ false = sym t ∙ f in let y : ◌≡◌ {A = ℕ} 0 1 = cc in omega arith
    by (inr l) (inl g) = absurd (clash (power_other j k (λ e. omega arith)))
      where
        clash : bit (2 ^ j) k ≡ false → ⊥
        clash f = let z : true ≡ false = sym t ∙ f in let y : ◌≡◌ {A = ℕ} 0 1 = cc in omega arith
    by (inr l) (inr g) = omega arith

pub zero_bit : (k : ℕ) → bit 0 k ≡ false
unfolding bit
zero_bit k =
    let z : 0 / 2 ^ k < 1 = div_below 0 (2 ^ k) 1 (pow_pos k) (omega (arith, pow_pos k)) in
    let o : 0 / 2 ^ k ≡ 0 = omega arith in
    ap (λ x. eqb (x % 2) 1) o

next_bit : (a k : ℕ) → bit a (suc k) ≡ bit (a / 2) k
unfolding bit
next_bit a k =
    let e : a / 2 / 2 ^ k ≡ a / 2 ^ (1 + k) = shr-shr a 1 k in
    let s : 2 ^ (1 + k) ≡ 2 ^ suc k = ap (λ n. 2 ^ n) (omega arith) in
    ap (λ x. eqb (x % 2) 1) (sym (e ∙ ap (λ n. a / n) s))

first_bit : (a : ℕ) → bit a 0 ≡ eqb (a % 2) 1
unfolding bit
first_bit a = ap (λ x. eqb (x % 2) 1) (omega arith)

-- a word whose bits a second word has is no larger
pub inside_le : (n a b : ℕ) → a < 2 ^ n → ((k : ℕ) → k < n → bit a k ≡ true → bit b k ≡ true) → a ≤ b
inside_le zero a b l h = omega arith
inside_le (suc n) a b l h =
    let s : 2 ^ suc n ≡ 2 * 2 ^ n = ap (λ x. 2 ^ x) (omega arith) ∙ pow-add 2 1 n in
    let q : a / 2 < 2 ^ n = omega arith in
    let r : a / 2 ≤ b / 2 = inside_le n (a / 2) (b / 2) q (λ k i t. sym (next_bit b k) ∙ h (suc k) (omega arith) (next_bit a k ∙ t)) in
    low r (two a) (two b)
  where
    low : a / 2 ≤ b / 2 → (a % 2 ≡ 0) ⊎ (a % 2 ≡ 1) → (b % 2 ≡ 0) ⊎ (b % 2 ≡ 1) → a ≤ b
    low r (inl e) g = omega arith
    low r (inr e) (inr f) = omega arith
    low r (inr e) (inl f) =
        let t : bit b 0 ≡ true = h 0 (omega arith) (first_bit a ∙ ap (λ x. eqb x 1) e) in
        let z : true ≡ false = sym t ∙ first_bit b ∙ ap (λ x. eqb x 1) f in
        let y : ◌≡◌ {A = ℕ} 0 1 = cc in omega arith

-- two words of one's bits are the same
pub same_bits : (n a b : ℕ) → a < 2 ^ n → b < 2 ^ n → ((k : ℕ) → k < n → bit a k ≡ bit b k) → a ≡ b
same_bits n a b l m h =
    let p = inside_le n a b l (λ k i t. sym (h k i) ∙ t) in
    let q = inside_le n b a m (λ k i t. h k i ∙ t) in
    omega arith

pub top_single : (x z : ℕ) → 0 < x → (j : ℕ) → z + suc j ≡ 64 → 2 ^ j ≤ x → x < 2 ^ suc j → Single x ((1 * 2 ^ (63 - z)) % 2 ^ 64)
unfolding bit
top_single x z h j e low high =
    let i : 63 - z ≡ j = omega arith in
    let s : 2 ^ suc j ≡ 2 * 2 ^ j = ap (λ n. 2 ^ n) (omega arith) ∙ pow-add 2 1 j in
    let a : x / 2 ^ j < 2 = div_below x (2 ^ j) 2 (pow_pos j) (omega arith) in
    let b : 1 ≤ x / 2 ^ j = le-div 1 x (2 ^ j) (pow_pos j) (omega arith) in
    let one : x / 2 ^ j ≡ 1 = omega arith in
    record { index = j; low = omega arith; power = ap (λ n. (1 * 2 ^ n) % 2 ^ 64) i ∙ one_shl j 64 (omega arith); inside = ap (λ n. eqb (n % 2) 1) one }

and_true_l : (x y : Bool) → (x && y) ≡ true → x ≡ true
and_true_l true y t = refl
and_true_l false y t = t

pub drop_le : (a b : ℕ) → a < 2 ^ 64 → bit_xor a (bit_and a b) ≤ a
drop_le a b h =
    inside_le 64 _ a (xor_lt 64 a (bit_and a b) h (omega (arith, and_le_l a b))) (λ k i t. and_true_l (bit a k) (not (bit b k)) (sym (bit_drop a b k) ∙ t))

-- a word without bits is 0
pub no_bits : (a : ℕ) → a < 2 ^ 64 → ((k : ℕ) → k < 64 → bit a k ≡ true → ⊥) → a ≡ 0
no_bits a h n = let l : a ≤ 0 = inside_le 64 a 0 h (λ k i t. absurd (n k i t)) in omega arith

pub top_inside : (x z j : ℕ) → z + suc j ≡ 64 → 2 ^ j ≤ x → x < 2 ^ suc j → bit x (63 - z) ≡ true
unfolding bit
top_inside x z j e low high =
    let i : 63 - z ≡ j = omega arith in
    let s : 2 ^ suc j ≡ 2 * 2 ^ j = ap (λ n. 2 ^ n) (omega arith) ∙ pow-add 2 1 j in
    let a : x / 2 ^ j < 2 = div_below x (2 ^ j) 2 (pow_pos j) (omega arith) in
    let b : 1 ≤ x / 2 ^ j = le-div 1 x (2 ^ j) (pow_pos j) (omega arith) in
    let one : x / 2 ^ j ≡ 1 = omega arith in
    ap (λ n. eqb (x / 2 ^ n % 2) 1) i ∙ ap (λ n. eqb (n % 2) 1) one

pub low_bit : (w k : ℕ) → eqb (bit_and (w / 2 ^ k) 1) 1 ≡ bit w k
unfolding bit
low_bit w k = ap (λ (x : ℕ). eqb x 1) (and_mask (w / 2 ^ k) 1)

-- the lowest n bits: all bits shifted down
pub ones_shifted : (n : ℕ) → n ≤ 64 → (2 ^ 64 - 1) / 2 ^ (64 - n) ≡ 2 ^ n - 1
ones_shifted n h =
    let i : n + (64 - n) ≡ 64 = omega arith in
    let e : 2 ^ n * 2 ^ (64 - n) ≡ 2 ^ 64 = sym (pow-add 2 n (64 - n)) ∙ ap (λ (x : ℕ). 2 ^ x) i in
    let p = pow_pos n in
    let q = pow_pos (64 - n) in
    let s : (2 ^ n - 1) * 2 ^ (64 - n) + 2 ^ (64 - n) ≡ 2 ^ n * 2 ^ (64 - n) = split (2 ^ n) (2 ^ (64 - n)) p in
    let a : (2 ^ 64 - 1) / 2 ^ (64 - n) < 2 ^ n = div_below (2 ^ 64 - 1) (2 ^ (64 - n)) (2 ^ n) q (omega arith) in
    let b : 2 ^ n - 1 ≤ (2 ^ 64 - 1) / 2 ^ (64 - n) = le-div (2 ^ n - 1) (2 ^ 64 - 1) (2 ^ (64 - n)) q (omega arith) in
    omega arith
  where
    split : (a b : ℕ) → 0 < a → (a - 1) * b + b ≡ a * b
    split a b h = let i : (a - 1) + 1 ≡ a = omega arith in let m = add-mul (a - 1) 1 b in ap (λ (x : ℕ). (a - 1) * b + x) (sym (one-mul b)) ∙ sym m ∙ ap (λ (x : ℕ). x * b) i

-- word r is word v without bit j
abbrev pub Dropped : ℕ → ℕ → ℕ → Type 0
Dropped v j r = (k : ℕ) → bit r k ≡ (bit v k && not (bit (2 ^ j) k))

pub dropped : (v q j r : ℕ) → q ≡ 2 ^ j → ((k : ℕ) → bit r k ≡ (bit v k && not (bit q k))) → Dropped v j r
dropped v q j r e b k = b k ∙ ap (λ (n : ℕ). bit v k && not (bit n k)) e

-- a word that lost a bit that it had is smaller
pub lost : (v j r : ℕ) → Dropped v j r → bit v j ≡ true → r ≤ v → r < v
lost v j r d e l =
    let f : bit r j ≡ false = d j ∙ ap (λ (x : Bool). bit v j && not x) (power_same j) ∙ and_false (bit v j) in
    let n : r ≡ v → ⊥ = λ q. let z : true ≡ false = sym e ∙ ap (λ (x : ℕ). bit x j) (sym q) ∙ f in let y : ◌≡◌ {A = ℕ} 0 1 = cc in omega arith in
    omega arith
  where
    and_false : (x : Bool) → (x && false) ≡ false
    and_false true = refl
    and_false false = refl

right_true : (x y : Bool) → (x && y) ≡ true → y ≡ true
right_true true y t = t
right_true false y t = let z : false ≡ true = t in let e : ◌≡◌ {A = ℕ} 0 1 = cc in absurd (omega arith)

-- a bit of a word below 2 ^ n is one of the lowest n
pub low_inside : (n w k : ℕ) → w < 2 ^ n → bit w k ≡ true → bit (2 ^ n - 1) k ≡ true
low_inside n w k l e =
    let m : bit_and w (2 ^ n - 1) ≡ w = and_mask w n ∙ mod-eq_of_lt l in
    right_true (bit w k) _ (sym (bit_of_and w (2 ^ n - 1) k) ∙ ap (λ (x : ℕ). bit x k) m ∙ e)

pub inside_ones : (n k : ℕ) → k < n → bit (2 ^ n - 1) k ≡ true
inside_ones n k h = low_inside n (2 ^ k) k (pow_below k n h) (power_same k)
