-- The choice that a mark names, and its opposite.
use Rattle.std.proofs.Common.{◌≡◌, ℕ, zero, suc, ◌≤◌, true, ltb, leb, ℤ, pos, negsuc, neg_ℤ, nat_abs, refl, arith}
use Rattle.std.proofs.lemmas.Bool.{leb-true, ltb-true, le-leb, lt-ltb, and_from, and_parts}
use Rattle.design.specs.Mark.{named}

pub choice_low : (n : ℕ) (m : ℤ) → named n m ≡ true → 1 ≤ nat_abs m
choice_low n (pos k) e = ltb-true 0 k (and_parts (ltb 0 k) (leb k n) e).0
choice_low n (negsuc k) e = omega arith

pub choice_high : (n : ℕ) (m : ℤ) → named n m ≡ true → nat_abs m ≤ n
choice_high n (pos k) e = leb-true k n (and_parts (ltb 0 k) (leb k n) e).1
choice_high n (negsuc k) e = ltb-true k n e

pub named_from : (n : ℕ) (m : ℤ) → 1 ≤ nat_abs m → nat_abs m ≤ n → named n m ≡ true
named_from n (pos k) a b = and_from (ltb 0 k) (leb k n) (lt-ltb 0 k a) (le-leb k n b)
named_from n (negsuc k) a b = lt-ltb k n b

pub choice_opposite : (m : ℤ) → nat_abs (neg_ℤ m) ≡ nat_abs m
choice_opposite (pos zero) = refl
choice_opposite (pos (suc n)) = refl
choice_opposite (negsuc n) = refl
