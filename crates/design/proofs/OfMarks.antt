-- Marks: what the tests on them say.
use Rattle.std.proofs.Common.{◌≡◌, ℕ, zero, suc, ◌+◌, ◌<◌, ◌≤◌, true, ◌&&◌, ltb, List, [], ◌∷◌, length, get_or, ℤ, pos, negsuc, nat_abs, refl, ap, arith, w8, SFits, ltb-true, lt-ltb, le-leb, leb-true}
use Rattle.std.proofs.lemmas.List.{nil_from_length}
use Rattle.std.proofs.lemmas.Slice.{first_rest}
use Rattle.std.specs.List.{between, list_all}
use Rattle.design.specs.Mark.{named, all_are_named, bit_of}
use Rattle.design.proofs.Truth.{both, left_of, right_of}

pub all_none : (n : ℕ) (ms : List ℤ) → length ms ≡ 0 → all_are_named n ms ≡ true
unfolding all_are_named
all_none n ms h = ap (all_are_named n) (nil_from_length ms h)

pub all_first : (n : ℕ) (ms : List ℤ) → 0 < length ms → all_are_named n ms ≡ (named n (get_or ms 0 (pos 0)) && all_are_named n (between 1 (length ms) ms))
unfolding all_are_named
all_first n ms h = ap (all_are_named n) (first_rest ms (pos 0) h)

pub all_at : (n i : ℕ) (ms : List ℤ) (d : ℤ) → all_are_named n ms ≡ true → i < length ms → named n (get_or ms i d) ≡ true
unfolding all_are_named
all_at n i [] d a h = absurd (omega arith)
all_at n zero (m ∷ ms) d a h = left_of _ _ a
all_at n (suc i) (m ∷ ms) d a h = all_at n i ms d (right_of (named n m) _ a) (omega arith)

pub named_up : (n : ℕ) (m : ℤ) → n ≤ 64 → named n m ≡ true → named 64 m ≡ true
named_up n (pos k) h w = both _ _ (left_of _ _ w) (le-leb k 64 (let l = leb-true k n (right_of (ltb 0 k) _ w) in omega arith))
named_up n (negsuc k) h w = lt-ltb k 64 (let l = ltb-true k n w in omega arith)

pub all_up : (n : ℕ) (ms : List ℤ) → n ≤ 64 → all_are_named n ms ≡ true → all_are_named 64 ms ≡ true
unfolding all_are_named
all_up n [] h w = refl
all_up n (m ∷ ms) h w = both _ _ (named_up n m h (left_of _ _ w)) (all_up n ms h (right_of (named n m) _ w))

-- the same, mark by mark
pub all_by : (n : ℕ) (ms : List ℤ) → list_all (named n) ms ≡ all_are_named n ms
unfolding all_are_named
all_by n [] = refl
all_by n (m ∷ ms) = ap (λ b. named n m && b) (all_by n ms)

-- a mark's bit lies within the choices that it names
pub bit_below : (n : ℕ) (m : ℤ) → named n m ≡ true → bit_of m < n
bit_below n (pos c) w = let l = leb-true c n (right_of (ltb 0 c) _ w) in let k = ltb-true 0 c (left_of _ _ w) in omega arith
bit_below n (negsuc k) w = ltb-true k n w

pub abs_bit : (m : ℤ) → named 64 m ≡ true → nat_abs m ≡ bit_of m + 1
abs_bit (pos c) w = let k = ltb-true 0 c (left_of _ _ w) in omega arith
abs_bit (negsuc k) w = omega arith

-- a mark of the choices 1 to 64 is a signed byte
pub named_fits : (m : ℤ) → named 64 m ≡ true → SFits w8 m
named_fits (pos c) w = let l = leb-true c 64 (right_of (ltb 0 c) _ w) in record { sfits = omega arith }
named_fits (negsuc k) w = let l = ltb-true k 64 w in record { sfits = omega arith }
