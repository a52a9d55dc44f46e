-- A rule's marks, widened one by one.
use Rattle.std.proofs.Common.{◌≡◌, ℕ, ◌+◌, ◌<◌, List, [], ◌∷◌, ◌++◌, length, get_or, take, ℤ, pos, negsuc, sym, ap, ◌∙◌, ap₂, arith, length-take-le, w8, w16, SFits, to_z, of_z}
use Rattle.std.proofs.lemmas.List.{take_more}
use Rattle.std.proofs.lemmas.Int.{to_z-of_z}

wide : (m : ℤ) → SFits w8 m → SFits w16 m
wide (pos n) f = record { sfits = omega (arith, f.sfits) }
wide (negsuc n) f = record { sfits = omega (arith, f.sfits) }

pub widened : (ms xs ys : List ℤ) (i : ℕ) (z : ℤ) → SFits w8 (get_or ms i (pos 0)) → i < length ms → xs ≡ take i ms → ys ≡ xs ++ to_z w16 (of_z w16 z) ∷ []
    → z ≡ to_z w8 (of_z w8 (get_or ms i (pos 0))) → ys ≡ take (i + 1) ms
widened ms xs ys i z f h e d q =
    let m = get_or ms i (pos 0) in
    let k : to_z w16 (of_z w16 z) ≡ m = ap (λ (x : ℤ). to_z w16 (of_z w16 x)) (q ∙ to_z-of_z w8 m f) ∙ to_z-of_z w16 m (wide m f) in
    d ∙ ap₂ (λ (l : List ℤ) (x : ℤ). l ++ x ∷ []) e k ∙ sym (take_more ms i (pos 0) h)

pub taken_short : (ms : List ℤ) (i : ℕ) → i < length ms → length (take i ms) < length ms
taken_short ms i h = omega (arith, length-take-le i ms (omega arith))
