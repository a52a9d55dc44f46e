-- Which marks have a price.
use Rattle.std.proofs.Common.{◌≡◌, ℕ, zero, suc, ◌+◌, ◌<◌, Bool, true, false, ◌||◌, List, [], ◌∷◌, ◌++◌, length, get_or, take, ℤ, pos, negsuc, sym, refl, ap, ◌∙◌, inl, inr, arith}
use Rattle.std.proofs.lemmas.List.{take_more}
use Rattle.std.proofs.lemmas.Bool.{eqb-true, eq-eqb, or_left, or_right, or_from}
use Rattle.std.proofs.lemmas.Bool.Decides.{Decides-int_eq}
use Rattle.std.specs.Bool.{one_answer}
use Rattle.std.specs.List.{list_any}
use Rattle.std.specs.Ordering.{int_eq}
use Rattle.design.specs.Mark.{same_mark}
use Rattle.design.specs.Cost.{priced}
use Rattle.design.specs.declared.price.Price.{Price}
use Rattle.design.proofs.Truth.{never, tell}

pub same_true : (x y : ℤ) → same_mark x y ≡ true → x ≡ y
same_true (pos c) (pos d) t = ap pos (eqb-true c d t)
same_true (pos c) (negsuc k) t = absurd (never (sym t))
same_true (negsuc k) (pos c) t = absurd (never (sym t))
same_true (negsuc j) (negsuc k) t = ap negsuc (eqb-true j k t)

self_same : (x : ℤ) → same_mark x x ≡ true
self_same (pos c) = eq-eqb c c refl
self_same (negsuc k) = eq-eqb k k refl

pub same_from : (x y : ℤ) → x ≡ y → same_mark x y ≡ true
same_from x y e = ap (same_mark x) (sym e) ∙ self_same x

pub same_false : (x y : ℤ) → (x ≡ y → ⊥) → same_mark x y ≡ false
same_false x y n = elim (tell (same_mark x y)) [ inl t ↦ absurd (n (same_true x y t)) | inr f ↦ f ]

-- the test as Rust writes it
same_is : (x y : ℤ) → int_eq x y ≡ same_mark x y
same_is x y = one_answer (int_eq x y) (same_mark x y) (Decides-int_eq x y) (same_true x y, same_from x y)

pub priced_by : (ps : List Price) (z m : ℤ) → z ≡ m → list_any (λ (p : Price). int_eq p.mark z) ps ≡ priced ps m
unfolding priced
priced_by [] z m e = refl
priced_by (p ∷ ps) z m e = rw (priced_by ps z m e, e) (ap (λ b. b || priced ps m) (same_is p.mark m))

pub priced_none : (m : ℤ) → priced [] m ≡ false
unfolding priced
priced_none m = refl

pub priced_found : (ps : List Price) (i : ℕ) (d : Price) (m : ℤ) → i < length ps → (get_or ps i d).mark ≡ m → priced ps m ≡ true
unfolding priced
priced_found [] i d m h q = absurd (omega arith)
priced_found (x ∷ ps) zero d m h q = or_left _ _ (same_from x.mark m q)
priced_found (x ∷ ps) (suc i) d m h q = or_right _ _ (priced_found ps i d m (omega arith) q)

pub priced_more : (ps : List Price) (p : Price) (m : ℤ) → priced (ps ++ p ∷ []) m ≡ (priced ps m || same_mark p.mark m)
unfolding priced
priced_more [] p m = turned (same_mark p.mark m)
  where
    turned : (x : Bool) → (x || false) ≡ x
    turned true = refl
    turned false = refl
priced_more (x ∷ ps) p m = ap (λ (y : Bool). same_mark x.mark m || y) (priced_more ps p m) ∙ regroup (same_mark x.mark m) (priced ps m) (same_mark p.mark m)
  where
    regroup : (x y z : Bool) → (x || (y || z)) ≡ ((x || y) || z)
    regroup true y z = refl
    regroup false y z = refl

pub priced_next : (ps : List Price) (i : ℕ) (d : Price) (m : ℤ) → i < length ps → ((get_or ps i d).mark ≡ m → ⊥) → priced (take i ps) m ≡ false → priced (take (i + 1) ps) m ≡ false
priced_next ps i d m h n f =
    ap (λ (x : List Price). priced x m) (take_more ps i d h) ∙ priced_more (take i ps) (get_or ps i d) m ∙ or_from _ _ f (same_false (get_or ps i d).mark m n)
