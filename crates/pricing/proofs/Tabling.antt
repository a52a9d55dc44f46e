-- The tables of prices by mark, as one price more is entered.
use Rattle.std.proofs.Common.{◌≡◌, ℕ, zero, suc, ◌+◌, ◌-◌, ◌<◌, max, Bool, true, false, cond, eqb, ◌≢◌, ◌⊎◌, List, [], ◌∷◌, ◌++◌, length, get_or, set, replicate, ℤ, pos, negsuc, sym, refl, ap, ◌∙◌, subst, inl, inr, arith, get_or-set_other, get_or-set_same}
use lib.Bits.{bit_or}
use Rattle.std.proofs.lemmas.List.{map-append}
use Rattle.std.proofs.lemmas.Bool.{cases_eq, eq-eqb, ne_eqb, ltb-true}
use Rattle.design.specs.Mark.{named, all_are_named, bit_of, same_mark}
use Rattle.design.specs.declared.price.Price.{Price}
use Rattle.design.proofs.Truth.{both, left_of, right_of}
use Rattle.propagation.specs.Masks.{up_bit, down_bit, ups_of, downs_of}
use Rattle.propagation.proofs.Making.{ups_more, downs_more}
use Rattle.pricing.specs.Tables.{marks_in, price_at, take_mark, leave_mark, take_side, leave_side, Tabled}

pub marks_more : (ps : List Price) (p : Price) → marks_in (ps ++ p ∷ []) ≡ marks_in ps ++ p.mark ∷ []
unfolding marks_in
marks_more ps p = map-append (λ (x : Price). x.mark) ps (p ∷ [])

named_more : (n : ℕ) (ms : List ℤ) (m : ℤ) → all_are_named n ms ≡ true → named n m ≡ true → all_are_named n (ms ++ m ∷ []) ≡ true
unfolding all_are_named
named_more n [] m a b = both _ _ b refl
named_more n (x ∷ ms) m a b = both _ _ (left_of _ _ a) (named_more n ms m (right_of (named n x) _ a) b)

pub named_next : (n : ℕ) (ps qs : List Price) (p : Price) → qs ≡ ps ++ p ∷ [] → all_are_named n (marks_in ps) ≡ true → named n p.mark ≡ true → all_are_named n (marks_in qs) ≡ true
named_next n ps qs p e a b = ap (λ (x : List Price). all_are_named n (marks_in x)) e ∙ ap (all_are_named n) (marks_more ps p) ∙ named_more n (marks_in ps) p.mark a b

pub ups_next : (ps qs : List Price) (p : Price) (u x : ℕ) → qs ≡ ps ++ p ∷ [] → u ≡ ups_of (marks_in ps) → x ≡ up_bit p.mark → bit_or u x ≡ ups_of (marks_in qs)
unfolding ups_of
ups_next ps qs p u x e f g =
    ap (λ (n : ℕ). bit_or n x) f ∙ ap (bit_or (ups_of (marks_in ps))) g ∙ sym (ap (λ (y : List Price). ups_of (marks_in y)) e ∙ ap ups_of (marks_more ps p) ∙ ups_more 0 (marks_in ps) p.mark)

pub downs_next : (ps qs : List Price) (p : Price) (u x : ℕ) → qs ≡ ps ++ p ∷ [] → u ≡ downs_of (marks_in ps) → x ≡ down_bit p.mark → bit_or u x ≡ downs_of (marks_in qs)
unfolding downs_of
downs_next ps qs p u x e f g =
    ap (λ (n : ℕ). bit_or n x) f ∙ ap (bit_or (downs_of (marks_in ps))) g ∙ sym (ap (λ (y : List Price). downs_of (marks_in y)) e ∙ ap downs_of (marks_more ps p) ∙ downs_more 0 (marks_in ps) p.mark)

price_more : (ps : List Price) (p : Price) (m : ℤ) → price_at (ps ++ p ∷ []) m ≡ max (price_at ps m) (cond (same_mark p.mark m) p.place 0)
unfolding price_at
price_more [] p m = omega arith
price_more (q ∷ ps) p m = let e = price_more ps p m in omega arith

-- one entry raised, the others as they were
raised : (table : List ℕ) (k v j : ℕ) → k < length table → (j ≡ k) ⊎ (j ≢ k) → get_or (set table k v) j 0 ≡ cond (eqb j k) v (get_or table j 0)
raised table k v j h (inl e) =
    ap (λ (x : ℕ). get_or (set table k v) x 0) e ∙ (rw get_or-set_same) ∙ sym (ap (λ (b : Bool). cond b v (get_or table j 0)) (eq-eqb j k e))
raised table k v j h (inr n) = (rw get_or-set_other) ∙ sym (ap (λ (b : Bool). cond b v (get_or table j 0)) (ne_eqb j k n))

take_same : (m : ℤ) (j x old : ℕ) → named 64 m ≡ true → (j ≡ bit_of m) ⊎ (j ≢ bit_of m)
    → cond (eqb j (bit_of m)) (max old (take_side m x)) old ≡ max old (cond (same_mark m (take_mark j)) x 0)
take_same (pos c) j x old n (inl e) =
    let h = ltb-true 0 c (left_of _ _ n) in
    let a : eqb j (c - 1) ≡ true = eq-eqb j (c - 1) e in
    let b : eqb c (j + 1) ≡ true = eq-eqb c (j + 1) (omega arith) in
    ap (λ (y : Bool). cond y (max old x) old) a ∙ sym (ap (λ (y : Bool). max old (cond y x 0)) b)
take_same (pos c) j x old n (inr e) =
    let h = ltb-true 0 c (left_of _ _ n) in
    let a : eqb j (c - 1) ≡ false = ne_eqb j (c - 1) e in
    let b : eqb c (j + 1) ≡ false = ne_eqb c (j + 1) (λ q. e (omega arith)) in
    ap (λ (y : Bool). cond y (max old x) old) a ∙ sym (ap (λ (y : Bool). max old (cond y x 0)) b ∙ omega arith)
take_same (negsuc k) j x old n (inl e) = ap (λ (y : Bool). cond y (max old 0) old) (eq-eqb j k e)
take_same (negsuc k) j x old n (inr e) = ap (λ (y : Bool). cond y (max old 0) old) (ne_eqb j k e) ∙ omega arith

leave_same : (m : ℤ) (j x old : ℕ) → (j ≡ bit_of m) ⊎ (j ≢ bit_of m)
    → cond (eqb j (bit_of m)) (max old (leave_side m x)) old ≡ max old (cond (same_mark m (leave_mark j)) x 0)
leave_same (pos c) j x old (inl e) = ap (λ (y : Bool). cond y (max old 0) old) (eq-eqb j (c - 1) e)
leave_same (pos c) j x old (inr e) = ap (λ (y : Bool). cond y (max old 0) old) (ne_eqb j (c - 1) e) ∙ omega arith
leave_same (negsuc k) j x old (inl e) =
    ap (λ (y : Bool). cond y (max old x) old) (eq-eqb j k e) ∙ sym (ap (λ (y : Bool). max old (cond y x 0)) (eq-eqb k j (sym e)))
leave_same (negsuc k) j x old (inr e) =
    ap (λ (y : Bool). cond y (max old x) old) (ne_eqb j k e) ∙ sym (ap (λ (y : Bool). max old (cond y x 0)) (ne_eqb k j (λ q. e (sym q))) ∙ omega arith)

module _ (f : ℕ → ℤ) (side : ℤ → ℕ → ℕ)
    (same : (m : ℤ) (j x old : ℕ) → named 64 m ≡ true → (j ≡ bit_of m) ⊎ (j ≢ bit_of m) → cond (eqb j (bit_of m)) (max old (side m x)) old ≡ max old (cond (same_mark m (f j)) x 0)) where
  next : (ps : List Price) (p : Price) (table : List ℕ) (k v : ℕ) → k ≡ bit_of p.mark → k < length table → named 64 p.mark ≡ true
      → v ≡ max (get_or table k 0) (side p.mark p.place) → Tabled f table ps → Tabled f (set table k v) (ps ++ p ∷ [])
  next ps p table k v e h n q t j i =
      raised table k v j h (cases_eq j k)
      ∙ value (cases_eq j k)
      ∙ same p.mark j p.place (price_at ps (f j)) n (turn (cases_eq j k))
      ∙ sym (price_more ps p (f j))
    where
      turn : (j ≡ k) ⊎ (j ≢ k) → (j ≡ bit_of p.mark) ⊎ (j ≢ bit_of p.mark)
      turn (inl x) = inl (x ∙ e)
      turn (inr x) = inr (λ y. x (y ∙ sym e))

      value : (j ≡ k) ⊎ (j ≢ k) → cond (eqb j k) v (get_or table j 0) ≡ cond (eqb j (bit_of p.mark)) (max (price_at ps (f j)) (side p.mark p.place)) (price_at ps (f j))
      value (inl x) =
          let a : eqb j k ≡ true = eq-eqb j k x in
          let b : eqb j (bit_of p.mark) ≡ true = eq-eqb j (bit_of p.mark) (x ∙ e) in
          let z : get_or table k 0 ≡ price_at ps (f j) = ap (λ (y : ℕ). get_or table y 0) (sym x) ∙ t j i in
          ap (λ (y : Bool). cond y v (get_or table j 0)) a ∙ q ∙ ap (λ (y : ℕ). max y (side p.mark p.place)) z ∙ sym (ap (λ (y : Bool). cond y (max (price_at ps (f j)) (side p.mark p.place)) (price_at ps (f j))) b)
      value (inr x) =
          let a : eqb j k ≡ false = ne_eqb j k x in
          let b : eqb j (bit_of p.mark) ≡ false = ne_eqb j (bit_of p.mark) (λ y. x (y ∙ sym e)) in
          ap (λ (y : Bool). cond y v (get_or table j 0)) a ∙ t j i ∙ sym (ap (λ (y : Bool). cond y (max (price_at ps (f j)) (side p.mark p.place)) (price_at ps (f j))) b)

pub take_next : (ps qs : List Price) (p : Price) (table : List ℕ) (k v : ℕ) → qs ≡ ps ++ p ∷ [] → k ≡ bit_of p.mark → k < length table → named 64 p.mark ≡ true
    → v ≡ max (get_or table k 0) (take_side p.mark p.place) → Tabled take_mark table ps → Tabled take_mark (set table k v) qs
take_next ps qs p table k v e h i n q t = subst (Tabled take_mark (set table k v)) (sym e) (next take_mark take_side take_same ps p table k v h i n q t)

pub leave_next : (ps qs : List Price) (p : Price) (table : List ℕ) (k v : ℕ) → qs ≡ ps ++ p ∷ [] → k ≡ bit_of p.mark → k < length table → named 64 p.mark ≡ true
    → v ≡ max (get_or table k 0) (leave_side p.mark p.place) → Tabled leave_mark table ps → Tabled leave_mark (set table k v) qs
leave_next ps qs p table k v e h i n q t =
    subst (Tabled leave_mark (set table k v)) (sym e) (next leave_mark leave_side (λ m j x old _ c. leave_same m j x old c) ps p table k v h i n q t)

zeros : (n k : ℕ) → get_or {A = ℕ} (replicate n 0) k 0 ≡ 0
zeros zero k = refl
zeros (suc n) zero = refl
zeros (suc n) (suc k) = zeros n k

pub zero_table : (k : ℕ) → get_or {A = ℕ} (replicate 64 0) k 0 ≡ 0
zero_table k = zeros 64 k
