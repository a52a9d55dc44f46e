-- The clause of two literals, as the code has it.
use Rattle.std.proofs.Common.{◌≡◌, ℕ, ◌^◌, ◌<◌, List, [], ◌∷◌, ℤ, pos, ◌-ℤ◌, neg_ℤ, nat_abs, sym, refl, ap, ◌∙◌, ap₂, w16, to_z, of_z}
use Rattle.std.proofs.lemmas.Int.{to_z_pos}
use Rattle.totalizer.specs.declared.Literal.{Literal}
use Rattle.totalizer.specs.declared.Literal.TheVariants.{Always, Never, Mark}
use Rattle.totalizer.specs.Clauses.{joins_to}
use Rattle.writer.proofs.Opposites.{turned}

abbrev pub turn : ℤ → ℤ
turn z = to_z w16 (of_z w16 (pos 0 -ℤ to_z w16 (of_z w16 z)))

never_left : (y : Literal) (n : ℕ) → joins_to Never y n ≡ []
unfolding joins_to
never_left y n = refl

never_right : (x : Literal) (n : ℕ) → joins_to x Never n ≡ []
unfolding joins_to
never_right Always n = refl
never_right Never n = refl
never_right (Mark m) n = refl

both_always : (n : ℕ) → joins_to Always Always n ≡ (pos n ∷ []) ∷ []
unfolding joins_to
both_always n = refl

mark_right : (v : ℤ) (n : ℕ) → joins_to Always (Mark v) n ≡ (neg_ℤ v ∷ pos n ∷ []) ∷ []
unfolding joins_to
mark_right v n = refl

mark_left : (u : ℤ) (n : ℕ) → joins_to (Mark u) Always n ≡ (neg_ℤ u ∷ pos n ∷ []) ∷ []
unfolding joins_to
mark_left u n = refl

both_marks : (u v : ℤ) (n : ℕ) → joins_to (Mark u) (Mark v) n ≡ (neg_ℤ u ∷ neg_ℤ v ∷ pos n ∷ []) ∷ []
unfolding joins_to
both_marks u v n = refl

module _ (x y : Literal) (n : ℕ) where
  pub none_left : x ≡ Never → joins_to x y n ≡ []
  none_left p = ap (λ (z : Literal). joins_to z y n) p ∙ never_left y n

  pub none_right : y ≡ Never → joins_to x y n ≡ []
  none_right p = ap (λ (z : Literal). joins_to x z n) p ∙ never_right x n

module _ (x y : Literal) (n : ℕ) (k : n < 2 ^ 15) where
  head : pos n ≡ to_z w16 n
  head = sym (to_z_pos w16 n k)

  one : (u : ℤ) → nat_abs u < 2 ^ 15 → ◌≡◌ {A = List (List ℤ)} ((neg_ℤ u ∷ pos n ∷ []) ∷ []) ((turn u ∷ to_z w16 n ∷ []) ∷ [])
  one u h = ap₂ (λ (i j : ℤ). (i ∷ j ∷ []) ∷ []) (sym (turned u h)) head

  pub is_always : x ≡ Always → y ≡ Always → joins_to x y n ≡ (to_z w16 n ∷ []) ∷ []
  is_always p q = ap₂ (λ (i j : Literal). joins_to i j n) p q ∙ both_always n ∙ ap (λ (z : ℤ). (z ∷ []) ∷ []) head

  pub is_right : (v : ℤ) → x ≡ Always → y ≡ Mark v → nat_abs v < 2 ^ 15 → joins_to x y n ≡ (turn v ∷ to_z w16 n ∷ []) ∷ []
  is_right v p q h = ap₂ (λ (i j : Literal). joins_to i j n) p q ∙ mark_right v n ∙ one v h

  pub is_left : (u : ℤ) → x ≡ Mark u → y ≡ Always → nat_abs u < 2 ^ 15 → joins_to x y n ≡ (turn u ∷ to_z w16 n ∷ []) ∷ []
  is_left u p q h = ap₂ (λ (i j : Literal). joins_to i j n) p q ∙ mark_left u n ∙ one u h

  pub is_both : (u v : ℤ) → x ≡ Mark u → y ≡ Mark v → nat_abs u < 2 ^ 15 → nat_abs v < 2 ^ 15 → joins_to x y n ≡ (turn u ∷ turn v ∷ to_z w16 n ∷ []) ∷ []
  is_both u v p q h h' =
      ap₂ (λ (i j : Literal). joins_to i j n) p q
      ∙ both_marks u v n
      ∙ ap₂ (λ (i j : ℤ). (i ∷ j ∷ pos n ∷ []) ∷ []) (sym (turned u h)) (sym (turned v h'))
      ∙ ap (λ (z : ℤ). (turn u ∷ turn v ∷ z ∷ []) ∷ []) head
