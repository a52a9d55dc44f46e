-- One choice more, with the value that it has or with either.
use Rattle.std.proofs.Common.{◌≡◌, ℕ, zero, suc, ◌+◌, ◌-◌, ◌<◌, ◌⊎◌, List, length, get_or, set, ℤ, pos, negsuc, sym, refl, ap, ◌∙◌, subst, inl, inr, true, false, ◌≤◌, arith, w16, to_z, lt-ltb, le-leb}
use Rattle.std.proofs.lemmas.List.{get_or-set_same, get_or-set_other}
use Rattle.std.proofs.lemmas.Bool.{cases_eq}
use Rattle.std.proofs.lemmas.Int.{ints}
use Rattle.design.specs.Mark.{bit_of}
use Rattle.design.proofs.Truth.{both}
use Rattle.values.specs.Partial.{Agrees, setting_of, is_open}
use Rattle.values.proofs.Agreeing.{agrees_self, agrees_unset, fits_holding, fits_failing}
use Rattle.sweeping.specs.declared.assignment.Assignment.{Assignment}
use Rattle.sweeping.specs.Trail.{values_in, clauses_at, OpenIn, Given, Reached, Restored}
use Rattle.sweeping.proofs.Reaching.{same_self, given_reached}
use Rattle.deciding.specs.Search.{Found}
use Rattle.deciding.proofs.Trying.{Takes, restored_reached, restored_open}
use Rattle.stepping.specs.Steps.{Fixed, NoneBroken, MetBelow, Walked}
use Rattle.stepping.proofs.Walking.{met_more, met_all, met_still}

fixed_more : (n : ℕ) (v : List ℤ) → Fixed n v → is_open (get_or v n (pos 0)) ≡ 0 → Fixed (n + 1) v
fixed_more n v f o k h = by (cases_eq k n)
  where
    by : (k ≡ n) ⊎ (k ≡ n → ⊥) → is_open (get_or v k (pos 0)) ≡ 0
    by (inl e) = ap (λ i. is_open (get_or v i (pos 0))) e ∙ o
    by (inr e) = f k (omega (arith, h, e))

fixed_set : (n : ℕ) (v : List ℤ) (z : ℤ) → Fixed n v → n < length v → is_open z ≡ 0 → Fixed (n + 1) (set v n z)
fixed_set n v z f l o = fixed_more n (set v n z) (λ k h. ap is_open (get_or-set_other v n k z (pos 0) (λ e. absurd (omega (arith, e)))) ∙ f k h) (ap is_open (get_or-set_same v n z (pos 0) l) ∙ o)

pub not_open : (z : ℤ) → (z ≡ pos 0 → ⊥) → is_open z ≡ 0
not_open (pos zero) h = absurd (h refl)
not_open (pos (suc n)) h = refl
not_open (negsuc n) h = refl

module _ (a : Assignment) (n : ℕ) (w : Walked a n) (t : NoneBroken n (values_in a) (clauses_at a)) where
  met : MetBelow (n + 1) (values_in a) (clauses_at a)
  met = met_more n _ (values_in a) (clauses_at a) w.fixed a.named t w.met

  -- the last choice has its value
  pub arrived : n ≡ length (values_in a) → Found a a
  arrived e =
      let m = subst (λ k. MetBelow (k + 1) (values_in a) (clauses_at a)) e met in
      record {
        same = same_self a;
        front = refl;
        agrees = agrees_self (values_in a);
        meeting = met_all _ (values_in a) (clauses_at a) a.named m (setting_of (values_in a)) (agrees_self (values_in a));
      }

  pub walked_on : n < length (values_in a) → is_open (get_or (values_in a) n (pos 0)) ≡ 0 → Walked a (n + 1)
  walked_on h o = record { low = omega arith; fixed = fixed_more n (values_in a) w.fixed o; met = met }

-- the number of a choice as its mark
mark_of : (k : ℕ) → k ≤ 32767 → to_z w16 k ≡ pos k
mark_of k h = omega (arith, ints)

module _ (a : Assignment) (n : ℕ) (w : Walked a n) (t : NoneBroken n (values_in a) (clauses_at a)) (h : n < length (values_in a)) (o : get_or (values_in a) n (pos 0) ≡ pos 0) where
  there : n + 1 - 1 ≡ n
  there = omega arith

  mark : to_z w16 (n + 1) ≡ pos (n + 1)
  mark = mark_of (n + 1) (omega (arith, a.few))

  opened : OpenIn a (pos (n + 1))
  opened =
      record {
        names = both _ _ (lt-ltb 0 (n + 1) (omega arith)) (le-leb (n + 1) (length (values_in a)) (omega arith));
        zero_there = ap (λ k. get_or (values_in a) k (pos 0)) there ∙ o;
      }

  -- after a trial that lost
  pub opened_again : (b : Assignment) → Restored a b → OpenIn b (to_z w16 (n + 1))
  opened_again b q = rw mark (restored_open a b (pos (n + 1)) q opened)

  -- first left
  pub left : (b : Assignment) → Given a (to_z w16 (n + 1)) (negsuc 0) b → Reached (Takes (pos (n + 1)) false) a b
  left b g = given_reached _ a b (pos (n + 1)) (negsuc 0) opened refl (rw mark at g) (λ x _ k. fits_failing x (pos (n + 1)) k)

  -- then taken
  pub taken : (b c : Assignment) → Restored a b → Given b (to_z w16 (n + 1)) (pos 1) c → Reached (Takes (pos (n + 1)) true) a c
  taken b c q g =
      restored_reached _ a b c q
      (given_reached _ b c (pos (n + 1)) (pos 1) (restored_open a b (pos (n + 1)) q opened) refl (rw mark at g) (λ x _ k. fits_holding x (pos (n + 1)) k))

  pub walked_given : (b c : Assignment) (z : ℤ) → Restored a b → is_open z ≡ 0 → Given b (to_z w16 (n + 1)) z c → Walked c (n + 1)
  walked_given b c z q e g =
      let v : values_in c ≡ set (values_in a) n z =
      g.values ∙ (ap (λ m. set (values_in b) (bit_of m) z) mark ∙ (ap (λ k. set (values_in b) k z) there ∙ ap (λ x. set x n z) q.values)) in
      record {
        low = omega (arith, h, g.same.choices, q.same.choices);
        fixed = subst (Fixed (n + 1)) (sym v) (fixed_set n (values_in a) z w.fixed h e);
        met =
            subst (MetBelow (n + 1) (values_in c)) (sym (g.same.clauses ∙ q.same.clauses))
            (met_still (n + 1) (values_in a) (values_in c) (clauses_at a) (λ x k. agrees_unset (values_in a) x n z o (subst (λ y. Agrees y x) v k)) (met a n w t));
      }
