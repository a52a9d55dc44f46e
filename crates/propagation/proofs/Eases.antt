-- Choices that need no trial.
use Rattle.std.proofs.Common.{◌≡◌, ℕ, ◌+◌, ◌-◌, ◌^◌, ◌<◌, ◌≤◌, Bool, true, false, cond, not, ◌&&◌, ◌||◌, ◌⊎◌, List, [], ◌∷◌, ◌++◌, length, get_or, take, sym, refl, ap, ◌∙◌, subst, inl, inr, arith}
use lib.Bits.{bit_and, bit_or, bit_xor, xor_lt, and_le_l}
use Rattle.std.proofs.lemmas.Nat.{leading_top, or_lt}
use Rattle.std.proofs.lemmas.List.{take_more}
use Rattle.std.proofs.lemmas.Bool.{or_cases, or_left, or_right, or_parts, not-true, not_from_false}
use Rattle.bits.specs.Bit.{bit}
use Rattle.bits.proofs.OfBits.{bit_of_and, bit_of_or, bit_drop, top_inside, zero_bit}
use Rattle.design.specs.Rule.{meets_all}
use Rattle.design.proofs.Truth.{never, tell, both, left_of, right_of}
use Rattle.propagation.specs.declared.rule.Rule.{Rule}
use Rattle.propagation.specs.declared.partial.Partial.{Partial}
use Rattle.propagation.specs.Held.{rules_of, Met}
use Rattle.propagation.specs.Narrowing.{Agrees, Hit, SureMark, SurelyMet}
use Rattle.propagation.specs.Easing.{Inside, Asked, NoDearer, Eased}
use Rattle.propagation.proofs.Narrows.{taken_in, left_in}
use Rattle.propagation.proofs.Hits.{rule_hit, hit_rule}

-- a word other than 0 has a bit
pub some_bit : (x : ℕ) → x < 2 ^ 64 → (x ≡ 0 → ⊥) → (k : ℕ) × (k < 64) × (bit x k ≡ true)
some_bit x h n =
    let l = leading_top 64 x (omega arith) h in
    (63 - _, omega arith, top_inside x _ l.0 l.1 l.2 l.3)

-- a word that is another without the bits of a third, and is not 0, has a bit of the one and not of the other
pub some_left : (v x r : ℕ) → r < 2 ^ 64 → ((k : ℕ) → bit r k ≡ (bit v k && not (bit x k))) → (r ≡ 0 → ⊥) → (k : ℕ) × (k < 64) × (bit v k ≡ true) × (bit x k ≡ false)
some_left v x r h b n =
    let k = some_bit r h n in
    let t = sym (b k.0) ∙ k.2 in
    (k.0, k.1, left_of _ _ t, not-true _ (right_of (bit v k.0) _ t))

pub none_left : (v x r : ℕ) → ((k : ℕ) → bit r k ≡ (bit v k && not (bit x k))) → r ≡ 0 → (k : ℕ) → bit v k ≡ true → bit x k ≡ false → ⊥
none_left v x r b z k u d = never (sym (b k ∙ both _ _ u (not_from_false _ d)) ∙ ap (λ (y : ℕ). bit y k) z ∙ zero_bit k)

-- a rule with such a mark is met by every setting that agrees
pub surely_met : (r : Rule) (p : Partial) → SureMark r p → SurelyMet r p
surely_met r p s w a = (s.0, s.1, by s.2 (tell (bit w s.0)))
  where
    by : ((bit r.sides.ups s.0 ≡ true) × (bit p.down s.0 ≡ false)) ⊎ ((bit r.sides.downs s.0 ≡ true) × (bit p.up s.0 ≡ false))
        → (bit w s.0 ≡ true) ⊎ (bit w s.0 ≡ false) → cond (bit w s.0) (bit r.sides.ups s.0) (bit r.sides.downs s.0) ≡ true
    by (inl t) (inl e) = rw e t.0
    by (inl t) (inr e) = absurd (never (sym (left_in a s.1 e) ∙ t.1))
    by (inr t) (inl e) = absurd (never (sym (taken_in a s.1 e) ∙ t.1))
    by (inr t) (inr e) = rw e t.0

pub inside_or_left : (a b c : ℕ) → Inside a b → Inside a (bit_or b c)
inside_or_left a b c i k t = bit_of_or b c k ∙ or_left _ _ (i k t)

pub inside_or_right : (b c : ℕ) → Inside c (bit_or b c)
inside_or_right b c k t = bit_of_or b c k ∙ or_right _ _ t

pub asked_none : (p : Partial) (u d : ℕ) → Asked [] p u d
unfolding Asked
asked_none p u d = tt

wider : (rs : List Rule) (p : Partial) (u d x y : ℕ) → Asked rs p u d → Asked rs p (bit_or u x) (bit_or d y)
unfolding Asked
wider [] p u d x y a = tt
wider (r ∷ rs) p u d x y a = (by a.0, wider rs p u d x y a.1)
  where
    by : SurelyMet r p ⊎ (Inside r.sides.ups u × Inside r.sides.downs d) → SurelyMet r p ⊎ (Inside r.sides.ups (bit_or u x) × Inside r.sides.downs (bit_or d y))
    by (inl s) = inl s
    by (inr i) = inr (inside_or_left r.sides.ups u x i.0, inside_or_left r.sides.downs d y i.1)

asked_more : (rs : List Rule) (r : Rule) (p : Partial) (u d : ℕ) → Asked rs p u d → SurelyMet r p ⊎ (Inside r.sides.ups u × Inside r.sides.downs d) → Asked (rs ++ r ∷ []) p u d
unfolding Asked
asked_more [] r p u d a s = (s, tt)
asked_more (q ∷ rs) r p u d a s = (a.0, asked_more rs r p u d a.1 s)

next_of : (rs : List Rule) (i : ℕ) (r : Rule) → r ≡ get_or rs i r → i < length rs → take (i + 1) rs ≡ take i rs ++ r ∷ []
next_of rs i r e h = take_more rs i r h ∙ ap (λ (x : Rule). take i rs ++ x ∷ []) (sym e)

pub asked_met : (rs : List Rule) (i : ℕ) (r : Rule) (p : Partial) (u d : ℕ) → r ≡ get_or rs i r → i < length rs → Asked (take i rs) p u d → SurelyMet r p → Asked (take (i + 1) rs) p u d
asked_met rs i r p u d e h a s = subst (λ (x : List Rule). Asked x p u d) (sym (next_of rs i r e h)) (asked_more (take i rs) r p u d a (inl s))

pub asked_open : (rs : List Rule) (i : ℕ) (r : Rule) (p : Partial) (u d : ℕ) → r ≡ get_or rs i r → i < length rs → Asked (take i rs) p u d → Asked (take (i + 1) rs) p (bit_or u r.sides.ups) (bit_or d r.sides.downs)
asked_open rs i r p u d e h a =
    subst (λ (x : List Rule). Asked x p (bit_or u r.sides.ups) (bit_or d r.sides.downs)) (sym (next_of rs i r e h))
    (asked_more (take i rs) r p (bit_or u r.sides.ups) (bit_or d r.sides.downs) (wider (take i rs) p u d r.sides.ups r.sides.downs a) (inr (inside_or_right u r.sides.ups, inside_or_right d r.sides.downs)))

-- a bit that is in neither of two words
pub or_off : (a b k : ℕ) → bit (bit_or a b) k ≡ false → (bit a k ≡ false) × (bit b k ≡ false)
or_off a b k f = or_parts _ _ (sym (bit_of_or a b k) ∙ f)

-- the setting with the bits of one word dropped and those of another added
abbrev moved : ℕ → ℕ → ℕ → ℕ
moved w leave add = bit_or (bit_xor w (bit_and w leave)) add

moved_bit : (w leave add k : ℕ) → bit (moved w leave add) k ≡ ((bit w k && not (bit leave k)) || bit add k)
moved_bit w leave add k = bit_of_or (bit_xor w (bit_and w leave)) add k ∙ ap (λ (x : Bool). x || bit add k) (bit_drop w leave k)

moved_low : (w leave add : ℕ) → w < 2 ^ 64 → add < 2 ^ 64 → moved w leave add < 2 ^ 64
moved_low w leave add h i = or_lt 64 _ _ (xor_lt 64 w (bit_and w leave) h (omega (arith, and_le_l w leave))) i

-- what is left of a word, by its bits
abbrev pub LessBits : ℕ → ℕ → ℕ → Type 0
LessBits r v x = (k : ℕ) → bit r k ≡ (bit v k && not (bit x k))

module _ (rs : List Rule) (ups downs : ℕ) (p q : Partial) (tu td leave add lx ax : ℕ)
    (asked : Asked rs p tu td) (add_low : add < 2 ^ 64)
    (leave-is : LessBits leave (bit_and p.up p.down) lx) (add_is : LessBits add (bit_and p.up p.down) ax)
    (lx-has : (k : ℕ) → bit lx k ≡ false → (bit tu k ≡ false) × (bit downs k ≡ false))
    (ax-has : (k : ℕ) → bit ax k ≡ false → (bit td k ≡ false) × (bit ups k ≡ false) × (bit leave k ≡ false))
    (up_is : LessBits q.up p.up leave) (down_is : LessBits q.down p.down add) where
  leave_in : (k : ℕ) → bit leave k ≡ true → (bit p.up k ≡ true) × (bit p.down k ≡ true) × (bit tu k ≡ false) × (bit downs k ≡ false)
  leave_in k t =
      let s = sym (leave-is k) ∙ t in
      let o = sym (bit_of_and p.up p.down k) ∙ left_of _ _ s in
      let n = lx-has k (not-true _ (right_of (bit (bit_and p.up p.down) k) _ s)) in
      (left_of _ _ o, right_of (bit p.up k) _ o, n.0, n.1)

  add_in : (k : ℕ) → bit add k ≡ true → (bit p.up k ≡ true) × (bit p.down k ≡ true) × (bit td k ≡ false) × (bit ups k ≡ false) × (bit leave k ≡ false)
  add_in k t =
      let s = sym (add_is k) ∙ t in
      let o = sym (bit_of_and p.up p.down k) ∙ left_of _ _ s in
      let n = ax-has k (not-true _ (right_of (bit (bit_and p.up p.down) k) _ s)) in
      (left_of _ _ o, right_of (bit p.up k) _ o, n.0, n.1, n.2)

  -- a taken choice of the moved setting was taken, or is one of those added
  taken_from : (w k : ℕ) → bit (moved w leave add) k ≡ true → ((bit w k ≡ true) × (bit leave k ≡ false)) ⊎ (bit add k ≡ true)
  taken_from w k t = by (or_cases _ _ (sym (moved_bit w leave add k) ∙ t))
    where
      by : ((bit w k && not (bit leave k)) ≡ true) ⊎ (bit add k ≡ true) → ((bit w k ≡ true) × (bit leave k ≡ false)) ⊎ (bit add k ≡ true)
      by (inl s) = inl (left_of _ _ s, not-true _ (right_of (bit w k) _ s))
      by (inr s) = inr s

  left_from : (w k : ℕ) → bit (moved w leave add) k ≡ false → (bit add k ≡ false) × ((bit w k ≡ false) ⊎ (bit leave k ≡ true))
  left_from w k f = (o.1, by (tell (bit w k)) (tell (bit leave k)))
    where
      o : ((bit w k && not (bit leave k)) ≡ false) × (bit add k ≡ false)
      o = or_parts _ _ (sym (moved_bit w leave add k) ∙ f)

      by : (bit w k ≡ true) ⊎ (bit w k ≡ false) → (bit leave k ≡ true) ⊎ (bit leave k ≡ false) → (bit w k ≡ false) ⊎ (bit leave k ≡ true)
      by (inr e) g = inl e
      by (inl e) (inl g) = inr g
      by (inl e) (inr g) = absurd (never (sym (both _ _ e (not_from_false _ g)) ∙ o.0))

  agrees_moved : (w : ℕ) → Agrees p.up p.down w → Agrees q.up q.down (moved w leave add)
  agrees_moved w a = record { low = moved_low w leave add a.low add_low; kept = λ k i. by k i (tell (bit (moved w leave add) k)) }
    where
      up_at : (k : ℕ) → k < 64 → ((bit w k ≡ true) × (bit leave k ≡ false)) ⊎ (bit add k ≡ true) → bit q.up k ≡ true
      up_at k i (inl s) = up_is k ∙ both _ _ (taken_in a i s.0) (not_from_false _ s.1)
      up_at k i (inr s) = let n = add_in k s in up_is k ∙ both _ _ n.0 (not_from_false _ n.4)

      down_at : (k : ℕ) → k < 64 → bit add k ≡ false → (bit w k ≡ false) ⊎ (bit leave k ≡ true) → bit q.down k ≡ true
      down_at k i n (inl s) = down_is k ∙ both _ _ (left_in a i s) (not_from_false _ n)
      down_at k i n (inr s) = down_is k ∙ both _ _ (leave_in k s).1 (not_from_false _ n)

      by : (k : ℕ) → k < 64 → (bit (moved w leave add) k ≡ true) ⊎ (bit (moved w leave add) k ≡ false) → cond (bit (moved w leave add) k) (bit q.up k) (bit q.down k) ≡ true
      by k i (inl t) = rw t (up_at k i (taken_from w k t))
      by k i (inr f) = let s = left_from w k f in rw f (down_at k i s.0 s.1)

  -- what agrees with the narrower partial setting agrees with the wider one
  agrees_wider : (v : ℕ) → Agrees q.up q.down v → Agrees p.up p.down v
  agrees_wider v a = record { low = a.low; kept = λ k i. by k i (tell (bit v k)) }
    where
      by : (k : ℕ) → k < 64 → (bit v k ≡ true) ⊎ (bit v k ≡ false) → cond (bit v k) (bit p.up k) (bit p.down k) ≡ true
      by k i (inl t) = rw t (left_of _ _ (sym (up_is k) ∙ taken_in a i t))
      by k i (inr f) = rw f (left_of _ _ (sym (down_is k) ∙ left_in a i f))

  -- the moved setting has the same true mark of a rule that asks for it
  hit_moved : (r : Rule) (w : ℕ) → Inside r.sides.ups tu → Inside r.sides.downs td → Hit r.sides.ups r.sides.downs w → Hit r.sides.ups r.sides.downs (moved w leave add)
  hit_moved r w iu id h = (h.0, h.1, by (tell (bit w h.0)))
    where
      by : (bit w h.0 ≡ true) ⊎ (bit w h.0 ≡ false) → cond (bit (moved w leave add) h.0) (bit r.sides.ups h.0) (bit r.sides.downs h.0) ≡ true
      by (inl e) = rw stays u
        where
          u : bit r.sides.ups h.0 ≡ true
          u = subst (λ (x : Bool). cond x (bit r.sides.ups h.0) (bit r.sides.downs h.0) ≡ true) e h.2

          off : (bit leave h.0 ≡ true) ⊎ (bit leave h.0 ≡ false) → bit leave h.0 ≡ false
          off (inl t) = absurd (never (sym (iu h.0 u) ∙ (leave_in h.0 t).2))
          off (inr f) = f

          stays : bit (moved w leave add) h.0 ≡ true
          stays = moved_bit w leave add h.0 ∙ or_left _ _ (both _ _ e (not_from_false _ (off (tell (bit leave h.0)))))
      by (inr e) = rw stays d
        where
          d : bit r.sides.downs h.0 ≡ true
          d = subst (λ (x : Bool). cond x (bit r.sides.ups h.0) (bit r.sides.downs h.0) ≡ true) e h.2

          off : (bit add h.0 ≡ true) ⊎ (bit add h.0 ≡ false) → bit add h.0 ≡ false
          off (inl t) = absurd (never (sym (id h.0 d) ∙ (add_in h.0 t).2))
          off (inr f) = f

          stays : bit (moved w leave add) h.0 ≡ false
          stays = moved_bit w leave add h.0 ∙ ap (λ (x : Bool). (x && not (bit leave h.0)) || bit add h.0) e ∙ off (tell (bit add h.0))

  met_moved : (w : ℕ) → Agrees p.up p.down w → Met rs w → Met rs (moved w leave add)
  unfolding Asked meets_all rules_of
  met_moved w a = all rs asked
    where
      v : ℕ
      v = moved w leave add

      one : (r : Rule) → SurelyMet r p ⊎ (Inside r.sides.ups tu × Inside r.sides.downs td) → Hit r.sides.ups r.sides.downs w → Hit r.sides.ups r.sides.downs (moved w leave add)
      one r (inl s) h = s (moved w leave add) (agrees_wider (moved w leave add) (agrees_moved w a))
      one r (inr i) h = hit_moved r w i.0 i.1 h

      all : (xs : List Rule) → Asked xs p tu td → Met xs w → Met xs (moved w leave add)
      all [] s m = refl
      all (r ∷ xs) s m = both _ _ (hit_rule r (moved w leave add) (one r s.0 (rule_hit r w (left_of _ _ m)))) (all xs s.1 (right_of _ _ m))

  dearer_moved : (w : ℕ) → NoDearer ups downs w (moved w leave add)
  dearer_moved w = record { takes = λ k i u t. by_take k u (taken_from w k t); leaves = λ k i d f. by_leave k d (left_from w k f).1 }
    where
      by_take : (k : ℕ) → bit ups k ≡ true → ((bit w k ≡ true) × (bit leave k ≡ false)) ⊎ (bit add k ≡ true) → bit w k ≡ true
      by_take k u (inl s) = s.0
      by_take k u (inr s) = absurd (never (sym u ∙ (add_in k s).3))

      by_leave : (k : ℕ) → bit downs k ≡ true → (bit w k ≡ false) ⊎ (bit leave k ≡ true) → bit w k ≡ false
      by_leave k d (inl s) = s
      by_leave k d (inr s) = absurd (never (sym d ∙ (leave_in k s).3))

  pub eased : q.up ≤ p.up → q.down ≤ p.down → Eased rs ups downs p q
  eased lu ld = record {
    up_le = lu;
    down_le = ld;
    moves = λ w a m. (moved w leave add, record { agrees = agrees_moved w a; met = met_moved w a m; dearer = dearer_moved w });
  }
