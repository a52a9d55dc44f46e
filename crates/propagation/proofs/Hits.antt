use Rattle.std.proofs.Common.{◌≡◌, ℕ, zero, suc, ◌+◌, ◌-◌, ◌^◌, ◌<◌, Bool, true, false, cond, not, ◌||◌, ltb, ◌⊎◌, List, [], ◌∷◌, ◌++◌, length, get_or, take, ℤ, pos, negsuc, sym, refl, ap, ◌∙◌, subst, inl, inr, arith, ltb-true, leb-true}
use lib.Bits.{bit_and, bit_or, and_le_r}
use borrow.Author.Tests.{not-true}
use Rattle.std.proofs.lemmas.Bool.{or_cases, or_left, or_right}
use Rattle.std.proofs.lemmas.List.{take_more}
use Rattle.bits.specs.Bit.{bit}
use Rattle.bits.proofs.OfBits.{bit_of_and, bit_of_or, power_same, power_only, zero_bit, no_bits}
use Rattle.propagation.specs.declared.rule.Rule.{Rule}
use Rattle.design.specs.Mark.{named, all_are_named, holds}
use Rattle.design.specs.Rule.{meets, meets_all}
use Rattle.propagation.specs.Masks.{up_bit, down_bit, ups_from, downs_from, ups_of, downs_of}
use Rattle.propagation.specs.Narrowing.{Hit, Alive, AllAlive}
use Rattle.propagation.specs.Held.{Met}
use Rattle.propagation.specs.Held.{marks_of, rules_of}
use Rattle.design.proofs.Truth.{never, tell, both, left_of, right_of}
use Rattle.propagation.proofs.Narrows.{apart}

-- a true mark's bit in a rule's words, by the setting's bit
abbrev Seen : ℕ → ℕ → ℕ → ℕ → Type 0
Seen u d w k = cond (bit w k) (bit u k) (bit d k) ≡ true

seen_taken : (u d w k : ℕ) → bit w k ≡ true → Seen u d w k → bit u k ≡ true
seen_taken u d w k e s = subst (λ (x : Bool). cond x (bit u k) (bit d k) ≡ true) e s

seen_left : (u d w k : ℕ) → bit w k ≡ false → Seen u d w k → bit d k ≡ true
seen_left u d w k e s = subst (λ (x : Bool). cond x (bit u k) (bit d k) ≡ true) e s

taken_seen : (u d w k : ℕ) → bit w k ≡ true → bit u k ≡ true → Seen u d w k
taken_seen u d w k e t = rw e t

left_seen : (u d w k : ℕ) → bit w k ≡ false → bit d k ≡ true → Seen u d w k
left_seen u d w k e t = rw e t

-- more bits in a rule's words
hit_more : (u d x y w : ℕ) → Hit u d w → Hit (bit_or u x) (bit_or d y) w
hit_more u d x y w h = (h.0, h.1, by (tell (bit w h.0)))
  where
    by : (bit w h.0 ≡ true) ⊎ (bit w h.0 ≡ false) → Seen (bit_or u x) (bit_or d y) w h.0
    by (inl e) = taken_seen (bit_or u x) (bit_or d y) w h.0 e (bit_of_or u x h.0 ∙ or_left _ _ (seen_taken u d w h.0 e h.2))
    by (inr e) = left_seen (bit_or u x) (bit_or d y) w h.0 e (bit_of_or d y h.0 ∙ or_left _ _ (seen_left u d w h.0 e h.2))

hit_mark : (u d w : ℕ) (m : ℤ) → named 64 m ≡ true → holds w m ≡ true → Hit (bit_or u (up_bit m)) (bit_or d (down_bit m)) w
hit_mark u d w (pos n) i t =
    let a = ltb-true 0 n (left_of _ _ i) in
    let b = leb-true n 64 (right_of (ltb 0 n) _ i) in
    (n - 1, omega arith, taken_seen (bit_or u (2 ^ (n - 1))) (bit_or d 0) w (n - 1) t (bit_of_or u (2 ^ (n - 1)) (n - 1) ∙ or_right _ _ (power_same (n - 1))))
hit_mark u d w (negsuc k) i t =
    (k, ltb-true k 64 i, left_seen (bit_or u 0) (bit_or d (2 ^ k)) w k (not-true (bit w k) t) (bit_of_or d (2 ^ k) k ∙ or_right _ _ (power_same k)))

or_none : (d k : ℕ) → bit (bit_or d 0) k ≡ true → bit d k ≡ true
or_none d k t = by (or_cases _ _ (sym (bit_of_or d 0 k) ∙ t))
  where
    by : (bit d k ≡ true) ⊎ (bit 0 k ≡ true) → bit d k ≡ true
    by (inl e) = e
    by (inr e) = absurd (never (sym e ∙ zero_bit k))

mark_or : (u d w : ℕ) (m : ℤ) → Hit (bit_or u (up_bit m)) (bit_or d (down_bit m)) w → (Hit u d w) ⊎ (holds w m ≡ true)
mark_or u d w (pos n) h = by (tell (bit w h.0))
  where
    at : bit w h.0 ≡ true → (bit u h.0 ≡ true) ⊎ (bit (2 ^ (n - 1)) h.0 ≡ true) → (Hit u d w) ⊎ (holds w (pos n) ≡ true)
    at e (inl t) = inl (h.0, h.1, taken_seen u d w h.0 e t)
    at e (inr t) = inr (ap (bit w) (sym (power_only (n - 1) h.0 t)) ∙ e)

    by : (bit w h.0 ≡ true) ⊎ (bit w h.0 ≡ false) → (Hit u d w) ⊎ (holds w (pos n) ≡ true)
    by (inl e) = at e (or_cases _ _ (sym (bit_of_or u (2 ^ (n - 1)) h.0) ∙ seen_taken (bit_or u (2 ^ (n - 1))) (bit_or d 0) w h.0 e h.2))
    by (inr e) = inl (h.0, h.1, left_seen u d w h.0 e (or_none d h.0 (seen_left (bit_or u (2 ^ (n - 1))) (bit_or d 0) w h.0 e h.2)))
mark_or u d w (negsuc j) h = by (tell (bit w h.0))
  where
    at : bit w h.0 ≡ false → (bit d h.0 ≡ true) ⊎ (bit (2 ^ j) h.0 ≡ true) → (Hit u d w) ⊎ (holds w (negsuc j) ≡ true)
    at e (inl t) = inl (h.0, h.1, left_seen u d w h.0 e t)
    at e (inr t) = inr (ap (λ (x : ℕ). not (bit w x)) (sym (power_only j h.0 t)) ∙ ap not e)

    by : (bit w h.0 ≡ true) ⊎ (bit w h.0 ≡ false) → (Hit u d w) ⊎ (holds w (negsuc j) ≡ true)
    by (inl e) = inl (h.0, h.1, taken_seen u d w h.0 e (or_none u h.0 (seen_taken (bit_or u 0) (bit_or d (2 ^ j)) w h.0 e h.2)))
    by (inr e) = at e (or_cases _ _ (sym (bit_of_or d (2 ^ j) h.0) ∙ seen_left (bit_or u 0) (bit_or d (2 ^ j)) w h.0 e h.2))

-- a rule's marks and its two words say the same
hit_from : (u d w : ℕ) (ms : List ℤ) → all_are_named 64 ms ≡ true → (Hit u d w) ⊎ (meets w ms ≡ true) → Hit (ups_from u ms) (downs_from d ms) w
unfolding all_are_named meets ups_from downs_from
hit_from u d w [] i (inl h) = h
hit_from u d w [] i (inr t) = absurd (never (sym t))
hit_from u d w (m ∷ ms) i (inl h) = hit_from (bit_or u (up_bit m)) (bit_or d (down_bit m)) w ms (right_of (named 64 m) _ i) (inl (hit_more u d (up_bit m) (down_bit m) w h))
hit_from u d w (m ∷ ms) i (inr t) = hit_from (bit_or u (up_bit m)) (bit_or d (down_bit m)) w ms (right_of (named 64 m) _ i) (by (or_cases _ _ t))
  where
    by : (holds w m ≡ true) ⊎ (meets w ms ≡ true) → (Hit (bit_or u (up_bit m)) (bit_or d (down_bit m)) w) ⊎ (meets w ms ≡ true)
    by (inl e) = inl (hit_mark u d w m (left_of _ _ i) e)
    by (inr e) = inr e

from_hit : (u d w : ℕ) (ms : List ℤ) → Hit (ups_from u ms) (downs_from d ms) w → (Hit u d w) ⊎ (meets w ms ≡ true)
unfolding meets ups_from downs_from
from_hit u d w [] h = inl h
from_hit u d w (m ∷ ms) h = by (from_hit (bit_or u (up_bit m)) (bit_or d (down_bit m)) w ms h)
  where
    at : (Hit u d w) ⊎ (holds w m ≡ true) → (Hit u d w) ⊎ ((holds w m || meets w ms) ≡ true)
    at (inl e) = inl e
    at (inr e) = inr (or_left _ _ e)

    by : (Hit (bit_or u (up_bit m)) (bit_or d (down_bit m)) w) ⊎ (meets w ms ≡ true) → (Hit u d w) ⊎ ((holds w m || meets w ms) ≡ true)
    by (inl e) = at (mark_or u d w m e)
    by (inr e) = inr (or_right (holds w m) _ e)

none_hit : (w : ℕ) → Hit 0 0 w → ⊥
none_hit w h = by (tell (bit w h.0))
  where
    by : (bit w h.0 ≡ true) ⊎ (bit w h.0 ≡ false) → ⊥
    by (inl e) = never (sym (seen_taken 0 0 w h.0 e h.2) ∙ zero_bit h.0)
    by (inr e) = never (sym (seen_left 0 0 w h.0 e h.2) ∙ zero_bit h.0)

pub rule_hit : (r : Rule) (w : ℕ) → meets w (marks_of r) ≡ true → Hit r.sides.ups r.sides.downs w
unfolding ups_of downs_of
rule_hit r w t =
    let h : Hit (ups_of (marks_of r)) (downs_of (marks_of r)) w = hit_from 0 0 w (marks_of r) r.named (inr t) in
    subst (λ (x : ℕ). Hit x r.sides.downs w) (sym r.up_word) (subst (λ (x : ℕ). Hit (ups_of (marks_of r)) x w) (sym r.down_word) h)

pub hit_rule : (r : Rule) (w : ℕ) → Hit r.sides.ups r.sides.downs w → meets w (marks_of r) ≡ true
unfolding ups_of downs_of
hit_rule r w h = by (from_hit 0 0 w (marks_of r) (subst (λ (x : ℕ). Hit x (downs_of (marks_of r)) w) r.up_word (subst (λ (x : ℕ). Hit r.sides.ups x w) r.down_word h)))
  where
    by : (Hit 0 0 w) ⊎ (meets w (marks_of r) ≡ true) → meets w (marks_of r) ≡ true
    by (inl e) = absurd (none_hit w e)
    by (inr e) = e

pub met_at : (rs : List Rule) (w i : ℕ) (d : Rule) → Met rs w → i < length rs → meets w (marks_of (get_or rs i d)) ≡ true
unfolding meets_all rules_of
met_at [] w i d m h = absurd (omega arith)
met_at (r ∷ rs) w zero d m h = left_of _ _ m
met_at (r ∷ rs) w (suc i) d m h = met_at rs w i d (right_of (meets w (marks_of r)) _ m) (omega arith)

-- the rule at hand
pub item_hit : (rs : List Rule) (i : ℕ) (r : Rule) → r ≡ get_or rs i r → i < length rs → (w : ℕ) → Met rs w → Hit r.sides.ups r.sides.downs w
item_hit rs i r e h w m = rule_hit r w (ap (λ (x : Rule). meets w (marks_of x)) e ∙ met_at rs w i r m h)

alive_more : (rs : List Rule) (r : Rule) (up down : ℕ) → AllAlive rs up down → Alive r.sides.ups r.sides.downs up down → AllAlive (rs ++ r ∷ []) up down
unfolding AllAlive
alive_more [] r up down a b = (b, tt)
alive_more (q ∷ rs) r up down a b = (a.0, alive_more rs r up down a.1 b)

pub alive_none : (up down : ℕ) → AllAlive [] up down
unfolding AllAlive
alive_none up down = tt

pub alive_next : (rs : List Rule) (i : ℕ) (r : Rule) (up down : ℕ) → r ≡ get_or rs i r → i < length rs → AllAlive (take i rs) up down → Alive r.sides.ups r.sides.downs up down → AllAlive (take (i + 1) rs) up down
alive_next rs i r up down e h a b =
    subst (λ (x : List Rule). AllAlive x up down) (sym (take_more rs i r h ∙ ap (λ (x : Rule). take i rs ++ x ∷ []) (sym e))) (alive_more (take i rs) r up down a b)

-- where nothing is open, a rule that can still be met is met
alive_met : (r : Rule) (up down : ℕ) → up < 2 ^ 64 → down < 2 ^ 64 → bit_and up down ≡ 0 → Alive r.sides.ups r.sides.downs up down → meets up (marks_of r) ≡ true
alive_met r up down l m z a = by (tell (meets up (marks_of r)))
  where
    by : (meets up (marks_of r) ≡ true) ⊎ (meets up (marks_of r) ≡ false) → meets up (marks_of r) ≡ true
    by (inl t) = t
    by (inr f) =
        let no : Hit r.sides.ups r.sides.downs up → ⊥ = λ h. never (sym (hit_rule r up h) ∙ f) in
        let p : bit_and r.sides.ups up ≡ 0 = no_bits _ (omega (arith, and_le_r r.sides.ups up)) (λ k i t.
        let b = sym (bit_of_and r.sides.ups up k) ∙ t in
        no (k, i, taken_seen r.sides.ups r.sides.downs up k (right_of (bit r.sides.ups k) _ b) (left_of _ _ b))) in
        let q : bit_and r.sides.downs down ≡ 0 = no_bits _ (omega (arith, and_le_r r.sides.downs down)) (λ k i t.
        let b = sym (bit_of_and r.sides.downs down k) ∙ t in
        no (k, i, left_seen r.sides.ups r.sides.downs up k (off k (right_of (bit r.sides.downs k) _ b)) (left_of _ _ b))) in
        absurd (a p q)
      where
        off : (k : ℕ) → bit down k ≡ true → bit up k ≡ false
        off k e = at (tell (bit up k))
          where
            at : (bit up k ≡ true) ⊎ (bit up k ≡ false) → bit up k ≡ false
            at (inl t) = absurd (apart up down k z t e)
            at (inr g) = g

pub all_met : (rs : List Rule) (up down : ℕ) → up < 2 ^ 64 → down < 2 ^ 64 → bit_and up down ≡ 0 → AllAlive rs up down → meets_all up (rules_of rs) ≡ true
unfolding AllAlive meets_all rules_of
all_met [] up down l m z a = refl
all_met (r ∷ rs) up down l m z a = both _ _ (alive_met r up down l m z a.0) (all_met rs up down l m z a.1)
