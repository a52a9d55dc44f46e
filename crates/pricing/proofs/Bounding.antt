-- What a bound excludes, and what a plan costs at least.
use Rattle.std.proofs.Common.{◌≡◌, ℕ, ◌+◌, ◌-◌, ◌^◌, ◌<◌, ◌≤◌, Bool, true, false, cond, not, ◌&&◌, ◌⊎◌, List, [], ◌∷◌, get_or, ℤ, pos, negsuc, sym, refl, ap, ◌∙◌, subst, inl, inr, arith}
use lib.Bits.{bit_and, bit_or, bit_xor}
use Rattle.std.proofs.lemmas.Bool.{or_left, or_right, not-true, not_from_false, cases_lt}
use Rattle.scales.specs.Laws.{Places}
use Rattle.scales.proofs.ByPlaces.{PlaceLaws}
use Rattle.bits.specs.Bit.{bit}
use Rattle.bits.proofs.OfBits.{bit_of_and, bit_of_or, bit_of_xor, either_one, power_only, zero_bit, inside_ones}
use Rattle.design.specs.Mark.{named, all_are_named, holds, bit_of, same_mark}
use Rattle.design.specs.Cost.{total}
use Rattle.design.specs.declared.price.Price.{Price}
use Rattle.design.proofs.Truth.{never, tell, both, left_of, right_of}
use Rattle.design.proofs.OfMarks.{bit_below}
use Rattle.design.proofs.OfPrices.{same_true}
use Rattle.design.proofs.Totals.{Wider, Offered, total_insert}
use Rattle.propagation.specs.Masks.{up_bit, down_bit}
use Rattle.propagation.specs.Narrowing.{Agrees, Hit, Narrow}
use Rattle.propagation.specs.declared.partial.Partial.{Partial}
use Rattle.propagation.proofs.Narrows.{apart, taken_in, left_in}
use Rattle.pricing.specs.Tables.{marks_in, price_at, take_mark, leave_mark}
use Rattle.pricing.specs.Bounds.{sure, sure_total, Affordable, Cheap}
use Rattle.pricing.proofs.Costing.{wider_named, sure_holds}

-- a setting of which the mark is false keeps where the mark's value is dropped
pub drop_mark : (u d u' d' w : ℕ) (m : ℤ) → named 64 m ≡ true → holds w m ≡ false
    → ((k : ℕ) → bit u' k ≡ (bit u k && not (bit (up_bit m) k))) → ((k : ℕ) → bit d' k ≡ (bit d k && not (bit (down_bit m) k))) → Agrees u d w → Agrees u' d' w
drop_mark u d u' d' w m n f bu bd a = record { low = a.low; kept = λ k i. by k i (tell (bit w k)) }
  where
    -- the bit that is dropped is not the setting's
    up_off : (m : ℤ) → holds w m ≡ false → (k : ℕ) → bit w k ≡ true → (bit (up_bit m) k ≡ true) ⊎ (bit (up_bit m) k ≡ false) → bit (up_bit m) k ≡ false
    up_off (pos c) f k t (inl e) = absurd (never (sym t ∙ ap (bit w) (power_only (c - 1) k e) ∙ f))
    up_off (pos c) f k t (inr e) = e
    up_off (negsuc j) f k t e = zero_bit k

    down_off : (m : ℤ) → holds w m ≡ false → (k : ℕ) → bit w k ≡ false → (bit (down_bit m) k ≡ true) ⊎ (bit (down_bit m) k ≡ false) → bit (down_bit m) k ≡ false
    down_off (pos c) f k t e = zero_bit k
    down_off (negsuc j) f k t (inl e) = absurd (never (sym (not_from_false _ (ap (bit w) (sym (power_only j k e)) ∙ t)) ∙ f))
    down_off (negsuc j) f k t (inr e) = e

    by : (k : ℕ) → k < 64 → (bit w k ≡ true) ⊎ (bit w k ≡ false) → cond (bit w k) (bit u' k) (bit d' k) ≡ true
    by k i (inl t) = rw t (bu k ∙ both _ _ (taken_in a i t) (not_from_false _ (up_off m f k t (tell (bit (up_bit m) k)))))
    by k i (inr t) = rw t (bd k ∙ both _ _ (left_in a i t) (not_from_false _ (down_off m f k t (tell (bit (down_bit m) k)))))

pub narrow_drop : (Good : ℕ → Type 0) (up down u d u' d' : ℕ) → Narrow Good up down u d → u' ≤ u → d' ≤ d
    → ((w : ℕ) → Agrees up down w → Good w → Agrees u d w → Agrees u' d' w) → Narrow Good up down u' d'
narrow_drop Good up down u d u' d' n hu hd f =
    record { up_le = omega (arith, n.up_le); down_le = omega (arith, n.down_le); keeps = λ w a g. f w a g (n.keeps w a g) }

-- an open mark whose price would break the bound is false
pub excluded : (s : Places) → PlaceLaws s → (ps : List Price) (p : Partial) (m : ℤ) (x sum bound w : ℕ) → all_are_named 64 (marks_in ps) ≡ true
    → sum ≡ sure_total s ps p → bound < s.join sum x → sure p m ≡ false → Offered ps m x → Agrees p.up p.down w → Affordable s ps bound w → holds w m ≡ false
excluded s l ps p m x sum bound w named e h f o a good = by (tell (holds w m))
  where
    by : (holds w m ≡ true) ⊎ (holds w m ≡ false) → holds w m ≡ false
    by (inr g) = g
    by (inl t) =
        let i = total_insert s l (sure p) (holds w) ps (wider_named 64 ps _ _ named (sure_holds p w a)) m f t x o in
        let j = ap (λ (n : ℕ). s.join n x) e in
        absurd (omega arith)

-- some price of a mark is no less than what is at most the largest
offered_from : (ps : List Price) (m : ℤ) (x : ℕ) → x ≤ price_at ps m → Offered ps m x
unfolding price_at Offered
offered_from [] m x h = omega arith
offered_from (p ∷ ps) m x h = by (λ l. offered_from ps m x l) (tell (same_mark p.mark m)) (cases_lt (price_at ps m) x)
  where
    by : (x ≤ price_at ps m → Offered ps m x) → (same_mark p.mark m ≡ true) ⊎ (same_mark p.mark m ≡ false) → (price_at ps m < x) ⊎ (x ≤ price_at ps m) → ((p.mark ≡ m) × (x ≤ p.place)) ⊎ Offered ps m x
    by go c (inr l) = inr (go l)
    by go (inl t) (inl l) =
        let e : cond (same_mark p.mark m) p.place 0 ≡ p.place = ap (λ (b : Bool). cond b p.place 0) t in
        inl (same_true p.mark m t, omega arith)
    by go (inr f) (inl l) =
        let e : cond (same_mark p.mark m) p.place 0 ≡ 0 = ap (λ (b : Bool). cond b p.place 0) f in
        absurd (omega arith)

-- a mark holds, and its choice is among those counted
abbrev pub counts : ℕ → ℕ → ℤ → Bool
counts w seen m = holds w m && bit seen (bit_of m)

and_false : (y : Bool) → (y && false) ≡ false
and_false true = refl
and_false false = refl

-- what is sure counts from the start: its choice is not open
pub sure_counts : (p : Partial) (w : ℕ) → Agrees p.up p.down w → (m : ℤ) → named 64 m ≡ true → sure p m ≡ true → counts w (bit_xor (bit_and p.up p.down) (2 ^ 64 - 1)) m ≡ true
sure_counts p w a m i t = both _ _ (sure_holds p w a m i t) (closed m i t)
  where
    shut : (k : ℕ) → k < 64 → (bit p.up k && bit p.down k) ≡ false → bit (bit_xor (bit_and p.up p.down) (2 ^ 64 - 1)) k ≡ true
    shut k h f = bit_of_xor (bit_and p.up p.down) (2 ^ 64 - 1) k ∙ ap (λ (y : Bool). either_one y (bit (2 ^ 64 - 1) k)) (bit_of_and p.up p.down k ∙ f) ∙ inside_ones 64 k h

    closed : (m : ℤ) → named 64 m ≡ true → sure p m ≡ true → bit (bit_xor (bit_and p.up p.down) (2 ^ 64 - 1)) (bit_of m) ≡ true
    closed (pos n) i t = shut (n - 1) (bit_below 64 (pos n) i) (ap (λ (b : Bool). bit p.up (n - 1) && b) (not-true _ t) ∙ and_false (bit p.up (n - 1)))
    closed (negsuc k) i t = shut k (bit_below 64 (negsuc k) i) (ap (λ (b : Bool). b && bit p.down k) (not-true _ t))

pub counts_holds : (w seen : ℕ) (m : ℤ) → named 64 m ≡ true → counts w seen m ≡ true → holds w m ≡ true
counts_holds w seen m i t = left_of _ _ t

-- a rule whose choices are not counted yet adds its cheapest mark
pub hit_adds : (s : Places) → PlaceLaws s → (ps : List Price) (ups downs up down w seen x c : ℕ) → all_are_named 64 (marks_in ps) ≡ true → Agrees up down w → Hit ups downs w
    → bit_and (bit_or (bit_and ups up) (bit_and downs down)) seen ≡ 0 → Cheap ps (bit_and ups up) (bit_and downs down) x → c ≤ total s (counts w seen) ps
    → s.join c x ≤ total s (counts w (bit_or seen (bit_or (bit_and ups up) (bit_and downs down)))) ps
hit_adds s l ps ups downs up down w seen x c named a h z ch le = by (tell (bit w h.0))
  where
    wide : Wider ps (counts w seen) (counts w (bit_or seen (bit_or (bit_and ups up) (bit_and downs down))))
    wide = wider_named 64 ps _ _ named (λ m i t. both _ _ (left_of _ _ t) (bit_of_or seen (bit_or (bit_and ups up) (bit_and downs down)) (bit_of m) ∙ or_left _ _ (right_of (holds w m) _ t)))

    unseen : (k : ℕ) → bit (bit_or (bit_and ups up) (bit_and downs down)) k ≡ true → bit seen k ≡ false
    unseen k e = at (tell (bit seen k))
      where
        at : (bit seen k ≡ true) ⊎ (bit seen k ≡ false) → bit seen k ≡ false
        at (inl t) = absurd (apart (bit_or (bit_and ups up) (bit_and downs down)) seen k z e t)
        at (inr f) = f

    adds : (m : ℤ) → holds w m ≡ true → bit (bit_or (bit_and ups up) (bit_and downs down)) (bit_of m) ≡ true → x ≤ price_at ps m
        → s.join c x ≤ total s (counts w (bit_or seen (bit_or (bit_and ups up) (bit_and downs down)))) ps
    adds m t e o =
        let i = total_insert s l (counts w seen) (counts w (bit_or seen (bit_or (bit_and ups up) (bit_and downs down)))) ps wide m
        (ap (λ (y : Bool). holds w m && y) (unseen (bit_of m) e) ∙ and_false (holds w m))
        (both _ _ t (bit_of_or seen (bit_or (bit_and ups up) (bit_and downs down)) (bit_of m) ∙ or_right _ _ e)) x (offered_from ps m x o) in
        let j = l.mono c (total s (counts w seen) ps) x le in
        omega arith

    by : (bit w h.0 ≡ true) ⊎ (bit w h.0 ≡ false) → s.join c x ≤ total s (counts w (bit_or seen (bit_or (bit_and ups up) (bit_and downs down)))) ps
    by (inl e) =
        let u : bit ups h.0 ≡ true = subst (λ (y : Bool). cond y (bit ups h.0) (bit downs h.0) ≡ true) e h.2 in
        let b : bit (bit_and ups up) h.0 ≡ true = bit_of_and ups up h.0 ∙ both _ _ u (taken_in a h.1 e) in
        let i : (h.0 + 1) - 1 ≡ h.0 = omega arith in
        adds (take_mark h.0) (ap (bit w) i ∙ e) (ap (bit (bit_or (bit_and ups up) (bit_and downs down))) i ∙ bit_of_or (bit_and ups up) (bit_and downs down) h.0 ∙ or_left _ _ b) (ch.taking h.0 h.1 b)
    by (inr e) =
        let u : bit downs h.0 ≡ true = subst (λ (y : Bool). cond y (bit ups h.0) (bit downs h.0) ≡ true) e h.2 in
        let b : bit (bit_and downs down) h.0 ≡ true = bit_of_and downs down h.0 ∙ both _ _ u (left_in a h.1 e) in
        adds (leave_mark h.0) (ap not e) (bit_of_or (bit_and ups up) (bit_and downs down) h.0 ∙ or_right _ _ b) (ch.leaving h.0 h.1 b)

-- of the bits of a word, those in rest are still to be looked at
abbrev pub LeftOver : List ℕ → ℕ → ℕ → ℕ → Type 0
LeftOver table word rest r = (k : ℕ) → bit word k ≡ true → (bit rest k ≡ true) ⊎ (r ≤ get_or table k 0)

pub left_next : (table : List ℕ) (word rest rest' k r r' : ℕ) → LeftOver table word rest r → ((j : ℕ) → bit rest' j ≡ (bit rest j && not (bit (2 ^ k) j)))
    → r' ≤ r → r' ≤ get_or table k 0 → LeftOver table word rest' r'
left_next table word rest rest' k r r' l d hr hk j e = by (l j e)
  where
    at : bit rest j ≡ true → (bit (2 ^ k) j ≡ true) ⊎ (bit (2 ^ k) j ≡ false) → (bit rest' j ≡ true) ⊎ (r' ≤ get_or table j 0)
    at t (inl b) = inr (subst (λ (n : ℕ). r' ≤ get_or table n 0) (sym (power_only k j b)) hk)
    at t (inr b) = inl (d j ∙ both _ _ t (not_from_false _ b))

    by : (bit rest j ≡ true) ⊎ (r ≤ get_or table j 0) → (bit rest' j ≡ true) ⊎ (r' ≤ get_or table j 0)
    by (inl t) = at t (tell (bit (2 ^ k) j))
    by (inr z) = inr (omega arith)

pub left_done : (table : List ℕ) (word rest r : ℕ) → LeftOver table word rest r → rest ≡ 0 → (k : ℕ) → bit word k ≡ true → r ≤ get_or table k 0
left_done table word rest r l z k e = by (l k e)
  where
    by : (bit rest k ≡ true) ⊎ (r ≤ get_or table k 0) → r ≤ get_or table k 0
    by (inl t) = absurd (never (sym t ∙ ap (λ (n : ℕ). bit n k) z ∙ zero_bit k))
    by (inr o) = o
