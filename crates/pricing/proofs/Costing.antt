-- Costs of partial and of whole settings.
use Rattle.std.proofs.Common.{◌≡◌, ℕ, zero, suc, ◌-◌, ◌^◌, ◌<◌, Bool, true, false, cond, not, ◌⊎◌, List, [], ◌∷◌, length, get_or, ℤ, pos, negsuc, sym, refl, ap, ◌∙◌, inl, inr, arith}
use lib.Bits.{bit_and, bit_xor}
use Rattle.std.proofs.lemmas.Bool.{not-true}
use Rattle.scales.specs.Laws.{Places, Laws}
use Rattle.scales.proofs.ByPlaces.{PlaceLaws}
use Rattle.bits.specs.Bit.{bit}
use Rattle.bits.proofs.OfBits.{bit_of_xor, either_one, inside_ones}
use Rattle.design.specs.Mark.{named, all_are_named, holds}
use Rattle.design.specs.Cost.{with_price, cost}
use Rattle.design.specs.declared.price.Price.{Price}
use Rattle.design.proofs.Truth.{never, tell, left_of, right_of}
use Rattle.design.proofs.OfMarks.{bit_below}
use Rattle.design.proofs.Totals.{Wider, total_wider}
use Rattle.propagation.specs.declared.partial.Partial.{Partial}
use Rattle.propagation.specs.Narrowing.{Agrees}
use Rattle.propagation.proofs.Narrows.{apart, taken_in, left_in}
use Rattle.pricing.specs.Tables.{marks_in}
use Rattle.pricing.specs.Bounds.{sure, sure_total}

pub mark_named : (n : ℕ) (ps : List Price) (i : ℕ) (d : Price) → all_are_named n (marks_in ps) ≡ true → i < length ps → named n (get_or ps i d).mark ≡ true
unfolding all_are_named marks_in
mark_named n [] i d a h = absurd (omega arith)
mark_named n (p ∷ ps) zero d a h = left_of _ _ a
mark_named n (p ∷ ps) (suc i) d a h = mark_named n ps i d (right_of (named n p.mark) _ a) (omega arith)

-- a test that passes wherever another does, on marks of the choices 1 to n
pub wider_named : (n : ℕ) (ps : List Price) (t t' : ℤ → Bool) → all_are_named n (marks_in ps) ≡ true → ((m : ℤ) → named n m ≡ true → t m ≡ true → t' m ≡ true) → Wider ps t t'
unfolding all_are_named marks_in
wider_named n [] t t' a f = tt
wider_named n (p ∷ ps) t t' a f = (f p.mark (left_of _ _ a), wider_named n ps t t' (right_of (named n p.mark) _ a) f)

-- a value joined with a price's, where the mark passes
pub joined_place : {V : Type 0} (s : Places) (place : V → ℕ) (at : ℕ → V) (joined : V → V → V) → Laws s place at joined
    → (t : ℤ → Bool) (c : ℕ) (p : Price) (u v : V) (b : Bool) → place u ≡ c → b ≡ t p.mark → v ≡ cond b (joined u (at p.place)) u
    → place v ≡ with_price s t c p
joined_place s place at joined l t c p u v b q h e =
    ap place e ∙ by_truth b ∙ ap (λ (k : Bool). cond k (s.join c p.place) c) h
  where
    by_truth : (b : Bool) → place (cond b (joined u (at p.place)) u) ≡ cond b (s.join c p.place) c
    by_truth true = ap (λ y. place (joined y (at p.place))) (sym (ap at (sym q) ∙ l.at_place u)) ∙ sym (l.join_is c p.place)
    by_truth false = q

-- what is sure holds of each setting that agrees
pub sure_holds : (p : Partial) (w : ℕ) → Agrees p.up p.down w → (m : ℤ) → named 64 m ≡ true → sure p m ≡ true → holds w m ≡ true
sure_holds p w a (pos n) i t = by (tell (bit w (n - 1)))
  where
    by : (bit w (n - 1) ≡ true) ⊎ (bit w (n - 1) ≡ false) → bit w (n - 1) ≡ true
    by (inl e) = e
    by (inr f) = absurd (never (sym (left_in a (bit_below 64 (pos n) i) f) ∙ not-true _ t))
sure_holds p w a (negsuc k) i t = by (tell (bit w k))
  where
    by : (bit w k ≡ true) ⊎ (bit w k ≡ false) → not (bit w k) ≡ true
    by (inl e) = absurd (never (sym (taken_in a (bit_below 64 (negsuc k) i) e) ∙ not-true _ t))
    by (inr f) = ap not f

-- where nothing is open, what holds is sure
pub holds_sure : (p : Partial) → bit_and p.up p.down ≡ 0 → (m : ℤ) → named 64 m ≡ true → holds p.up m ≡ true → sure p m ≡ true
holds_sure p z (pos n) i t = by (tell (bit p.down (n - 1)))
  where
    by : (bit p.down (n - 1) ≡ true) ⊎ (bit p.down (n - 1) ≡ false) → not (bit p.down (n - 1)) ≡ true
    by (inl e) = absurd (apart p.up p.down (n - 1) z t e)
    by (inr f) = ap not f
holds_sure p z (negsuc k) i t = t

-- a whole setting as a partial one
abbrev pub whole : ℕ → Partial
whole w = record { up = w; down = bit_xor w (2 ^ 64 - 1) }

whole_down : (w k : ℕ) → k < 64 → bit (bit_xor w (2 ^ 64 - 1)) k ≡ not (bit w k)
whole_down w k h = bit_of_xor w (2 ^ 64 - 1) k ∙ ap (either_one (bit w k)) (inside_ones 64 k h) ∙ turned (bit w k)
  where
    turned : (x : Bool) → either_one x true ≡ not x
    turned true = refl
    turned false = refl

sure_whole : (w : ℕ) (m : ℤ) → named 64 m ≡ true → sure (whole w) m ≡ holds w m
sure_whole w (pos n) i = ap not (whole_down w (n - 1) (bit_below 64 (pos n) i)) ∙ twice (bit w (n - 1))
  where
    twice : (x : Bool) → not (not x) ≡ x
    twice true = refl
    twice false = refl
sure_whole w (negsuc k) i = refl

-- all of a whole setting's marks are sure
pub cost_whole : (s : Places) → PlaceLaws s → (ps : List Price) (w : ℕ) → all_are_named 64 (marks_in ps) ≡ true → sure_total s ps (whole w) ≡ cost s ps w
cost_whole s l ps w a =
    let p = total_wider s l (sure (whole w)) (holds w) ps (wider_named 64 ps _ _ a (λ m i t. sym (sure_whole w m i) ∙ t)) in
    let q = total_wider s l (holds w) (sure (whole w)) ps (wider_named 64 ps _ _ a (λ m i t. sure_whole w m i ∙ t)) in
    omega arith
