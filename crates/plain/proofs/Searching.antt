-- The steps of the search.
use Rattle.std.proofs.Common.{◌≡◌, ℕ, ◌-◌, ◌^◌, ◌<◌, ◌≤◌, true, false, cond, ◌⊎◌, List, [], ◌∷◌, ℤ, pos, negsuc, Some, None, Option, ap, ◌∙◌, inl, inr, arith}
use lib.Bits.{bit_and, bit_or}
use Rattle.std.proofs.lemmas.Bool.{or_left, or_right, not-true, not_from_false, cases_lt}
use Rattle.std.proofs.lemmas.Nat.{pow_below}
use Rattle.scales.proofs.ByPlaces.{PlaceLaws}
use Rattle.bits.specs.Bit.{bit}
use Rattle.bits.proofs.OfBits.{bit_of_or, power_same, low_inside, inside_ones}
use Rattle.design.specs.Mark.{named, all_are_named, holds}
use Rattle.design.specs.declared.price.Price.{Price}
use Rattle.design.proofs.Truth.{tell, left_of, right_of}
use Rattle.design.proofs.OfMarks.{bit_below}
use Rattle.design.proofs.Totals.{Wider, total_wider}
use Rattle.propagation.specs.Masks.{up_bit, down_bit, ups_from, downs_from, ups_of, downs_of}
use Rattle.propagation.specs.Held.{Met}
use Rattle.propagation.specs.Narrowing.{Agrees, Narrow, Nowhere, Halves}
use Rattle.propagation.specs.Easing.{NoDearer, Eased}
use Rattle.propagation.specs.declared.partial.Partial.{Partial}
use Rattle.propagation.proofs.Hits.{all_met}
use Rattle.propagation.proofs.Narrows.{narrow_more}
use Rattle.pricing.specs.Tables.{marks_in}
use Rattle.pricing.specs.Bounds.{sure}
use Rattle.pricing.proofs.Costing.{wider_named, holds_sure}
use Rattle.plain.specs.Search.{Query, Fitting, Still, Found}

-- what the search knows of a query: its scales' laws, and that its marks name choices
pub record Sound (q : Query) : Type 0 where
  pub laws_a : PlaceLaws q.scales.a
  pub laws_b : PlaceLaws q.scales.b
  pub named_a : all_are_named 64 (marks_in q.prices_a) ≡ true
  pub named_b : all_are_named 64 (marks_in q.prices_b) ≡ true

-- where nothing is open, what may be taken is a setting that fits
pub leaf : (q : Query) → Sound q → (p : Partial) → p.up < 2 ^ 64 → p.down < 2 ^ 64 → Still q p → bit_and p.up p.down ≡ 0 → Fitting q p.up
leaf q s p lu ld h z = record {
  met = all_met q.rules p.up p.down lu ld z h.alive;
  within_a = omega (arith, total_wider q.scales.a s.laws_a (holds p.up) (sure p) q.prices_a (wider_named 64 q.prices_a _ _ s.named_a (holds_sure p z)), h.sure_a);
  within_b = omega (arith, total_wider q.scales.b s.laws_b (holds p.up) (sure p) q.prices_b (wider_named 64 q.prices_b _ _ s.named_b (holds_sure p z)), h.sure_b);
}

-- a setting that takes and leaves no priced choice that another does not costs no more
up_stays : (u : ℕ) (ms : List ℤ) (k : ℕ) → bit u k ≡ true → bit (ups_from u ms) k ≡ true
unfolding ups_from
up_stays u [] k t = t
up_stays u (m ∷ ms) k t = up_stays (bit_or u (up_bit m)) ms k (bit_of_or u (up_bit m) k ∙ or_left _ _ t)

down_stays : (u : ℕ) (ms : List ℤ) (k : ℕ) → bit u k ≡ true → bit (downs_from u ms) k ≡ true
unfolding downs_from
down_stays u [] k t = t
down_stays u (m ∷ ms) k t = down_stays (bit_or u (down_bit m)) ms k (bit_of_or u (down_bit m) k ∙ or_left _ _ t)

module _ (ups downs w v : ℕ) (n : NoDearer ups downs w v) where
  no_dearer : (ps : List Price) (u d : ℕ) → all_are_named 64 (marks_in ps) ≡ true
      → ((k : ℕ) → bit (ups_from u (marks_in ps)) k ≡ true → bit ups k ≡ true) → ((k : ℕ) → bit (downs_from d (marks_in ps)) k ≡ true → bit downs k ≡ true)
      → Wider ps (holds v) (holds w)
  unfolding all_are_named marks_in ups_from downs_from
  no_dearer [] u d a iu id = tt
  no_dearer (p ∷ ps) u d a iu id = (one p.mark (left_of _ _ a) iu id, no_dearer ps (bit_or u (up_bit p.mark)) (bit_or d (down_bit p.mark)) (right_of (named 64 p.mark) _ a) iu id)
    where
      one : (m : ℤ) → named 64 m ≡ true → ((k : ℕ) → bit (ups_from (bit_or u (up_bit m)) (marks_in ps)) k ≡ true → bit ups k ≡ true)
          → ((k : ℕ) → bit (downs_from (bit_or d (down_bit m)) (marks_in ps)) k ≡ true → bit downs k ≡ true) → holds v m ≡ true → holds w m ≡ true
      one (pos c) b iu id t =
          n.takes (c - 1) (bit_below 64 (pos c) b) (iu (c - 1) (up_stays _ (marks_in ps) (c - 1) (bit_of_or u (2 ^ (c - 1)) (c - 1) ∙ or_right _ _ (power_same (c - 1))))) t
      one (negsuc k) b iu id t =
          not_from_false _ (n.leaves k (bit_below 64 (negsuc k) b) (id k (down_stays _ (marks_in ps) k (bit_of_or d (2 ^ k) k ∙ or_right _ _ (power_same k)))) (not-true _ t))

pub fits_moved : (q : Query) → Sound q → (ups downs w v : ℕ)
    → ups ≡ bit_or (ups_of (marks_in q.prices_a)) (ups_of (marks_in q.prices_b)) → downs ≡ bit_or (downs_of (marks_in q.prices_a)) (downs_of (marks_in q.prices_b))
    → NoDearer ups downs w v → Met q.rules v → Fitting q w → Fitting q v
unfolding ups_of downs_of
fits_moved q s ups downs w v eu ed n m f = record {
  met = m;
  within_a = omega (
    arith,
    total_wider q.scales.a s.laws_a (holds v) (holds w) q.prices_a
        (no_dearer ups downs w v n q.prices_a 0 0 s.named_a
        (λ k t. ap (λ (x : ℕ). bit x k) eu ∙ bit_of_or _ _ k ∙ or_left _ _ t) (λ k t. ap (λ (x : ℕ). bit x k) ed ∙ bit_of_or _ _ k ∙ or_left _ _ t)),
    f.within_a,
  );
  within_b = omega (
    arith,
    total_wider q.scales.b s.laws_b (holds v) (holds w) q.prices_b
        (no_dearer ups downs w v n q.prices_b 0 0 s.named_b
        (λ k t. ap (λ (x : ℕ). bit x k) eu ∙ bit_of_or _ _ k ∙ or_right _ _ t) (λ k t. ap (λ (x : ℕ). bit x k) ed ∙ bit_of_or _ _ k ∙ or_right _ _ t)),
    f.within_b,
  );
}

-- what is found where less is open is found where nothing was lost
pub through : (q : Query) (p r : Partial) (x : Option ℕ) → Narrow (Fitting q) p.up p.down r.up r.down → Found q r x → Found q p x
through q p r None n f = λ w a g. f w (n.keeps w a g) g
through q p r (Some w) n f = (omega (arith, n.up_le, f.0), f.1)

pub eased_found : (q : Query) → Sound q → (p r : Partial) (x : Option ℕ) (ups downs : ℕ)
    → ups ≡ bit_or (ups_of (marks_in q.prices_a)) (ups_of (marks_in q.prices_b)) → downs ≡ bit_or (downs_of (marks_in q.prices_a)) (downs_of (marks_in q.prices_b))
    → Eased q.rules ups downs p r → Found q r x → Found q p x
eased_found q s p r None ups downs eu ed e f = λ w a g.
    let v = e.moves w a g.met in
    f v.0 v.1.agrees (fits_moved q s ups downs w v.0 eu ed v.1.dearer v.1.met g)
eased_found q s p r (Some w) ups downs eu ed e f = (omega (arith, e.up_le, f.0), f.1)

pub halved : (q : Query) (p first second : Partial) (x : Option ℕ) → Halves p first second → Nowhere (Fitting q) first.up first.down → Found q second x → Found q p x
halved q p first second None h n f = λ w a g. elim (h.either w a) [ inl b ↦ n w b g | inr b ↦ f w b g ]
halved q p first second (Some w) h n f = (omega (arith, h.second_in, f.0), f.1)

-- a bound on one cost, seen from the whole query
pub narrow_for : (Good Less : ℕ → Type 0) (a b c : Partial) → ((w : ℕ) → Good w → Less w) → Narrow Good a.up a.down b.up b.down → Narrow Less b.up b.down c.up c.down
    → Narrow Good a.up a.down c.up c.down
narrow_for Good Less a b c f m n = narrow_more Good Less a.up a.down b.up b.down c.up c.down f m n

pow_up : (n : ℕ) → n ≤ 64 → 2 ^ n ≤ 2 ^ 64
pow_up n h = by (cases_lt n 64)
  where
    by : (n < 64) ⊎ (64 ≤ n) → 2 ^ n ≤ 2 ^ 64
    by (inl l) = let p = pow_below n 64 l in omega arith
    by (inr g) = let i : n ≡ 64 = omega arith in let e : 2 ^ n ≡ 2 ^ 64 = ap (λ (x : ℕ). 2 ^ x) i in omega arith

-- at the start each choice of 1 to n is open
pub all_open : (n w : ℕ) → n ≤ 64 → w < 2 ^ n → Agrees (2 ^ n - 1) (2 ^ 64 - 1) w
all_open n w h l = record { low = omega (arith, pow_up n h); kept = λ k i. by k i (tell (bit w k)) }
  where
    by : (k : ℕ) → k < 64 → (bit w k ≡ true) ⊎ (bit w k ≡ false) → cond (bit w k) (bit (2 ^ n - 1) k) (bit (2 ^ 64 - 1) k) ≡ true
    by k i (inl t) = rw t (low_inside n w k l t)
    by k i (inr f) = rw f (inside_ones 64 k i)
