-- The way back along a trail, one mark at a time.
use Rattle.std.proofs.Common.{◌≡◌, ℕ, zero, suc, ◌+◌, ◌-◌, ◌<◌, ◌≤◌, true, List, [], ◌∷◌, ◌++◌, length, get_or, take, drop, set, ℤ, pos, sym, refl, ap, ◌∙◌, arith, length-set, length-take}
use Rattle.std.proofs.lemmas.List.{drop_more, get_or-take, take-take, take_more_set, length-take-le}
use Rattle.design.specs.Mark.{named, all_are_named, bit_of}
use Rattle.design.proofs.OfMarks.{all_at, bit_below}
use Rattle.store.specs.Parts.{part}
use Rattle.store.proofs.Over.{part_none}
use Rattle.values.specs.Partial.{is_open, opens, Opened}
use Rattle.values.proofs.Agreeing.{opens_set}
use Rattle.sweeping.specs.declared.assignment.Assignment.{Assignment}
use Rattle.sweeping.specs.Trail.{reopened, marks_from}
use Rattle.sweeping.proofs.Pieces.{named_one_more, named_take}

pub reopened_sum : (v xs ys : List ℤ) → reopened v (xs ++ ys) ≡ reopened (reopened v ys) xs
unfolding reopened
reopened_sum v [] ys = refl
reopened_sum v (x ∷ xs) ys = ap (λ r. set r (bit_of x) (pos 0)) (reopened_sum v xs ys)

pub reopened_none : (v : List ℤ) → reopened v [] ≡ v
unfolding reopened
reopened_none v = refl

pub reopened_one : (v : List ℤ) (m : ℤ) → reopened v (m ∷ []) ≡ set v (bit_of m) (pos 0)
unfolding reopened
reopened_one v m = refl

zeros_swap : (v : List ℤ) (i j : ℕ) → set (set v i (pos 0)) j (pos 0) ≡ set (set v j (pos 0)) i (pos 0)
zeros_swap [] i j = refl
zeros_swap (x ∷ xs) zero zero = refl
zeros_swap (x ∷ xs) zero (suc j) = refl
zeros_swap (x ∷ xs) (suc i) zero = refl
zeros_swap (x ∷ xs) (suc i) (suc j) = ap (λ r. x ∷ r) (zeros_swap xs i j)

-- the order does not count
first_reopened : (v ms : List ℤ) (i : ℕ) → reopened (set v i (pos 0)) ms ≡ set (reopened v ms) i (pos 0)
unfolding reopened
first_reopened v [] i = refl
first_reopened v (m ∷ ms) i = ap (λ r. set r (bit_of m) (pos 0)) (first_reopened v ms i) ∙ zeros_swap (reopened v ms) i (bit_of m)

pub length-reopened : (v ms : List ℤ) → length (reopened v ms) ≡ length v
unfolding reopened
length-reopened v [] = refl
length-reopened v (m ∷ ms) = length-set (reopened v ms) (bit_of m) (pos 0) ∙ length-reopened v ms

opens_zero : (v : List ℤ) (i : ℕ) → opens (set v i (pos 0)) ≤ opens v + 1
unfolding opens
opens_zero [] i = omega arith
opens_zero (x ∷ xs) zero = omega arith
opens_zero (x ∷ xs) (suc i) = omega (arith, opens_zero xs i)

pub opens_reopened : (v ms : List ℤ) → opens (reopened v ms) ≤ opens v + length ms
unfolding reopened
opens_reopened v [] = omega arith
opens_reopened v (m ∷ ms) = omega (arith, opens_zero (reopened v ms) (bit_of m), opens_reopened v ms)

module _ (a : Assignment) where
  long : a.top ≤ length a.trail.now
  long = omega (arith, a.room)

  -- each mark on the trail names a choice
  pub mark_below : (i : ℕ) → i < a.top → bit_of (get_or a.trail.now i (pos 0)) < length a.values.now
  mark_below i h =
      let n = length a.values.now in
      let m = get_or a.trail.now i (pos 0) in
      bit_below n m (ap (named n) (sym (get_or-take a.top a.trail.now i (pos 0) h)) ∙ all_at n i (take a.top a.trail.now) (pos 0) a.marks (omega (arith, length-take-le a.top a.trail.now long)))

  -- the next mark opened, and then the rest
  pub reopened_next : (v : List ℤ) (i p : ℕ) → i < a.top → p ≡ bit_of (get_or a.trail.now i (pos 0))
      → reopened (set v p (pos 0)) (marks_from (i + 1) a) ≡ reopened v (marks_from i a)
  unfolding part reopened
  reopened_next v i p h e =
      let s = a.trail.now in
      let n : a.top - i ≡ suc (a.top - (i + 1)) = omega arith in
      let q : marks_from i a ≡ get_or s i (pos 0) ∷ marks_from (i + 1) a = ap (λ k. take k (drop i s)) n ∙ ap (take (suc (a.top - (i + 1)))) (drop_more s i (pos 0) (omega (arith, long))) in
      first_reopened v (marks_from (i + 1) a) p ∙ (ap (λ k. set (reopened v (marks_from (i + 1) a)) k (pos 0)) e ∙ ap (reopened v) (sym q))

  pub reopened_rest : (v : List ℤ) (i : ℕ) → a.top ≤ i → reopened v (marks_from i a) ≡ v
  reopened_rest v i h = let e : a.top - i ≡ 0 = omega arith in ap (λ k. reopened v (part a.trail.now i k)) e ∙ (ap (reopened v) (part_none a.trail.now i) ∙ reopened_none v)

-- what holds of values and a trail once more
pub record Whole (v t : List ℤ) (top : ℕ) : Type 0 where
  pub marks : all_are_named (length v) (take top t) ≡ true
  pub room : top + opens v ≤ length t

pub undone_whole : (a : Assignment) (base : ℕ) (v : List ℤ) → base ≤ a.top → v ≡ reopened a.values.now (marks_from base a) → Whole v a.trail.now base
unfolding part
undone_whole a base v h e =
    let ms = marks_from base a in
    let n : length v ≡ length a.values.now = ap length e ∙ length-reopened a.values.now ms in
    record {
      marks = ap (λ k. all_are_named k (take base a.trail.now)) n ∙ (ap (all_are_named (length a.values.now)) (sym (take-take base a.top a.trail.now h)) ∙ named_take _ base (take a.top a.trail.now) a.marks);
      room = omega (arith, ap opens e, opens_reopened a.values.now ms, length-take (a.top - base) (drop base a.trail.now), a.room);
    }

module _ (a : Assignment) (m z : ℤ) (p : ℕ) (o : Opened (length a.values.now) a.values.now m) (w : is_open z ≡ 0) (at : p ≡ bit_of m) where
  pub fewer : suc (opens (set a.values.now p z)) ≡ opens a.values.now
  fewer = ap (λ i. suc (opens (set a.values.now i z))) at ∙ opens_set a.values.now (bit_of m) z (bit_below _ m o.names) o.zero_there w

  pub place_free : a.top < length a.trail.now
  place_free = omega (arith, fewer, a.room)

  pub given_whole : Whole (set a.values.now p z) (set a.trail.now a.top m) (a.top + 1)
  given_whole =
      record {
        marks =
            ap (λ k. all_are_named k (take (a.top + 1) (set a.trail.now a.top m))) (length-set a.values.now p z)
            ∙ (ap (all_are_named (length a.values.now)) (take_more_set a.trail.now a.top m place_free) ∙ named_one_more _ (take a.top a.trail.now) m a.marks o.names);
        room = omega (arith, fewer, a.room, length-set a.trail.now a.top m);
      }
