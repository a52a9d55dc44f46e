-- From a search's answer to what decide leaves.
use Rattle.std.proofs.Common.{◌*◌, ◌≡◌, ℕ, zero, suc, ◌+◌, ◌≤◌, Bool, true, false, List, [], ◌∷◌, ◌++◌, map, length, take, drop, ℤ, pos, negsuc, Ok, sym, refl, ap, ◌∙◌, subst, arith}
use lib.ListN.{length-map}
use Rattle.std.proofs.lemmas.List.{length-take-le, take-take, take_at}
use Rattle.std.proofs.Math.Seq.{take-add}
use Rattle.solver.specs.Setting.{setting, all_true, clauses_named}
use Rattle.design.specs.Mark.{all_are_named}
use Rattle.solver.specs.State.{Solving, Admits, holding}
use Rattle.solver.specs.Calls.{Decided}
use Rattle.store.specs.Coding.{Sound, encode_all, clauses_in}
use Rattle.store.specs.Parts.{part, is_taken, clauses_of, held_of, meaning_of, Stored}
use Rattle.store.proofs.Over.{part_here}
use Rattle.store.proofs.Encoded.{same_clauses, no_clauses, encode_none, named_none}
use Rattle.store.proofs.Answering.{same_solving}
use Rattle.values.specs.Partial.{is_open, opens}
use Rattle.sweeping.specs.Trail.{Meets}
use Rattle.sweeping.proofs.Pieces.{front_less, part_front}
use Rattle.deciding.specs.Concluding.{Answered, Concluded}

open_le : (z : ℤ) → is_open z ≤ 1
open_le (pos zero) = omega arith
open_le (pos (suc n)) = omega arith
open_le (negsuc n) = omega arith

opens_le : (v : List ℤ) → opens v ≤ length v
unfolding opens
opens_le [] = omega arith
opens_le (x ∷ xs) = omega (arith, open_le x, opens_le xs)

-- a store without clauses
pub stored_none : (s : List ℤ) (m k : ℕ) → 1 ≤ m → m ≤ 32767 → k + 4 * m ≤ length s → Stored s 0 m k
stored_none s m k a b h =
    record {
      some_choice = a;
      few_choices = b;
      low = omega arith;
      high = h;
      sound = ap encode_all (no_clauses s) ∙ encode_none;
      named = ap (clauses_named m) (no_clauses s) ∙ named_none m;
    }

-- a store whose clause room is as it was
pub stored_after : (s s' : List ℤ) (used m k : ℕ) → Stored s used m k → length s' ≡ length s → take k s' ≡ take k s → Stored s' used m k
stored_after s s' used m k st n e =
    let c = same_clauses s s' used k st.low e in
    record {
      some_choice = st.some_choice;
      few_choices = st.few_choices;
      low = st.low;
      high = omega (arith, st.high);
      sound = ap encode_all c ∙ (st.sound ∙ sym (front_less s s' k used e st.low));
      named = ap (clauses_named m) c ∙ st.named;
    }

-- an assignment to begin with
pub room_at_first : (v t : List ℤ) → length v ≤ length t → 0 + opens v ≤ length t
room_at_first v t h = omega (arith, opens_le v)

pub no_marks : (n : ℕ) (t : List ℤ) → all_are_named n (take 0 t) ≡ true
unfolding all_are_named
no_marks n t = refl

-- the clauses in the first part of a store
pub clauses_first : (s first : List ℤ) (used k : ℕ) → used ≤ k → first ≡ take k s → take used first ≡ take used s
clauses_first s first used k h e = ap (take used) e ∙ take-take used k s h

pub clauses_sound : (s first : List ℤ) (used m k : ℕ) → Stored s used m k → first ≡ take k s → Sound (take used first)
unfolding clauses_of
clauses_sound s first used m k st e = subst Sound (sym (clauses_first s first used k st.low e)) st.sound

pub clauses_same : (s first : List ℤ) (used m k : ℕ) → Stored s used m k → first ≡ take k s → clauses_in (take used first) ≡ clauses_of s used
unfolding clauses_of
clauses_same s first used m k st e = ap clauses_in (clauses_first s first used k st.low e)

-- the parts of a store once more, of which the first is as it was
module _ (s : List ℤ) (used m k : ℕ) (ms first h rest : List ℤ) (st : Stored s used m k) (f : first ≡ take k s) (n : length h ≡ m) (long : length (first ++ (h ++ rest)) ≡ length s) where
  held_is : part (first ++ (h ++ rest)) k m ≡ h
  held_is = ap (λ x. part (x ++ (h ++ rest)) k m) f ∙ part_here s h rest k m (omega (arith, st.high)) n

  front_is : take k (first ++ (h ++ rest)) ≡ take k s
  front_is = take_at first (h ++ rest) k (ap length f ∙ length-take-le k s (omega (arith, st.high))) ∙ f

  pub concluded : (r : Bool) → Answered (clauses_of s used) ms (part s k m) h r → Concluded s used m k ms (first ++ (h ++ rest)) r
  unfolding part
  concluded true a =
      let e : map is_taken h ≡ held_of (first ++ (h ++ rest)) m k = ap (map is_taken) (sym held_is) in (
        long,
        front_is,
        record {
          whole = ap length (sym e) ∙ (length-map h is_taken ∙ n);
          meeting = subst (Meets (clauses_of s used)) e a.0;
          assuming = subst (λ b. all_true (setting b) ms ≡ true) e a.1;
        },
      )
  concluded false a = (
    long,
    take-add k m (first ++ (h ++ rest)) ∙ (ap (λ x. x ++ take m (drop k (first ++ (h ++ rest)))) front_is ∙ (ap (λ x. take k s ++ x) (held_is ∙ a.0) ∙ sym (take-add k m s))),
    λ b x. a.1 b x.meeting x.assuming,
  )

pub concluded_stored : (s s' : List ℤ) (used m k : ℕ) (ms : List ℤ) (r : Bool) → Stored s used m k → Concluded s used m k ms s' r → Stored s' used m k
concluded_stored s s' used m k ms true st c = stored_after s s' used m k st c.0 c.1
concluded_stored s s' used m k ms false st c = stored_after s s' used m k st c.0 (front_less s s' (k + m) k c.1 (omega arith))

-- what the store then means
pub concluded_yes : (s s' : List ℤ) (used m k : ℕ) (ms : List ℤ) → Stored s used m k → Concluded s used m k ms s' true
    → meaning_of s' used m k ≡ holding (meaning_of s used m k) (held_of s' m k)
concluded_yes s s' used m k ms st c = same_solving m k (same_clauses s s' used k st.low c.1) refl

pub concluded_no : (s s' : List ℤ) (used m k : ℕ) (ms : List ℤ) → Stored s used m k → Concluded s used m k ms s' false → meaning_of s' used m k ≡ meaning_of s used m k
concluded_no s s' used m k ms st c =
    same_solving m k (same_clauses s s' used (k + m) (omega (arith, st.low)) c.1) (ap (map is_taken) (part_front s s' (k + m) k m c.1 (omega arith)))

-- decide's contract, of any solver that means what its store does
pub decided : {X : Type 0} (meaning : X → Solving) (x y : X) (s s' : List ℤ) (used used' m k : ℕ) (ms : List ℤ) (r : Bool)
    → meaning x ≡ meaning_of s used m k → meaning y ≡ meaning_of s' used' m k → used' ≡ used → all_are_named m ms ≡ true → Stored s used m k → Concluded s used m k ms s' r
    → Decided meaning x ms (Ok r) y
decided meaning x y s s' used used' m k ms true e f u w st c =
    let f' : meaning y ≡ meaning_of s' used m k = f ∙ ap (λ n. meaning_of s' n m k) u in
    let h : (meaning y).held ≡ held_of s' m k = ap (λ z. z.held) f' in (
      ap (λ z. all_are_named z.choices ms) e ∙ w,
      subst (λ z. Admits z ms (meaning y).held) (sym e) (subst (Admits (meaning_of s used m k) ms) (sym h) c.2),
      f' ∙ (concluded_yes s s' used m k ms st c ∙ (ap (holding (meaning_of s used m k)) (sym h) ∙ ap (λ z. holding z (meaning y).held) (sym e))),
    )
decided meaning x y s s' used used' m k ms false e f u w st c =
    let f' : meaning y ≡ meaning_of s' used m k = f ∙ ap (λ n. meaning_of s' n m k) u in (
      ap (λ z. all_are_named z.choices ms) e ∙ w,
      λ b a. c.2 b (subst (λ z. Admits z ms b) e a),
      f' ∙ (concluded_no s s' used m k ms st c ∙ sym e),
    )
