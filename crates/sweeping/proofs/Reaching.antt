-- Steps of settling: none, one mark, and one after the other.
use Rattle.std.proofs.Common.{◌≡◌, ◌+◌, ◌-◌, Bool, false, List, [], ◌∷◌, ◌++◌, get_or, take, set, ℤ, pos, sym, refl, ap, ◌∙◌, subst, arith, w16, SFits, to_z, of_z}
use Rattle.std.proofs.lemmas.List.{take-set-le, get_or-set_same}
use Rattle.std.proofs.lemmas.Int.{to_z-of_z}
use Rattle.design.specs.Mark.{bit_of}
use Rattle.design.proofs.OfMarks.{bit_below}
use Rattle.store.specs.Parts.{part}
use Rattle.store.proofs.Over.{part_none, part_more}
use Rattle.values.specs.Partial.{Fits, Agrees, is_open, opens}
use Rattle.values.proofs.Agreeing.{agrees_set, agrees_unset, set_back}
use Rattle.sweeping.specs.declared.assignment.Assignment.{Assignment}
use Rattle.sweeping.specs.Trail.{values_in, marks_from, OpenIn, reopened, Same, Given, Undone, Restored, Reached}
use Rattle.sweeping.proofs.Pieces.{part_front, front_less, part_sum}
use Rattle.sweeping.proofs.Undoing.{reopened_sum, reopened_none, reopened_one, fewer, place_free}

pub same_self : (a : Assignment) → Same a a
same_self a = record { clauses = refl; values = refl; choices = refl; trail = refl; long = refl }

pub then_same : (a b c : Assignment) → Same a b → Same b c → Same a c
then_same a b c p q =
    record { clauses = q.clauses ∙ p.clauses; values = q.values ∙ p.values; choices = q.choices ∙ p.choices; trail = q.trail ∙ p.trail; long = q.long ∙ p.long }

-- no mark lies between a place and itself
marks_none : (a : Assignment) → marks_from a.top a ≡ []
marks_none a = let e : a.top - a.top ≡ 0 = omega arith in ap (part a.trail.now a.top) e ∙ part_none a.trail.now a.top

pub none_reached : (Good : List Bool → Type 0) (a : Assignment) → Reached Good a a
none_reached Good a =
    record {
      same = same_self a;
      front = refl;
      low = omega arith;
      count = refl;
      back = ap (reopened (values_in a)) (marks_none a) ∙ reopened_none (values_in a);
      wider = λ x h. h;
      keeps = λ x h g. h;
    }

pub weaker : (Good Good' : List Bool → Type 0) (a b : Assignment) → ((x : List Bool) → Good' x → Good x) → Reached Good a b → Reached Good' a b
weaker Good Good' a b f r =
    record { same = r.same; front = r.front; low = r.low; count = r.count; back = r.back; wider = r.wider; keeps = λ x h g. r.keeps x h (f x g) }

pub then_reached : (Good : List Bool → Type 0) (a b c : Assignment) → Reached Good a b → Reached Good b c → Reached Good a c
then_reached Good a b c p q =
    let n : c.top - a.top ≡ (b.top - a.top) + (c.top - b.top) = omega (arith, p.low, q.low) in
    let m : a.top + (b.top - a.top) ≡ b.top = omega (arith, p.low) in
    let e : marks_from a.top c ≡ marks_from a.top b ++ marks_from b.top c =
    ap (part c.trail.now a.top) n ∙ (part_sum c.trail.now a.top (b.top - a.top) (c.top - b.top)
    ∙ (ap (λ x. part c.trail.now a.top (b.top - a.top) ++ part c.trail.now x (c.top - b.top)) m
    ∙ ap (λ x. x ++ marks_from b.top c) (part_front b.trail.now c.trail.now b.top a.top (b.top - a.top) q.front (omega arith)))) in
    record {
      same = then_same a b c p.same q.same;
      front = front_less b.trail.now c.trail.now b.top a.top q.front p.low ∙ p.front;
      low = omega (arith, p.low, q.low);
      count = q.count ∙ p.count;
      back =
          ap (reopened (values_in c)) e
          ∙ (reopened_sum (values_in c) (marks_from a.top b) (marks_from b.top c)
          ∙ (ap (λ x. reopened x (marks_from a.top b)) q.back ∙ p.back));
      wider = λ x h. p.wider x (q.wider x h);
      keeps = λ x h g. q.keeps x (p.keeps x h g) g;
    }

-- where nothing moved the values are as they were
pub still : (Good : List Bool → Type 0) (a b : Assignment) → Reached Good a b → b.top ≡ a.top → values_in b ≡ values_in a
still Good a b r e = sym (reopened_none (values_in b)) ∙ (ap (reopened (values_in b)) (sym (marks_none b) ∙ ap (λ n. marks_from n b) e) ∙ r.back)

-- one value that is good
pub given_reached : (Good : List Bool → Type 0) (a b : Assignment) (m z : ℤ) → OpenIn a m → is_open z ≡ 0 → Given a m z b
    → ((x : List Bool) → Agrees (values_in a) x → Good x → Fits z (get_or x (bit_of m) false)) → Reached Good a b
given_reached Good a b m z o w g f =
    let v = values_in a in
    let t = a.trail.now in
    let free = place_free a m z (bit_of m) o w refl in
    let d : b.top - a.top ≡ 0 + 1 = omega (arith, g.top) in
    let s : a.top + 0 ≡ a.top = omega arith in
    let there : get_or b.trail.now (a.top + 0) (pos 0) ≡ m =
    ap (λ x. get_or b.trail.now x (pos 0)) s ∙ (ap (λ x. get_or x a.top (pos 0)) g.trail ∙ get_or-set_same t a.top m (pos 0) free) in
    let p : marks_from a.top b ≡ m ∷ [] =
    ap (part b.trail.now a.top) d ∙ (part_more b.trail.now a.top 0 (omega (arith, g.same.long, free))
    ∙ (ap (λ x. x ++ get_or b.trail.now (a.top + 0) (pos 0) ∷ []) (part_none b.trail.now a.top) ∙ ap (λ x. x ∷ []) there)) in
    record {
      same = g.same;
      front = ap (take a.top) g.trail ∙ take-set-le a.top t a.top m (omega arith);
      low = omega (arith, g.top);
      count = omega (arith, g.top, ap opens g.values, fewer a m z (bit_of m) o w refl);
      back = ap (reopened (values_in b)) p ∙ (reopened_one (values_in b) m ∙ (ap (λ x. set x (bit_of m) (pos 0)) g.values ∙ set_back v (bit_of m) z o.zero_there));
      wider = λ x h. agrees_unset v x (bit_of m) z o.zero_there (subst (λ y. Agrees y x) g.values h);
      keeps = λ x h k. subst (λ y. Agrees y x) (sym g.values) (agrees_set v x (bit_of m) z (bit_below _ m o.names) (f x h k) h);
    }

-- the mark and the value that a call was given, by the value's function of the mark
pub given_by : (f : ℤ → ℤ) (a b : Assignment) (m y : ℤ) → SFits w16 m → SFits w16 y → y ≡ f (to_z w16 (of_z w16 m)) → Given a (to_z w16 (of_z w16 m)) (to_z w16 (of_z w16 y)) b → Given a m (f m) b
given_by f a b m y p q e g =
    subst (λ x. Given a x (f x) b) (to_z-of_z w16 m p) (subst (λ z. Given a (to_z w16 (of_z w16 m)) z b) (to_z-of_z w16 y q ∙ e) g)

pub self_restored : (a : Assignment) → Restored a a
self_restored a = record { same = same_self a; top = refl; front = refl; values = refl }

-- what was settled, with the trail cut back to where it was
pub undone_restored : (Good : List Bool → Type 0) (a b c d : Assignment) → Reached Good a b → Restored b c → Undone c a.top d → Restored a d
undone_restored Good a b c d p q u =
    let marks : marks_from a.top c ≡ marks_from a.top b =
    ap (λ n. part c.trail.now a.top (n - a.top)) q.top ∙ part_front b.trail.now c.trail.now b.top a.top (b.top - a.top) q.front (omega (arith, p.low)) in
    record {
      same = then_same a b d p.same (then_same b c d q.same u.same);
      top = u.top;
      front = ap (take a.top) u.trail ∙ (front_less b.trail.now c.trail.now b.top a.top q.front p.low ∙ p.front);
      values = u.values ∙ (ap (λ x. reopened x (marks_from a.top c)) q.values ∙ (ap (reopened (values_in b)) marks ∙ p.back));
    }
