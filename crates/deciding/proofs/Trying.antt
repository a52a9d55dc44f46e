-- Trials and the search about them.
use Rattle.std.proofs.Common.{◌≡◌, ◌-◌, Bool, true, false, List, length, take, ℤ, sym, refl, ap, ◌∙◌, subst, arith, w16, SFits, to_z, of_z}
use Rattle.solver.specs.Setting.{setting, truth}
use Rattle.store.specs.Parts.{part}
use Rattle.values.specs.Partial.{value_that_holds, value_that_fails, Agrees, setting_of, opens, Opened}
use Rattle.values.proofs.Agreeing.{agrees_self, for_open, against_open, fits_holding, fits_failing}
use Rattle.sweeping.specs.declared.assignment.Assignment.{Assignment}
use Rattle.sweeping.specs.Trail.{values_in, clauses_at, OpenIn, Meets, Given, reopened, Undone, Reached, Restored}
use Rattle.sweeping.specs.Sweeps.{Nowhere}
use Rattle.sweeping.proofs.Pieces.{front_less}
use Rattle.sweeping.proofs.Reaching.{then_same, given_by, given_reached, undone_restored}
use Rattle.deciding.specs.Search.{Found, Lost}

module _ (Good : List Bool → Type 0) (a b : Assignment) (p : Reached Good a b) where
  -- every clause is met
  pub all_met : Meets (clauses_at a) (setting_of (values_in b)) → Found a b
  all_met e = record { same = p.same; front = p.front; agrees = p.wider (setting_of (values_in b)) (agrees_self (values_in b)); meeting = e }

  pub reached_found : (c : Assignment) → Found b c → Found a c
  reached_found c f =
      record {
        same = then_same a b c p.same f.same;
        front = front_less b.trail.now c.trail.now b.top a.top f.front p.low ∙ p.front;
        agrees = p.wider (setting_of (values_in c)) f.agrees;
        meeting = subst (λ cs. Meets cs (setting_of (values_in c))) p.same.clauses f.meeting;
      }

  -- no good setting meets every clause where none does from what was reached
  pub none_good : Nowhere (Meets (clauses_at b)) (values_in b) → (x : List Bool) → Agrees (values_in a) x → Good x → Meets (clauses_at a) x → ⊥
  none_good n x h g m = n x (p.keeps x h g) (subst (λ cs. Meets cs x) (sym p.same.clauses) m)

module _ (Good : List Bool → Type 0) (a b c : Assignment) (q : Restored a b) where
  -- as if the steps after a trial that lost were the first
  pub restored_reached : Reached Good b c → Reached Good a c
  restored_reached p =
      record {
        same = then_same a b c q.same p.same;
        front = ap (λ n. take n c.trail.now) (sym q.top) ∙ (p.front ∙ (ap (λ n. take n b.trail.now) q.top ∙ q.front));
        low = omega (arith, q.top, p.low);
        count = omega (arith, q.top, p.count, ap opens q.values);
        back = ap (λ n. reopened (values_in c) (part c.trail.now n (c.top - n))) (sym q.top) ∙ (p.back ∙ q.values);
        wider = λ x h. subst (λ v. Agrees v x) q.values (p.wider x h);
        keeps = λ x h g. p.keeps x (subst (λ v. Agrees v x) (sym q.values) h) g;
      }

pub restored_open : (a b : Assignment) (m : ℤ) → Restored a b → OpenIn a m → OpenIn b m
restored_open a b m q o = subst (λ v. Opened (length v) v m) (sym q.values) o

-- settings in which a mark is true, or false
abbrev pub Takes : ℤ → Bool → List Bool → Type 0
Takes m t x = truth (setting x) m ≡ t

module _ (a b : Assignment) (m y : ℤ) (o : OpenIn a m) (f : SFits w16 m) (h : SFits w16 y) where
  pub tried_true : y ≡ value_that_holds (to_z w16 (of_z w16 m)) → Given a (to_z w16 (of_z w16 m)) (to_z w16 (of_z w16 y)) b → Reached (Takes m true) a b
  tried_true e g = given_reached (Takes m true) a b m (value_that_holds m) o (for_open m) (given_by value_that_holds a b m y f h e g) (λ x _ k. fits_holding x m k)

  tried_against : y ≡ value_that_fails (to_z w16 (of_z w16 m)) → Given a (to_z w16 (of_z w16 m)) (to_z w16 (of_z w16 y)) b → Reached (Takes m false) a b
  tried_against e g = given_reached (Takes m false) a b m (value_that_fails m) o (against_open m) (given_by value_that_fails a b m y f h e g) (λ x _ k. fits_failing x m k)

-- the other value, after a trial that lost
pub tried_false : (a b c : Assignment) (m y : ℤ) → Restored a b → OpenIn a m → SFits w16 m → SFits w16 y → y ≡ value_that_fails (to_z w16 (of_z w16 m))
    → Given b (to_z w16 (of_z w16 m)) (to_z w16 (of_z w16 y)) c → Reached (Takes m false) a c
tried_false a b c m y q o f h e g = restored_reached (Takes m false) a b c q (tried_against b c m y (restored_open a b m q o) f h e g)

-- neither value leads to a setting
pub both_lost : (a b c d : Assignment) (m : ℤ) → Reached (Takes m true) a b → Nowhere (Meets (clauses_at b)) (values_in b) → Reached (Takes m false) a c → Nowhere (Meets (clauses_at c)) (values_in c)
    → Restored a d → Lost a d
both_lost a b c d m p n p' n' q = record { restored = q; none = λ x h g. either x h g (truth (setting x) m) refl }
  where
    either : (x : List Bool) → Agrees (values_in a) x → Meets (clauses_at a) x → (t : Bool) → truth (setting x) m ≡ t → ⊥
    either x h g true e = none_good (Takes m true) a b p n x h e g
    either x h g false e = none_good (Takes m false) a c p' n' x h e g

-- nothing good from the values reached, and the trail undone
pub settled_lost : (a b c d : Assignment) → Reached (Meets (clauses_at a)) a b → Restored b c → Nowhere (Meets (clauses_at a)) (values_in b) → Undone c a.top d → Lost a d
settled_lost a b c d p q n u = record { restored = undone_restored (Meets (clauses_at a)) a b c d p q u; none = λ x h g. n x (p.keeps x h g) g }
