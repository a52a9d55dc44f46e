-- Calls as events, and runs of turns.
use Rattle.std.proofs.Common.{◌≡◌, ℕ, zero, suc, ◌+◌, ◌<◌, List, [], ◌∷◌, ◌++◌, length, get_or, take, set, ℤ, Some, None, Ok, Err, Option, Result, sym, ap, ◌∙◌, subst, arith}
use Rattle.std.proofs.lemmas.List.{take_more_set}
use Rattle.design.specs.Plan.{Scales, Meaning}
use Rattle.planner.specs.declared.entry.Entry.{Entry}
use Rattle.planner.specs.declared.entry.PlannerFault.{PlannerFault}
use Rattle.planner.specs.declared.call.RuleMarks.{RuleMarks}
use Rattle.planner.specs.declared.call.Call.{Call}
use Rattle.planner.specs.declared.call.Call.TheVariants.{Rule, PriceA, PriceB, Step, Restart, Read}
use Rattle.planner.specs.declared.call.Outcome.{Outcome}
use Rattle.planner.specs.declared.call.Outcome.TheVariants as out
use Rattle.planner.specs.declared.call.Turn.{Turn}
use Rattle.planner.specs.Runs.{State, Event, Reply, ruled, priced_a, priced_b, stepped, restarted, read_at, start, Extends, Steps}
use Rattle.planner.specs.Calls.{marks_entered, Is, is_rule, is_no_rule, is_price_a, is_no_price_a, is_price_b, is_no_price_b, is_point, is_ended, is_restart, is_plan, is_no_plan, Goes, told_none, told_more, Whole, calls_of}

-- the outcome of a call that enters something
abbrev pub done : Reply → Result Outcome PlannerFault
done (Ok u) = Ok out.Done
done (Err f) = Err f

abbrev pub stepping : Option (ℕ × ℕ) → Result Outcome PlannerFault
stepping (Some p) = Ok (out.Point p.0 p.1)
stepping None = Ok out.Ended

abbrev pub planned : Result Entry PlannerFault → Result Outcome PlannerFault
planned (Ok n) = Ok (out.Plan n)
planned (Err f) = Err f

module _ (s : Scales) (x y : State) (c : Call) (o : Result Outcome PlannerFault) where
  goes_by : (d : Call) (p : Result Outcome PlannerFault) (e : Event) → c ≡ d → o ≡ p → Is d p e → Extends s x e y → Goes s x c o y
  goes_by d p e q r i t = (e, rw (q, r) i, t)

  pub goes_rule : (m : RuleMarks) (r : Reply) → c ≡ Rule m → o ≡ done r → Extends s x (ruled (marks_entered m) r) y → Goes s x c o y
  goes_rule m (Ok tt) q e t = goes_by _ _ _ q e (is_rule m) t
  goes_rule m (Err f) q e t = goes_by _ _ _ q e (is_no_rule m f) t

  pub goes_price_a : (k : ℤ) (p : ℕ) (r : Reply) → c ≡ PriceA k p → o ≡ done r → Extends s x (priced_a k p r) y → Goes s x c o y
  goes_price_a k p (Ok tt) q e t = goes_by _ _ _ q e (is_price_a k p) t
  goes_price_a k p (Err f) q e t = goes_by _ _ _ q e (is_no_price_a k p f) t

  pub goes_price_b : (k : ℤ) (p : ℕ) (r : Reply) → c ≡ PriceB k p → o ≡ done r → Extends s x (priced_b k p r) y → Goes s x c o y
  goes_price_b k p (Ok tt) q e t = goes_by _ _ _ q e (is_price_b k p) t
  goes_price_b k p (Err f) q e t = goes_by _ _ _ q e (is_no_price_b k p f) t

  pub goes_step : (r : Option (ℕ × ℕ)) → c ≡ Step → o ≡ stepping r → Steps s x r y → Goes s x c o y
  goes_step r q e (Some n, i, t) = goes_by Step (Ok (out.Point n.a n.b)) (stepped (Some n)) q (e ∙ ap stepping i) (is_point n) t
  goes_step r q e (None, i, t) = goes_by Step (Ok out.Ended) (stepped None) q (e ∙ ap stepping i) is_ended t

  pub goes_restart : c ≡ Restart → o ≡ Ok out.Done → Extends s x restarted y → Goes s x c o y
  goes_restart q e t = goes_by _ _ _ q e is_restart t

  pub goes_read : (i : ℕ) (r : Result Entry PlannerFault) → c ≡ Read i → o ≡ planned r → Extends s x (read_at i r) y → Goes s x c o y
  goes_read i (Ok n) q e t = goes_by _ _ _ q e (is_plan i n) t
  goes_read i (Err f) q e t = goes_by _ _ _ q e (is_no_plan i f) t

pub whole_none : (s : Scales) (m : Meaning) (x : State) → x ≡ start m → Whole s m [] x
whole_none s m x e = record { events = []; told = told_none; lawful = tt; leads = sym e }

-- one turn more
pub whole_more : (s : Scales) (m : Meaning) (x y : State) (ts : List Turn) (t : Turn) → Whole s m ts x → Goes s x t.call t.outcome y → Whole s m (ts ++ t ∷ []) y
whole_more s m x y ts t w (e, is, more) =
    let r = more m w.events w.leads w.lawful in
    record { events = e ∷ w.events; told = told_more w.told is; lawful = r.1; leads = r.0 }

pub whole_set : (s : Scales) (m : Meaning) (x y : State) (ts : List Turn) (i : ℕ) (t : Turn) → i < length ts → Whole s m (take i ts) x → Goes s x t.call t.outcome y → Whole s m (take (i + 1) (set ts i t)) y
whole_set s m x y ts i t h w g = subst (λ (k : List Turn). Whole s m k y) (sym (take_more_set ts i t h)) (whole_more s m x y (take i ts) t w g)

pub calls_set : (ts : List Turn) (i : ℕ) (t d : Turn) → i < length ts → t.call ≡ (get_or ts i d).call → calls_of (set ts i t) ≡ calls_of ts
calls_set [] i t d h e = absurd (omega arith)
calls_set (x ∷ ts) zero t d h e = ap (λ (c : Call). c ∷ calls_of ts) e
calls_set (x ∷ ts) (suc i) t d h e = ap (λ (cs : List Call). x.call ∷ cs) (calls_set ts i t d (omega arith) e)
