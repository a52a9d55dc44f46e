-- Calls with their outcomes, as events of a run.
use Rattle.std.specs.Prelude.{◌≡◌, ℕ, cond, List, [], ◌∷◌, ◌++◌, map, take, replicate, ℤ, pos, Some, None, Ok, Err, Result, nat_lt}
use Rattle.design.specs.Plan.{Scales, Meaning}
use Rattle.planner.specs.declared.entry.Entry.{Entry}
use Rattle.planner.specs.declared.entry.PlannerFault.{PlannerFault}
use Rattle.planner.specs.declared.call.RuleMarks.{RuleMarks}
use Rattle.planner.specs.declared.call.Call.{Call}
use Rattle.planner.specs.declared.call.Call.TheVariants.{Rule, PriceA, PriceB, Step, Restart, Read}
use Rattle.planner.specs.declared.call.Outcome.{Outcome}
use Rattle.planner.specs.declared.call.Outcome.TheVariants as out
use Rattle.planner.specs.declared.call.Turn.{Turn}
use Rattle.planner.specs.Runs.{State, Event, ruled, priced_a, priced_b, stepped, restarted, read_at, state_of, Lawful, Extends}

-- the marks that are entered; a count above 8 enters too many
abbrev pub marks_entered : RuleMarks → List ℤ
marks_entered r = cond (nat_lt 8 r.count) (replicate 9 (pos 0)) (take r.count r.marks)

-- a call with its outcome is an event
pub data Is : Call → Result Outcome PlannerFault → Event → Type 0 where
  is_rule : (r : RuleMarks) → Is (Rule r) (Ok out.Done) (ruled (marks_entered r) (Ok tt))
  is_no_rule : (r : RuleMarks) (f : PlannerFault) → Is (Rule r) (Err f) (ruled (marks_entered r) (Err f))
  is_price_a : (k : ℤ) (p : ℕ) → Is (PriceA k p) (Ok out.Done) (priced_a k p (Ok tt))
  is_no_price_a : (k : ℤ) (p : ℕ) (f : PlannerFault) → Is (PriceA k p) (Err f) (priced_a k p (Err f))
  is_price_b : (k : ℤ) (p : ℕ) → Is (PriceB k p) (Ok out.Done) (priced_b k p (Ok tt))
  is_no_price_b : (k : ℤ) (p : ℕ) (f : PlannerFault) → Is (PriceB k p) (Err f) (priced_b k p (Err f))
  is_point : (e : Entry) → Is Step (Ok (out.Point e.a e.b)) (stepped (Some e))
  is_ended : Is Step (Ok out.Ended) (stepped None)
  is_restart : Is Restart (Ok out.Done) restarted
  is_plan : (i : ℕ) (e : Entry) → Is (Read i) (Ok (out.Plan e)) (read_at i (Ok e))
  is_no_plan : (i : ℕ) (f : PlannerFault) → Is (Read i) (Err f) (read_at i (Err f))

-- what a call does: of every run
abbrev pub Goes : Scales → State → Call → Result Outcome PlannerFault → State → Type 0
Goes s x c o y = (e : Event) × Is c o e × Extends s x e y

-- the events of turns in order, the newest first
pub data Told : List Turn → List Event → Type 0 where
  told_none : Told [] []
  told_more : {ts : List Turn} {h : List Event} {t : Turn} {e : Event} → Told ts h → Is t.call t.outcome e → Told (ts ++ t ∷ []) (e ∷ h)

-- a whole run from a planner just made: lawful after each call, and it leads to a state
pub record Whole (s : Scales) (m : Meaning) (ts : List Turn) (x : State) : Type 0 where
  pub events : List Event
  pub told : Told ts events
  pub lawful : Lawful s m events
  pub leads : state_of m events ≡ x

abbrev pub calls_of : List Turn → List Call
calls_of ts = map (λ t. t.call) ts
