-- What a command does to a job's stage, and what it answers.
use Rattle.std.specs.Prelude.{◌≡◌, ℕ, Some, None, Ok, Err, Option, Result}
use Rattle.design.specs.declared.fault.JudgeFault.{JudgeFault}
use Rattle.design.specs.Plan.{Scales, Meaning}
use Rattle.scales.specs.declared.Scale.{Ghosts as ScaleGhosts}
use Rattle.judge.specs.declared.Judge.{Ghosts}
use Rattle.judge.specs.Calls.{no_entries}
use Rattle.decode.specs.declared.command.Command.{Command}
use Rattle.decode.specs.declared.command.Command.TheVariants as command
use Rattle.planner.specs.declared.call.Call.{Call}
use Rattle.planner.specs.declared.call.Outcome.{Outcome}
use Rattle.planner.specs.declared.call.Outcome.TheVariants as out
use Rattle.planner.specs.declared.entry.PlannerFault.{PlannerFault}
use Rattle.planner.specs.declared.entry.PlannerFault.TheVariants as fault
use Rattle.planner.specs.Runs.{State, start, state_in}
use Rattle.planner.specs.Calls.{Goes}
use Rattle.job.specs.declared.fault.JobFault.TheVariants.{Order, Planner}
use Rattle.job.specs.declared.stage.Stage.{Stage}
use Rattle.job.specs.declared.stage.Stage.TheVariants.{Waiting, Working}
use Rattle.job.specs.Performing.{Reply, call_of, reply_of}

-- the planner's state, once a set-up was accepted
abbrev pub planner_of : {M J P Q V W : Type 0} {j : Ghosts J P Q V W} {p : ScaleGhosts P V} {q : ScaleGhosts Q W} → (J → Meaning) → Stage M J P Q V W j p q → Option State
planner_of meaning (Waiting maker room) = None
planner_of meaning (Working p) = Some (state_in meaning p)

-- a call on the planner goes on with every run that led to it
abbrev pub Plays : Scales → Option State → Option Call → Reply → Option State → Type 0
Plays s x k r y = (st : State) (c : Call) → x ≡ Some st → k ≡ Some c → (o : Result Outcome PlannerFault) × (st' : State) × (y ≡ Some st') × Goes s st c o st' × (r ≡ reply_of o)

-- a command before an accepted set-up, or a set-up after one, is refused and changes nothing
abbrev pub KeepsOrder : {X : Type 0} → X → Option State → Option Call → Reply → X → Type 0
KeepsOrder x (Some st) None r y = (r ≡ Err Order) × (y ≡ x)
KeepsOrder x None (Some c) r y = (r ≡ Err Order) × (y ≡ x)
KeepsOrder x (Some st) (Some c) r y = Unit {0}
KeepsOrder x None None r y = Unit {0}

-- a set-up that comes in order starts an empty run where its sizes are not refused, and else changes
-- nothing
abbrev pub SetsUp : {X : Type 0} → Scales → (ℕ → ℕ → ℕ → Option JudgeFault) → X → Option State → Command → Reply → X → Option State → Type 0
SetsUp s refusal x before c r y after = (n q k : ℕ) → before ≡ None → c ≡ command.SetUp n q k
    → (refusal n q k ≡ None → (r ≡ Ok out.Done) × (after ≡ Some (start (no_entries n q k s.a.top s.b.top))))
    × ((f : JudgeFault) → refusal n q k ≡ Some f → (r ≡ Err (Planner (fault.Judge f))) × (y ≡ x))

pub record Performs {M J P Q V W : Type 0} {j : Ghosts J P Q V W} {p : ScaleGhosts P V} {q : ScaleGhosts Q W} (s : Scales) (meaning : J → Meaning) (refusal : ℕ → ℕ → ℕ → Option JudgeFault) (x : Stage M J P Q V W j p q) (c : Command) (r : Reply) (y : Stage M J P Q V W j p q) : Type 0 where
  pub plays : Plays s (planner_of meaning x) (call_of c) r (planner_of meaning y)
  pub keeps_order : KeepsOrder x (planner_of meaning x) (call_of c) r y
  pub sets_up : SetsUp s refusal x (planner_of meaning x) c r y (planner_of meaning y)
