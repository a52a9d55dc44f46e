-- What a command of a job does.
use Rattle.std.specs.Prelude.{Some, None, Ok, Err, Option, Result}
use Rattle.decode.specs.declared.command.Command.{Command}
use Rattle.decode.specs.declared.command.Command.TheVariants as command
use Rattle.planner.specs.declared.call.Call.{Call}
use Rattle.planner.specs.declared.call.Call.TheVariants as call
use Rattle.planner.specs.declared.call.Outcome.{Outcome}
use Rattle.planner.specs.declared.entry.PlannerFault.{PlannerFault}
use Rattle.job.specs.declared.fault.JobFault.{JobFault}
use Rattle.job.specs.declared.fault.JobFault.TheVariants.{Planner}

-- the call of a planner that a command stands for; none for a set-up
abbrev pub call_of : Command → Option Call
call_of (command.SetUp n q r) = None
call_of (command.Rule count marks) = Some (call.Rule (record { count = count; marks = marks }))
call_of (command.PriceA mark place) = Some (call.PriceA mark place)
call_of (command.PriceB mark place) = Some (call.PriceB mark place)
call_of command.Step = Some call.Step
call_of command.Restart = Some call.Restart
call_of (command.Read index) = Some (call.Read index)

abbrev pub Reply : Type 0
Reply = Result Outcome JobFault

-- a planner's refusal is one of the job
abbrev pub reply_of : Result Outcome PlannerFault → Reply
reply_of (Ok o) = Ok o
reply_of (Err f) = Err (Planner f)
