-- The number and the layer of a job's refusals; what stands below keeps its own.
use Rattle.std.specs.Prelude.{ℕ, cond, Ok, Err, Result, nat_lt}
use Rattle.design.specs.declared.fault.Layer.{Layer}
use Rattle.design.specs.declared.fault.Layer.TheVariants as layer
use Rattle.decode.specs.declared.command.Spoilt.{Spoilt}
use Rattle.decode.specs.declared.command.Spoilt.TheVariants as spoilt
use Rattle.planner.specs.Faults.{planner_number, planner_layer}
use Rattle.job.specs.declared.fault.JobFault.{JobFault}
use Rattle.job.specs.declared.fault.JobFault.TheVariants.{TooLong, Unknown, CutOff, Order, Planner}

abbrev pub job_number : JobFault → ℕ
job_number TooLong = 1
job_number Unknown = 2
job_number CutOff = 3
job_number Order = 4
job_number (Planner f) = planner_number f

abbrev pub job_layer : JobFault → Layer
job_layer TooLong = layer.Job
job_layer Unknown = layer.Job
job_layer CutOff = layer.Job
job_layer Order = layer.Job
job_layer (Planner f) = planner_layer f

abbrev pub spoilt_fault : Spoilt → JobFault
spoilt_fault spoilt.Unknown = Unknown
spoilt_fault spoilt.CutOff = CutOff

-- a job has at most 16,384 bytes
abbrev pub length_answer : ℕ → Result (Unit {0}) JobFault
length_answer n = cond (nat_lt 16384 n) (Err TooLong) (Ok tt)
