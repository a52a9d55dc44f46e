-- The text of a printed line.
use Rattle.std.specs.Prelude.{ℕ, List, ◌++◌, Ok, Err, codes, decimal}
use Rattle.design.specs.Fault.{layer_name}
use Rattle.planner.specs.declared.call.Outcome.TheVariants as out
use Rattle.job.specs.declared.fault.JobFault.{JobFault}
use Rattle.job.specs.declared.line.Line.{Line}
use Rattle.job.specs.Faults.{job_number, job_layer}
use Rattle.job.specs.Performing.{Reply}
use Rattle.job.specs.Words.{hex}

abbrev pub fault_text : JobFault → List ℕ
fault_text f = codes "refused " ++ (decimal (job_number f) ++ (codes " " ++ layer_name (job_layer f)))

abbrev pub refusal_text : ℕ → JobFault → List ℕ
refusal_text offset f = decimal offset ++ (codes " " ++ fault_text f)

abbrev pub answer_text : ℕ → Reply → List ℕ
answer_text offset (Ok out.Done) = decimal offset ++ codes " ok"
answer_text offset (Ok (out.Point a b)) = decimal offset ++ (codes " point " ++ (decimal a ++ (codes " " ++ decimal b)))
answer_text offset (Ok out.Ended) = decimal offset ++ codes " ended"
answer_text offset (Ok (out.Plan e)) = decimal offset ++ (codes " plan " ++ (decimal e.a ++ (codes " " ++ (decimal e.b ++ (codes " " ++ hex 16 e.word)))))
answer_text offset (Err f) = refusal_text offset f

abbrev pub line_text : Line → List ℕ
line_text l = answer_text l.offset l.answer
