-- The number and the layer of a planner's refusals; a judge's keep theirs.
use Rattle.std.specs.Prelude.{ℕ}
use Rattle.design.specs.declared.fault.Layer.{Layer}
use Rattle.design.specs.declared.fault.Layer.TheVariants as layer
use Rattle.design.specs.Fault.{judge_number, judge_layer}
use Rattle.planner.specs.declared.entry.PlannerFault.{PlannerFault}
use Rattle.planner.specs.declared.entry.PlannerFault.TheVariants.{ListingOpen, NoEntry, Judge}

abbrev pub planner_number : PlannerFault → ℕ
planner_number ListingOpen = 8
planner_number NoEntry = 14
planner_number (Judge f) = judge_number f

abbrev pub planner_layer : PlannerFault → Layer
planner_layer ListingOpen = layer.Planner
planner_layer NoEntry = layer.Planner
planner_layer (Judge f) = judge_layer f
