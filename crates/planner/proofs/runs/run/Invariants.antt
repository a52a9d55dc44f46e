use Rattle.std.proofs.Common.{◌≡◌, take}
use Rattle.planner.specs.Runs.{state_in}
use Rattle.planner.specs.Calls.{Whole, calls_of}
use Rattle.planner.proofs.runs.run.Given as goal

abbrev pub invariant-loop-turn : goal.invariant-loop-turn
invariant-loop-turn g l =
    let j = g.J.Judge in
    Whole j.scales (j.meaning l.fn.judge) (take l.turn-index l.turn-items) (state_in j.meaning l.planner)
    × (calls_of l.turn-items ≡ calls_of l.fn.turns)
