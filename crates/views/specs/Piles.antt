-- A pile of three layers: a limit over exchanged costs over a limit.
use Rattle.std.specs.Prelude.{ℕ}
use Rattle.design.specs.Plan.{Meaning}
use Rattle.layers.specs.Meanings.{lowered, swapped}

-- what the pile makes of the meaning below it, by the limits below and above the exchange
abbrev pub piled : ℕ × ℕ → ℕ × ℕ → Meaning → Meaning
piled below above m = lowered above.0 above.1 (swapped (lowered below.0 below.1 m))
