use Rattle.std.proofs.Common.{◌≡◌, ℕ, ◌<◌, get_or, ℤ, rules}
use Rattle.decode.specs.Format.{mark_of}
use Rattle.decode.proofs.OfBytes.{listed}
use Rattle.decode.proofs.OfMarks.{rule_found, rule_spelt}
use Rattle.decode.proofs.read.read_command.Goals as goal

each : (c : goal.After-map) (k : ℕ) (d : ℤ) → k < 8 → get_or c.map.result k d ≡ mark_of (get_or (listed c.args.bytes.now 2 8) k 0)
each c k d h = let x = c.map.ensures.items.at k 0 d h in search rules

pub returns-in-2-clause-says : goal.returns-in-2-clause-says
returns-in-2-clause-says c = rule_found c.args.bytes.now c.map.result c.map.ensures.items.long (each c) (search rules) c.in-2.len_at_least

pub returns-in-2-clause-spells : goal.returns-in-2-clause-spells
returns-in-2-clause-spells c = rule_spelt c.args.bytes.now c.map.result c.map.ensures.items.long (each c) (λ i. search rules) (search rules) c.in-2.len_at_least
