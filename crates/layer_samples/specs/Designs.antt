-- Samples through layers: a small design under limits and with its costs exchanged, with the points
-- that a listing of each shows.
use Rattle.std.specs.Prelude.{◌≡◌, List, [], ◌∷◌, pos, None}
use Rattle.design.specs.Plan.{Scales, Meaning}
use Rattle.judge.specs.Calls.{price_of}
use Rattle.layers.specs.Meanings.{lowered, swapped, swapped_scales}
use Rattle.planner.specs.declared.entry.Entry.{Entry}
use Rattle.planner.specs.Runs.{Event, stepped, state_of, Lawful}
use Rattle.samples.specs.Designs.{scales, design, entry, points, Each}

-- a design on its two scales, and an entry for each point that is to be listed
pub record Layered : Type 0 where
  pub scales_of : Scales
  pub meaning : Meaning
  pub entries : List Entry

abbrev pub layered : Meaning → List Entry → Layered
layered m es = record { scales_of = scales; meaning = m; entries = es }

-- the same design with its costs exchanged
abbrev pub exchanged : Meaning → List Entry → Layered
exchanged m es = record { scales_of = swapped_scales scales; meaning = swapped m; entries = es }

-- one of two choices is to be taken
abbrev pub one_of_two : Meaning
one_of_two = design 2 ((pos 1 ∷ (pos 2 ∷ [])) ∷ []) (price_of (pos 1) 3 ∷ (price_of (pos 2) 1 ∷ [])) (price_of (pos 1) 2 ∷ (price_of (pos 2) 5 ∷ []))

abbrev pub samples_of_layers : List Layered
samples_of_layers =
    -- under a limit of 2 quarter hours, and of none
    layered (lowered 2 255 one_of_two) (entry 1 5 2 ∷ [])
    ∷ (layered (lowered 0 255 one_of_two) []
    -- with the costs exchanged
    ∷ (exchanged one_of_two (entry 2 3 1 ∷ (entry 5 1 2 ∷ []))
    ∷ []))

-- every run, on a judge of any meaning, that has come to the sample's design and to "ended" lists
-- just the sample's points
abbrev pub ListsLayered : Layered → Type 0
ListsLayered x = (m : Meaning) (h : List Event) → Lawful x.scales_of m (stepped None ∷ h) → (state_of m h).meaning ≡ x.meaning → points (state_of m h).entries ≡ points x.entries

abbrev pub LayerSamplesHold : Type 0
LayerSamplesHold = Each ListsLayered samples_of_layers
