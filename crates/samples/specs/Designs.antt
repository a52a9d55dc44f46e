-- Samples: small designs on hours and needles, with the points that a listing of each shows.
use Rattle.std.specs.Prelude.{◌≡◌, ℕ, List, [], ◌∷◌, map, ℤ, pos, negsuc, None}
use Rattle.scales.specs.Models.{hours_places, needles_places}
use Rattle.design.specs.declared.price.Price.{Price}
use Rattle.design.specs.Plan.{Scales, Meaning}
use Rattle.judge.specs.Calls.{price_of}
use Rattle.planner.specs.declared.entry.Entry.{Entry}
use Rattle.planner.specs.Runs.{Event, stepped, state_of, Lawful}

abbrev pub scales : Scales
scales = record { a = hours_places; b = needles_places }

-- N, the rules, and the prices in hours and in needles
abbrev pub design : ℕ → List (List ℤ) → List Price → List Price → Meaning
design n rs pa pb = record { choices = n; price_room = 64; rule_room = 1024; rules = rs; prices_a = pa; prices_b = pb; limit_a = 40; limit_b = 24 }

-- a design, and an entry for each point that is to be listed
pub record Sample : Type 0 where
  pub meaning : Meaning
  pub entries : List Entry

abbrev pub entry : ℕ → ℕ → ℕ → Entry
entry a b w = record { a = a; b = b; word = w }

abbrev pub sample : Meaning → List Entry → Sample
sample m es = record { meaning = m; entries = es }

abbrev pub samples : List Sample
samples =
    -- one of two choices
    sample (design 2 ((pos 1 ∷ (pos 2 ∷ [])) ∷ []) (price_of (pos 1) 3 ∷ (price_of (pos 2) 1 ∷ [])) (price_of (pos 1) 2 ∷ (price_of (pos 2) 5 ∷ []))) (entry 1 5 2 ∷ (entry 3 2 1 ∷ []))
    -- a rule without marks
    ∷ (sample (design 2 ([] ∷ []) [] []) []
    -- one choice alone
    ∷ (sample (design 1 [] [] []) (entry 0 0 0 ∷ [])
    -- a choice that must be taken and left
    ∷ (sample (design 1 ((pos 1 ∷ []) ∷ ((negsuc 0 ∷ []) ∷ [])) [] []) []
    -- just one of two, equal in hours
    ∷ (sample (design 2 ((pos 1 ∷ (pos 2 ∷ [])) ∷ ((negsuc 0 ∷ (negsuc 1 ∷ [])) ∷ [])) (price_of (pos 1) 1 ∷ (price_of (pos 2) 1 ∷ [])) (price_of (pos 1) 5 ∷ (price_of (pos 2) 4 ∷ []))) (entry 1 4 2 ∷ [])
    -- leaving costs hours, and taking needles
    ∷ (sample (design 1 [] (price_of (negsuc 0) 2 ∷ []) (price_of (pos 1) 3 ∷ [])) (entry 0 3 1 ∷ (entry 2 0 0 ∷ []))
    ∷ [])))))

abbrev pub points : List Entry → List (ℕ × ℕ)
points es = map (λ e. (e.a, e.b)) es

-- every run, on a judge of any meaning, that has come to the sample's design and to "ended" lists
-- just the sample's points
abbrev pub ListsThem : Sample → Type 0
ListsThem x = (m : Meaning) (h : List Event) → Lawful scales m (stepped None ∷ h) → (state_of m h).meaning ≡ x.meaning → points (state_of m h).entries ≡ points x.entries

abbrev pub Each : {X : Type 0} → (X → Type 0) → List X → Type 0
Each P [] = Unit {0}
Each P (x ∷ xs) = P x × Each P xs

-- two places of a scale joined
pub record Joined : Type 0 where
  pub is : ℕ
  pub should : ℕ

abbrev pub joined : ℕ → ℕ → Joined
joined x y = record { is = x; should = y }

abbrev pub joins : List Joined
joins =
    joined (hours_places.join 39 1) 40
    ∷ (joined (hours_places.join 40 1) 40
    ∷ (joined (hours_places.join 25 25) 40
    ∷ (joined (needles_places.join 7 7) 7
    ∷ (joined (needles_places.join 7 24) 24 ∷ []))))

abbrev pub SamplesHold : Type 0
SamplesHold = Each ListsThem samples × Each (λ x. x.is ≡ x.should) joins
