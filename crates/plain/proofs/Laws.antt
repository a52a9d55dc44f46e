-- The laws that the search uses, from the scales of a judge.
use Rattle.std.proofs.Common.{ℕ}
use Rattle.scales.proofs.ByPlaces.{PlaceLaws}
use Rattle.design.specs.Plan.{Scales}
use Rattle.plain.specs.declared.state.Plain.{Plain}
use Rattle.plain.specs.Asked.{query}
use Rattle.plain.proofs.Searching.{Sound}

pub sound : {X Y : Type 0} (s : Scales) (j : Plain X Y) (a b : ℕ) → PlaceLaws s.a → PlaceLaws s.b → Sound (query s j a b)
sound s j a b la lb = record { laws_a = la; laws_b = lb; named_a = j.prices_a.list.named; named_b = j.prices_b.list.named }
