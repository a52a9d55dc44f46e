-- What a solver over a lent store means, and what holds of it.
use Rattle.std.proofs.Common.{◌∙◌, arith}
use Rattle.std.proofs.lemmas.List.{length-map}
use Rattle.solver.specs.State.{Solving, Kept}
use Rattle.store.specs.Parts.{meaning_of, part, is_taken}
use Rattle.store.specs.Long.{units_sound, part_long}
use Rattle.deciding.specs.declared.kind.Kind.{Kind}

abbrev pub kind_meaning : {S : Type 0} → Kind S → Solving
kind_meaning b = meaning_of b.store.cells.now b.store.used b.choices b.room

pub kept_of : {S : Type 0} (b : Kind S) → Kept (kind_meaning b)
kept_of b =
    let u = units_sound b.store.cells.now b.store.used b.stored.sound (omega arith) in
    record {
      some_choice = b.stored.some_choice;
      few_choices = b.stored.few_choices;
      named = b.stored.named;
      fits = omega arith;
      whole = length-map (part b.store.cells.now b.room b.choices) is_taken ∙ part_long b.store.cells.now b.room b.choices (omega arith);
    }
