use Rattle.std.proofs.Common.{◌≡◌, ℕ, List, length, Some, None, Option, Bor, sym, refl}
use Rattle.std.specs.List.{slice_get}
use Rattle.std.specs.Option.{option_copied}
use Rattle.std.specs.Slice.{IsItemAt}
use Rattle.std.proofs.lemmas.Option.{slice_get_past, slice_get_read}
use Rattle.planner.specs.declared.entry.Entry.{Entry}
use Rattle.planner.proofs.Extend.{extend_read}
use Rattle.planner.proofs.state.Planner.read.Goals as goal

copied_is : (es : List Entry) (i : ℕ) (o : Option (Bor Entry)) → IsItemAt es i o → option_copied o ≡ slice_get es i
copied_is es i None h = sym (slice_get_past es i h.3)
copied_is es i (Some x) h = sym (slice_get_read es (length es) i x.now refl h.3.0 h.1)

pub returns : goal.returns
returns g c = let e = copied_is _ _ _ c.get.ensures.lookup in record { run = extend_read _ _ _ _ _ _ (cc) }
