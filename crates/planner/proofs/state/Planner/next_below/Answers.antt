use Rattle.std.proofs.Common.{◌≡◌, ℕ, ◌-◌, List, [], ◌∷◌, length, Some, None, Option, MatchOption, Bor, vec_items, refl, ap, ◌∙◌, sub-one, rules}
use Rattle.std.specs.List.{slice_get}
use Rattle.std.specs.Option.{option_copied}
use Rattle.planner.specs.declared.entry.Entry.{Entry}
use Rattle.planner.specs.Order.{last_b}
use Rattle.planner.proofs.state.Planner.next_below.Goals as goal

last_is : (d : ℕ) (x : Entry) (es : List Entry) → (e : Entry) × (slice_get (x ∷ es) (length es) ≡ Some e) × (e.b ≡ last_b d (x ∷ es))
last_is d x [] = (x, refl, refl)
last_is d x (y ∷ es) = last_is x.b y es

below_is : (b : ℕ) (es : List Entry) (o : Option (Bor Entry)) → option_copied o ≡ slice_get es (length es - 1) → MatchOption o (b ≡ 201) (λ e. b ≡ e.now.b) → b ≡ last_b 201 es
below_is b [] None e h = h
below_is b [] (Some x) e h = cc
below_is b (x ∷ es) None e h = let l = last_is 201 x es in cc (simp sub-one at e)
below_is b (x ∷ es) (Some y) e h = let l = last_is 201 x es in cc (simp sub-one at e, h)

pub returns : goal.returns
returns g c = below_is _ (vec_items c.args.self.now.entries) c.last.result (c.last.ensures.value ∙ ap (λ (es : List Entry). slice_get es (length es - 1)) c.deref.ensures.value) (search rules)
