-- A join of many values does not depend on order or grouping, and never falls below a part.
use Rattle.std.proofs.Common.{◌≡◌, ℕ, zero, suc, ◌+◌, ◌<◌, ◌≤◌, List, [], ◌∷◌, ◌++◌, length, get_or, take, sym, refl, ap, ◌∙◌, arith}
use Rattle.std.proofs.lemmas.List.{take_more}
use Rattle.scales.specs.Laws.{Places, Laws}
use Rattle.scales.specs.Many.{joined_all, Reordered, same, swapped, behind, further, JoinedMany}
use Rattle.scales.proofs.ByPlaces.{place_below, place_joined, place_laws}

module _ {V : Type 0} (s : Places) (place : V → ℕ) (at : ℕ → V) (joined : V → V → V) (l : Laws s place at joined) where
  -- the first value can be joined last
  start_out : (u : V) (vs : List V) → joined_all joined u vs ≡ joined u (joined_all joined (at 0) vs)
  unfolding joined_all
  start_out u [] = sym (l.comm u (at 0) ∙ l.neutral u)
  start_out u (v ∷ vs) =
      start_out (joined u v) vs ∙ l.assoc u v (joined_all joined (at 0) vs)
      ∙ ap (joined u) (sym (ap (λ (x : V). joined_all joined x vs) (l.neutral v) ∙ start_out v vs))

  cons_is : (v : V) (vs : List V) → joined_all joined (at 0) (v ∷ vs) ≡ joined v (joined_all joined (at 0) vs)
  unfolding joined_all
  cons_is v vs = ap (λ (x : V). joined_all joined x vs) (l.neutral v) ∙ start_out v vs

  reordered : {us vs : List V} → Reordered us vs → joined_all joined (at 0) us ≡ joined_all joined (at 0) vs
  reordered same = refl
  reordered (swapped {u} {v} {vs}) =
      cons_is u (v ∷ vs) ∙ ap (joined u) (cons_is v vs) ∙ sym (l.assoc u v _) ∙ ap (λ (x : V). joined x (joined_all joined (at 0) vs)) (l.comm u v)
      ∙ l.assoc v u _ ∙ sym (cons_is v (u ∷ vs) ∙ ap (joined v) (cons_is u vs))
  reordered (behind {v} {us} {vs} r) = cons_is v us ∙ ap (joined v) (reordered r) ∙ sym (cons_is v vs)
  reordered (further p q) = reordered p ∙ reordered q

  grouped : (us ws : List V) → joined_all joined (at 0) (us ++ ws) ≡ joined (joined_all joined (at 0) us) (joined_all joined (at 0) ws)
  unfolding joined_all
  grouped [] ws = sym (l.neutral (joined_all joined (at 0) ws))
  grouped (u ∷ us) ws =
      cons_is u (us ++ ws) ∙ ap (joined u) (grouped us ws) ∙ sym (l.assoc u _ _)
      ∙ ap (λ (x : V). joined x (joined_all joined (at 0) ws)) (sym (cons_is u us))

  left_least : (u v : V) → place u ≤ place (joined u v)
  left_least u v =
      let p = place_laws s place at joined l in
      omega (arith, p.grows (place u) (place v) (place_below s place at joined l u), place_joined s place at joined l u v)

  right_least : (u v : V) → place v ≤ place (joined u v)
  right_least u v = omega (arith, left_least v u, ap place (l.comm u v))

  part_least : (vs : List V) (k : ℕ) (d : V) → k < length vs → place (get_or vs k d) ≤ place (joined_all joined (at 0) vs)
  part_least [] k d h = absurd (omega arith)
  part_least (v ∷ vs) zero d h = omega (arith, left_least v (joined_all joined (at 0) vs), ap place (cons_is v vs))
  part_least (v ∷ vs) (suc k) d h =
      omega (arith, part_least vs k d (omega arith), right_least v (joined_all joined (at 0) vs), ap place (cons_is v vs))

  pub joined_many : (vs : List V) (r : V) → r ≡ joined_all joined (at 0) vs → JoinedMany place at joined vs r
  joined_many vs r e = record {
    in_order = e;
    any_order = λ us o. e ∙ reordered o;
    any_group = λ us ws q. e ∙ ap (joined_all joined (at 0)) q ∙ grouped us ws;
    no_less = λ k d h. omega (arith, part_least vs k d h, ap place e);
  }

  -- one value more at the end
  all_more : (u : V) (vs : List V) (v : V) → joined_all joined u (vs ++ v ∷ []) ≡ joined (joined_all joined u vs) v
  unfolding joined_all
  all_more u [] v = refl
  all_more u (w ∷ vs) v = all_more (joined u w) vs v

  pub all_next : (vs : List V) (i : ℕ) (v : V) → v ≡ get_or vs i v → i < length vs → joined_all joined (at 0) (take (i + 1) vs) ≡ joined (joined_all joined (at 0) (take i vs)) v
  all_next vs i v e h = ap (joined_all joined (at 0)) (take_more vs i v h ∙ ap (λ (x : V). take i vs ++ x ∷ []) (sym e)) ∙ all_more (at 0) (take i vs) v

pub all_none : {V : Type 0} (joined : V → V → V) (u : V) → joined_all joined u [] ≡ u
unfolding joined_all
all_none joined u = refl
