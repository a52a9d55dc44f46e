-- A design written part by part: each part is taken once those before it are written.
use Rattle.std.proofs.Common.{◌≡◌, ℕ, ◌+◌, ◌<◌, List, [], ◌∷◌, ◌++◌, length, get_or, take, drop, ℤ, sym, refl, ap, ◌∙◌, subst, append_assoc, append-nil, arith, take-append-drop}
use Rattle.std.proofs.lemmas.List.{take_more, map-append}
use Rattle.solver.specs.Setting.{clauses_named}
use Rattle.solver.specs.State.{Solving, with_clauses}
use Rattle.propagation.specs.Held.{marks_of, rules_of}
use Rattle.propagation.specs.declared.rule.Rule.{Rule}
use Rattle.propagation.proofs.Making.{rules_next}
use Rattle.totalizer.proofs.Gathers.{append_parts, every_clause_named}
use Rattle.totalizer.proofs.Sizes.{used_append}
use Rattle.writer.specs.Writes.{Takes}

pub takes_front : (v : Solving) (xs ys : List (List ℤ)) → Takes v (xs ++ ys) → Takes v xs
takes_front v xs ys t = record {
  room = omega (arith, t.room, used_append xs ys);
  marks = (append_parts (clauses_named v.choices) (every_clause_named v.choices) xs ys t.marks).0;
}

pub takes_rest : (v v' : Solving) (xs ys : List (List ℤ)) → v' ≡ with_clauses v xs → Takes v (xs ++ ys) → Takes v' ys
takes_rest v v' xs ys e t = subst (λ (x : Solving). Takes x ys) (sym e) (record {
  room = omega (arith, t.room, used_append xs ys, used_append v.clauses xs);
  marks = (append_parts (clauses_named v.choices) (every_clause_named v.choices) xs ys t.marks).1;
})

pub with_more : (v v' v'' : Solving) (xs ys : List (List ℤ)) → v' ≡ with_clauses v xs → v'' ≡ with_clauses v' ys → v'' ≡ with_clauses v (xs ++ ys)
with_more v v' v'' xs ys e d =
    d
    ∙ ap (λ (x : Solving). with_clauses x ys) e
    ∙ (λ i. record { choices = v.choices; room = v.room; clauses = append_assoc v.clauses xs ys i; held = v.held })

with_none : (v : Solving) → v ≡ with_clauses v []
with_none v = sym (λ i. record { choices = v.choices; room = v.room; clauses = append-nil v.clauses i; held = v.held })

rules_both : (xs ys : List Rule) → rules_of (xs ++ ys) ≡ rules_of xs ++ rules_of ys
unfolding rules_of
rules_both xs ys = map-append marks_of xs ys

no_rules_of : rules_of [] ≡ []
unfolding rules_of
no_rules_of = refl

pub rules_start : (v : Solving) → v ≡ with_clauses v (rules_of [])
rules_start v = with_none v ∙ ap (with_clauses v) (sym no_rules_of)

module _ (rs : List Rule) (i : ℕ) (r : Rule) (h : i < length rs) (e : r ≡ get_or rs i r) (ms : List ℤ) (q : ms ≡ marks_of r) where
  one_more : rules_of (take (i + 1) rs) ≡ rules_of (take i rs) ++ ms ∷ []
  one_more = rules_next (take i rs) (take (i + 1) rs) r ms (take_more rs i r h ∙ ap (λ (x : Rule). take i rs ++ x ∷ []) (sym e)) (sym q)

  pub rule_taken : (v v' : Solving) → v' ≡ with_clauses v (rules_of (take i rs)) → Takes v (rules_of rs) → Takes v' (ms ∷ [])
  rule_taken v v' w t =
      let d : rules_of rs ≡ (rules_of (take i rs) ++ ms ∷ []) ++ rules_of (drop (i + 1) rs) =
      ap rules_of (sym (take-append-drop (i + 1) rs)) ∙ rules_both (take (i + 1) rs) (drop (i + 1) rs) ∙ ap (λ (l : List (List ℤ)). l ++ rules_of (drop (i + 1) rs)) one_more in
      takes_rest v v' (rules_of (take i rs)) (ms ∷ []) w (takes_front v (rules_of (take i rs) ++ ms ∷ []) (rules_of (drop (i + 1) rs)) (subst (Takes v) d t))

  pub rule_written : (v v' v'' : Solving) → v' ≡ with_clauses v (rules_of (take i rs)) → v'' ≡ with_clauses v' (ms ∷ []) → v'' ≡ with_clauses v (rules_of (take (i + 1) rs))
  rule_written v v' v'' w d = with_more v v' v'' (rules_of (take i rs)) (ms ∷ []) w d ∙ ap (with_clauses v) (sym one_more)
