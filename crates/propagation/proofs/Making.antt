use Rattle.std.proofs.Common.{◌≡◌, ℕ, ◌+◌, ◌<◌, List, [], ◌∷◌, ◌++◌, length, get_or, take, ℤ, pos, sym, refl, ap, ◌∙◌}
use lib.Bits.{bit_or}
use Rattle.std.proofs.lemmas.List.{take_more, map-append}
use Rattle.propagation.specs.declared.rule.Rule.{Rule}
use Rattle.propagation.specs.Masks.{up_bit, down_bit, ups_from, downs_from, ups_of, downs_of}
use Rattle.propagation.specs.Held.{marks_of, rules_of}

pub ups_more : (u : ℕ) (ms : List ℤ) (m : ℤ) → ups_from u (ms ++ m ∷ []) ≡ bit_or (ups_from u ms) (up_bit m)
unfolding ups_from
ups_more u [] m = refl
ups_more u (x ∷ ms) m = ups_more (bit_or u (up_bit x)) ms m

pub downs_more : (u : ℕ) (ms : List ℤ) (m : ℤ) → downs_from u (ms ++ m ∷ []) ≡ bit_or (downs_from u ms) (down_bit m)
unfolding downs_from
downs_more u [] m = refl
downs_more u (x ∷ ms) m = downs_more (bit_or u (down_bit x)) ms m

pub ups_next : (ms : List ℤ) (i u x : ℕ) → i < length ms → u ≡ ups_of (take i ms) → x ≡ up_bit (get_or ms i (pos 0)) → bit_or u x ≡ ups_of (take (i + 1) ms)
unfolding ups_of
ups_next ms i u x h e f = ap (λ (n : ℕ). bit_or n x) e ∙ ap (bit_or (ups_of (take i ms))) f ∙ sym (ap ups_of (take_more ms i (pos 0) h) ∙ ups_more 0 (take i ms) (get_or ms i (pos 0)))

pub downs_next : (ms : List ℤ) (i u x : ℕ) → i < length ms → u ≡ downs_of (take i ms) → x ≡ down_bit (get_or ms i (pos 0)) → bit_or u x ≡ downs_of (take (i + 1) ms)
unfolding downs_of
downs_next ms i u x h e f = ap (λ (n : ℕ). bit_or n x) e ∙ ap (bit_or (downs_of (take i ms))) f ∙ sym (ap downs_of (take_more ms i (pos 0) h) ∙ downs_more 0 (take i ms) (get_or ms i (pos 0)))

pub ups_none : 0 ≡ ups_of []
unfolding ups_of ups_from
ups_none = refl

pub downs_none : 0 ≡ downs_of []
unfolding downs_of downs_from
downs_none = refl

pub rules_more : (rs : List Rule) (r : Rule) → rules_of (rs ++ r ∷ []) ≡ rules_of rs ++ marks_of r ∷ []
unfolding rules_of
rules_more rs r = map-append marks_of rs (r ∷ [])

pub rules_next : (rs rs' : List Rule) (r : Rule) (ms : List ℤ) → rs' ≡ rs ++ r ∷ [] → marks_of r ≡ ms → rules_of rs' ≡ rules_of rs ++ ms ∷ []
rules_next rs rs' r ms e f = ap rules_of e ∙ rules_more rs r ∙ ap (λ (x : List ℤ). rules_of rs ++ x ∷ []) f
