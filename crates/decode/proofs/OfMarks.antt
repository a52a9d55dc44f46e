-- The eight marks of a rule.
use Rattle.std.proofs.Common.{◌≡◌, ℕ, zero, suc, ◌-◌, ◌<◌, ◌≤◌, List, get_or, map, length, take, ℤ, pos, negsuc, ◌-ℤ◌, Ok, sym, refl, ap, ◌∙◌, inl, inr, arith}
use Rattle.std.proofs.lemmas.Bool.{le-leb, lt-ltb, le-ltb, cond-true, cond-false, cases_lt}
use Rattle.std.proofs.lemmas.Int.{ints}
use Rattle.std.proofs.lemmas.List.{same_lists, get_or-map, length-map}
use Rattle.decode.specs.declared.command.Command.TheVariants.{Rule}
use Rattle.decode.proofs.OfBytes.{listed, take_listed}
use Rattle.decode.specs.Format.{mark_of, byte, first_command}
use Rattle.decode.specs.Bytes.{byte_of, bytes_of, placed}

mark_back : (b : ℕ) → b < 256 → byte_of (mark_of b) ≡ b
mark_back b h =
    elim (cases_lt b 128) [
      | inl l ↦ ap byte_of (cond-true _ _ _ (lt-ltb b 128 l))
      | inr l ↦
          let e : (pos b -ℤ pos 256) ≡ negsuc (255 - b) = omega (arith, ints) in
          ap byte_of (cond-false _ _ _ (le-ltb b 128 l) ∙ e) ∙ omega arith
    ]

module _ (bs : List ℕ) (ms : List ℤ) (n : length ms ≡ 8) (e : (k : ℕ) (d : ℤ) → k < 8 → get_or ms k d ≡ mark_of (get_or (listed bs 2 8) k 0)) where
  marks : ms ≡ map mark_of (listed bs 2 8)
  marks = same_lists ms (map mark_of (listed bs 2 8)) n (λ k d h. e k d (omega arith) ∙ sym (get_or-map mark_of (listed bs 2 8) k 0 d (omega arith)))

  pub rule_found : byte bs 0 ≡ 2 → 10 ≤ length bs → (at : ℕ) → placed at (Ok (Rule (byte bs 1) ms)) ≡ first_command at bs
  rule_found b l at = rw (b, le-leb 10 (length bs) l, marks, take_listed bs 2 8 (omega arith))

  pub rule_spelt : ((i : ℕ) → byte bs i < 256) → byte bs 0 ≡ 2 → 10 ≤ length bs → take (length (bytes_of (Rule (byte bs 1) ms))) bs ≡ bytes_of (Rule (byte bs 1) ms)
  rule_spelt s b l =
      let size : length (map byte_of ms) ≡ 8 = simp length-map n in
      let t = take_listed bs 0 10 l in
      let m = back 2 8 in
      cc marks
    where
      back : (k j : ℕ) → map byte_of (map mark_of (listed bs k j)) ≡ listed bs k j
      back k zero = refl
      back k (suc j) =
          let a = mark_back (byte bs k) (s k) in
          let b = back (suc k) j in
          cc
