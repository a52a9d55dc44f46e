-- Small facts about tests.
use Rattle.std.proofs.Common.{◌≡◌, ℕ, Bool, true, false, ◌&&◌, ◌⊎◌, sym, refl, inl, inr, arith}

pub never : true ≡ false → ⊥
never e = let y : ◌≡◌ {A = ℕ} 0 1 = cc in omega arith

pub tell : (b : Bool) → (b ≡ true) ⊎ (b ≡ false)
tell true = inl refl
tell false = inr refl

pub both : (x y : Bool) → x ≡ true → y ≡ true → (x && y) ≡ true
both x y e f = rw (e, f)

pub left_of : (x y : Bool) → (x && y) ≡ true → x ≡ true
left_of true y t = refl
left_of false y t = t

pub right_of : (x y : Bool) → (x && y) ≡ true → y ≡ true
right_of true y t = t
right_of false y t = absurd (never (sym t))
