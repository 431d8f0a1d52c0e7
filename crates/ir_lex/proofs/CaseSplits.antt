-- Case splits that keep what is known of the test.
use Rattle.std.proofs.Common.{◌≡◌, Bool, true, false, refl}

pub test : {P : Type 0} (b : Bool) → (b ≡ true → P) → (b ≡ false → P) → P
test true then other = then refl
test false then other = other refl
