-- What is known where there is no flaw.
use Rattle.std.proofs.Common.{◌≡◌, refl, ℕ, Bool, true, false, not, ◌||◌, List, Option, Some, None, arith}
use Rattle.ltt_base.specs.declared.refusal.Code.{Code}
use Rattle.check_names.specs.declared.flaws.Flaw.{Flaw}
use Rattle.check_names.specs.Flaws.{◌then◌, when, worded_when}

-- of joined flaws that are none, the first is none
pub none_first : (a b : Option Flaw) → a then b ≡ None → a ≡ None
none_first None b is = refl
none_first (Some f) None is = is
none_first (Some f) (Some g) is = grind arith

-- and so is the second
pub none_second : (a b : Option Flaw) → a then b ≡ None → b ≡ None
none_second None b is = is
none_second (Some f) None is = refl
none_second (Some f) (Some g) is = grind arith

-- what is no flaw isn't broken
pub unbroken : (broken : Bool) (code : Code) → when broken code ≡ None → broken ≡ false
unbroken false code is = refl
unbroken true code is = grind arith

pub unbroken_word : (broken : Bool) (code : Code) (word : List ℕ) → worded_when broken code word ≡ None → broken ≡ false
unbroken_word false code word is = refl
unbroken_word true code word is = grind arith

pub neither_first : (a b : Bool) → a || b ≡ false → a ≡ false
neither_first a b is = grind arith

pub neither_second : (a b : Bool) → a || b ≡ false → b ≡ false
neither_second a b is = grind arith

pub holds : (a : Bool) → not a ≡ false → a ≡ true
holds a is = grind arith

-- nothing is both
pub clash : {P : Type 0} (a : Bool) → a ≡ true → a ≡ false → P
clash a is other = absurd (grind arith)
