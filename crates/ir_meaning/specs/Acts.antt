-- What a part of a step answers: whether it is defined. Where it isn't, nothing changes.
use Rattle.std.specs.Prelude.{◌≡◌, Bool, MatchBool, Option, Some, None}

abbrev pub Acts : {S : Type 0} → Bool → Option S → S → S → Type 0
Acts done after old new = MatchBool done (after ≡ Some new) ((after ≡ None) × (new ≡ old))
