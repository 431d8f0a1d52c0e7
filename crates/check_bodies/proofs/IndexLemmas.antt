-- One more name in a map, or one less.
use Rattle.std.proofs.Common.{◌≡◌, ℕ, List, [], Bool, true, false, cond, Option, Some, None, Result, Ok, Err, OnOk, refl, ap, ◌∙◌}
use Rattle.std.specs.Str.{bytes_eq}
use Rattle.std.specs.Ordering.{nat_cmp, is_eq}
use Rattle.std.specs.Cmp.Lexicographic.{slice_cmp}
use Rattle.std.specs.Prelude.{unwrap_or}
use Rattle.std.specs.BTreeMap.{BTreeMap, Updates, UpdatesBy}
use Rattle.std.proofs.lemmas.Map.Text.{is_eq-slice_cmp}
use Rattle.check_bodies.specs.declared.blocks.BlockMark.{BlockMark}
use Rattle.check_bodies.specs.Index.{find}
use Rattle.check_bodies.specs.Sources.{found}

pub on_ok : {A E P : Type 0} (r : Result A E) → P → OnOk r P
on_ok (Ok a) p = p
on_ok (Err e) p = tt

pub on_err : {A E : Type 0} (P : Type 0) (r : Result A E) (e : E) → r ≡ Err e → OnOk r P
on_err P (Ok a) e is = cc
on_err P (Err f) e is = tt

pub found_put : {X : Type 0} (name key q : List ℕ) (old new : BTreeMap (List ℕ) X) (w : Option X) → key ≡ name →
    Updates (slice_cmp nat_cmp) old new key w → find q new ≡ cond (bytes_eq name q) w (find q old)
found_put name key q old new w same updates =
    updates.0 q ∙ ap (λ b. cond b w (find q old)) (is_eq-slice_cmp key q ∙ ap (λ k. bytes_eq k q) same)

choice : {X : Type 0} (b : Bool) (x y : X) (o : Option X) → unwrap_or (cond b (Some x) o) y ≡ cond b x (unwrap_or o y)
choice true x y o = refl
choice false x y o = refl

pub sources_put : (to q : List ℕ) (old new : BTreeMap (List ℕ) (List BlockMark)) (marks : List BlockMark) →
    Updates (slice_cmp nat_cmp) old new to (Some marks) → found q new ≡ cond (bytes_eq to q) marks (found q old)
sources_put to q old new marks updates =
    ap (λ o. unwrap_or o []) (found_put to to q old new (Some marks) refl updates) ∙ choice (bytes_eq to q) marks [] (find q old)

pub sources_removed : (to q : List ℕ) (old new : BTreeMap (List ℕ) (List BlockMark)) →
    UpdatesBy (slice_cmp nat_cmp) (slice_cmp nat_cmp to) old new None → bytes_eq to q ≡ false → found q new ≡ found q old
sources_removed to q old new updates apart =
    ap (λ o. unwrap_or o []) (updates.0 q ∙ ap (λ b. cond b None (find q old)) (is_eq-slice_cmp to q ∙ apart))
