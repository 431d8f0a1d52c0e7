-- The row that stands beside an identifier.
use Rattle.std.proofs.Common.{◌≡◌, ◌∙◌, ℕ, ◌+◌, ◌<◌, ◌≤◌, Bool, true, false, ◌||◌, List, [], ◌∷◌, length, map, drop, get_or, refl, sym, ap}
use Rattle.std.specs.Prelude.{if◌then◌else◌}
use Rattle.std.specs.List.{list_any}
use Rattle.std.proofs.lemmas.List.{drop_all, at_drop_more}
use Rattle.ir_values.specs.declared.modules.TypeId.{TypeId}
use Rattle.type_metadata.specs.declared.objects.Carrier.{Carrier}
use Rattle.type_metadata.specs.Same.{same_id}
use Rattle.type_metadata.specs.Types.{row_at}
use Rattle.type_metadata.proofs.SameLaws.{id_one}

pub row_none : (id : TypeId) (ids : List TypeId) → row_at id ids [] ≡ []
row_none id [] = refl
row_none id (first ∷ ids) = refl

pub row_past : (id : TypeId) (ids : List TypeId) (rows : List (List Carrier)) (at : ℕ) → length rows ≤ at →
    row_at id (drop at ids) (drop at rows) ≡ []
row_past id ids rows at past = ap (row_at id (drop at ids)) (drop_all at rows past) ∙ row_none id (drop at ids)

-- the first of both
pub row_here : (id : TypeId) (ids : List TypeId) (rows : List (List Carrier)) (at : ℕ) (first : TypeId) (row : List Carrier) →
    at < length ids → at < length rows →
    row_at id (drop at ids) (drop at rows)
    ≡ (if same_id id (get_or ids at first) then get_or rows at row else row_at id (drop (at + 1) ids) (drop (at + 1) rows))
row_here id ids rows at first row inside within =
    at_drop_more (λ left. row_at id left (drop at rows)) ids at first inside
    ∙ at_drop_more (row_at id (get_or ids at first ∷ drop (at + 1) ids)) rows at row within

-- the identifier is listed: its row
row_test : (f : TypeId → List Carrier) (id first : TypeId) (ids : List TypeId) (b : Bool) → same_id id first ≡ b →
    (b || list_any (same_id id) ids) ≡ true → (list_any (same_id id) ids ≡ true → row_at id ids (map f ids) ≡ f id) →
    (if b then f first else row_at id ids (map f ids)) ≡ f id
row_test f id first ids true here any rest = ap f (sym (id_one id first here))
row_test f id first ids false here any rest = rest any

pub row_listed : (f : TypeId → List Carrier) (id : TypeId) (ids : List TypeId) → list_any (same_id id) ids ≡ true →
    row_at id ids (map f ids) ≡ f id
row_listed f id [] any = cc
row_listed f id (first ∷ ids) any = row_test f id first ids (same_id id first) refl any (row_listed f id ids)

-- it isn't listed: none
row_miss : (f : TypeId → List Carrier) (id first : TypeId) (ids : List TypeId) (b : Bool) →
    (b || list_any (same_id id) ids) ≡ false → (list_any (same_id id) ids ≡ false → row_at id ids (map f ids) ≡ []) →
    (if b then f first else row_at id ids (map f ids)) ≡ []
row_miss f id first ids true any rest = cc
row_miss f id first ids false any rest = rest any

pub row_unlisted : (f : TypeId → List Carrier) (id : TypeId) (ids : List TypeId) → list_any (same_id id) ids ≡ false →
    row_at id ids (map f ids) ≡ []
row_unlisted f id [] any = refl
row_unlisted f id (first ∷ ids) any = row_miss f id first ids (same_id id first) any (row_unlisted f id ids)

skip_test : (id : TypeId) (b : Bool) (row rest : List Carrier) → b ≡ false → rest ≡ (if b then row else rest)
skip_test id true row rest is = cc
skip_test id false row rest is = refl

-- the first of both, of another identifier
pub row_skip : (id : TypeId) (ids : List TypeId) (rows : List (List Carrier)) (at : ℕ) (first : TypeId) →
    at < length ids → at < length rows → first ≡ get_or ids at first → same_id id first ≡ false →
    row_at id (drop (at + 1) ids) (drop (at + 1) rows) ≡ row_at id (drop at ids) (drop at rows)
row_skip id ids rows at first inside within here other =
    skip_test id (same_id id (get_or ids at first)) (get_or rows at []) _ (ap (same_id id) (sym here) ∙ other)
    ∙ sym (row_here id ids rows at first [] inside within)
