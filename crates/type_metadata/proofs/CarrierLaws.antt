-- The collected carriers are those that the kept definitions say.
use Rattle.std.proofs.Common.{◌≡◌, ◌∙◌, ◌↔◌, ◌⊎◌, inl, inr, zero, suc, Bool, true, false, ◌||◌, ◌&&◌, IsTrue, List, [], ◌∷◌, map, refl, sym, ap, subst, arith, ◌≢◌}
use Rattle.std.specs.Prelude.{filter, if◌then◌else◌}
use Rattle.std.specs.List.{list_any, Contains, AllPairs}
use Rattle.std.proofs.lemmas.List.Elements.{Contains-append_left, Contains-append_right, Contains-append_cases}
use Rattle.ir_values.specs.declared.modules.TypeId.{TypeId}
use Rattle.ir_values.specs.declared.modules.Linkage.{Linkage}
use Rattle.ir_values.specs.declared.modules.Linkage.TheVariants.{Private, Strong, Weak, External}
use Rattle.ir_values.specs.declared.modules.Module.{Module}
use Rattle.type_metadata.specs.declared.objects.Object.{Object}
use Rattle.type_metadata.specs.declared.objects.Carrier.{Carrier}
use Rattle.type_metadata.specs.declared.objects.Denoted as answer
use Rattle.type_metadata.specs.declared.objects.Denoted.TheVariants as denotes
use Rattle.type_metadata.specs.declared.items.Item.{Item}
use Rattle.type_metadata.specs.declared.marks.Mark.{Mark}
use Rattle.type_metadata.specs.declared.types.Types.{Types}
use Rattle.type_metadata.specs.Same.{same_id, same_carrier}
use Rattle.type_metadata.specs.Items.{items}
use Rattle.type_metadata.specs.Denoted.{denoted, is_same_linkage, IsKept}
use Rattle.type_metadata.specs.Marks.{is_item, is_kept, mark_of, marks_of, marks_from, marks, distinct, carriers_of, ids_of, carriers, identifiers}
use Rattle.type_metadata.specs.Types.{row_at, has_carrier, IsCarrier, AreTypes}
use Rattle.type_metadata.proofs.SameLaws.{and_both, alike, id_one, id_same, object_one, object_same, carrier_one, carrier_same}
use Rattle.type_metadata.proofs.DistinctLaws.{apart_each, any_distinct, any_contains, contains_any}
use Rattle.type_metadata.proofs.RowLaws.{row_listed, row_unlisted}

-- Which definitions are kept, as a test and as a fact.

private_test : (linkage : Linkage) → is_same_linkage linkage Private ≡ true → linkage ≡ Private
private_test Private is = refl
private_test Strong is = cc
private_test Weak is = cc
private_test External is = cc

private_other : (linkage : Linkage) → is_same_linkage linkage Private ≡ false → linkage ≡ Private → true ≡ false
private_other Private is same = is
private_other Strong is same = cc
private_other Weak is same = cc
private_other External is same = cc

item_is : (object : Object) (found : answer.Denoted) → is_item object found ≡ true → found ≡ denotes.Item object
item_is object (denotes.Item other) is = ap denotes.Item (object_one other object is)
item_is object denotes.External is = cc

is_item_of : (object : Object) (found : answer.Denoted) → found ≡ denotes.Item object → is_item object found ≡ true
is_item_of object found is = subst (λ f. is_item object f ≡ true) (sym is) (object_same object object refl)

kept_cases : (all : List Item) (item : Item) (b : Bool) → is_same_linkage item.linkage Private ≡ b →
    (b || is_item item.object (denoted all item.object.file item.name)) ≡ true → IsKept all item
kept_cases all item true here kept = inl (private_test item.linkage here)
kept_cases all item false here kept = inr (item_is item.object _ kept)

pub kept_fact : (all : List Item) (item : Item) → is_kept all item ≡ true → IsKept all item
kept_fact all item kept = kept_cases all item (is_same_linkage item.linkage Private) refl kept

kept_private : (linkage : Linkage) (b : Bool) → linkage ≡ Private → (is_same_linkage linkage Private || b) ≡ true
kept_private linkage b is = subst (λ l. (is_same_linkage l Private || b) ≡ true) (sym is) refl

or_second : (a b : Bool) → b ≡ true → (a || b) ≡ true
or_second true b is = refl
or_second false b is = is

pub kept_test : (all : List Item) (item : Item) → IsKept all item → is_kept all item ≡ true
kept_test all item (inl private) = kept_private item.linkage _ private
kept_test all item (inr found) = or_second _ _ (is_item_of item.object _ found)

-- Which marks there are.

pub contains_map : {X Y : Type 0} (f : X → Y) (xs : List X) (y : Y) → Contains (map f xs) y → (x : X) × Contains xs x × (f x ≡ y)
contains_map f [] y (k, inside, at) = absurd (omega (arith, inside))
contains_map f (x ∷ xs) y (zero, inside, at) = (x, (0, omega arith, refl), at)
contains_map f (x ∷ xs) y (suc k, inside, at) =
    let rest = contains_map f xs y (k, omega (arith, inside), at) in
    (rest.0, (suc rest.1.0, omega (arith, rest.1.1), rest.1.2), rest.2)

pub map_contains : {X Y : Type 0} (f : X → Y) (xs : List X) (x : X) → Contains xs x → Contains (map f xs) (f x)
map_contains f [] x (k, inside, at) = absurd (omega (arith, inside))
map_contains f (y ∷ xs) x (zero, inside, at) = (0, omega arith, ap f at)
map_contains f (y ∷ xs) x (suc k, inside, at) =
    let rest = map_contains f xs x (k, omega (arith, inside), at) in (suc rest.0, omega (arith, rest.1), rest.2)

none_in : {X : Type 0} (x : X) {P : Type 0} → Contains [] x → P
none_in x (k, inside, at) = absurd (omega (arith, inside))

-- a mark of an item
pub record Marked (all items : List Item) (mark : Mark) : Type 0 where
  pub item : Item
  pub listed : Contains items item
  pub kept : is_kept all item ≡ true
  pub among : Contains (map (mark_of item.object) item.entries) mark

further : (all : List Item) (item : Item) (items : List Item) (mark : Mark) → Marked all items mark → Marked all (item ∷ items) mark
further all item items mark m = record {
  item = m.item;
  listed = (suc m.listed.0, omega (arith, m.listed.1), m.listed.2);
  kept = m.kept;
  among = m.among;
}

own_mark : (all : List Item) (item : Item) (items : List Item) (mark : Mark) (b : Bool) → is_kept all item ≡ b →
    Contains (if b then map (mark_of item.object) item.entries else []) mark → Marked all (item ∷ items) mark
own_mark all item items mark true kept at = record { item = item; listed = (0, omega arith, refl); kept = kept; among = at }
own_mark all item items mark false kept at = none_in mark at

marked_cases : (all : List Item) (item : Item) (items : List Item) (mark : Mark) →
    (Contains (marks_from all items) mark → Marked all items mark) →
    Contains (marks_of all item) mark ⊎ Contains (marks_from all items) mark → Marked all (item ∷ items) mark
marked_cases all item items mark rest (inl own) = own_mark all item items mark (is_kept all item) refl own
marked_cases all item items mark rest (inr later) = further all item items mark (rest later)

pub marked : (all items : List Item) (mark : Mark) → Contains (marks_from all items) mark → Marked all items mark
marked all [] mark at = none_in mark at
marked all (item ∷ items) mark at = marked_cases all item items mark (marked all items mark)
    (Contains-append_cases (marks_of all item) (marks_from all items) mark at)

own_marks : (all : List Item) (item : Item) (mark : Mark) → is_kept all item ≡ true →
    Contains (map (mark_of item.object) item.entries) mark → Contains (marks_of all item) mark
own_marks all item mark kept at = subst (λ b. Contains (if b then map (mark_of item.object) item.entries else []) mark) (sym kept) at

pub has_mark : (all items : List Item) (item : Item) (mark : Mark) → Contains items item → is_kept all item ≡ true →
    Contains (map (mark_of item.object) item.entries) mark → Contains (marks_from all items) mark
has_mark all [] item mark listed kept at = none_in item listed
has_mark all (first ∷ items) item mark (zero, inside, here) kept at =
    Contains-append_left (marks_of all first) (marks_from all items) mark
    (subst (λ i. Contains (marks_of all i) mark) (sym here) (own_marks all item mark kept at))
has_mark all (first ∷ items) item mark (suc k, inside, here) kept at =
    Contains-append_right (marks_of all first) (marks_from all items) mark
    (has_mark all items item mark (k, omega (arith, inside), here) kept at)

abbrev pub mark_at : TypeId → Carrier → Mark
mark_at id carrier = record { id = id; carrier = carrier }

pub mark_says : (ms : List Module) (id : TypeId) (carrier : Carrier) → Contains (marks ms) (mark_at id carrier) → IsCarrier ms id carrier
mark_says ms id carrier at =
    let m : Marked (items ms) (items ms) (mark_at id carrier) = marked (items ms) (items ms) (mark_at id carrier) at in
    let e = contains_map (mark_of m.item.object) m.item.entries (mark_at id carrier) m.among in
    record {
      item = m.item;
      listed = m.listed;
      object = ap (λ (mark : Mark). mark.carrier.object) e.2;
      kept = kept_fact (items ms) m.item m.kept;
      entry = subst (Contains m.item.entries)
          (λ i. record { offset = (e.2 i).carrier.offset; id = (e.2 i).id }) e.1;
    }

pub says_mark : (ms : List Module) (id : TypeId) (carrier : Carrier) → IsCarrier ms id carrier → Contains (marks ms) (mark_at id carrier)
says_mark ms id carrier is =
    has_mark (items ms) (items ms) is.item (mark_at id carrier) is.listed (kept_test (items ms) is.item is.kept)
    (subst (λ object. Contains (map (mark_of is.item.object) is.item.entries) (mark_at id (record { object = object; offset = carrier.offset })))
    is.object
    (map_contains (mark_of is.item.object) is.item.entries (record { offset = carrier.offset; id = id }) is.entry))

-- What the rows say of them.

pub same_mark : Mark → Mark → Bool
same_mark mark other = same_id other.id mark.id && same_carrier mark.carrier other.carrier

mark_parts : (mark other : Mark) (a b : Bool) → same_id other.id mark.id ≡ a → same_carrier mark.carrier other.carrier ≡ b →
    (a && b) ≡ true → mark ≡ other
mark_parts mark other true true ids carriers both =
    λ i. record { id = sym (id_one other.id mark.id ids) i; carrier = carrier_one mark.carrier other.carrier carriers i }
mark_parts mark other true false ids carriers both = cc
mark_parts mark other false b ids carriers both = cc

mark_one : (mark other : Mark) → same_mark mark other ≡ true → mark ≡ other
unfolding same_mark
mark_one mark other is = mark_parts mark other _ _ refl refl is

mark_itself : (mark other : Mark) → mark ≡ other → same_mark mark other ≡ true
unfolding same_mark
mark_itself mark other is = and_both _ _ (id_same other.id mark.id (ap (λ (m : Mark). m.id) (sym is)))
    (carrier_same mark.carrier other.carrier (ap (λ (m : Mark). m.carrier) is))

filter_step : (p : Carrier → Bool) (id : TypeId) (mark : Mark) (marks : List Mark) (b : Bool) →
    list_any p (map (λ (m : Mark). m.carrier) (filter (λ (m : Mark). same_id m.id id) marks))
    ≡ list_any (λ (m : Mark). same_id m.id id && p m.carrier) marks →
    list_any p (map (λ (m : Mark). m.carrier) (if b then mark ∷ filter (λ (m : Mark). same_id m.id id) marks
    else filter (λ (m : Mark). same_id m.id id) marks))
    ≡ ((b && p mark.carrier) || list_any (λ (m : Mark). same_id m.id id && p m.carrier) marks)
filter_step p id mark marks true rest = ap (λ b. p mark.carrier || b) rest
filter_step p id mark marks false rest = rest

any_filter : (p : Carrier → Bool) (id : TypeId) (marks : List Mark) →
    list_any p (map (λ (m : Mark). m.carrier) (filter (λ (m : Mark). same_id m.id id) marks))
    ≡ list_any (λ (m : Mark). same_id m.id id && p m.carrier) marks
any_filter p id [] = refl
any_filter p id (mark ∷ marks) = filter_step p id mark marks (same_id mark.id id) (any_filter p id marks)

any_row : (id : TypeId) (carrier : Carrier) (marks : List Mark) →
    list_any (same_carrier carrier) (carriers_of id marks) ≡ list_any (same_mark (mark_at id carrier)) marks
unfolding same_mark
any_row id carrier marks = any_distinct same_carrier carrier_one carrier_same (same_carrier carrier) _
    ∙ any_filter (same_carrier carrier) id marks

-- The row of an identifier that is listed, or isn't.

id_turned : (one two : TypeId) → same_id one two ≡ same_id two one
id_turned one two = alike _ _ (λ is. id_same two one (sym (id_one one two is))) (λ is. id_same one two (sym (id_one two one is)))

none_step : (id : TypeId) (mark : Mark) (marks : List Mark) (b : Bool) → (b || list_any (same_id id) (map (λ (m : Mark). m.id) marks)) ≡ false →
    (list_any (same_id id) (map (λ (m : Mark). m.id) marks) ≡ false → filter (λ (m : Mark). same_id m.id id) marks ≡ []) →
    (if b then mark ∷ filter (λ (m : Mark). same_id m.id id) marks else filter (λ (m : Mark). same_id m.id id) marks) ≡ []
none_step id mark marks true any rest = cc
none_step id mark marks false any rest = rest any

none_left : (id : TypeId) (marks : List Mark) → list_any (same_id id) (map (λ (m : Mark). m.id) marks) ≡ false →
    filter (λ (m : Mark). same_id m.id id) marks ≡ []
none_left id [] any = refl
none_left id (mark ∷ marks) any = none_step id mark marks (same_id mark.id id)
    (subst (λ b. (b || list_any (same_id id) (map (λ (m : Mark). m.id) marks)) ≡ false) (id_turned id mark.id) any) (none_left id marks)

row_cases : (id : TypeId) (marks : List Mark) (b : Bool) → list_any (same_id id) (ids_of marks) ≡ b →
    row_at id (ids_of marks) (map (λ i. carriers_of i marks) (ids_of marks)) ≡ carriers_of id marks
row_cases id marks true any = row_listed (λ i. carriers_of i marks) id (ids_of marks) any
row_cases id marks false any = row_unlisted (λ i. carriers_of i marks) id (ids_of marks) any
    ∙ ap (λ (left : List Mark). distinct same_carrier (map (λ (m : Mark). m.carrier) left))
    (sym (none_left id marks (sym (any_distinct same_id id_one id_same (same_id id) (map (λ (m : Mark). m.id) marks)) ∙ any)))

pub row_of_types : (ms : List Module) (types : Types) (id : TypeId) → AreTypes ms types →
    row_at id types.ids types.carriers ≡ carriers ms id
row_of_types ms types id are =
    subst (λ ids. row_at id ids types.carriers ≡ carriers ms id) (sym are.ids)
    (subst (λ rows. row_at id (identifiers ms) rows ≡ carriers ms id) (sym are.carriers) (row_cases id (marks ms) _ refl))

pub tells : (ms : List Module) (types : Types) (id : TypeId) (carrier : Carrier) → AreTypes ms types →
    has_carrier types id carrier ≡ list_any (same_mark (mark_at id carrier)) (marks ms)
tells ms types id carrier are = ap (list_any (same_carrier carrier)) (row_of_types ms types id are) ∙ any_row id carrier (marks ms)

pub tells_carrier : (ms : List Module) (types : Types) (id : TypeId) (carrier : Carrier) → AreTypes ms types →
    IsTrue (has_carrier types id carrier) ↔ IsCarrier ms id carrier
tells_carrier ms types id carrier are = (
  λ has. mark_says ms id carrier (contains_any same_mark mark_one mark_itself (marks ms) (mark_at id carrier)
      (sym (tells ms types id carrier are) ∙ has)),
  λ is. tells ms types id carrier are
      ∙ any_contains same_mark mark_one mark_itself (marks ms) (mark_at id carrier) (says_mark ms id carrier is),
)

-- The laws of the lists.

no_pairs : {X : Type 0} (R : X → X → Type 0) → AllPairs R []
no_pairs R i j d below inside = absurd (omega (arith, inside))

contains_mark : (ms : List Module) (id : TypeId) (carrier : Carrier) →
    list_any (same_mark (mark_at id carrier)) (marks ms) ≡ true → IsCarrier ms id carrier
contains_mark ms id carrier any = mark_says ms id carrier (contains_any same_mark mark_one mark_itself (marks ms) (mark_at id carrier) any)

mark_contained : (ms : List Module) (id : TypeId) (carrier : Carrier) → IsCarrier ms id carrier →
    list_any (same_mark (mark_at id carrier)) (marks ms) ≡ true
mark_contained ms id carrier is =
    any_contains same_mark mark_one mark_itself (marks ms) (mark_at id carrier) (says_mark ms id carrier is)

pub carriers_law : (ms : List Module) (id : TypeId) (carrier : Carrier) → Contains (carriers ms id) carrier ↔ IsCarrier ms id carrier
carriers_law ms id carrier = (
  λ at. contains_mark ms id carrier
      (sym (any_row id carrier (marks ms)) ∙ any_contains same_carrier carrier_one carrier_same (carriers ms id) carrier at),
  λ is. contains_any same_carrier carrier_one carrier_same (carriers ms id) carrier
      (any_row id carrier (marks ms) ∙ mark_contained ms id carrier is),
)

pub carriers_once : (ms : List Module) (id : TypeId) → AllPairs (λ one other. one ≢ other) (carriers ms id)
carriers_once ms id = apart_each same_carrier carrier_one carrier_same []
    (map (λ (m : Mark). m.carrier) (filter (λ (m : Mark). same_id m.id id) (marks ms))) (no_pairs (λ one other. one ≢ other))

id_carried : (ms : List Module) (id : TypeId) → Contains (identifiers ms) id → (carrier : Carrier) × IsCarrier ms id carrier
id_carried ms id at =
    let listed : list_any (same_id id) (map (λ (m : Mark). m.id) (marks ms)) ≡ true =
    sym (any_distinct same_id id_one id_same (same_id id) (map (λ (m : Mark). m.id) (marks ms)))
    ∙ any_contains same_id id_one id_same (identifiers ms) id at in
    let found = contains_map (λ (m : Mark). m.id) (marks ms) id
    (contains_any same_id id_one id_same (map (λ (m : Mark). m.id) (marks ms)) id listed) in
    (found.0.carrier, subst (λ i. IsCarrier ms i found.0.carrier) found.2 (mark_says ms found.0.id found.0.carrier found.1))

carried_id : (ms : List Module) (id : TypeId) → (carrier : Carrier) × IsCarrier ms id carrier → Contains (identifiers ms) id
carried_id ms id (carrier, is) =
    contains_any same_id id_one id_same (identifiers ms) id
    (any_distinct same_id id_one id_same (same_id id) (map (λ (m : Mark). m.id) (marks ms))
    ∙ any_contains same_id id_one id_same (map (λ (m : Mark). m.id) (marks ms)) id
    (map_contains (λ (m : Mark). m.id) (marks ms) (mark_at id carrier) (says_mark ms id carrier is)))

pub identifiers_law : (ms : List Module) (id : TypeId) → Contains (identifiers ms) id ↔ ((carrier : Carrier) × IsCarrier ms id carrier)
identifiers_law ms id = (id_carried ms id, carried_id ms id)

pub identifiers_once : (ms : List Module) → AllPairs (λ one other. one ≢ other) (identifiers ms)
identifiers_once ms = apart_each same_id id_one id_same [] (map (λ (m : Mark). m.id) (marks ms)) (no_pairs (λ one other. one ≢ other))
