-- A reading of units, and where its variables end.
use Rattle.std.proofs.Common.{◌≡◌, ℕ, ◌≤◌, ◌+◌, ◌-◌, List, [], ◌∷◌, ◌++◌, length, map, take, drop, true, false, not, cond, Option, Some, None, IfSome, sym, ap, ◌∙◌, subst, refl, arith}
use Rattle.std.specs.List.{position_or_len, All, Contains}
use Rattle.std.proofs.lemmas.List.{map-append, length-map, length-take-le, length-drop, take-append-drop, take_all}
use Rattle.std.proofs.Math.Seq.{take-append-add, drop-append-add}
use Rattle.ltt_base.specs.declared.refusal.Place.{Place}
use Rattle.ltt_base.specs.declared.refusal.Placed.{Placed}
use Rattle.ir_values.specs.declared.units.Unit as unit
use Rattle.ir_values.specs.declared.units.Form.{Form}
use Rattle.ir_values.specs.declared.units.Form.TheVariants.{DefineForm}
use Rattle.ir_values.specs.declared.units.Head.{Head}
use Rattle.thin_files.specs.declared.thin.Variable.{Variable}
use Rattle.thin_files.specs.declared.thin.Node.{Node}
use Rattle.thin_files.proofs.Units.{node_unit-same}
use Rattle.thin_files.proofs.Tails.{tail_nodes}
use Rattle.thin_files.specs.declared.thin.Second.{Second}
use Rattle.thin_files.specs.declared.thin.Thin.{Thin}
use Rattle.thin_files.specs.Thin.{variable_form, node_form, node_of, StandsAt}
use Rattle.thin_files.specs.Shape.{forms, is_head, function_units, tail_forms, IsHeadFirst, IsReading, IsReadingAt}

abbrev Units : Type 0
Units = List (Placed unit.Unit)

abbrev places : Units → List Place
places units = map (λ u. u.place) units

pub append_split : {A : Type 0} (xs others ys rest : List A) → length xs ≡ length others → xs ++ ys ≡ others ++ rest →
    (xs ≡ others) × (ys ≡ rest)
append_split [] [] ys rest long same = (refl, same)
append_split [] (other ∷ others) ys rest long same = absurd (omega (arith, long))
append_split (x ∷ xs) [] ys rest long same = absurd (omega (arith, long))
append_split (x ∷ xs) (other ∷ others) ys rest long same =
    let parts = append_split xs others ys rest (omega (arith, long)) (cc) in
    let first : x ≡ other = cc in
    (cc (first, parts.0), parts.1)

-- the head stands behind the variables
pub heads : (units : Units) (variables : List Variable) (head : Head) (rest : List Form) →
    forms units ≡ map variable_form variables ++ DefineForm head ∷ rest →
    position_or_len (λ u. is_head u.value.form) units ≡ length variables
heads [] [] head rest same = cc
heads [] (v ∷ vs) head rest same = cc
heads (u ∷ us) [] head rest same =
    let form : u.value.form ≡ DefineForm head = cc in
    let here : is_head u.value.form ≡ true = ap is_head form in
    ap (λ b. cond (not b) (1 + position_or_len (λ w. is_head w.value.form) us) 0) here
heads (u ∷ us) (v ∷ vs) head rest same =
    let form : u.value.form ≡ variable_form v = cc in
    let here : is_head u.value.form ≡ false = ap is_head form in
    let more = heads us vs head rest cc in
    ap (λ b. cond (not b) (1 + position_or_len (λ w. is_head w.value.form) us) 0) here ∙ omega (arith, more)

-- what stands behind the variables and four more units
behind_front : (front rest : Units) (n : ℕ) → length front ≡ n → drop (n + 4) (front ++ rest) ≡ drop 4 rest
behind_front front rest n long = ap (λ k. drop (k + 4) (front ++ rest)) (sym long) ∙ drop-append-add front rest 4

-- the second function's head stands four units behind the variables
stands_cut : (front rest : Units) (variables : List Variable) (second : Option Second) → length front ≡ length variables →
    IfSome second (λ s. StandsAt (front ++ rest) (length variables + 4) s.place) → IsHeadFirst (drop 4 rest) second
stands_cut front rest variables None long stands = stands
stands_cut front rest variables (Some s) long stands =
    subst (λ (us : Units). places (take 1 us) ≡ s.place ∷ []) (behind_front front rest (length variables) long) stands

stands_whole : (front rest : Units) (variables : List Variable) (second : Option Second) → length front ≡ length variables →
    IsHeadFirst (drop 4 rest) second → IfSome second (λ s. StandsAt (front ++ rest) (length variables + 4) s.place)
stands_whole front rest variables None long stands = stands
stands_whole front rest variables (Some s) long stands =
    subst (λ (us : Units). places (take 1 us) ≡ s.place ∷ []) (sym (behind_front front rest (length variables) long)) stands

pub reading_at : (front rest : Units) (t : Thin) → length front ≡ length t.variables → IsReading (front ++ rest) t → IsReadingAt front rest t
reading_at front rest t long reading =
    let said = append_split (forms front) (map variable_form t.variables) (forms rest)
    (function_units t.name t.pointer t.register t.tested (tail_forms t.second (map node_form t.nodes)))
    (length-map front _ ∙ long ∙ sym (length-map t.variables _))
    (sym (map-append _ front rest) ∙ reading.said) in
    let placed = append_split (places front) (map (λ v. v.place) t.variables) (places (take 1 rest)) (t.place ∷ [])
    (length-map front _ ∙ long ∙ sym (length-map t.variables _))
    (sym (map-append _ front (take 1 rest)) ∙ ap places (sym (take-append-add front rest 1)) ∙
    ap (λ n. places (take (n + 1) (front ++ rest))) long ∙ reading.places) in
    record {
      variables = record { said = said.0; places = placed.0; named = reading.named };
      function = said.1;
      place = placed.1;
      second = stands_cut front rest t.variables t.second long reading.second;
    }

pub at_reading : (front rest : Units) (t : Thin) → IsReadingAt front rest t → IsReading (front ++ rest) t
at_reading front rest t at =
    let long : length front ≡ length t.variables = sym (length-map front _) ∙ ap length at.variables.said ∙ length-map t.variables _ in
    record {
      said = map-append (λ u. u.value.form) front rest ∙ cc (at.variables.said, at.function);
      places = ap (λ n. places (take (n + 1) (front ++ rest))) (sym long) ∙ ap places (take-append-add front rest 1)
          ∙ map-append _ front (take 1 rest) ∙ cc (at.variables.places, at.place);
      named = at.variables.named;
      second = stands_whole front rest t.variables t.second long at.second;
    }

-- nodes are one where their units are

abbrev node : List ℕ → ℕ → List ℕ → Node
node number offset id = record { number = number; offset = offset; id = id }

pub node_same : (n other : Node) → node_form n ≡ node_form other → n ≡ other
node_same n other same =
    let parts = node_unit-same n.number other.number n.offset other.offset n.id other.id same in
    ap (λ number. node number n.offset n.id) parts.0 ∙ ap (λ offset. node other.number offset n.id) parts.1
    ∙ ap (λ id. node other.number other.offset id) parts.2

pub nodes_same : (nodes others : List Node) → map node_form nodes ≡ map node_form others → nodes ≡ others
nodes_same [] [] same = refl
nodes_same [] (other ∷ others) same = cc
nodes_same (n ∷ nodes) [] same = cc
nodes_same (n ∷ nodes) (other ∷ others) same = cc (node_same n other cc, nodes_same nodes others cc)

pub function_rest : (name other_name pointer other_pointer register other_register tested other_tested : List ℕ) (rest others : List Form) →
    function_units name pointer register tested rest ≡ function_units other_name other_pointer other_register other_tested others →
    rest ≡ others
function_rest name other_name pointer other_pointer register other_register tested other_tested rest others same = cc

-- units whose variables can't be read
pub none_at : (front rest after : Units) (second : Option Second) (nodes : List Node) (name pointer register tested : List ℕ) →
    forms rest ≡ function_units name pointer register tested (forms after) → forms after ≡ tail_forms second (map node_form nodes) →
    ((variables : List Variable) → forms front ≡ map variable_form variables → All (λ v. Contains nodes (node_of v)) variables → ⊥) →
    (t : Thin) → IsReadingAt front rest t → ⊥
none_at front rest after second nodes name pointer register tested function said none t at =
    let shown : tail_forms t.second (map node_form t.nodes) ≡ tail_forms second (map node_form nodes) =
    function_rest t.name name t.pointer pointer t.register register t.tested tested (tail_forms t.second (map node_form t.nodes)) (forms after)
    (sym at.function ∙ function) ∙ said in
    let same : t.nodes ≡ nodes = nodes_same _ _ (tail_nodes t.second second _ _ shown) in
    none t.variables at.variables.said
    (subst (λ ns. All (λ v. Contains ns (node_of v)) t.variables) same at.variables.named)

-- units that are cut where the first head stands

rest_of : (units : Units) (n : ℕ) → take (length units - n) (drop n units) ≡ drop n units
rest_of units n = take_all (length units - n) (drop n units) (rw length-drop (omega arith))

pub whole : (units : Units) (n : ℕ) (t : Thin) → IsReadingAt (take n units) (take (length units - n) (drop n units)) t → IsReading units t
whole units n t at =
    let cut : IsReadingAt (take n units) (drop n units) t = subst (λ rest. IsReadingAt (take n units) rest t) (rest_of units n) at in
    subst (λ us. IsReading us t) (take-append-drop n units) (at_reading _ _ t cut)

pub none_whole : (units : Units) (n : ℕ) → n ≡ position_or_len (λ u. is_head u.value.form) units → n ≤ length units →
    ((t : Thin) → IsReadingAt (take n units) (take (length units - n) (drop n units)) t → ⊥) → (t : Thin) → IsReading units t → ⊥
none_whole units n place within none t reading =
    let count : n ≡ length t.variables = place ∙ heads units t.variables _ _ reading.said in
    let long : length (take n units) ≡ length t.variables = length-take-le n units within ∙ count in
    let cut : IsReadingAt (take n units) (drop n units) t =
    reading_at _ _ t long (subst (λ us. IsReading us t) (sym (take-append-drop n units)) reading) in
    none t (subst (λ rest. IsReadingAt (take n units) rest t) (sym (rest_of units n)) cut)
