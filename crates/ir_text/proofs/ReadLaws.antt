-- From one unit to the units of a list of tokens: what the reader finds, and that it is the only reading.
use Rattle.std.specs.Prelude.{Result, Ok, Err, is_err, OnOk}
use Rattle.std.specs.Result.{IsErrAnd}
use Rattle.std.proofs.Common.{◌≡◌, false, ◌<◌, ◌≤◌, ◌⊎◌, inl, inr, List, [], ◌∷◌, ◌++◌, length, refl, sym, ◌∙◌, ap, subst, arith, length-append}
use Rattle.ltt_base.specs.declared.refusal.Place.{Place}
use Rattle.ltt_base.specs.declared.refusal.Placed.{Placed}
use Rattle.ltt_base.specs.declared.refusal.Code.TheVariants.{E02, E12}
use Rattle.ltt_base.specs.declared.refusal.Refusal.{Refusal}
use Rattle.ltt_base.specs.declared.refusal.Fault.{Fault}
use Rattle.ltt_base.specs.declared.refusal.Fault.TheVariants.{Refused, Memory}
use Rattle.ir_values.specs.declared.units.Unit.{Unit as TheUnit}
use Rattle.std.specs.Prelude.{codes}
use Rattle.unit_grammar.specs.Pieces.{Piece}
use Rattle.unit_grammar.specs.Readers.{Read, found, absent, deep}
use Rattle.unit_grammar.specs.Exact.{IsFront}
use Rattle.unit_grammar.specs.Longest.{IsLongest}
use Rattle.ir_text.specs.Units.{IsUnit, IsUnitWithin, IsTooDeep}
use Rattle.ir_text.specs.UnitReaders.{unit_read}
use Rattle.ir_text.specs.Reads.{StandsAt, IsNextUnit, NoUnit, ReadsTo, Reads}
use Rattle.ir_text.specs.Laws.{UnitsEnd, UnitsAreFlat, StopsAgree, NestsAgree, NestsNeverStop}
use Rattle.ir_text.specs.Reading.{Refuses, Lacks, IsAdded, Stops, UnitsOf}
use Rattle.ir_text.proofs.FormLaws.{unit_chosen}

-- what the reader of a unit finds
found_flat : (ts rest : List Piece) (u : TheUnit) → unit_read ts ≡ found u rest → IsTooDeep ts → ⊥
found_flat ts rest u e o = let d = unit_chosen.deepens ts o in cc

pub next_unit : (ts rest : List Piece) (u : TheUnit) (place : Place) → unit_read ts ≡ found u rest → StandsAt ts place →
    IsNextUnit ts (record { place = place; value = u }) rest
next_unit ts rest u place e at = record {
  longest = unit_chosen.longest ts u rest e;
  place = at;
  flat = found_flat ts rest u e;
}

absent_flat : (ts : List Piece) → unit_read ts ≡ absent → IsTooDeep ts → ⊥
absent_flat ts e o = let d = unit_chosen.deepens ts o in cc

no_unit : (ts : List Piece) → unit_read ts ≡ absent → NoUnit ts
no_unit ts e = record { none = unit_chosen.none ts e; flat = absent_flat ts e }

shorter : (front rest : List Piece) (u : TheUnit) → IsUnit front u → length rest < length (front ++ rest)
shorter [] rest u is = absurd (unit_chosen.some u is)
shorter (t ∷ ts) rest u is = simp length-append (omega arith)

unit_shorter : (ts rest : List Piece) (u : TheUnit) → unit_read ts ≡ found u rest → length rest < length ts
unit_shorter ts rest u e =
    let stands = (unit_chosen.longest ts u rest e).stands in
    let less = shorter stands.front rest u (unit_chosen.within stands.front u stands.is) in
    subst (λ (z : List Piece). length rest < length z) (sym stands.splits) less

-- one more unit behind those that were read
reads_more : (ts : List Piece) (us : List (Placed TheUnit)) (mid : List Piece) (u : Placed TheUnit) (rest : List Piece) →
    ReadsTo ts us mid → IsNextUnit mid u rest → ReadsTo ts (us ++ u ∷ []) rest
reads_more ts [] mid u rest e next = (rest, subst (λ (z : List Piece). IsNextUnit z u rest) (sym e) next, refl)
reads_more ts (v ∷ us) mid u rest (behind, first, more) next = (behind, first, reads_more behind us mid u rest more next)

pub ok_of : {T E : Type 0} (r : Result T E) (P : Type 0) → false ≡ is_err r → OnOk r P → P
ok_of (Ok x) P e h = h
ok_of (Err x) P e h = absurd cc

-- the steps of the loop over units
pub adds : (ts rest tail : List Piece) (t : Piece) (u : TheUnit) (old new : List (Placed TheUnit)) → ts ≡ t ∷ tail →
    unit_read ts ≡ found u rest → new ≡ old ++ record { place = t.place; value = u } ∷ [] → IsAdded ts old new rest
adds ts rest tail t u old new is finds added =
    let stands : StandsAt ts t.place = subst (λ (z : List Piece). StandsAt z t.place) (sym is) refl in
    record {
      unit = record { place = t.place; value = u };
      is = next_unit ts rest u t.place finds stands;
      added = added;
      shorter = unit_shorter ts rest u finds;
    }

memory_lacks : (ts : List Piece) → Lacks ts Memory
memory_lacks [] = tt
memory_lacks (t ∷ ts) = tt

pub lacks : (ts tail : List Piece) (t : Piece) (fault : Fault) → ts ≡ t ∷ tail → unit_read ts ≡ absent → Refuses E02 t.place t.bytes fault → Lacks ts fault
lacks ts tail t Memory is none refuses = memory_lacks ts
lacks ts tail t (Refused refusal) is none refuses =
    subst (λ (z : List Piece). Lacks z (Refused refusal)) (sym is)
    (inl (subst (λ (z : List Piece). NoUnit z) is (no_unit ts none), refuses))

pub nests : (ts tail : List Piece) (t : Piece) (fault : Fault) → ts ≡ t ∷ tail → unit_read ts ≡ deep → Refuses E12 t.place (codes "nesting") fault → Lacks ts fault
nests ts tail t Memory is e refuses = memory_lacks ts
nests ts tail t (Refused refusal) is e refuses =
    subst (λ (z : List Piece). Lacks z (Refused refusal)) (sym is)
    (inr (subst (λ (z : List Piece). IsTooDeep z) is (unit_chosen.opened ts e), refuses))

pub stops : (ts mid : List Piece) (us : List (Placed TheUnit)) (fault : Fault) → ReadsTo ts us mid → Lacks mid fault → Stops ts fault
stops ts mid us Memory reads lacks = tt
stops ts [] us (Refused refusal) reads lacks = absurd lacks
stops ts (t ∷ tail) us (Refused refusal) reads (inl (none, is)) = (t, inl ((us, tail, reads, none), is))
stops ts (t ∷ tail) us (Refused refusal) reads (inr (opened, is)) = (t, inr ((us, tail, reads, opened), is))

pub stops_with : (ts mid : List Piece) (us : List (Placed TheUnit)) (r : Result (List (Placed TheUnit)) Fault) (fault : Fault) →
    IsErrAnd r (λ f. f ≡ fault) → ReadsTo ts us mid → Lacks mid fault → UnitsOf ts r
stops_with ts mid us (Ok x) fault is reads lacks = absurd is
stops_with ts mid us (Err f) fault is reads lacks = stops ts mid us f reads (subst (λ (z : Fault). Lacks mid z) (sym is) lacks)

pub adds_more : (ts mid rest : List Piece) (old new : List (Placed TheUnit)) → ReadsTo ts old mid → IsAdded mid old new rest → ReadsTo ts new rest
adds_more ts mid rest old new reads added =
    subst (λ (z : List (Placed TheUnit)). ReadsTo ts z rest) (sym added.added) (reads_more ts old mid added.unit rest reads added.is)

-- the reading is determined
same_place : (ts : List Piece) (p q : Place) → StandsAt ts p → StandsAt ts q → p ≡ q
same_place [] p q a b = absurd a
same_place (t ∷ ts) p q a b = a ∙ sym b

front_of : (ts : List Piece) (u : TheUnit) (rest : List Piece) → IsLongest IsUnitWithin IsUnit ts u rest → IsFront IsUnit ts u rest
front_of ts u rest h = record { front = h.stands.front; is = unit_chosen.within h.stands.front u h.stands.is; splits = h.stands.splits }

placed : (u v : Placed TheUnit) → u.place ≡ v.place → u.value ≡ v.value → u ≡ v
placed u v p q =
    let at : Place → Placed TheUnit = λ z. record { place = z; value = u.value } in
    let of : TheUnit → Placed TheUnit = λ z. record { place = v.place; value = z } in
    ap at p ∙ ap of q

one_longest : (ts : List Piece) (u v : TheUnit) (rest after : List Piece) → IsLongest IsUnitWithin IsUnit ts u rest →
    IsLongest IsUnitWithin IsUnit ts v after → (u ≡ v) × (rest ≡ after)
one_longest ts u v rest after f g =
    elim (f.longest v after (front_of ts v after g)) [
      | inr same ↦ same
      | inl less ↦ elim (g.longest u rest (front_of ts u rest f)) [
        | inl more ↦ absurd (omega (arith, less, more))
        | inr same ↦ (sym same.0, sym same.1)
      ]
    ]

one_next : (ts : List Piece) (u v : Placed TheUnit) (rest after : List Piece) → IsNextUnit ts u rest → IsNextUnit ts v after →
    (u ≡ v) × (rest ≡ after)
one_next ts u v rest after f g =
    let same = one_longest ts u.value v.value rest after f.longest g.longest in
    (placed u v (same_place ts u.place v.place f.place g.place) same.0, same.1)

no_next : (u : Placed TheUnit) (rest : List Piece) → IsNextUnit [] u rest → ⊥
no_next u rest h = h.place

pub one_reading : (ts : List Piece) (us vs : List (Placed TheUnit)) → Reads ts us → Reads ts vs → us ≡ vs
one_reading ts [] [] a b = refl
one_reading ts [] (v ∷ vs) a (behind, first, more) = absurd (no_next v behind (subst (λ (z : List Piece). IsNextUnit z v behind) a first))
one_reading ts (u ∷ us) [] (behind, first, more) b = absurd (no_next u behind (subst (λ (z : List Piece). IsNextUnit z u behind) b first))
one_reading ts (u ∷ us) (v ∷ vs) (f, first, more) (g, other, others) =
    let same = one_next ts u v f g first other in
    let rest = one_reading f us vs more (subst (λ (z : List Piece). Reads z vs) (sym same.1) others) in
    cc

-- tokens at which no unit is read
abbrev Blocked : List Piece → Type 0
Blocked ts = (u : Placed TheUnit) → (rest : List Piece) → IsNextUnit ts u rest → ⊥

none_blocked : (ts : List Piece) → NoUnit ts → Blocked ts
none_blocked ts h u rest next = h.none u.value rest (front_of ts u.value rest next.longest)

deep_blocked : (ts : List Piece) → IsTooDeep ts → Blocked ts
deep_blocked ts o u rest next = next.flat o

no_stop : (ts : List Piece) (us vs : List (Placed TheUnit)) (t : Piece) (rest : List Piece) → Reads ts us → ReadsTo ts vs (t ∷ rest) → Blocked (t ∷ rest) → ⊥
no_stop ts [] [] t rest a b none = absurd (cc (a, b))
no_stop ts [] (v ∷ vs) t rest a (behind, first, more) none = no_next v behind (subst (λ (z : List Piece). IsNextUnit z v behind) a first)
no_stop ts (u ∷ us) [] t rest (behind, first, more) b none = none u behind (subst (λ (z : List Piece). IsNextUnit z u behind) b first)
no_stop ts (u ∷ us) (v ∷ vs) t rest (f, first, more) (g, other, others) none =
    let same = one_next ts u v f g first other in
    no_stop f us vs t rest more (subst (λ (z : List Piece). ReadsTo z vs (t ∷ rest)) (sym same.1) others) none

one_stop : (ts : List Piece) (us vs : List (Placed TheUnit)) (mid end : List Piece) →
    ReadsTo ts us mid → Blocked mid → ReadsTo ts vs end → Blocked end → mid ≡ end
one_stop ts [] [] mid end a none b other = sym a ∙ b
one_stop ts [] (v ∷ vs) mid end a none (behind, first, more) other = absurd (none v behind (subst (λ (z : List Piece). IsNextUnit z v behind) a first))
one_stop ts (u ∷ us) [] mid end (behind, first, more) none b other = absurd (other u behind (subst (λ (z : List Piece). IsNextUnit z u behind) b first))
one_stop ts (u ∷ us) (v ∷ vs) mid end (f, first, more) none (g, second, others) other =
    let same = one_next ts u v f g first second in
    one_stop f us vs mid end more none (subst (λ (z : List Piece). ReadsTo z vs end) (sym same.1) others) other

first_same : (t s : Piece) (rest after : List Piece) → t ∷ rest ≡ s ∷ after → t ≡ s
first_same t s rest after e = cc

pub stops_end : UnitsEnd
stops_end ts us t reads (vs, rest, stops, none) = no_stop ts us vs t rest reads stops (none_blocked (t ∷ rest) none)

pub nests_end : UnitsAreFlat
nests_end ts us t reads (vs, rest, stops, o) = no_stop ts us vs t rest reads stops (deep_blocked (t ∷ rest) o)

pub stops_once : StopsAgree
stops_once ts t other (us, rest, stops, none) (vs, after, ends, nothing) =
    first_same t other rest after
    (one_stop ts us vs (t ∷ rest) (other ∷ after) stops (none_blocked (t ∷ rest) none) ends (none_blocked (other ∷ after) nothing))

pub nests_once : NestsAgree
nests_once ts t other (us, rest, stops, o) (vs, after, ends, p) =
    first_same t other rest after
    (one_stop ts us vs (t ∷ rest) (other ∷ after) stops (deep_blocked (t ∷ rest) o) ends (deep_blocked (other ∷ after) p))

pub nests_never : NestsNeverStop
nests_never ts t other (us, rest, stops, o) (vs, after, ends, none) =
    let same = one_stop ts us vs (t ∷ rest) (other ∷ after) stops (deep_blocked (t ∷ rest) o) ends (none_blocked (other ∷ after) none) in
    none.flat (subst (λ (z : List Piece). IsTooDeep z) same o)
