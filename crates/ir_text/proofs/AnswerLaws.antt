-- From the two passes to the answer.
use Rattle.std.specs.Prelude.{Result, Ok, Err}
use Rattle.std.proofs.Common.{◌≡◌, ◌⊎◌, ℕ, List, slice_index, sym, ◌∙◌, ap, subst, arith, inl, inr}
use Rattle.ltt_base.specs.declared.refusal.Place.{Place}
use Rattle.ltt_base.specs.declared.refusal.Refusal.{Refusal}
use Rattle.ltt_base.specs.declared.refusal.Fault.{Fault}
use Rattle.ltt_base.specs.declared.refusal.Fault.TheVariants.{Refused, Memory}
use Rattle.ltt_base.specs.declared.refusal.Placed.{Placed}
use Rattle.ir_values.specs.declared.units.Unit.{Unit as TheUnit}
use Rattle.ir_lex.specs.declared.token.Token.{Token}
use Rattle.ir_lex.specs.Texts.{Tokens}
use Rattle.unit_grammar.specs.Pieces.{pieces}
use Rattle.ir_text.specs.Reading.{no_unit, nesting, Stops, UnitsOf}
use Rattle.ir_text.specs.Lexing.{Fails}
use Rattle.ltt_base.specs.declared.refusal.Code.TheVariants.{E01}
use Rattle.ir_lex.specs.Laws as lex
use Rattle.ir_text.specs.Laws.{ReadingsAgree, ReadingsEnd, RefusalsAgree}
use Rattle.ir_text.specs.Reads.{Reads, StopsAt, NestsAt}
use Rattle.ir_text.proofs.PlaceLaws.{same_offset}
use Rattle.ir_text.proofs.ReadLaws.{one_reading, stops_end, nests_end, stops_once, nests_once, nests_never}
use Rattle.ir_text.specs.Answers.{byte_word, IsNoToken, IsNoUnit, IsNested, Answers}

stopped : (file : ℕ) (text : List ℕ) (ts : List Token) (fault : Fault) → Tokens file text ts → Stops (pieces text ts) fault → Answers file text (Err fault)
stopped file text ts Memory are stops = tt
stopped file text ts (Refused refusal) are (t, inl (stops, is)) =
    inr (inl (record { tokens = ts; are = are; token = t; stops = stops; is = is }))
stopped file text ts (Refused refusal) are (t, inr (nests, is)) =
    inr (inr (record { tokens = ts; are = are; token = t; nests = nests; is = is }))

pub answers : (file : ℕ) (text : List ℕ) (ts : List Token) (r : Result (List (Placed TheUnit)) Fault) → Tokens file text ts →
    UnitsOf (pieces text ts) r → Answers file text r
answers file text ts (Ok us) are reads = record { tokens = ts; are = are; reads = reads }
answers file text ts (Err fault) are stops = stopped file text ts fault are stops

pub fails : (file : ℕ) (text : List ℕ) (fault : Fault) → Fails file text fault → Answers file text (Err fault)
fails file text Memory h = tt
fails file text (Refused refusal) h = inl h

-- a text has one answer

pub reads_agree : lex.ReadingsAgree → ReadingsAgree
reads_agree agree file text us vs a b =
    let same = agree file text a.tokens b.tokens a.are b.are in
    let there : Reads (pieces text a.tokens) vs = subst (λ (ts : List Token). Reads (pieces text ts) vs) (sym same) b.reads in
    one_reading (pieces text a.tokens) us vs a.reads there

pub reads_end : lex.ReadingsAgree → lex.ReadingsEnd → ReadingsEnd
reads_end agree ends file text us refusal a (inl b) = ends file text a.tokens b.tokens refusal.place a.are b.stuck
reads_end agree ends file text us refusal a (inr (inl b)) =
    let same = agree file text a.tokens b.tokens a.are b.are in
    let there : StopsAt (pieces text a.tokens) b.token = subst (λ (ts : List Token). StopsAt (pieces text ts) b.token) (sym same) b.stops in
    stops_end (pieces text a.tokens) us b.token a.reads there
reads_end agree ends file text us refusal a (inr (inr b)) =
    let same = agree file text a.tokens b.tokens a.are b.are in
    let there : NestsAt (pieces text a.tokens) b.token = subst (λ (ts : List Token). NestsAt (pieces text ts) b.token) (sym same) b.nests in
    nests_end (pieces text a.tokens) us b.token a.reads there

no_token_once : (file : ℕ) (text : List ℕ) (refusal other : Refusal) → lex.StucksAgree → IsNoToken file text refusal →
    IsNoToken file text other → refusal ≡ other
no_token_once file text refusal other agree a b =
    let place = agree file text a.tokens b.tokens refusal.place other.place a.stuck b.stuck in
    let offset = same_offset file text a.offset b.offset (omega (arith, a.within)) (omega (arith, b.within)) (sym a.stands ∙ place ∙ b.stands) in
    let of_place : Place → Refusal = λ p. record { code = E01; place = p; word = byte_word (slice_index text a.offset) } in
    let of_offset : ℕ → Refusal = λ k. record { code = E01; place = other.place; word = byte_word (slice_index text k) } in
    a.is ∙ ap of_place place ∙ ap of_offset offset ∙ sym b.is

no_unit_once : (file : ℕ) (text : List ℕ) (refusal other : Refusal) → lex.ReadingsAgree → IsNoUnit file text refusal →
    IsNoUnit file text other → refusal ≡ other
no_unit_once file text refusal other agree a b =
    let same = agree file text a.tokens b.tokens a.are b.are in
    let there : StopsAt (pieces text a.tokens) b.token = subst (λ (ts : List Token). StopsAt (pieces text ts) b.token) (sym same) b.stops in
    a.is ∙ ap no_unit (stops_once (pieces text a.tokens) a.token b.token a.stops there) ∙ sym b.is

nested_once : (file : ℕ) (text : List ℕ) (refusal other : Refusal) → lex.ReadingsAgree → IsNested file text refusal →
    IsNested file text other → refusal ≡ other
nested_once file text refusal other agree a b =
    let same = agree file text a.tokens b.tokens a.are b.are in
    let there : NestsAt (pieces text a.tokens) b.token = subst (λ (ts : List Token). NestsAt (pieces text ts) b.token) (sym same) b.nests in
    a.is ∙ ap nesting (nests_once (pieces text a.tokens) a.token b.token a.nests there) ∙ sym b.is

never_both : (file : ℕ) (text : List ℕ) (refusal other : Refusal) → lex.ReadingsAgree → IsNested file text refusal → IsNoUnit file text other → ⊥
never_both file text refusal other agree a b =
    let same = agree file text a.tokens b.tokens a.are b.are in
    let there : StopsAt (pieces text a.tokens) b.token = subst (λ (ts : List Token). StopsAt (pieces text ts) b.token) (sym same) b.stops in
    nests_never (pieces text a.tokens) a.token b.token a.nests there

-- a text with tokens is refused in one way
behind_tokens : (file : ℕ) (text : List ℕ) (refusal other : Refusal) → lex.ReadingsAgree → IsNoUnit file text refusal ⊎ IsNested file text refusal →
    IsNoUnit file text other ⊎ IsNested file text other → refusal ≡ other
behind_tokens file text refusal other agree (inl a) (inl b) = no_unit_once file text refusal other agree a b
behind_tokens file text refusal other agree (inl a) (inr b) = absurd (never_both file text other refusal agree b a)
behind_tokens file text refusal other agree (inr a) (inl b) = absurd (never_both file text refusal other agree a b)
behind_tokens file text refusal other agree (inr a) (inr b) = nested_once file text refusal other agree a b

never_stuck : (file : ℕ) (text : List ℕ) (refusal other : Refusal) → lex.ReadingsEnd → IsNoToken file text refusal →
    IsNoUnit file text other ⊎ IsNested file text other → ⊥
never_stuck file text refusal other ends a (inl b) = ends file text b.tokens a.tokens refusal.place b.are a.stuck
never_stuck file text refusal other ends a (inr b) = ends file text b.tokens a.tokens refusal.place b.are a.stuck

pub refusals_agree : lex.ReadingsAgree → lex.ReadingsEnd → lex.StucksAgree → RefusalsAgree
refusals_agree agree ends stucks file text refusal other (inl a) (inl b) = no_token_once file text refusal other stucks a b
refusals_agree agree ends stucks file text refusal other (inl a) (inr b) = absurd (never_stuck file text refusal other ends a b)
refusals_agree agree ends stucks file text refusal other (inr a) (inl b) = absurd (never_stuck file text other refusal ends b a)
refusals_agree agree ends stucks file text refusal other (inr a) (inr b) = behind_tokens file text refusal other agree a b
