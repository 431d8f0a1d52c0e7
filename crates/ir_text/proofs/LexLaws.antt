-- The steps of the first pass.
use Rattle.std.proofs.Common.{◌≡◌, ℕ, ◌-◌, ◌<◌, IsTrue, inl, inr, List, [], ◌∷◌, ◌++◌, length, drop, sym, ap, subst, arith, drop_of_length-le}
use Rattle.std.proofs.lemmas.Bool.{cases_lt}
use Rattle.ltt_base.specs.declared.refusal.Place.{Place}
use Rattle.ltt_base.specs.declared.refusal.Refusal.{Refusal}
use Rattle.ltt_base.specs.declared.refusal.Fault.{Fault}
use Rattle.ltt_base.specs.declared.refusal.Fault.TheVariants.{Refused, Memory}
use Rattle.ir_lex.specs.declared.token.Token.{Token}
use Rattle.ir_lex.specs.Reader.{Reader}
use Rattle.ir_lex.specs.Texts.{IsNext, IsStuck, IsLastGap, Tokens, begins_other}
use Rattle.ir_text.specs.Answers.{IsNoToken}
use Rattle.ir_text.specs.Stuck.{IsOffset}
use Rattle.ir_text.specs.Lexing.{Names, NamesByte, Lacks, Fails, Collected}
use Rattle.ir_text.proofs.TokenLaws.{next_stands, tokens_more, tokens_last}

nothing_begins : (text : List ℕ) → text ≡ [] → IsTrue (begins_other text) → ⊥
nothing_begins [] e h = cc
nothing_begins (b ∷ bytes) e h = cc

-- the byte at which no token begins is one of the text
pub stuck_offset : (file : ℕ) (text : List ℕ) (at : ℕ) (place : Place) (s : IsStuck file text at place) → IsOffset file text place s.offset
stuck_offset file text at place s =
    elim (cases_lt s.offset (length text)) [
      | inl less ↦ record { within = less; is = s.is }
      | inr past ↦ absurd (nothing_begins (drop s.offset text) (drop_of_length-le text past) s.other)
    ]

pub collects : (file : ℕ) (text : List ℕ) (old new : Reader) (ts : List Token) (t : Token) → Collected file text old ts →
    IsNext old.file old.text old.at t → new ≡ record old { at = t.end } → Collected file text new (ts ++ t ∷ [])
collects file text old new ts t c next moved =
    let in_file : IsNext file old.text old.at t = subst (λ (z : ℕ). IsNext z old.text old.at t) c.same_file next in
    let in_text : IsNext file text old.at t = subst (λ (z : List ℕ). IsNext file z old.at t) c.same_text in_file in
    subst (λ (z : Reader). Collected file text z (ts ++ t ∷ [])) (sym moved)
    (record { same_file = c.same_file; same_text = c.same_text; given = tokens_more file text 0 old.at ts t c.given in_text })

pub collected : (file : ℕ) (text : List ℕ) (old : Reader) (ts : List Token) → Collected file text old ts →
    IsLastGap (drop old.at old.text) → Tokens file text ts
collected file text old ts c last =
    let here : IsLastGap (drop old.at text) = subst (λ (z : List ℕ). IsLastGap (drop old.at z)) c.same_text last in
    tokens_last (λ at. IsLastGap (drop at text)) file text 0 old.at ts c.given here

refuses : (file : ℕ) (text : List ℕ) (old : Reader) (ts : List Token) (refusal : Refusal) → Collected file text old ts →
    IsStuck old.file old.text old.at refusal.place → Names file text refusal.place refusal → IsNoToken file text refusal
refuses file text old ts refusal c stuck names =
    let in_file : IsStuck file old.text old.at refusal.place = subst (λ (z : ℕ). IsStuck z old.text old.at refusal.place) c.same_file stuck in
    let in_text : IsStuck file text old.at refusal.place = subst (λ (z : List ℕ). IsStuck file z old.at refusal.place) c.same_text in_file in
    record {
      tokens = ts;
      stuck = tokens_last (λ at. IsStuck file text at refusal.place) file text 0 old.at ts c.given in_text;
      offset = names.offset;
      within = names.stands.within;
      stands = names.stands.is;
      is = names.is;
    }

pub fails : (file : ℕ) (text : List ℕ) (old : Reader) (ts : List Token) (fault : Fault) → Collected file text old ts →
    Lacks file text old fault → Fails file text fault
fails file text old ts Memory c lacks = tt
fails file text old ts (Refused refusal) c lacks = refuses file text old ts refusal c lacks.0 lacks.1

-- the fault at a place at which no token begins
pub lacks : (file : ℕ) (text : List ℕ) (old : Reader) (place : Place) (fault : Fault) →
    IsStuck old.file old.text old.at place → NamesByte file text place fault → Lacks file text old fault
lacks file text old place Memory stuck names = tt
lacks file text old place (Refused refusal) stuck names =
    let same : refusal.place ≡ place = ap (λ (z : Refusal). z.place) names.is in (
      subst (λ (z : Place). IsStuck old.file old.text old.at z) (sym same) stuck,
      subst (λ (z : Place). Names file text z refusal) (sym same) names,
    )

-- the offset moves on, so the pass ends
pub smaller : (file : ℕ) (text : List ℕ) (old new : Reader) (ts : List Token) (t : Token) → Collected file text old ts →
    IsNext old.file old.text old.at t → new ≡ record old { at = t.end } → length text - new.at < length text - old.at
smaller file text old new ts t c next moved =
    let s = next_stands old.file old.text old.at t next in
    let at : new.at ≡ t.end = ap (λ (z : Reader). z.at) moved in
    let len : length old.text ≡ length text = ap (λ (z : List ℕ). length z) c.same_text in
    omega (arith, s.moves, s.ends)
