-- The tokens of a text that is put together of blanks and tokens.
use Rattle.std.proofs.Common.{◌≡◌, ℕ, ◌+◌, ◌-◌, Bool, true, false, ◌==◌, Some, List, [], ◌∷◌, ◌++◌, length, length-append, drop, codes, refl, ap, sym, subst, ◌∙◌, append-nil, append_assoc, arith}
use Rattle.std.specs.Prelude.{slice_range}
use Rattle.std.specs.List.{list_all, list_any}
use Rattle.std.proofs.lemmas.List.Folds.{list_all-append, list_any-append}
use Rattle.std.proofs.Math.Seq.{take-append_seam, drop-append_seam}
use Rattle.ir_lex.specs.declared.token.Kind.{Kind}
use Rattle.ir_lex.specs.declared.token.Kind.TheVariants.{Mark}
use Rattle.ir_lex.specs.declared.token.Token.{Token}
use Rattle.ir_lex.specs.Letters.{is_of, is_blank, is_line_end}
use Rattle.ir_lex.specs.Places.{place_at}
use Rattle.ir_lex.specs.Texts.{open_behind, IsGap, IsNext, TokensFrom}
use Rattle.ir_lex.specs.Kinds.{Begins}
use Rattle.ir_lex.proofs.CaseSplits.{test}
use Rattle.ir_lex.proofs.KindLaws.{of_each, of_apart}
use Rattle.unit_grammar.specs.Pieces.{pieces}
use Rattle.printed_tokens.specs.Atoms.{Atom, blank, a_token, rendered, is_mark, is_loose, IsToken, IsBlank, AreSeparated}
use Rattle.printed_tokens.specs.Looks.{Look, looks, looks_of}
use Rattle.printed_tokens.specs.Laws.{AtomsAreCut}
use Rattle.printed_tokens.proofs.ShapeLemmas.{parting}
use Rattle.printed_tokens.proofs.LongestLemmas.{Parted, all_head}
use Rattle.printed_tokens.proofs.BeginsLemmas.{Lets, token_begins}

-- blanks are a gap

blank_opens : (b : ℕ) → is_blank b ≡ true → (b == 59) ≡ false
blank_opens b is = of_apart (32 ∷ 9 ∷ 13 ∷ 10 ∷ []) (λ c. c == 59) refl b is

blanks_are_gap : (bytes : List ℕ) → list_all is_blank bytes ≡ true → IsGap bytes
blanks_are_gap [] all = refl
blanks_are_gap (b ∷ bytes) all =
    test (is_blank b)
    (λ t. let h = rw t at all in let e = blank_opens b t in rw (e, t) (blanks_are_gap bytes h))
    (λ t. absurd (let h = rw t at all in cc))

blanks_joined : (front back : List ℕ) → list_all is_blank front ≡ true → list_all is_blank back ≡ true →
    list_all is_blank (front ++ back) ≡ true
blanks_joined front back e d = rw (list_all-append is_blank front back, e, d) refl

-- behind a token that could go on stands what parts

blank_parts : (bytes rest : List ℕ) → IsBlank bytes → Parted (bytes ++ rest)
blank_parts [] rest is = absurd (let h = is.some in cc)
blank_parts (b ∷ bytes) rest is =
    of_each (32 ∷ 9 ∷ 13 ∷ 10 ∷ []) (is_of parting) refl b (all_head is_blank b bytes is.are)

mark_parts : (kind : Kind) (bytes rest : List ℕ) → is_mark kind ≡ true → IsToken kind bytes → Parted (bytes ++ rest)
mark_parts Mark [] rest mark is = absurd is.is
mark_parts Mark (b ∷ bytes) rest mark is =
    of_each (codes "=,(){}[]<>*") (is_of parting) refl b (all_head (is_of (codes "=,(){}[]<>*")) b bytes is.plain)
mark_parts _ bytes rest mark is = absurd cc

told_parts : (atoms : List Atom) → AreSeparated true atoms → Parted (rendered atoms)
told_parts [] are = tt
told_parts (blank bytes ∷ atoms) are = blank_parts bytes (rendered atoms) are.0
told_parts (a_token kind bytes ∷ atoms) are = mark_parts kind bytes (rendered atoms) are.1 are.0

told_lets : (loose : Bool) (atoms : List Atom) → AreSeparated loose atoms → Lets loose (rendered atoms)
told_lets true atoms are = told_parts atoms are
told_lets false atoms are = tt

-- within a text of three parts

middle : (before bytes rest : List ℕ) → slice_range (before ++ (bytes ++ rest)) (length before) (length before + length bytes) ≡ bytes
middle before bytes rest =
    let n : length before + length bytes - length before ≡ length bytes = omega arith in
    rw (n, drop-append_seam before (bytes ++ rest)) (take-append_seam bytes rest)

behind_both : (before gap rest : List ℕ) → drop (length before + length gap) (before ++ (gap ++ rest)) ≡ rest
behind_both before gap rest =
    let e : length before + length gap ≡ length (before ++ gap) = let h = length-append before gap in omega arith in
    rw (e, ← append_assoc before gap rest) (drop-append_seam (before ++ gap) rest)

behind_gap : (before gap bytes rest : List ℕ) →
    slice_range (before ++ (gap ++ (bytes ++ rest))) (length before + length gap) (length before + length gap + length bytes) ≡ bytes
behind_gap before gap bytes rest =
    let n : length before + length gap + length bytes - (length before + length gap) ≡ length bytes = omega arith in
    rw (n, behind_both before gap (bytes ++ rest)) (take-append_seam bytes rest)

-- the tokens behind an offset, and how they look where a line ended or not since the token before them
record CutFrom (file : ℕ) (text : List ℕ) (at : ℕ) (broke : Bool) (atoms : List Atom) : Type 0 where
  tokens : List Token
  are : TokensFrom file text at tokens
  look : looks at (pieces text tokens) ≡ looks_of broke atoms

abbrev token_at : ℕ → List ℕ → Kind → ℕ → ℕ → Token
token_at file text kind start len = record { kind = kind; start = start; end = start + len; place = place_at file text start }

-- blanks and a token are next
next_token : (file : ℕ) (before gap bytes rest : List ℕ) (kind : Kind) → list_all is_blank gap ≡ true →
    Begins (bytes ++ rest) kind (length bytes) →
    IsNext file (before ++ (gap ++ (bytes ++ rest))) (length before)
    (token_at file (before ++ (gap ++ (bytes ++ rest))) kind (length before + length gap) (length bytes))
next_token file before gap bytes rest kind blanks begins = record {
  behind = omega arith;
  gap = let e = middle before gap (bytes ++ rest) in rw e (blanks_are_gap gap blanks);
  begins =
      let n : length before + length gap + length bytes - (length before + length gap) ≡ length bytes = omega arith in
      let d = behind_both before gap (bytes ++ rest) in
      rw (n, d) begins;
  place = refl;
}

look_at : Kind → List ℕ → Bool → Look
look_at kind bytes first = record { kind = kind; bytes = bytes; first = first }

looks_same : (kind : Kind) (bytes others : List ℕ) (first other : Bool) (ls ms : List Look) →
    bytes ≡ others → first ≡ other → ls ≡ ms → (look_at kind bytes first ∷ ls) ≡ (look_at kind others other ∷ ms)
looks_same kind bytes others first other ls ms a b c = rw (a, b, c) refl

token_cut : (file : ℕ) (before gap bytes : List ℕ) (kind : Kind) (atoms : List Atom) (text : List ℕ) → list_all is_blank gap ≡ true →
    IsToken kind bytes → AreSeparated (is_loose kind) atoms → text ≡ before ++ (gap ++ (bytes ++ rendered atoms)) →
    CutFrom file text (length before + length gap + length bytes) false atoms →
    CutFrom file text (length before) (list_any is_line_end gap) (a_token kind bytes ∷ atoms)
unfolding look_at
token_cut file before gap bytes kind atoms text blanks is separated split more =
    let rest = rendered atoms in
    let begins = token_begins kind bytes rest is (told_lets (is_loose kind) atoms separated) in
    let P : List ℕ → Type 0 =
    λ whole. IsNext file whole (length before) (token_at file whole kind (length before + length gap) (length bytes)) in
    let start = length before + length gap in
    let within : slice_range text start (start + length bytes) ≡ bytes = rw split (behind_gap before gap bytes rest) in
    let space : slice_range text (length before) start ≡ gap = rw split (middle before gap (bytes ++ rest)) in
    record {
      tokens = token_at file text kind (length before + length gap) (length bytes) ∷ more.tokens;
      are = (subst P (sym split) (next_token file before gap bytes rest kind blanks begins), more.are);
      look =
          looks_same kind _ bytes _ (list_any is_line_end gap) _ (looks_of false atoms) within (ap (list_any is_line_end) space) more.look;
    }

-- blanks that stand before the atoms are one gap with those among them
cut_from : (file : ℕ) (before gap : List ℕ) (loose : Bool) (atoms : List Atom) (text : List ℕ) → list_all is_blank gap ≡ true →
    AreSeparated loose atoms → text ≡ before ++ (gap ++ rendered atoms) → CutFrom file text (length before) (list_any is_line_end gap) atoms
cut_from file before gap loose [] text blanks separated split =
    let rest : drop (length before) text ≡ gap = rw split (drop-append_seam before (gap ++ []) ∙ append-nil gap) in
    record {
      tokens = [];
      are = let gone : open_behind false gap ≡ Some false = blanks_are_gap gap blanks in rw (rest, gone) refl;
      look = refl;
    }
cut_from file before gap loose (blank bytes ∷ atoms) text blanks separated split =
    let is = separated.0 in
    let same : text ≡ before ++ ((gap ++ bytes) ++ rendered atoms) =
    split ∙ ap (λ rest. before ++ rest) (sym (append_assoc gap bytes (rendered atoms))) in
    let more = cut_from file before (gap ++ bytes) false atoms text (blanks_joined gap bytes blanks is.are) separated.1 same in
    let P : Bool → Type 0 = λ broke. CutFrom file text (length before) broke atoms in
    let either = subst P (list_any-append is_line_end gap bytes) more in
    record { tokens = either.tokens; are = either.are; look = either.look }
cut_from file before gap loose (a_token kind bytes ∷ atoms) text blanks separated split =
    let rest = rendered atoms in
    let same : text ≡ ((before ++ gap) ++ bytes) ++ ([] ++ rest) =
    split ∙ sym (append_assoc before gap (bytes ++ rest)) ∙ sym (append_assoc (before ++ gap) bytes rest) in
    let more = cut_from file ((before ++ gap) ++ bytes) [] (is_loose kind) atoms text refl separated.2 same in
    let end : length ((before ++ gap) ++ bytes) ≡ length before + length gap + length bytes =
    let a = length-append (before ++ gap) bytes in let b = length-append before gap in omega arith in
    let P : ℕ → Type 0 = λ at. CutFrom file text at false atoms in
    token_cut file before gap bytes kind atoms text blanks separated.0 separated.2 split (subst P end more)

pub atoms_are_cut : AtomsAreCut
atoms_are_cut file atoms separated =
    let cut = cut_from file [] [] false atoms (rendered atoms) refl separated refl in
    record { tokens = cut.tokens; are = cut.are; look = cut.look }
