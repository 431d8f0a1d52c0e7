-- Atoms whose last token doesn't go on, as those of lines, put behind one another.
use Rattle.std.proofs.Common.{◌≡◌, ℕ, Bool, true, false, if◌then◌else◌, List, [], ◌∷◌, ◌++◌, map, flat_map, refl, sym, ◌∙◌, ap, ap₂, subst, append-nil}
use Rattle.std.specs.List.{AllByRecursion}
use Rattle.std.proofs.lemmas.Grind.{flat_map-append}
use Rattle.printed_tokens.specs.Atoms.{Atom, blank, a_token, is_loose, AreSeparated}
use Rattle.printed_tokens.proofs.AtomLemmas.{rendered_append, Prints, prints_as, prints_none}
use Rattle.printed_units.specs.Lines.{Line}

-- whether a token that could go on stands last
abbrev ends_loose : Bool → List Atom → Bool
ends_loose loose [] = loose
ends_loose loose (blank bytes ∷ atoms) = ends_loose false atoms
ends_loose loose (a_token kind bytes ∷ atoms) = ends_loose (is_loose kind) atoms

abbrev pub IsClosed : List Atom → Type 0
IsClosed atoms = ends_loose false atoms ≡ false

pub ends_append : (loose : Bool) (xs ys : List Atom) → ends_loose loose (xs ++ ys) ≡ ends_loose (ends_loose loose xs) ys
ends_append loose [] ys = refl
ends_append loose (blank bytes ∷ xs) ys = ends_append false xs ys
ends_append loose (a_token kind bytes ∷ xs) ys = ends_append (is_loose kind) xs ys

closed_append : (xs ys : List Atom) → IsClosed xs → IsClosed ys → IsClosed (xs ++ ys)
closed_append xs ys first second = ends_append false xs ys ∙ (ap (λ loose. ends_loose loose ys) first ∙ second)

told_behind : (loose : Bool) (xs ys : List Atom) → AreSeparated loose xs → ends_loose loose xs ≡ false → AreSeparated false ys
    → AreSeparated loose (xs ++ ys)
told_behind loose [] ys separated closed rest = subst (λ l. AreSeparated l ys) (sym closed) rest
told_behind loose (blank bytes ∷ xs) ys separated closed rest = (separated.0, told_behind false xs ys separated.1 closed rest)
told_behind loose (a_token kind bytes ∷ xs) ys separated closed rest =
    (separated.0, separated.1, told_behind (is_loose kind) xs ys separated.2 closed rest)

-- behind such atoms any may stand
pub prints_behind_closed : {xs ys : List Atom} {a b : List ℕ} → Prints xs a → IsClosed xs → Prints ys b → Prints (xs ++ ys) (a ++ b)
prints_behind_closed {xs} {ys} first closed second = record {
  renders = rendered_append xs ys ∙ ap₂ (λ c d. c ++ d) first.renders second.renders;
  separated = told_behind false xs ys first.separated closed second.separated;
}

abbrev pub atoms_of : List Line → List Atom
atoms_of lines = flat_map (λ l. l.atoms) lines

-- the lines are printed as this text, behind which others may stand
pub record PrintLines (lines : List Line) (text : List ℕ) : Type 0 where
  pub prints : Prints (atoms_of lines) text
  pub closed : IsClosed (atoms_of lines)

pub lines_as : {lines : List Line} {text other : List ℕ} → text ≡ other → PrintLines lines text → PrintLines lines other
lines_as same print = record { prints = prints_as same print.prints; closed = print.closed }

pub lines_none : PrintLines [] []
lines_none = record { prints = prints_none; closed = refl }

pub lines_cons : {lines : List Line} {text more : List ℕ} (l : Line) → Prints l.atoms text → IsClosed l.atoms → PrintLines lines more
    → PrintLines (l ∷ lines) (text ++ more)
lines_cons {lines = lines} l prints closed rest = record {
  prints = prints_behind_closed prints closed rest.prints;
  closed = closed_append l.atoms (atoms_of lines) closed rest.closed;
}

pub lines_one : {text : List ℕ} (l : Line) → Prints l.atoms text → IsClosed l.atoms → PrintLines (l ∷ []) text
lines_one {text} l prints closed = lines_as (append-nil text) (lines_cons l prints closed lines_none)

pub lines_append : {xs ys : List Line} {a b : List ℕ} → PrintLines xs a → PrintLines ys b → PrintLines (xs ++ ys) (a ++ b)
lines_append {xs} {ys} {a} {b} first second =
    let parts = sym (flat_map-append (λ l. l.atoms) xs ys) in
    record {
      prints = subst (λ atoms. Prints atoms (a ++ b)) parts (prints_behind_closed first.prints first.closed second.prints);
      closed = subst IsClosed parts (closed_append (atoms_of xs) (atoms_of ys) first.closed second.closed);
    }

pub lines_if : {lines : List Line} {text : List ℕ} (is : Bool) → PrintLines lines text
    → PrintLines (if is then lines else []) (if is then text else [])
lines_if true print = print
lines_if false print = lines_none

-- lines of each item, and a line of each
pub lines_each : {X : Type 0} (P : X → Type 0) (lines : X → List Line) (text : X → List ℕ) → ((x : X) → P x → PrintLines (lines x) (text x))
    → (items : List X) → AllByRecursion P items → PrintLines (flat_map lines items) (flat_map text items)
lines_each P lines text print [] are = lines_none
lines_each P lines text print (item ∷ items) are = lines_append (print item are.0) (lines_each P lines text print items are.1)

pub line_each : {X : Type 0} (P : X → Type 0) (line : X → Line) (text : X → List ℕ)
    → ((x : X) → P x → Prints (line x).atoms (text x)) → ((x : X) → IsClosed (line x).atoms)
    → (items : List X) → AllByRecursion P items → PrintLines (map line items) (flat_map text items)
line_each P line text prints closed [] are = lines_none
line_each P line text prints closed (item ∷ items) are =
    lines_cons (line item) (prints item are.0) (closed item) (line_each P line text prints closed items are.1)
