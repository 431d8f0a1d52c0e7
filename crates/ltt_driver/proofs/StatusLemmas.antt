-- What the parts of a call answer is what the statuses mean.
use Rattle.std.proofs.Common.{◌≡◌, ℕ, ◌⊎◌, inl, inr, List, Option, Some, None, MatchOption, [], ◌∷◌, sym, subst, refl, ◌∙◌, codes, length, replicate, map, ap, IfSome, ◌+◌, ◌≤◌, ◌<◌, false, get_or, bytes_eq, if◌then◌else◌, drop, is_some, unwrap_or, true, true≢false, arith}
use Rattle.std.proofs.lemmas.List.{length-replicate}
use Rattle.ltt_base.specs.Outside.{Rose}
use Rattle.ltt_base.specs.Lines.{refusal_line, refusal_status, read_fault_line}
use Rattle.ltt_base.specs.Status.{Due, Writes, Says, Seen, StatusMeans, OutIsSame}
use Rattle.ltt_base.specs.declared.refusal.Code.{Code}
use Rattle.ltt_base.specs.declared.refusal.Code.TheVariants.{E12}
use Rattle.source_runs.specs.Words.{steps_of, answers_of}
use Rattle.ltt_driver.specs.Files.{text_limit}
use Rattle.ltt_driver.specs.Asked.{Command, Asked, NoForm, TooManyFiles, OneFile, AsksFor, HasForm, Lower, Check, Reprint, Run, asked, asked_by, on_files, on_one, run_on, run_asked, usage_line}
use Rattle.ltt_driver.specs.Outcome.{IsDue, IsDueFor, limit_refusal, refusal_due}
use Rattle.ltt_driver.specs.Telling.{IsTold, IsWant, IsPut, IsMadeOrTold, IsAnswer}

-- one of the statuses that a line is due with
abbrev pub IsOfLine : ℕ → Type 0
IsOfLine status = (status ≡ 1) ⊎ ((status ≡ 2) ⊎ (status ≡ 6))

-- the status of a refusal is one of a line
pub of_refusal : (code : Code) → IsOfLine (refusal_status code)
of_refusal E12 = inr (inr refl)
of_refusal _ = inl refl

-- a line that was due and is told
pub told : (D : Due → Type 0) (C : List ℕ → Type 0) (M : Type 0) (before after : Seen) (status : ℕ) (line : List ℕ) (result : ℕ)
    → IsOfLine status → D (Says status line) → OutIsSame before after
    → IsTold status line (record { taken = before.err; faults = before.err_faults }) (record { taken = after.err; faults = after.err_faults }) result
    → StatusMeans D C M before after result
told D C M before after status line result (inl one) due same (inl (is, took)) =
    subst (StatusMeans D C M before after) (sym (is ∙ one))
    (record { line = line; due = subst (λ s. D (Says s line)) one due; taken = took; same = same })
told D C M before after status line result (inr (inl two)) due same (inl (is, took)) =
    subst (StatusMeans D C M before after) (sym (is ∙ two))
    (record { line = line; due = subst (λ s. D (Says s line)) two due; taken = took; same = same })
told D C M before after status line result (inr (inr six)) due same (inl (is, took)) =
    subst (StatusMeans D C M before after) (sym (is ∙ six))
    (record { line = line; due = subst (λ s. D (Says s line)) six due; taken = took; same = same })
told D C M before after status line result of_line due same (inr (is, rose, part)) =
    subst (StatusMeans D C M before after) (sym is)
    (inr (inl (record { status = status; line = line; due = due; rose = rose; taken = part; same = same })))

-- the line of a read fault that is told
pub told_read_fault : (D : Due → Type 0) (C : List ℕ → Type 0) (M : Type 0) (before after : Seen) (name : List ℕ) (result : ℕ)
    → C name → Rose (before.read_faults name) (after.read_faults name) → OutIsSame before after
    → IsTold 3 (read_fault_line name) (record { taken = before.err; faults = before.err_faults }) (record { taken = after.err; faults = after.err_faults }) result
    → StatusMeans D C M before after result
told_read_fault D C M before after name result comes read same (inl (is, took)) =
    subst (StatusMeans D C M before after) (sym is)
    (record { name = name; comes = comes; rose = read; taken = took; same = same })
told_read_fault D C M before after name result comes read same (inr (is, rose, part)) =
    subst (StatusMeans D C M before after) (sym is)
    (inr (inr (record { name = name; comes = comes; read = read; rose = rose; taken = part; same = same })))

-- memory that was wanted before anything was written
pub wanted : (D : Due → Type 0) (C : List ℕ → Type 0) (M : Type 0) (before after : Seen) (result : ℕ)
    → M → OutIsSame before after
    → IsWant (record { taken = before.err; faults = before.err_faults }) (record { taken = after.err; faults = after.err_faults }) result
    → StatusMeans D C M before after result
wanted D C M before after result may same (is, line) =
    subst (StatusMeans D C M before after) (sym is) (record { may = may; taken = inl same; line = line })

-- a text that was due and is put
pub put : (D : Due → Type 0) (C : List ℕ → Type 0) (M : Type 0) (before after : Seen) (text : List ℕ) (result : ℕ)
    → M → D (Writes text)
    → IsPut text (record { taken = before.out; faults = before.out_faults }) (record { taken = after.out; faults = after.out_faults })
    (record { taken = before.err; faults = before.err_faults }) (record { taken = after.err; faults = after.err_faults }) result
    → StatusMeans D C M before after result
put D C M before after text result may due (inl (is, took, quiet)) =
    subst (StatusMeans D C M before after) (sym is) (record { text = text; due = due; taken = took; quiet = quiet })
put D C M before after text result may due (inr (inl (is, rose, part, line))) =
    subst (StatusMeans D C M before after) (sym is)
    (inl (record { text = text; due = due; rose = rose; taken = part; line = line }))
put D C M before after text result may due (inr (inr (part, (is, line)))) =
    subst (StatusMeans D C M before after) (sym is)
    (record { may = may; taken = inr (record { text = text; due = due; taken = part }); line = line })

-- what is due for a text that the files may hold is due
pub due_for : (command : Command) (held : List ℕ → Option (List ℕ)) (name text : List ℕ) (due : Due)
    → IfSome (held name) (λ bytes. text ≡ bytes) → IsDueFor command name text due → IsDue (OneFile command name) held due
due_for command held name text due holds is_due = due_at (held name) holds
  where
    due_at : (bytes : Option (List ℕ)) → IfSome bytes (λ bytes. text ≡ bytes)
        → MatchOption bytes ((text : List ℕ) × IsDueFor command name text due) (λ text. IsDueFor command name text due)
    due_at None holds = (text, is_due)
    due_at (Some bytes) same = subst (λ t. IsDueFor command name t due) same is_due

-- the limit is due for texts that pass it
pub due_too_long : (command : Command) (held : List ℕ → Option (List ℕ)) (name : List ℕ)
    → IfSome (held name) (λ bytes. text_limit < length bytes)
    → IsDue (OneFile command name) held (refusal_due (name ∷ []) (limit_refusal 1 (codes "text")))
due_too_long command held name long = due_at (held name) long
  where
    due : Due
    due = refusal_due (name ∷ []) (limit_refusal 1 (codes "text"))

    longest : List ℕ
    longest = replicate (text_limit + 1) 0

    due_at : (bytes : Option (List ℕ)) → IfSome bytes (λ bytes. text_limit < length bytes)
        → MatchOption bytes ((text : List ℕ) × IsDueFor command name text due) (λ text. IsDueFor command name text due)
    due_at None long = (longest, inr (inr (record { long = omega (arith, length-replicate {A = ℕ} (text_limit + 1) 0); owed = refl })))
    due_at (Some bytes) long = inr (inr (record { long = long; owed = refl }))

-- words without a form
pub no_form_told : (asked : Asked) (held : List ℕ → Option (List ℕ)) (before after : Seen) (line : List ℕ) (result : ℕ)
    → asked ≡ NoForm → line ≡ usage_line → OutIsSame before after
    → IsTold 2 line (record { taken = before.err; faults = before.err_faults }) (record { taken = after.err; faults = after.err_faults }) result
    → IsAnswer asked held before after result
no_form_told asked held before after line result no_form usage same tells =
    told (IsDue asked held) (AsksFor asked) (HasForm asked) before after 2 line result (inr (inl refl))
    (subst (λ a. IsDue a held (Says 2 line)) (sym no_form) (ap (λ l. Says 2 l) usage)) same tells

-- more files than a call takes
pub many_files_told : (asked : Asked) (held : List ℕ → Option (List ℕ)) (before after : Seen) (line : List ℕ) (result : ℕ)
    → asked ≡ TooManyFiles → line ≡ refusal_line [] (limit_refusal 0 (codes "files")) → OutIsSame before after
    → IsTold 6 line (record { taken = before.err; faults = before.err_faults }) (record { taken = after.err; faults = after.err_faults }) result
    → IsAnswer asked held before after result
many_files_told asked held before after line result many files same tells =
    told (IsDue asked held) (AsksFor asked) (HasForm asked) before after 6 line result (inr (inr refl))
    (subst (λ a. IsDue a held (Says 6 line)) (sym many) (ap (λ l. Says 6 l) files)) same tells

-- a text that is too long
pub too_long_told : (command : Command) (held : List ℕ → Option (List ℕ)) (before after : Seen) (name : List ℕ) (names : List (List ℕ)) (result : ℕ)
    → IfSome (held name) (λ bytes. text_limit < length bytes) → names ≡ name ∷ [] → OutIsSame before after
    → IsTold 6 (refusal_line names (limit_refusal 1 (codes "text"))) (record { taken = before.err; faults = before.err_faults }) (record { taken = after.err; faults = after.err_faults }) result
    ⊎ IsWant (record { taken = before.err; faults = before.err_faults }) (record { taken = after.err; faults = after.err_faults }) result
    → IsAnswer (OneFile command name) held before after result
too_long_told command held before after name names result long only same (inl tells) =
    told (IsDue (OneFile command name) held) (AsksFor (OneFile command name)) (HasForm (OneFile command name)) before after 6 _ result (inr (inr refl))
    (subst (λ n. IsDue (OneFile command name) held (Says 6 (refusal_line n (limit_refusal 1 (codes "text"))))) (sym only) (due_too_long command held name long)) same tells
too_long_told command held before after name names result long only same (inr wants) =
    wanted (IsDue (OneFile command name) held) (AsksFor (OneFile command name)) (HasForm (OneFile command name)) before after result (name, (command, refl)) same wants

-- a text of which something is made, or whose refusal is told
pub made_or_told : (command : Command) (held : List ℕ → Option (List ℕ)) (before after : Seen) (name text : List ℕ) (names : List (List ℕ)) (result : ℕ)
    → IfSome (held name) (λ bytes. text ≡ bytes) → length text ≤ text_limit → names ≡ name ∷ []
    → IsMadeOrTold command names text (record { taken = before.out; faults = before.out_faults }) (record { taken = after.out; faults = after.out_faults })
    (record { taken = before.err; faults = before.err_faults }) (record { taken = after.err; faults = after.err_faults }) result
    → IsAnswer (OneFile command name) held before after result
made_or_told command held before after name text names result holds fits only (inl (made, is, puts)) =
    put (IsDue (OneFile command name) held) (AsksFor (OneFile command name)) (HasForm (OneFile command name)) before after made result (name, (command, refl))
    (due_for command held name text (Writes made) holds (inl (record { made = made; fits = fits; is = is; owed = refl }))) puts
made_or_told command held before after name text names result holds fits only (inr (inl (refusal, refused, same, tells))) =
    told (IsDue (OneFile command name) held) (AsksFor (OneFile command name)) (HasForm (OneFile command name)) before after (refusal_status refusal.code) (refusal_line names refusal) result
    (of_refusal refusal.code)
    (due_for command held name text (refusal_due names refusal) holds
    (inr (inl (record { refusal = refusal; fits = fits; refused = refused; owed = ap (λ n. refusal_due n refusal) only })))) same tells
made_or_told command held before after name text names result holds fits only (inr (inr (same, wants))) =
    wanted (IsDue (OneFile command name) held) (AsksFor (OneFile command name)) (HasForm (OneFile command name)) before after result (name, (command, refl)) same wants

-- the words that a command has no form for
pub no_file : {A : Type 0} (f : A → List ℕ) (command : Command) (names : List A) → length names < 1 → on_files command (map f names) ≡ NoForm
no_file f command [] none = refl
no_file f command (name ∷ names) none = absurd (omega arith)

pub many_files : {A : Type 0} (f : A → List ℕ) (command : Command) (names : List A) → 2 ≤ length names → on_files command (map f names) ≡ TooManyFiles
many_files f command [] many = absurd (omega arith)
many_files f command (name ∷ []) many = absurd (omega arith)
many_files f command (name ∷ other ∷ names) many = refl

pub none_of_one : {A : Type 0} (f : A → List ℕ) (command : Command) (names : List A) → length names < 1 → on_one command (map f names) ≡ NoForm
none_of_one f command [] none = refl
none_of_one f command (name ∷ names) none = absurd (omega arith)

pub many_of_one : {A : Type 0} (f : A → List ℕ) (command : Command) (names : List A) → 2 ≤ length names → on_one command (map f names) ≡ NoForm
many_of_one f command [] many = absurd (omega arith)
many_of_one f command (name ∷ []) many = absurd (omega arith)
many_of_one f command (name ∷ other ∷ names) many = refl

pub no_words : {A : Type 0} (f : A → List ℕ) (words : List A) → length words < 1 → asked (map f words) ≡ NoForm
no_words f [] none = refl
no_words f (word ∷ words) none = absurd (omega arith)

pub no_such_command : (word : List ℕ) (words : List (List ℕ))
    → false ≡ bytes_eq word (codes "lower") → false ≡ bytes_eq word (codes "check") → false ≡ bytes_eq word (codes "reprint") → false ≡ bytes_eq word (codes "run")
    → asked_by word words ≡ NoForm
no_such_command word words lower check reprint run =
    ap (λ b. if b then on_files Lower words else if bytes_eq word (codes "check") then on_files Check words
    else if bytes_eq word (codes "reprint") then on_one Reprint words else if bytes_eq word (codes "run") then run_asked words else NoForm) (sym lower)
    ∙ ap (λ b. if b then on_files Check words else if bytes_eq word (codes "reprint") then on_one Reprint words
    else if bytes_eq word (codes "run") then run_asked words else NoForm) (sym check)
    ∙ ap (λ b. if b then on_one Reprint words else if bytes_eq word (codes "run") then run_asked words else NoForm) (sym reprint)
    ∙ ap (λ b. if b then run_asked words else NoForm) (sym run)

-- a first word that is no command
pub no_command : {A : Type 0} (f : A → List ℕ) (words : List A) (word : A) (bytes : List ℕ)
    → 1 ≤ length words → word ≡ get_or words 0 word → bytes ≡ f word
    → false ≡ bytes_eq bytes (codes "lower") → false ≡ bytes_eq bytes (codes "check") → false ≡ bytes_eq bytes (codes "reprint") → false ≡ bytes_eq bytes (codes "run")
    → asked (map f words) ≡ NoForm
no_command f [] word bytes some first is lower check reprint run = absurd (omega arith)
no_command f (first_word ∷ words) word bytes some first is lower check reprint run =
    ap (λ w. asked_by w (map f words)) (sym (is ∙ ap f first)) ∙ no_such_command bytes (map f words) lower check reprint run

-- too few words for a run
pub few_words : {A : Type 0} (f : A → List ℕ) (words : List A) → length words < 3 → run_asked (map f words) ≡ NoForm
few_words f [] few = refl
few_words f (steps ∷ []) few = refl
few_words f (steps ∷ entry ∷ []) few = refl
few_words f (steps ∷ entry ∷ answers ∷ names) few = absurd (omega arith)

-- the words of a run
pub run_words : {A : Type 0} (f : A → List ℕ) (words : List A) (steps entry answers : A)
    → 3 ≤ length words → steps ≡ get_or words 0 steps → entry ≡ get_or words 1 entry → answers ≡ get_or words 2 answers
    → run_asked (map f words) ≡ run_on (steps_of (f steps)) (f entry) (answers_of (f answers)) (map f (drop 3 words))
run_words f [] steps entry answers many first second third = absurd (omega arith)
run_words f (one ∷ []) steps entry answers many first second third = absurd (omega arith)
run_words f (one ∷ two ∷ []) steps entry answers many first second third = absurd (omega arith)
run_words f (one ∷ two ∷ three ∷ names) steps entry answers many first second third =
    ap (λ w. run_on (steps_of (f w)) (f two) (answers_of (f three)) (map f names)) (sym first)
    ∙ ap (λ w. run_on (steps_of (f steps)) (f w) (answers_of (f three)) (map f names)) (sym second)
    ∙ ap (λ w. run_on (steps_of (f steps)) (f entry) (answers_of (f w)) (map f names)) (sym third)

pub no_steps : {A : Type 0} (f : A → List ℕ) (words : List A) (steps entry answers : A) (bytes : List ℕ)
    → 3 ≤ length words → steps ≡ get_or words 0 steps → entry ≡ get_or words 1 entry → answers ≡ get_or words 2 answers
    → bytes ≡ f steps → steps_of bytes ≡ None → run_asked (map f words) ≡ NoForm
no_steps f words steps entry answers bytes many first second third is none =
    run_words f words steps entry answers many first second third
    ∙ ap (λ n. run_on n (f entry) (answers_of (f answers)) (map f (drop 3 words))) (ap steps_of (sym is) ∙ none)

pub unanswered : (steps : Option ℕ) (entry : List ℕ) (answers : Option (List ℕ)) (names : List (List ℕ)) → is_some answers ≡ false → run_on steps entry answers names ≡ NoForm
unanswered None entry answers names none = refl
unanswered (Some steps) entry None names none = refl
unanswered (Some steps) entry (Some answers) names none = absurd (true≢false none)

pub no_answers : {A : Type 0} (f : A → List ℕ) (words : List A) (steps entry answers : A) (bytes : List ℕ)
    → 3 ≤ length words → steps ≡ get_or words 0 steps → entry ≡ get_or words 1 entry → answers ≡ get_or words 2 answers
    → bytes ≡ f answers → is_some (answers_of bytes) ≡ false → run_asked (map f words) ≡ NoForm
no_answers f words steps entry answers bytes many first second third is none =
    run_words f words steps entry answers many first second third
    ∙ unanswered (steps_of (f steps)) (f entry) (answers_of (f answers)) (map f (drop 3 words)) (ap (λ b. is_some (answers_of b)) (sym is) ∙ none)

pub answered : (steps : ℕ) (entry : List ℕ) (answers : Option (List ℕ)) (names : List (List ℕ)) → is_some answers ≡ true
    → run_on (Some steps) entry answers names ≡ on_files (Run steps entry (unwrap_or answers [])) names
answered steps entry None names some = absurd (true≢false (sym some))
answered steps entry (Some answers) names some = refl

-- the words of a run that has a form
pub run_formed : {A : Type 0} (f : A → List ℕ) (words : List A) (steps entry answers : A) (n : ℕ) (steps_bytes entry_bytes bytes answers_bytes : List ℕ)
    → 3 ≤ length words → steps ≡ get_or words 0 steps → entry ≡ get_or words 1 entry → answers ≡ get_or words 2 answers
    → steps_bytes ≡ f steps → entry_bytes ≡ f entry → bytes ≡ f answers → answers_bytes ≡ f answers → steps_of steps_bytes ≡ Some n → is_some (answers_of bytes) ≡ true
    → run_asked (map f words) ≡ on_files (Run n entry_bytes (unwrap_or (answers_of answers_bytes) [])) (map f (drop 3 words))
run_formed f words steps entry answers n steps_bytes entry_bytes bytes answers_bytes many first second third is_steps is_entry is_answers are_answers read some =
    run_words f words steps entry answers many first second third
    ∙ ap (λ n. run_on n (f entry) (answers_of (f answers)) (map f (drop 3 words))) (ap steps_of (sym is_steps) ∙ read)
    ∙ answered n (f entry) (answers_of (f answers)) (map f (drop 3 words)) (ap (λ b. is_some (answers_of b)) (sym is_answers) ∙ some)
    ∙ ap (λ e. on_files (Run n e (unwrap_or (answers_of (f answers)) [])) (map f (drop 3 words))) (sym is_entry)
    ∙ ap (λ a. on_files (Run n entry_bytes (unwrap_or (answers_of a) [])) (map f (drop 3 words))) (sym are_answers)
