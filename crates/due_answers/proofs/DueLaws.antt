-- What is due is one thing.
use Rattle.std.specs.Prelude.{Option, IsSome, MatchOption}
use Rattle.std.proofs.Common.{◌≡◌, ℕ, suc, zero, true≢false, true, false, List, [], ◌∷◌, Some, None, refl, sym, ◌∙◌, ap, subst, arith, inl, inr}
use Rattle.ltt_base.specs.Status.{Due, Writes, Says}
use Rattle.ltt_base.specs.declared.refusal.Refusal.{Refusal}
use Rattle.ltt_base.specs.declared.refusal.Placed.{Placed}
use Rattle.ir_values.specs.declared.units.Unit.{Unit as TheUnit}
use Rattle.ir_values.specs.declared.modules.Module.{Module}
use Rattle.ir_print.specs.ModuleText.{module_text}
use Rattle.type_metadata.specs.declared.objects.Object.{Object}
use Rattle.source_runs.specs.Lines.{run_text}
use Rattle.source_runs.specs.Runs.{source_run}
use Rattle.thin_files.specs.declared.thin.Thin.{Thin}
use Rattle.thin_files.specs.Thin.{IsThin, module_of}
use Rattle.thin_files.specs.Laws.{ThinIsDetermined}
use Rattle.test_lowering.specs.Rewriting.{rewritten}
use Rattle.ltt_driver.specs.Asked.{Command, Lower, Check, Reprint, Run, NoForm, TooManyFiles, OneFile}
use Rattle.ltt_driver.specs.Files.{IsMade, IsRefusedBy, IsLoweredTo, IsNotLowered, IsNotRun, IsRun}
use Rattle.ltt_driver.specs.Outcome.{refusal_due, IsDueFor}
use Rattle.due_answers.specs.Laws.{OneIsDue, AcceptedIsDone}
use Rattle.due_answers.proofs.UnitLaws.{Readings, same_units, never_both, one_refusal, one_module}

one_lowered : Readings → ThinIsDetermined → (text : List ℕ) (m n : Module) → IsLoweredTo text m → IsLoweredTo text n → m ≡ n
one_lowered known thin text m n a b =
    let same = same_units known false text a.units b.units a.checked b.checked in
    let thins = thin b.units a.thin b.thin (subst (λ (us : List (Placed TheUnit)). IsThin us a.thin) same a.is) b.is in
    a.made ∙ ap (λ (t : Thin). rewritten (module_of t)) thins ∙ sym b.made

one_run : Readings → (steps : ℕ) (entry answers text made other : List ℕ) → IsRun steps entry answers text made → IsRun steps entry answers text other → made ≡ other
one_run known steps entry answers text made other a b =
    let modules = one_module known false text a.m b.m a.source b.source in
    let begins = a.ran.begins in
    let starts = b.ran.begins in
    let objects : a.ran.object ≡ b.ran.object = cc in
    a.is ∙ ap run_text (a.ran.is ∙ ap (λ (m : Module). source_run (m ∷ []) a.ran.object answers steps) modules
    ∙ ap (λ (o : Object). source_run (b.m ∷ []) o answers steps) objects ∙ sym b.ran.is) ∙ sym b.is

-- a command makes one thing of a text
one_made : Readings → ThinIsDetermined → (command : Command) (text made other : List ℕ) → IsMade command text made → IsMade command text other → made ≡ other
one_made known thin Lower text made other (m, lowered, is) (n, again, so) = is ∙ ap module_text (one_lowered known thin text m n lowered again) ∙ sym so
one_made known thin Check text made other (us, checked, is) (vs, again, so) = is ∙ sym so
one_made known thin Reprint text made other (m, source, is) (n, again, so) = is ∙ ap module_text (one_module known true text m n source again) ∙ sym so
one_made known thin (Run steps entry answers) text made other a b = one_run known steps entry answers text made other a b

-- it refuses a text in one way
one_refused : Readings → (command : Command) (text : List ℕ) (refusal other : Refusal) → IsRefusedBy command text refusal → IsRefusedBy command text other
    → refusal ≡ other
unfolding IsNotLowered IsNotRun
one_refused known Lower text refusal other (inl a) (inl b) = one_refusal known false text refusal other a b
one_refused known Lower text refusal other (inl a) (inr b) = absurd (never_both known false text b.units refusal b.checked a)
one_refused known Lower text refusal other (inr a) (inl b) = absurd (never_both known false text a.units other a.checked b)
one_refused known Lower text refusal other (inr a) (inr b) = a.is ∙ sym b.is
one_refused known Check text refusal other a b = one_refusal known false text refusal other a b
one_refused known Reprint text refusal other a b = one_refusal known true text refusal other a b
one_refused known (Run steps entry answers) text refusal other (inl a) (inl b) = one_refusal known false text refusal other a b
one_refused known (Run steps entry answers) text refusal other (inl a) (inr b) = absurd (never_both known false text b.source.units refusal b.source.checked a)
one_refused known (Run steps entry answers) text refusal other (inr a) (inl b) = absurd (never_both known false text a.source.units other a.source.checked b)
one_refused known (Run steps entry answers) text refusal other (inr a) (inr b) = a.none.is ∙ sym b.none.is

-- and doesn't refuse one of which it makes something
made_refused : Readings → (command : Command) (text made : List ℕ) (refusal : Refusal) → IsMade command text made → IsRefusedBy command text refusal → ⊥
unfolding IsNotLowered IsNotRun
made_refused known Lower text made refusal (m, lowered, is) (inl b) = never_both known false text lowered.units refusal lowered.checked b
made_refused known Lower text made refusal (m, lowered, is) (inr b) =
    b.no_thin lowered.thin (subst (λ (us : List (Placed TheUnit)). IsThin us lowered.thin)
    (same_units known false text lowered.units b.units lowered.checked b.checked) lowered.is)
made_refused known Check text made refusal (us, checked, is) b = never_both known false text us refusal checked b
made_refused known Reprint text made refusal (m, source, is) b = never_both known true text source.units refusal source.checked b
made_refused known (Run steps entry answers) text made refusal a (inl b) = never_both known false text a.source.units refusal a.source.checked b
made_refused known (Run steps entry answers) text made refusal a (inr b) =
    let modules = one_module known false text a.m b.m a.source b.source in
    let begins = a.ran.begins in
    let none = b.none.none in
    absurd (cc)

one_for : Readings → ThinIsDetermined → (command : Command) (name text : List ℕ) (due other : Due) → IsDueFor command name text due
    → IsDueFor command name text other → due ≡ other
one_for known thin command name text due other (inl a) (inl b) = a.owed ∙ ap Writes (one_made known thin command text a.made b.made a.is b.is) ∙ sym b.owed
one_for known thin command name text due other (inl a) (inr (inl b)) = absurd (made_refused known command text a.made b.refusal a.is b.refused)
one_for known thin command name text due other (inl a) (inr (inr b)) = absurd (omega (arith, a.fits, b.long))
one_for known thin command name text due other (inr (inl a)) (inl b) = absurd (made_refused known command text b.made a.refusal b.is a.refused)
one_for known thin command name text due other (inr (inl a)) (inr (inl b)) =
    a.owed ∙ ap (refusal_due (name ∷ [])) (one_refused known command text a.refusal b.refusal a.refused b.refused) ∙ sym b.owed
one_for known thin command name text due other (inr (inl a)) (inr (inr b)) = absurd (omega (arith, a.fits, b.long))
one_for known thin command name text due other (inr (inr a)) (inl b) = absurd (omega (arith, b.fits, a.long))
one_for known thin command name text due other (inr (inr a)) (inr (inl b)) = absurd (omega (arith, b.fits, a.long))
one_for known thin command name text due other (inr (inr a)) (inr (inr b)) = a.owed ∙ sym b.owed

one_told : Readings → ThinIsDetermined → (command : Command) (name : List ℕ) (held : Option (List ℕ)) (due other : Due) → IsSome held
    → MatchOption held ((text : List ℕ) × IsDueFor command name text due) (λ text. IsDueFor command name text due)
    → MatchOption held ((text : List ℕ) × IsDueFor command name text other) (λ text. IsDueFor command name text other) → due ≡ other
one_told known thin command name None due other tells a b = absurd (true≢false (sym tells))
one_told known thin command name (Some text) due other tells a b = one_for known thin command name text due other a b

pub one_is_due : Readings → ThinIsDetermined → OneIsDue
one_is_due known thin NoForm held due other tells a b = a ∙ sym b
one_is_due known thin TooManyFiles held due other tells a b = a ∙ sym b
one_is_due known thin (OneFile command name) held due other tells a b = one_told known thin command name (held name) due other tells a b

written : (text line : List ℕ) (status : ℕ) → Writes text ≡ Says status line → ⊥
written text line status same = absurd (cc)

pub accepted_is_done : OneIsDue → AcceptedIsDone
accepted_is_done one asked held text before after zero tells due quiet means = inl refl
accepted_is_done one asked held text before after (suc zero) tells due quiet means =
    absurd (written text means.line 1 (one asked held (Writes text) (Says 1 means.line) tells due means.due))
accepted_is_done one asked held text before after (suc (suc zero)) tells due quiet means =
    absurd (written text means.line 2 (one asked held (Writes text) (Says 2 means.line) tells due means.due))
accepted_is_done one asked held text before after (suc (suc (suc zero))) tells due quiet means = absurd (quiet.files means.name means.comes means.rose)
accepted_is_done one asked held text before after (suc (suc (suc (suc zero)))) tells due quiet (inl means) = absurd (quiet.out means.rose)
accepted_is_done one asked held text before after (suc (suc (suc (suc zero)))) tells due quiet (inr (inl means)) = absurd (quiet.err means.rose)
accepted_is_done one asked held text before after (suc (suc (suc (suc zero)))) tells due quiet (inr (inr means)) = absurd (quiet.err means.rose)
accepted_is_done one asked held text before after (suc (suc (suc (suc (suc zero))))) tells due quiet means = inr refl
accepted_is_done one asked held text before after (suc (suc (suc (suc (suc (suc zero)))))) tells due quiet means =
    absurd (written text means.line 6 (one asked held (Writes text) (Says 6 means.line) tells due means.due))
accepted_is_done one asked held text before after (suc (suc (suc (suc (suc (suc (suc status))))))) tells due quiet means = absurd means
