-- Commands by their word and rest, from what the reader's tests say.
use Rattle.std.proofs.Common.{◌≡◌, ◌≢◌, ℕ, Bool, true, false, List, [], ◌∷◌, ◌++◌, length, Err, refl, sym, ap, subst, ◌∙◌, arith}
use Rattle.std.specs.Prelude.{◌==◌, ◌↔◌}
use Rattle.std.proofs.lemmas.List.{append-nil}
use Rattle.std.proofs.lemmas.Bool.Decides.{Decides-eqb}
use Rattle.std.proofs.lemmas.Slice.Eq.{slice_eq-Decides}
use Rattle.std.specs.Cmp.Lexicographic.{pointwise}
use Rattle.lg_lex.specs.declared.run.Separators.TheVariants.{Blanks}
use Rattle.lg_lex.specs.Runs.{AreInner, EndsRun}
use Rattle.lg_dictread.specs.declared.entry_text.EntryError.{EntryError}
use Rattle.lg_dictread.specs.declared.entry_text.EntryError.TheVariants as entry_errors
use Rattle.lg_dictread.specs.EntryTexts.{EntryTextIs, TellsEntryText}
use Rattle.lg_script.specs.declared.script_error.ScriptError.{ScriptError}
use Rattle.lg_script.specs.Commands.{Fault, bad_edit}
use Rattle.lg_script.specs.Telling.{TellsFault, IsRefusal}
use Rattle.lg_script.proofs.Cuts.{same_run}

pub nothing : (rest : List ℕ) (b : Bool) → b ≡ (length rest == 0) → b ≡ true → rest ≡ []
nothing [] b e h = refl
nothing (c ∷ rest) b e h = let wrong : length (c ∷ rest) ≡ 0 = (Decides-eqb (length (c ∷ rest)) 0).0 (sym e ∙ h) in absurd (omega (arith, wrong))

pub something : (rest : List ℕ) (b : Bool) → b ≡ (length rest == 0) → b ≡ false → rest ≢ []
something [] b e h = let wrong : false ≡ true = sym h ∙ e in absurd cc
something (c ∷ rest) b e h = λ q. cc

-- a test that fails
pub fails : {P : Type 0} (b : Bool) → (b ≡ true) ↔ P → b ≡ false → P → ⊥
fails b test is p = let wrong : false ≡ true = sym is ∙ test.1 p in absurd cc

pub word_test : (bytes word behind : List ℕ) (b : Bool) → bytes ≡ word ++ behind → AreInner Blanks word → EndsRun Blanks behind → b ≡ (length behind == 0) → (b ≡ true) ↔ AreInner Blanks bytes
word_test bytes word behind b split inner ends e = (
  (λ t. subst (AreInner Blanks) (sym (split ∙ ap (λ (x : List ℕ). word ++ x) (nothing behind b e t) ∙ append-nil word)) inner),
  (λ all. e ∙ ap (λ (x : List ℕ). length x == 0) (sym (same_run bytes word [] behind all inner tt ends (append-nil bytes ∙ split)).1)),
)

-- a text that is no entry
pub refused : (rest : List ℕ) (line : ℕ) (Has : Fault → Type 0) (error : EntryError) (r : ScriptError) → TellsEntryText rest (Err error) → IsRefusal line error r
    → (EntryTextIs rest (Err error) → Has bad_edit) → TellsFault line Has r
refused rest line Has entry_errors.NoMemory r tells is bad = subst (TellsFault line Has) (sym is) tt
refused rest line Has (entry_errors.NotUtf8 n) r tells is bad = subst (TellsFault line Has) (sym is) (refl, bad tells)
refused rest line Has (entry_errors.Syntax l c) r tells is bad = subst (TellsFault line Has) (sym is) (refl, bad tells)
refused rest line Has (entry_errors.CostForm l) r tells is bad = subst (TellsFault line Has) (sym is) (refl, bad tells)
refused rest line Has (entry_errors.TooDeep l) r tells is bad = subst (TellsFault line Has) (sym is) (refl, bad tells)

-- a word that was compared, and is another
pub differs : (w s t : List ℕ) (b : Bool) → b ≡ pointwise ◌==◌ w s → s ≡ t → b ≡ false → w ≢ t
differs w s t b e is h same = let wrong : false ≡ true = sym h ∙ (slice_eq-Decides Decides-eqb w s b e).1 (same ∙ sym is) in absurd cc
