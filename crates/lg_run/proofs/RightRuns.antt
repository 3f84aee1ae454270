-- The document of a run without idioms, whatever its inputs are: its journal holds, and each answer, and its bytes are the lines of them.
use Rattle.std.proofs.Common.{◌≡◌, ◌∙◌, ℕ, ◌≤◌, Bool, true, false, List, [], ◌∷◌, ◌++◌, map, Option, Some, None, codes, decimal, refl, sym, ap, append_assoc, arith}
use Rattle.std.specs.FinMap.{entries}
use Rattle.std.specs.List.{flat_map}
use Rattle.std.proofs.lemmas.Grind.{flat_map-append}
use Rattle.lg_base.specs.Contents.{Contents}
use Rattle.lg_gram.specs.Linkages.{Linkage}
use Rattle.lg_gram.specs.declared.listing.Token.{Token}
use Rattle.lg_gram.specs.declared.reply.Place.{Place}
use Rattle.lg_dict.specs.Dictionary.{Dictionary}
use Rattle.lg_knowread.specs.declared.knowledge.Knowledge.{Knowledge}
use Rattle.lg_token.specs.Spans.{LieInOrder}
use Rattle.lg_token.specs.Tokens.{AreTokens}
use Rattle.lg_answer.specs.declared.options.Options.{Options}
use Rattle.lg_script.specs.Commands.{CommandView}
use Rattle.lg_script.specs.SingleLines.{ScriptsHaveSingleLines}
use Rattle.lg_text.specs.Shown.{closed}
use Rattle.lg_text.specs.declared.look.Look.{Look}
use Rattle.lg_usage.specs.Totals.{Totals, usage_line, usage_text}
use Rattle.lg_audit.specs.Audits.{JournalHolds, Holds, IsPlaceOf}
use Rattle.lg_audit.specs.ShownAnswers.{Unread, unread_by, counted_if, shown_document, AnswersHaveLines}
use Rattle.lg_run.specs.Audits.{DocumentsHold}
use Rattle.lg_run.specs.Documents.{all_first_linkages, AreUsageLines, IsOutcome}
use Rattle.lg_run.specs.Shown.{IsRunOf}
use Rattle.lg_run.specs.Words.{Run, TaskIs, run, OptionsAre, Known, GivesNumber, value_of}
use Rattle.lg_run.specs.declared.setup.Setup.{Setup}
use Rattle.lg_run.proofs.DocumentLines.{document_is}
use Rattle.lg_run.proofs.RightAnswers.{journal_holds, answers_hold}
use Rattle.lg_run.proofs.ShownInputs.{KeepBounds, scripts_in_bounds}

-- a number that an option gives is not 0
some_given : (value : Option (List ℕ)) (usual n : ℕ) → 1 ≤ usual → GivesNumber value usual n → 1 ≤ n
some_given None usual n some is = omega (arith, some, is)
some_given (Some value) usual n some is = is.least

-- nor a great one
few_given : (value : Option (List ℕ)) (usual n : ℕ) → usual ≤ 1000000 → GivesNumber value usual n → n ≤ 1000000
few_given None usual n few is = omega (arith, few, is)
few_given (Some value) usual n few is = is.most

pub record HasSomeCounts (options : Options) : Type 0 where
  pub want : 1 ≤ options.want
  pub examine : 1 ≤ options.examine
  pub few : options.examine ≤ 1000000

options_count : (known : Known) (front : List (List ℕ)) (setup : Setup) → OptionsAre known front setup → HasSomeCounts setup.listing
options_count known front setup is = record {
  want = some_given (value_of (codes "want") is.settings) 10 setup.listing.want (omega arith) is.given.want;
  examine = some_given (value_of (codes "examine") is.settings) 1000 setup.listing.examine (omega arith) is.given.examine;
  few = few_given (value_of (codes "examine") is.settings) 1000 setup.listing.examine (omega arith) is.given.examine;
}

pub task_counts : (words : List (List ℕ)) (setup : Setup) (dictionary knowledge : List ℕ) (files : List (List ℕ)) → TaskIs words (Run setup dictionary knowledge files) → HasSomeCounts setup.listing
task_counts _ _ _ _ _ (run front setup dictionary knowledge files options operands some most) = options_count _ front setup options

module _ (singles : ScriptsHaveSingleLines) (keeps : KeepBounds) (in_order : (dict : Dictionary) (text : List ℕ) (tokens : List Token) → AreTokens dict text tokens → LieInOrder text tokens)
    (contents : Contents) (words : List (List ℕ)) (setup : Setup) (dict : Dictionary) (know : Knowledge) (scripts : List (List CommandView)) (document : List ℕ)
    (is : IsRunOf contents words setup dict know scripts) (outcome : IsOutcome setup dict know scripts document) (unread : Unread) (usage : List (List ℕ)) where
  pub run_journal_holds : JournalHolds (record { base = dict; know = know; scripts = scripts }) (shown_document unread outcome.replies outcome.journal usage)
  run_journal_holds = journal_holds unread know setup.listing scripts dict outcome.journal outcome.replies usage outcome.legal

  pub run_answers_hold : setup.listing.idioms ≡ false → unread.counts None ≡ None → (p : Place) → IsPlaceOf (record { base = dict; know = know; scripts = scripts }) p
      → Holds (record { base = dict; know = know; scripts = scripts }) (shown_document unread outcome.replies outcome.journal usage) p
  run_answers_hold plain no_counts p there =
      let counts = task_counts words setup is.dictionary is.knowledge is.files is.form in
      answers_hold unread know setup.listing scripts dict outcome.journal outcome.replies usage plain counts.want counts.examine no_counts
      (scripts_in_bounds singles keeps in_order contents words setup dict know scripts is) outcome.legal outcome.whole p there

-- ---- lines of totals

abbrev pub bare_line : List ℕ → List ℕ × ℕ → List ℕ
bare_line kind entry = codes "usage " ++ (kind ++ (32 ∷ (entry.0 ++ (32 ∷ decimal entry.1))))

line_is : (kind : List ℕ) (entry : List ℕ × ℕ) → usage_line kind entry ≡ closed (bare_line kind entry)
line_is kind entry =
    sym (append_assoc (codes "usage ") (kind ++ (32 ∷ (entry.0 ++ (32 ∷ decimal entry.1)))) (10 ∷ [])
    ∙ ap (λ (rest : List ℕ). codes "usage " ++ rest) (append_assoc kind (32 ∷ (entry.0 ++ (32 ∷ decimal entry.1))) (10 ∷ [])
    ∙ ap (λ (rest : List ℕ). kind ++ (32 ∷ rest)) (append_assoc entry.0 (32 ∷ decimal entry.1) (10 ∷ []))))

kind_lines : (kind : List ℕ) (es : List (List ℕ × ℕ)) → flat_map (usage_line kind) es ≡ flat_map closed (map (bare_line kind) es)
kind_lines kind [] = refl
kind_lines kind (e ∷ es) = λ i. line_is kind e i ++ kind_lines kind es i

abbrev pub bare_lines : Totals → List (List ℕ)
bare_lines t = map (bare_line (codes "word")) (entries t.words) ++ map (bare_line (codes "label")) (entries t.labels)

-- lines of totals are lines
pub totals_are : (t : Totals) → usage_text t ≡ flat_map closed (bare_lines t)
totals_are t =
    (λ i. kind_lines (codes "word") (entries t.words) i ++ kind_lines (codes "label") (entries t.labels) i)
    ∙ sym (flat_map-append closed (map (bare_line (codes "word")) (entries t.words)) (map (bare_line (codes "label")) (entries t.labels)))

lines_of : (usage : Bool) (gs : List Linkage) (lines : List ℕ) → AreUsageLines usage gs lines → (ls : List (List ℕ)) × (lines ≡ flat_map closed ls)
lines_of false gs lines is = ([], is)
lines_of true gs lines is = (bare_lines is.0, is.2 ∙ totals_are is.0)

pub no_counts : (look : Look) → (unread_by look).counts None ≡ None
no_counts look = by look.stats
  where
    by : (asked : Bool) → counted_if asked None ≡ None
    by true = refl
    by false = refl

pub documents_hold : ScriptsHaveSingleLines → KeepBounds → ((dict : Dictionary) (text : List ℕ) (tokens : List Token) → AreTokens dict text tokens → LieInOrder text tokens) → AnswersHaveLines → DocumentsHold
documents_hold singles keeps in_order lines_are contents words setup dict know scripts document is plain outcome =
    let unread = unread_by setup.look in
    let usage = lines_of setup.usage (all_first_linkages scripts outcome.replies) outcome.lines outcome.counted in (
      shown_document unread outcome.replies outcome.journal usage.0,
      record {
        lines = outcome.is ∙ document_is lines_are setup.look scripts outcome.replies outcome.journal outcome.lines usage.0 usage.1;
        journal = run_journal_holds singles keeps in_order contents words setup dict know scripts document is outcome unread usage.0;
        answers = run_answers_hold singles keeps in_order contents words setup dict know scripts document is outcome unread usage.0 plain (no_counts setup.look);
      },
    )
