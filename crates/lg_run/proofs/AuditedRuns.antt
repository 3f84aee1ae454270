-- The document of a run without idioms, whatever its inputs are, is one as an audit reads it; so its audit is a yes.
use Rattle.std.proofs.Common.{◌≡◌, ◌∙◌, ℕ, zero, suc, ◌+◌, ◌-◌, ◌^◌, ◌≤◌, ◌<◌, false, List, map, length, Option, Some, None, Ok, Err, Result, slice_get, option_map, refl, sym, ap, subst, arith}
use Rattle.std.specs.List.{AllByRecursion}
use Rattle.std.proofs.lemmas.List.{length-map}
use Rattle.std.proofs.lemmas.List.Elements.{recursion_from_All}
use Rattle.lg_base.specs.Contents.{Contents}
use Rattle.lg_gram.specs.declared.listing.Page.{Page}
use Rattle.lg_gram.specs.declared.listing.Token.{Token}
use Rattle.lg_gram.specs.declared.reply.Reply.{Reply}
use Rattle.lg_dict.specs.Dictionary.{Dictionary}
use Rattle.lg_dictread.specs.Limits.{FILE}
use Rattle.lg_export.specs.Exportable.{IsExportable}
use Rattle.lg_export.specs.Read.{ReadIsExportable, EditedIsExportable}
use Rattle.lg_knowread.specs.declared.fault.KnowError.{KnowError}
use Rattle.lg_knowread.specs.declared.knowledge.Knowledge.{Knowledge}
use Rattle.lg_knowread.specs.Reading.{KnowledgeIs}
use Rattle.lg_token.specs.Spans.{LieInOrder}
use Rattle.lg_token.specs.Tokens.{AreTokens}
use Rattle.lg_script.specs.Bounds.{AreInBounds}
use Rattle.lg_script.specs.Commands.{CommandView}
use Rattle.lg_script.specs.Histories.{numbered, reply_version, version_of}
use Rattle.lg_script.specs.Kinds.{kind_of}
use Rattle.lg_script.specs.SingleLines.{ScriptsHaveSingleLines}
use Rattle.lg_session.specs.Engines.{Progress}
use Rattle.lg_text.specs.Shown.{IsPlainReply}
use Rattle.lg_text.specs.declared.look.Look.{Look}
use Rattle.lg_audit.specs.Audits.{IsAudit, shown_count}
use Rattle.lg_audit.specs.Documents.{ShownDocument, Shows, IsReplyInForm, AreRepliesInForm}
use Rattle.lg_audit.specs.Lines.{ShownReply}
use Rattle.lg_audit.specs.ShownAnswers.{unread_by, shown_reply, shown_document, AnswersHaveLines, AnswersAreInForm}
use Rattle.lg_audit.specs.declared.answer.AuditAnswer.TheVariants.{Yes}
use Rattle.lg_run.specs.Audits.{DocumentsAreAudited}
use Rattle.lg_run.specs.Documents.{listings, IsShown, all_first_linkages, IsOutcome}
use Rattle.lg_run.specs.Inputs.{Given, OneGiven, RunGiven, GenGiven, ExportGiven, AuditGiven, given, accepted, Followed, FileIs, absent, long, whole, found_knowledge, KnowledgeReads, reads_knowledge, KnowledgeInput, DictionaryInput, ScriptsInput, EditsRead, ScriptsGiven, KnowledgeGiven, InputsAre}
use Rattle.lg_run.specs.Joints.{run}
use Rattle.lg_run.specs.Shown.{ArePlain, HasPlainTexts, IsRunOf}
use Rattle.lg_run.specs.Words.{Run}
use Rattle.lg_run.specs.declared.setup.Setup.{Setup}
use Rattle.lg_run.proofs.DocumentLines.{document_is}
use Rattle.lg_run.proofs.ExportedTexts.{IfFound, Gives, followed_gives, given_gives}
use Rattle.lg_run.proofs.Joints.{any_gives, task_gives, lists_can}
use Rattle.lg_run.proofs.Numbers.{are_plain}
use Rattle.lg_run.proofs.PlainAnswers.{at_number, texts_plain}
use Rattle.lg_run.proofs.RightRuns.{run_journal_holds, run_answers_hold, HasSomeCounts, task_counts, no_counts}
use Rattle.lg_run.proofs.RightVersions.{numbered_map}
use Rattle.lg_run.proofs.RulesFew.{rules_few}
use Rattle.lg_run.proofs.ShownInputs.{KeepBounds, inputs_of, singles_of, short_scripts, scripts_in_bounds}
use Rattle.lg_run.proofs.SolidAnswers.{AreInForm, no_reply, one_reply, answers_form}
use Rattle.lg_run.proofs.SolidPages.{page_solid}
use Rattle.lg_run.proofs.SolidTokens.{tokens_solid}
use Rattle.lg_run.proofs.Turned.{no_farther, stops_near}
use Rattle.lg_run.proofs.UsageLines.{sessions_plain, AreLines, usage_lines}

-- ---- the knowledge has few rules

abbrev HasFewRules : Knowledge → Type 0
HasFewRules know = length know.rules < 2 ^ 32

abbrev GivesFewRules : Given → Type 0
GivesFewRules (OneGiven setup dict sentence) = Unit {0}
GivesFewRules (RunGiven setup dict know scripts) = HasFewRules know
GivesFewRules (GenGiven seed words sentences) = Unit {0}
GivesFewRules (ExportGiven text) = Unit {0}
GivesFewRules (AuditGiven dict know scripts bytes) = Unit {0}

short_file : (contents : Contents) (name : List ℕ) → Gives (FileIs contents name) (λ bytes. length bytes ≤ FILE)
short_file contents name _ _ (absent is) = tt
short_file contents name _ _ (long bytes is much) = tt
short_file contents name _ _ (whole bytes is within) = within

read_few : (name bytes : List ℕ) (x : Result Knowledge KnowError) → length bytes ≤ FILE → KnowledgeIs bytes x → IfFound HasFewRules (found_knowledge name x)
read_few name bytes (Ok know) short is = let few = rules_few bytes know is in omega (arith, few, short)
read_few name bytes (Err error) short is = tt

few_in_text : (name bytes : List ℕ) → length bytes ≤ FILE → Gives (KnowledgeReads name bytes) HasFewRules
few_in_text name bytes short _ _ (reads_knowledge x is) = read_few name bytes x short is

few_given : (contents : Contents) (setup : Setup) (dictionary knowledge : List ℕ) (files : List (List ℕ)) → Gives (InputsAre contents (Run setup dictionary knowledge files)) GivesFewRules
few_given contents setup dictionary knowledge files =
    followed_gives (DictionaryInput contents dictionary) (λ dict. KnowledgeGiven contents setup dict knowledge files) (λ dict. Unit {0}) GivesFewRules (any_gives (DictionaryInput contents dictionary))
    (λ dict none. followed_gives (KnowledgeInput contents knowledge) (λ know. ScriptsGiven contents setup dict know files) HasFewRules GivesFewRules
    (followed_gives (FileIs contents knowledge) (KnowledgeReads knowledge) (λ bytes. length bytes ≤ FILE) HasFewRules (short_file contents knowledge) (λ bytes short. few_in_text knowledge bytes short))
    (λ know few. followed_gives (Followed (ScriptsInput contents files) (EditsRead files)) (λ scripts. given (RunGiven setup dict know scripts)) (λ scripts. Unit {0}) GivesFewRules (any_gives (Followed (ScriptsInput contents files) (EditsRead files)))
    (λ scripts none. given_gives (RunGiven setup dict know scripts) GivesFewRules few)))

-- ---- answers by their numbers

mapped : {A B : Type 0} (f : A → B) (o : Option A) (y : B) → option_map f o ≡ Some y → (x : A) × (o ≡ Some x) × (f x ≡ y)
mapped f None y e = absurd (cc e)
mapped f (Some x) y e = (x, refl, (let same : f x ≡ y = cc in same))

module _ (look : Look) (in_form : AnswersAreInForm) where
  abbrev shown : Reply → ShownReply
  shown r = shown_reply (unread_by look) r

  form_at : (commands : List CommandView) (rs : List Reply) (k : ℕ) (command : CommandView) (r : ShownReply) → AreInForm commands rs → slice_get commands k ≡ Some command → slice_get (map shown rs) k ≡ Some r → IsReplyInForm (kind_of command) r
  form_at _ _ k command r (no_reply commands) e f = absurd (cc f)
  form_at _ _ zero command r (one_reply c commands q rs is rest) e f =
      let same : c ≡ command = cc in
      let shows : shown q ≡ r = cc in
      subst (λ d. IsReplyInForm (kind_of d) r) same (subst (IsReplyInForm (kind_of c)) shows (in_form look (kind_of c) q is.answers is.bare is.solid))
  form_at _ _ (suc k) command r (one_reply c commands q rs is rest) e f = form_at commands rs k command r rest e f

  form_numbered : (commands : List CommandView) (rs : List Reply) (n : ℕ) (command : CommandView) (r : ShownReply) → AreInForm commands rs → numbered commands n ≡ Some command → numbered (map shown rs) n ≡ Some r → IsReplyInForm (kind_of command) r
  form_numbered commands rs zero command r forms e f = absurd (cc e)
  form_numbered commands rs (suc n) command r forms e f = form_at commands rs n command r forms e f

-- ---- the run

module _ (singles : ScriptsHaveSingleLines) (keeps : KeepBounds) (in_order : (dict : Dictionary) (text : List ℕ) (tokens : List Token) → AreTokens dict text tokens → LieInOrder text tokens)
    (in_form : AnswersAreInForm) (read_can : ReadIsExportable) (edited_can : EditedIsExportable)
    (contents : Contents) (words : List (List ℕ)) (setup : Setup) (dict : Dictionary) (know : Knowledge) (scripts : List (List CommandView)) (document : List ℕ)
    (is : IsRunOf contents words setup dict know scripts) (plain : setup.listing.idioms ≡ false) (outcome : IsOutcome setup dict know scripts document) where
  texts_are_plain : HasPlainTexts outcome.replies
  texts_are_plain =
      let inputs = inputs_of singles keeps in_order contents words setup dict know scripts is in
      texts_plain know setup.listing scripts dict outcome.journal in_order (singles_of scripts inputs.scripts_are.each) inputs.plain outcome.replies outcome.legal

  numbers : ArePlain scripts outcome.replies outcome.journal
  numbers = are_plain setup dict know scripts document outcome (short_scripts singles keeps in_order contents words setup dict know scripts is) texts_are_plain

  every_can : (n : ℕ) → IsExportable (version_of scripts dict outcome.journal n)
  every_can n =
      lists_can edited_can _ _ (task_gives read_can contents (Run setup is.dictionary is.knowledge is.files) is.names (accepted (RunGiven setup dict know scripts)) is.read)
      (run setup dict know scripts outcome.journal n)

  few_rules : HasFewRules know
  few_rules = few_given contents setup is.dictionary is.knowledge is.files is.names (accepted (RunGiven setup dict know scripts)) is.read

  counts : HasSomeCounts setup.listing
  counts = task_counts words setup is.dictionary is.knowledge is.files is.form

  near : (d : Dictionary) (progress : Progress) (page : Page) → IsShown know setup.listing d progress page → page.next - 1 ≤ progress.position + 1000000
  near d progress page shown =
      let stops = stops_near shown.problem know setup.listing.nulls shown.place _ setup.listing.examine page shown.shown in
      let low = no_farther shown.problem know setup.listing.nulls progress.position shown.place shown.behind in
      let few = counts.few in
      omega (arith, stops, low, few)

  session_form : (session : ℕ) (commands : List CommandView) (rs : List Reply) → numbered scripts session ≡ Some commands → numbered outcome.replies session ≡ Some rs → AreInForm commands rs
  session_form zero commands rs e f = absurd (cc e)
  session_form (suc n) commands rs e f =
      let legal = outcome.legal.sessions (suc n) commands rs e f in
      let bounds = at_number AreInBounds scripts n commands (recursion_from_All AreInBounds scripts (scripts_in_bounds singles keeps in_order contents words setup dict know scripts is)) e in
      let few = bounds.few in
      answers_form (listings know setup.listing) scripts dict outcome.journal numbers.few every_can (λ d text ts are. (tokens_solid d text ts are).1) near
      (λ d progress page can low shown one. page_solid know setup.listing plain counts.few few_rules d progress page can low shown one)
      (suc n) 1 None commands rs legal.answered (omega arith) (omega (arith, few)) (recursion_from_All _ commands bounds.each)
      (at_number (λ (l : List Reply). AllByRecursion IsPlainReply l) outcome.replies n rs texts_are_plain f) (recursion_from_All (λ (r : Reply). reply_version r ≤ length outcome.journal) rs legal.in_time.there) tt

  abbrev shown_replies : List (List ShownReply)
  shown_replies = map (map (shown_reply (unread_by setup.look))) outcome.replies

  -- the answers of a session that are shown are those of the run
  row : (session : ℕ) (qs : List ShownReply) → numbered shown_replies session ≡ Some qs → (rs : List Reply) × (numbered outcome.replies session ≡ Some rs) × (map (shown_reply (unread_by setup.look)) rs ≡ qs)
  row session qs e = mapped (map (shown_reply (unread_by setup.look))) (numbered outcome.replies session) qs (sym (numbered_map (map (shown_reply (unread_by setup.look))) outcome.replies session) ∙ e)

  replies_form : AreRepliesInForm scripts shown_replies
  replies_form = record {
    sessions = length-map outcome.replies (map (shown_reply (unread_by setup.look))) ∙ outcome.legal.same_length;
    each = λ session commands qs e f.
        let own = row session qs f in
        sym (ap length own.2) ∙ length-map own.0 (shown_reply (unread_by setup.look)) ∙ outcome.whole session commands own.0 e own.1;
    form = λ session n commands qs command r e f g h.
        let own = row session qs f in
        form_numbered setup.look in_form commands own.0 n command r (session_form session commands own.0 e own.1) g (ap (λ l. numbered l n) own.2 ∙ h);
  }

  totals : AreLines outcome.lines
  totals = usage_lines setup.usage (all_first_linkages scripts outcome.replies) outcome.lines outcome.counted (sessions_plain scripts outcome.replies texts_are_plain)

  abbrev shown_all : ShownDocument
  shown_all = shown_document (unread_by setup.look) outcome.replies outcome.journal totals.lines_are

  shows : AnswersHaveLines → Shows scripts document shown_all
  shows lines_are = record {
    replies = replies_form;
    journal = numbers.places;
    count = numbers.few;
    usage = totals.unread;
    is = outcome.is ∙ document_is lines_are setup.look scripts outcome.replies outcome.journal outcome.lines totals.lines_are totals.is;
  }

  audited : AnswersHaveLines → (count : ℕ) × IsAudit (record { base = dict; know = know; scripts = scripts }) document (Yes count)
  audited lines_are = (
    shown_count shown_all,
    (
      shown_all,
      shows lines_are,
      run_journal_holds singles keeps in_order contents words setup dict know scripts document is outcome (unread_by setup.look) totals.lines_are,
      run_answers_hold singles keeps in_order contents words setup dict know scripts document is outcome (unread_by setup.look) totals.lines_are plain (no_counts setup.look),
      refl,
    ),
  )

pub documents_are_audited : ScriptsHaveSingleLines → KeepBounds → ((dict : Dictionary) (text : List ℕ) (tokens : List Token) → AreTokens dict text tokens → LieInOrder text tokens) → AnswersHaveLines → AnswersAreInForm
    → ReadIsExportable → EditedIsExportable → DocumentsAreAudited
documents_are_audited singles keeps in_order lines_are in_form read_can edited_can contents words setup dict know scripts document is plain outcome =
    audited singles keeps in_order in_form read_can edited_can contents words setup dict know scripts document is plain outcome lines_are
