-- No text of a legal answer has a line feed, if no text of the scripts has one, nor of the dictionary.
use Rattle.std.proofs.Common.{◌≡◌, ℕ, zero, suc, ◌+◌, ◌-◌, ◌<◌, List, [], ◌∷◌, length, take, drop, Option, Some, None, IfSome, slice_get, slice_index_or, refl, sym, subst, arith}
use Rattle.std.specs.List.{AllByRecursion}
use Rattle.std.proofs.lemmas.List.Elements.{recursion_from_All}
use Rattle.std.proofs.lemmas.Option.{get_or_from_slice_get, slice_get_within}
use Rattle.lg_gram.specs.Linkages.{Linkage}
use Rattle.lg_gram.specs.Rules.{Good}
use Rattle.lg_gram.specs.declared.disjunct.Disjunct.{Disjunct}
use Rattle.lg_gram.specs.declared.edit.EditRefusal.{EditRefusal}
use Rattle.lg_gram.specs.declared.edit.EditRefusal.TheVariants.{UnknownMacro, TooDeep, TooManyNodes, TooManyChoices, SideTooLong, NoSuchWord}
use Rattle.lg_gram.specs.declared.listing.Page.{Page}
use Rattle.lg_gram.specs.declared.listing.Token.{Token}
use Rattle.lg_gram.specs.declared.reply.Place.{Place}
use Rattle.lg_gram.specs.declared.reply.Reply.{Reply}
use Rattle.lg_dict.specs.Dictionary.{Dictionary}
use Rattle.lg_edit.specs.Edits.{EditView}
use Rattle.lg_expr.proofs.AllOf.{all_right}
use Rattle.lg_knowread.specs.declared.knowledge.Knowledge.{Knowledge}
use Rattle.lg_token.specs.Spans.{LiesIn, is_piece, is_left_wall, is_right_wall, LieInOrder}
use Rattle.lg_token.specs.Tokens.{AreTokens}
use Rattle.lg_answer.specs.declared.options.Options.{Options}
use Rattle.lg_script.specs.Commands.{CommandView, parses, lists, goes_on, makes, asks}
use Rattle.lg_script.specs.Histories.{numbered, command_in, command_at, after_command, dictionary_after, names_in, unknown_name}
use Rattle.lg_script.specs.SingleLines.{IsSingleLine, edit_texts, HasSingleLines}
use Rattle.lg_script.proofs.PlainParts.{all_take, all_drop}
use Rattle.lg_session.specs.Engines.{Progress}
use Rattle.lg_session.specs.Legal.{Run, Holding, parse, list, AnswerIs, published, refused, version, listed, beyond, more, no_more, Answered, so_far, next, IsLegal}
use Rattle.lg_text.specs.Shown.{IsOneLine, IsPlainDisjunct, IsPlainPage, IsPlainReply}
use Rattle.lg_run.specs.Documents.{listings, IsShown}
use Rattle.lg_run.specs.PlainInputs.{IsPlainDictionary}
use Rattle.lg_run.specs.Shown.{HasPlainTexts}
use Rattle.lg_run.proofs.OnePage.{item_at, some_at}
use Rattle.lg_run.proofs.PlainDictionaries.{edits_keep_plain}
use Rattle.lg_run.proofs.PlainIdioms.{in_use_long, in_use_plain}
use Rattle.lg_run.proofs.PlainLines.{NoFeed, one_line}

pub by_places : {X : Type 0} (Q : X → Type 0) (xs : List X) → ((i : ℕ) (x : X) → slice_get xs i ≡ Some x → Q x) → AllByRecursion Q xs
by_places Q [] h = tt
by_places Q (x ∷ xs) h = (h 0 x refl, by_places Q xs (λ i. h (suc i)))

pub at_number : {X : Type 0} (Q : X → Type 0) (xs : List X) (n : ℕ) (x : X) → AllByRecursion Q xs → slice_get xs n ≡ Some x → Q x
at_number Q [] n x all e = absurd (cc e)
at_number Q (y ∷ xs) zero x all e = let same : y ≡ x = cc in subst Q same all.0
at_number Q (y ∷ xs) (suc n) x all e = at_number Q xs n x all.1 e

-- ---- tokens

token_plain : (text : List ℕ) (t : Token) → IsSingleLine text → LiesIn text t → IsOneLine t.text
token_plain text t h (is_piece some within e) = subst IsOneLine (sym e) (one_line _ (all_take NoFeed (t.to - t.from) (drop t.from text) (all_drop NoFeed t.from text h)))
token_plain text t h (is_left_wall a b e) = subst IsOneLine (sym e) refl
token_plain text t h (is_right_wall a b e) = subst IsOneLine (sym e) refl

abbrev ArePlainTokens : List Token → Type 0
ArePlainTokens ts = AllByRecursion (λ (t : Token). IsOneLine t.text) ts

all_tokens : (text : List ℕ) (ts : List Token) → IsSingleLine text → AllByRecursion (LiesIn text) ts → ArePlainTokens ts
all_tokens text [] h all = tt
all_tokens text (t ∷ ts) h all = (token_plain text t h all.0, all_tokens text ts h all.1)

-- ---- refusals

none_plain : IsOneLine []
none_plain = refl

index_plain : (xs : List (List ℕ)) (i : ℕ) → AllByRecursion IsSingleLine xs → IsOneLine (slice_index_or xs i [])
index_plain [] i h = none_plain
index_plain (x ∷ xs) zero h = one_line x h.0
index_plain (x ∷ xs) (suc i) h = index_plain xs i h.1

name_plain : (edit : EditView) (cause : EditRefusal) → AllByRecursion IsSingleLine (names_in edit) → IsOneLine (unknown_name edit cause)
name_plain edit (UnknownMacro number) h = index_plain (names_in edit) number h
name_plain edit (TooDeep level) h = refl
name_plain edit (TooManyNodes count) h = refl
name_plain edit (TooManyChoices count) h = refl
name_plain edit (SideTooLong count) h = refl
name_plain edit NoSuchWord h = refl

-- ---- versions

module _ (scripts : List (List CommandView)) (singles : AllByRecursion (λ (cs : List CommandView). AllByRecursion HasSingleLines cs) scripts) where
  in_script : (o : Option (List CommandView)) (n : ℕ) (c : CommandView) → ((cs : List CommandView) → o ≡ Some cs → AllByRecursion HasSingleLines cs) → command_in o n ≡ Some c → HasSingleLines c
  in_script None n c h e = absurd (cc e)
  in_script (Some cs) zero c h e = absurd (cc e)
  in_script (Some cs) (suc n) c h e = at_number HasSingleLines cs n c (h cs refl) e

  script_plain : (session : ℕ) (cs : List CommandView) → numbered scripts session ≡ Some cs → AllByRecursion HasSingleLines cs
  script_plain zero cs e = absurd (cc e)
  script_plain (suc n) cs e = at_number (λ (l : List CommandView). AllByRecursion HasSingleLines l) scripts n cs singles e

  command_plain : (p : Place) (c : CommandView) → command_at scripts p ≡ Some c → HasSingleLines c
  command_plain p c e = in_script (numbered scripts p.session) p.command c (script_plain p.session) e

  after_plain : (dict : Dictionary) (o : Option CommandView) → IsPlainDictionary dict → ((c : CommandView) → o ≡ Some c → HasSingleLines c) → IsPlainDictionary (after_command dict o)
  after_plain dict None plain h = plain
  after_plain dict (Some (parses text)) plain h = plain
  after_plain dict (Some (lists first want text)) plain h = plain
  after_plain dict (Some goes_on) plain h = plain
  after_plain dict (Some (makes edit)) plain h = edits_keep_plain dict edit plain (h (makes edit) refl)
  after_plain dict (Some asks) plain h = plain

  all_after : (dict : Dictionary) (ps : List Place) → IsPlainDictionary dict → IsPlainDictionary (dictionary_after scripts dict ps)
  all_after dict [] plain = plain
  all_after dict (p ∷ ps) plain = all_after (after_command dict (command_at scripts p)) ps (after_plain dict (command_at scripts p) plain (command_plain p))

-- ---- answers

module _ (know : Knowledge) (options : Options) (scripts : List (List CommandView)) (base : Dictionary) (journal : List Place)
    (in_order : (dict : Dictionary) (text : List ℕ) (tokens : List Token) → AreTokens dict text tokens → LieInOrder text tokens)
    (singles : AllByRecursion (λ (cs : List CommandView). AllByRecursion HasSingleLines cs) scripts) (plain : IsPlainDictionary base) where
  abbrev run : Run
  run = record { meaning = listings know options; scripts = scripts; base = base; journal = journal }

  dict_plain : (n : ℕ) → IsPlainDictionary (dictionary_after scripts base (take n journal))
  dict_plain n = all_after scripts singles base (take n journal) plain

  text_tokens : (dict : Dictionary) (text : List ℕ) (ts : List Token) → IsSingleLine text → AreTokens dict text ts → ArePlainTokens ts
  text_tokens dict text ts h are = all_tokens text ts h (recursion_from_All (LiesIn text) ts (in_order dict text ts are).lie)

  page_plain : (dict : Dictionary) (progress : Progress) (page : Page) → IsPlainDictionary dict → ArePlainTokens progress.tokens → IsShown know options dict progress page → IsPlainPage progress.tokens page
  page_plain dict progress page plain tokens shown = record {
    tokens_plain = tokens;
    chosen_plain = by_places _ page.items (λ i item at.
        let is = shown.shown in
        let good = (is.first.sound (shown.place + i) item.linkage (item_at shown.problem know options.nulls shown.place _ _ page is i item at).1).good in
        by_places _ item.linkage.chosen (λ k choice here. chosen item.linkage good k choice here));
  }
    where
      chosen : (g : Linkage) → Good shown.problem g → (k : ℕ) (choice : Option Disjunct) → slice_get g.chosen k ≡ Some choice → IfSome choice IsPlainDisjunct
      chosen g good k None here = tt
      chosen g good k (Some d) here =
          let low = slice_get_within g.chosen k (Some d) here in
          let long = in_use_long dict plain progress.tokens shown.problem options.idioms shown.sentence.of_tokens in
          let within : k < length progress.tokens = omega (arith, low, good.belongs.same_length, long) in
          let t = some_at progress.tokens k within in
          in_use_plain dict plain progress.tokens shown.problem options.idioms shown.sentence.of_tokens k t.0 t.1 within d (good.belongs.listed k d (get_or_from_slice_get g.chosen k (Some d) None here))

  abbrev IsPlainHeld : Option Holding → Type 0
  IsPlainHeld None = Unit {0}
  IsPlainHeld (Some h) = ArePlainTokens h.progress.tokens

  answer_plain : (p : Place) (held then : Option Holding) (command : CommandView) (r : Reply) → AnswerIs run p held command r then → HasSingleLines command → IsPlainHeld held → IsPlainReply r × IsPlainHeld then
  answer_plain p _ _ _ _ (published held edit n is) single h = (tt, h)
  answer_plain p _ _ _ _ (refused held edit n cause name is) single h = (subst IsOneLine (sym is.named) (name_plain edit cause (all_right IsSingleLine (edit_texts edit) (names_in edit) single)), h)
  answer_plain p _ _ _ _ (version held n) single h = (tt, h)
  answer_plain p _ _ _ _ (listed held _ _ _ _ n tokens page stats (parse text) is shows counts) single h =
      let plain_tokens = text_tokens _ text tokens single.0 is.of_text in (page_plain _ _ page (dict_plain n) plain_tokens shows, plain_tokens)
  answer_plain p _ _ _ _ (listed held _ _ _ _ n tokens page stats (list first want text) is shows counts) single h =
      let plain_tokens = text_tokens _ text tokens single.0 is.of_text in (page_plain _ _ page (dict_plain n) plain_tokens shows, plain_tokens)
  answer_plain p _ _ _ _ (beyond held command text first want n bound asked is) single h = (tt, tt)
  answer_plain p _ _ _ _ (more held page shows) single h = (page_plain _ held.progress page (dict_plain held.version) h shows, h)
  answer_plain p _ _ _ _ no_more single h = (tt, tt)

  answers_plain : (session n : ℕ) (held : Option Holding) (commands : List CommandView) (rs : List Reply) → Answered run session n held commands rs → AllByRecursion HasSingleLines commands → IsPlainHeld held → AllByRecursion IsPlainReply rs
  answers_plain session _ _ _ _ (so_far n held commands) single h = tt
  answers_plain session _ _ _ _ (next n held then command commands r rs is rest) single h =
      let here = answer_plain (record { session = session; command = n }) held then command r is single.0 h in
      (here.0, answers_plain session (n + 1) then commands rs rest single.1 here.1)

  each_session : (rows : List (List CommandView)) (replies : List (List Reply)) → length replies ≡ length rows
      → ((n : ℕ) (commands : List CommandView) (rs : List Reply) → slice_get rows n ≡ Some commands → slice_get replies n ≡ Some rs → AllByRecursion IsPlainReply rs) → HasPlainTexts replies
  each_session rows [] same h = tt
  each_session [] (rs ∷ replies) same h = absurd (omega (arith, same))
  each_session (commands ∷ rows) (rs ∷ replies) same h = (h 0 commands rs refl refl, each_session rows replies (omega (arith, same)) (λ n. h (suc n)))

  pub texts_plain : (replies : List (List Reply)) → IsLegal run replies → HasPlainTexts replies
  texts_plain replies legal = each_session scripts replies legal.same_length (λ n commands rs e f.
      answers_plain (suc n) 1 None commands rs (legal.sessions (suc n) commands rs e f).answered
      (at_number (λ (l : List CommandView). AllByRecursion HasSingleLines l) scripts n commands singles e) tt)
