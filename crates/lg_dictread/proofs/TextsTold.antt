-- What a text is told to stand for, one entry after another.
use Rattle.std.proofs.Common.{◌≡◌, ◌≢◌, ℕ, true, false, MatchOption, Option, None, Some, List, [], ◌∷◌, ◌++◌, refl, sym, ap, subst, ◌∙◌, append_assoc}
use Rattle.std.proofs.lemmas.List.{append-nil}
use Rattle.std.specs.Option.{is_some}
use Rattle.std.specs.Str.{IsValidUpTo}
use Rattle.lg_base.specs.Contents.{Contents}
use Rattle.lg_lex.specs.declared.marks.Marks.TheVariants.{Dictionary}
use Rattle.lg_lex.specs.Marked.{without_mark}
use Rattle.lg_lex.specs.Tokens.{Token, IsText}
use Rattle.lg_dictread.specs.declared.dict_error.DictError.{DictError}
use Rattle.lg_dictread.specs.declared.dict_error.DictError.TheVariants.{NotUtf8}
use Rattle.lg_dictread.specs.Definitions.{Defined}
use Rattle.lg_dictread.specs.Telling.{Answers, AsksFront, ErrorTells}
use Rattle.lg_dictread.specs.Findings.{Asked, names_of, AreKnown}
use Rattle.lg_dictread.specs.Texts as texts
use Rattle.lg_dictread.specs.Texts.{Earlier, nothing, Meaning, then_entry, means, fails, TextAnswer, stands, refuse, with_meaning, TextIs, ended, not_utf8}
use Rattle.lg_dictread.specs.DictTexts.{TextOf, DictionaryOf}
use Rattle.lg_dictread.specs.Reading.{NextIs}
use Rattle.lg_dictread.proofs.ErrorMaps.{error_map}
use Rattle.lg_dictread.proofs.Found.{grown_then, known_none, known_then, known_in, or_none}
use Rattle.lg_dictread.proofs.ItemAnswers.{Laws}
use Rattle.lg_dictread.proofs.TextAnswers.{EntryLaws, some_more}

-- with these entries in front
abbrev pub with_all : List Meaning → TextAnswer → TextAnswer
with_all [] answer = answer
with_all (m ∷ ms) answer = with_meaning m (with_all ms answer)

all_more : (ms : List Meaning) (m : Meaning) (answer : TextAnswer) → with_all ms (with_meaning m answer) ≡ with_all (ms ++ m ∷ []) answer
all_more [] m answer = refl
all_more (n ∷ ms) m answer = ap (with_meaning n) (all_more ms m answer)

all_stand : (ms : List Meaning) → with_all ms (stands []) ≡ stands ms
all_stand [] = refl
all_stand (m ∷ ms) = ap (with_meaning m) (all_stand ms)

all_refused : (ms : List Meaning) (error : DictError) → with_all ms (refuse error) ≡ refuse error
all_refused [] error = refl
all_refused (m ∷ ms) error = ap (with_meaning m) (all_refused ms error)

-- The files asked for so far, and what the answer of the tokens that are left, with the entries so far in front, is to the whole text.
pub record Leads (known : Option Contents) (text : List ℕ) (asked : List (List ℕ)) (all : List Token) (now : List (List ℕ)) (earlier : Earlier) (ms : List Meaning) (rest : List Token) : Type 0 where
  pub found : List Asked
  pub grown : now ≡ asked ++ names_of found
  pub known_so : AreKnown known found
  pub leads : (more : List Asked) (answer : TextAnswer) → TextIs text earlier rest more answer → TextIs text nothing all (found ++ more) (with_all ms answer)

module _ (known : Option Contents) (text : List ℕ) (asked : List (List ℕ)) (all : List Token) where
  leads_none : Leads known text asked all asked nothing [] all
  leads_none = record { found = []; grown = sym (append-nil asked); known_so = known_none known; leads = λ more answer h. h }

  -- at the start
  pub leads_start : (earlier : Earlier) (ms : List Meaning) (rest : List Token) → earlier ≡ nothing → ms ≡ [] → rest ≡ all → Leads known text asked all asked earlier ms rest
  leads_start earlier ms rest e f g =
      subst (λ (x : Earlier). Leads known text asked all asked x ms rest) (sym e)
      (subst (λ (l : List Meaning). Leads known text asked all asked nothing l rest) (sym f)
      (subst (λ (l : List Token). Leads known text asked all asked nothing [] l) (sym g) leads_none))

  module _ (now : List (List ℕ)) (earlier : Earlier) (ms : List Meaning) (rest : List Token) where
    -- no token is left
    pub leads_end : rest ≡ [] → Leads known text asked all now earlier ms rest → Answers known (TextOf text nothing all) asked now (stands ms)
    leads_end ends h =
        let whole = h.leads [] (stands []) (subst (λ (l : List Token). TextIs text earlier l [] (stands [])) (sym ends) (ended earlier)) in
        record {
          asked = h.found;
          names = h.grown;
          found = h.known_so;
          answers = subst (λ (l : List Asked). TextIs text nothing all l (stands ms)) (append-nil h.found) (subst (TextIs text nothing all (h.found ++ [])) (all_stand ms) whole);
        }

    module _ (some : rest ≢ []) (h : Leads known text asked all now earlier ms rest) where
      -- one entry more
      pub leads_more : (next : List (List ℕ)) (m : Meaning) (new : Defined) (left : List Token) → Answers known (NextIs text earlier rest) now next (means m new left) → Leads known text asked all next (then_entry earlier new m) (ms ++ m ∷ []) left
      leads_more next m new left a = record {
        found = h.found ++ a.asked;
        grown = grown_then asked now next h.found a.asked h.grown a.names;
        known_so = known_then known h.found a.asked h.known_so a.found;
        leads = λ more answer then_text.
            let whole = h.leads (a.asked ++ more) (with_meaning m answer) (texts.entry earlier rest left a.asked more m new answer some a.answers then_text) in
            subst (λ (l : List Asked). TextIs text nothing all l (with_all (ms ++ m ∷ []) answer)) (sym (append_assoc h.found a.asked more))
            (subst (TextIs text nothing all (h.found ++ (a.asked ++ more))) (all_more ms m answer) whole);
      }

      module _ (laws : Laws) (entry_laws : EntryLaws) where
        -- the call ends at an entry
        front_here : (next : List (List ℕ)) → AsksFront known (NextIs text earlier rest) now next → AsksFront known (TextOf text nothing all) asked next
        front_here next f =
            let more = some_more laws entry_laws text (or_none known) earlier rest (f.front ++ f.rest) f.answer some f.answers in
            let parts : h.found ++ ((f.front ++ f.rest) ++ more.0) ≡ (h.found ++ f.front) ++ (f.rest ++ more.0) =
            ap (λ (l : List Asked). h.found ++ l) (append_assoc f.front f.rest more.0) ∙ sym (append_assoc h.found f.front (f.rest ++ more.0)) in
            record {
              front = h.found ++ f.front;
              rest = f.rest ++ more.0;
              answer = with_all ms more.1;
              names = grown_then asked now next h.found f.front h.grown f.names;
              found = subst (AreKnown known) parts (known_then known h.found ((f.front ++ f.rest) ++ more.0) h.known_so (known_then known (f.front ++ f.rest) more.0 f.found (known_in known more.0 more.2)));
              answers = subst (λ (l : List Asked). TextIs text nothing all l (with_all ms more.1)) parts (h.leads ((f.front ++ f.rest) ++ more.0) more.1 more.3);
            }

        -- the error of an entry is that of the text
        pub leads_error : (next : List (List ℕ)) (error : DictError) → ErrorTells (AsksFront known (NextIs text earlier rest) now next) known (NextIs text earlier rest) fails now next error
            → ErrorTells (AsksFront known (TextOf text nothing all) asked next) known (TextOf text nothing all) refuse asked next error
        leads_error next error tells =
            error_map (AsksFront known (NextIs text earlier rest) now next) (AsksFront known (TextOf text nothing all) asked next) known (NextIs text earlier rest) (TextOf text nothing all) fails refuse asked now next h.found
            h.known_so h.grown (front_here next)
            (λ further e gives. subst (TextIs text nothing all (h.found ++ further)) (all_refused ms e) (h.leads further (refuse e) (texts.fault earlier rest further e some gives))) error tells

-- ---- whether a token is left

pub none_left : {T : Type 0} (o : Option T) (ts : List Token) (first : T → Token) (left : T → List Token) → false ≡ is_some o → MatchOption o (ts ≡ []) (λ x. ts ≡ first x ∷ left x) → ts ≡ []
none_left None ts first left e h = h
none_left (Some x) ts first left e h = absurd cc

pub some_left : {T : Type 0} (o : Option T) (ts : List Token) (first : T → Token) (left : T → List Token) → true ≡ is_some o → MatchOption o (ts ≡ []) (λ x. ts ≡ first x ∷ left x) → ts ≢ []
some_left None ts first left e h = absurd cc
some_left (Some x) ts first left e h = λ none. let wrong : [] ≡ first x ∷ left x = sym none ∙ h in cc

-- ---- dictionary files

module _ (known : Option Contents) (bytes : List ℕ) (ts : List Token) (old new : List (List ℕ)) (is : IsText Dictionary bytes ts) where
  pub file_told : (answer : TextAnswer) → Answers known (TextOf (without_mark bytes) nothing ts) old new answer → Answers known (DictionaryOf bytes) old new answer
  file_told answer h = record { asked = h.asked; names = h.names; found = h.found; answers = texts.text ts h.asked answer is h.answers }

  file_front : AsksFront known (TextOf (without_mark bytes) nothing ts) old new → AsksFront known (DictionaryOf bytes) old new
  file_front h = record { front = h.front; rest = h.rest; answer = h.answer; names = h.names; found = h.found; answers = texts.text ts (h.front ++ h.rest) h.answer is h.answers }

  pub file_error : (error : DictError) → ErrorTells (AsksFront known (TextOf (without_mark bytes) nothing ts) old new) known (TextOf (without_mark bytes) nothing ts) refuse old new error
      → ErrorTells (AsksFront known (DictionaryOf bytes) old new) known (DictionaryOf bytes) refuse old new error
  file_error error tells =
      error_map (AsksFront known (TextOf (without_mark bytes) nothing ts) old new) (AsksFront known (DictionaryOf bytes) old new) known (TextOf (without_mark bytes) nothing ts) (DictionaryOf bytes) refuse refuse old old new []
      (known_none known) (sym (append-nil old)) file_front (λ found e h. texts.text ts found (refuse e) is h) error tells

pub fault_told : (known : Option Contents) (bytes : List ℕ) (asked : List (List ℕ)) (n : ℕ) → IsValidUpTo bytes n → Answers known (DictionaryOf bytes) asked asked (refuse (NotUtf8 n))
fault_told known bytes asked n h = record { asked = []; names = sym (append-nil asked); found = known_none known; answers = not_utf8 n h }
