-- The entries of a dictionary that is read: each word and each macro can be written, with the entry's formula.
use Rattle.std.proofs.Common.{◌≡◌, ◌≢◌, ℕ, ◌+◌, ◌≤◌, ◌<◌, Bool, true, false, cond, nat_eq, List, [], ◌∷◌, ◌++◌, map, length, drop, Option, Some, None, IfSome, refl, sym, subst, arith}
use Rattle.std.specs.Cmp.Lexicographic.{slice_cmp, nat_list_cmp_total}
use Rattle.std.specs.FinMap.{get-from_entries}
use Rattle.std.specs.FinMap.Entries.{find}
use Rattle.std.specs.List.{AllByRecursion, list_any}
use Rattle.std.specs.Ordering.{nat_cmp, eq_by_cmp}
use Rattle.std.specs.Str.{IsUtf8}
use Rattle.std.proofs.lemmas.Bool.Decides.{nat_tests}
use Rattle.std.proofs.lemmas.List.{append-nil}
use Rattle.std.proofs.lemmas.Str.{IsUtf8-nil}
use Rattle.lg_gram.specs.declared.entry.Item.{Item}
use Rattle.lg_gram.specs.declared.entry.ItemKind.{ItemKind}
use Rattle.lg_gram.specs.declared.entry.ItemKind.TheVariants as kinds
use Rattle.lg_gram.specs.Filled.{Formulas, filled, filled_level}
use Rattle.lg_gram.specs.Limits.{LEVEL}
use Rattle.lg_gram.specs.Measured.{IsSmall}
use Rattle.lg_gram.specs.RawTrees.{RawTree}
use Rattle.lg_gram.specs.Trees.{Tree}
use Rattle.lg_lex.specs.declared.marks.Class.TheVariants.{Other, LineEnd}
use Rattle.lg_lex.specs.declared.marks.Marks.TheVariants.{Dictionary as dictionary_marks}
use Rattle.lg_lex.specs.declared.run.Separators.TheVariants.{WhiteSpace}
use Rattle.lg_lex.specs.Classes.{class_of}
use Rattle.lg_lex.specs.Marked.{without_mark}
use Rattle.lg_lex.specs.Runs.{is_separator, AreSeparators, AreInner, EndsRun, AreRuns}
use Rattle.lg_lex.specs.Tokens.{Lexeme, Token, sign, quoted, plain, broken, Spells, AfterToken, AreTokens, AreInside, ArePlain, HasUtf8}
use Rattle.lg_expr.specs.Classes.{is_macro_name}
use Rattle.lg_expr.specs.Grammar.{tree, level}
use Rattle.lg_expr.specs.Reading.{StandFor}
use Rattle.lg_expr.specs.Words.{IsMacroName}
use Rattle.lg_expr.proofs.AllOf.{all_append, all_right}
use Rattle.lg_expr.proofs.Depths.{tree_within, tree_level_kept}
use Rattle.lg_expr.proofs.Words.{macro_writes}
use Rattle.lg_dictread.specs.Definitions.{Lines, same_text, Defined, both, define, refuse_items, ItemsAnswer, with_defined, defined_as, on_line, Given, gives, fails as fails_to_give, FileGives, missing, long, at_fault as file_at_fault, runs, KindGives, ItemsGive, no_item, defines, twice, unread}
use Rattle.lg_dictread.specs.Entries.{Written, AreItems, part}
use Rattle.lg_dictread.specs.Findings.{Asked, Found}
use Rattle.lg_dictread.specs.Items.{item, colon, other, head_of, plain_item, is_file_name}
use Rattle.lg_dictread.specs.Lines.{line_of}
use Rattle.lg_dictread.specs.Texts.{Earlier, nothing, rules_after, Meaning, then_entry, EntryGives, EntryOutcome, means, fails, whole, at_fault, large, at_items, TextAnswer, stands, refuse, with_meaning, TextIs, fault, DictionaryGives, not_utf8}
use Rattle.lg_dictread.specs.Texts.TextIs.{ended, entry as entry_then}
use Rattle.lg_dictread.specs.Texts.DictionaryGives.{text as of_text}
use Rattle.lg_export.specs.Exportable.{IsReadable, HasText, IsWordToWrite, IsMacroToWrite, IsExportable}
use Rattle.lg_export.specs.ReadBack.{words_meant, macros_meant, dictionary_meant}
use Rattle.lg_export.specs.Spelling.{top, level_at}
use Rattle.lg_export.proofs.Keys.{same_bytes}
use Rattle.lg_export.proofs.Reach.{level_reaches}
use Rattle.lg_export.proofs.ReadTrees.{AreWritten, tree_readable}

-- ---- words and names

-- a word that a dictionary text can write, but for a quote
pub record IsOneLine (word : List ℕ) : Type 0 where
  pub utf8 : IsUtf8 word
  pub some : word ≢ []
  pub on_one_line : list_any (λ b. nat_eq b 10) word ≡ false

pub record IsPlainName (name : List ℕ) : Type 0 where
  pub utf8 : IsUtf8 name
  pub named : IsMacroName name
  pub plain : ArePlain dictionary_marks name

inside_line : (w : List ℕ) → AreInside dictionary_marks w → list_any (λ b. nat_eq b 10) w ≡ false
inside_line [] h = refl
inside_line (b ∷ w) h =
    let rest = inside_line w h.1 in
    let unlike : nat_eq b 10 ≡ false = not_feed b (nat_eq b 10) refl h.0.1 in
    rw (unlike, rest) refl
  where
    not_feed : (b : ℕ) (t : Bool) → nat_eq b 10 ≡ t → class_of dictionary_marks b ≢ LineEnd → nat_eq b 10 ≡ false
    not_feed b false e is_other = e
    not_feed b true e is_other = absurd (is_other (grind (arith, nat_tests)))

plain_line : (w : List ℕ) → ArePlain dictionary_marks w → list_any (λ b. nat_eq b 10) w ≡ false
plain_line [] h = refl
plain_line (b ∷ w) h =
    let rest = plain_line w h.1 in
    let is = h.0 in
    let unlike : nat_eq b 10 ≡ false = not_feed b (nat_eq b 10) refl is in
    rw (unlike, rest) refl
  where
    not_feed : (b : ℕ) (t : Bool) → nat_eq b 10 ≡ t → class_of dictionary_marks b ≡ Other → nat_eq b 10 ≡ false
    not_feed b false e is = e
    not_feed b true e is = absurd (grind (arith, nat_tests))

inner_line : (w : List ℕ) → AreInner WhiteSpace w → list_any (λ b. nat_eq b 10) w ≡ false
inner_line [] h = refl
inner_line (b ∷ w) h =
    let rest = inner_line w h.1 in
    let is = h.0 in
    let unlike : nat_eq b 10 ≡ false = grind (arith, nat_tests) in
    rw (unlike, rest) refl

-- ---- tokens

-- a token that is a word or a name is one that can be written
abbrev IsPlain : List ℕ → Type 0
IsPlain w = IsUtf8 w × (w ≢ []) × ArePlain dictionary_marks w

abbrev pub IsGood : Lexeme → Type 0
IsGood (sign b) = Unit {0}
IsGood (quoted w) = IsOneLine w
IsGood (plain w) = IsPlain w
IsGood broken = Unit {0}

abbrev pub AreGood : List Token → Type 0
AreGood ts = AllByRecursion (λ (t : Token). IsGood t.0) ts

token_good : (x : Lexeme) (ts : List Token) (text rest : List ℕ) (at : ℕ) → Spells dictionary_marks x text rest → AfterToken x (ts ≡ []) (AreTokens dictionary_marks ts at rest) → HasUtf8 x
    → (AreTokens dictionary_marks ts at rest → AreGood ts) → IsGood x × AreGood ts
token_good (sign b) ts text rest at spells after utf8 next = (tt, next after)
token_good (quoted w) ts text rest at (quotes, some, inside, split) after utf8 next = (record { utf8 = utf8; some = some; on_one_line = inside_line w inside }, next after)
token_good (plain w) ts text rest at (some, are, ends, split) after utf8 next = ((utf8, some, are), next after)
token_good broken ts text rest at spells after utf8 next = (tt, subst AreGood (sym after) tt)

pub tokens_good : (ts : List Token) (before : ℕ) (bytes : List ℕ) → AreTokens dictionary_marks ts before bytes → AllByRecursion (λ (t : Token). HasUtf8 t.0) ts → AreGood ts
tokens_good [] before bytes are utf8 = tt
tokens_good (t ∷ ts) before bytes (gap, text, rest, skips, spells, split, start, after) utf8 =
    token_good t.0 ts text rest (t.1 + length text) spells after utf8.0 (λ more. tokens_good ts (t.1 + length text) rest more utf8.1)

-- ---- items

abbrev pub KindGood : ItemKind → List ℕ → Type 0
KindGood kinds.Word w = IsOneLine w
KindGood kinds.Macro w = IsPlainName w
KindGood kinds.File w = Unit {0}

abbrev pub ItemGood : Item → Type 0
ItemGood i = KindGood i.kind i.text

plain_good : (w : List ℕ) (m f : Bool) → is_macro_name w ≡ m → IsPlain w
    → ItemGood (cond m (record { kind = kinds.Macro; text = w }) (cond f (record { kind = kinds.File; text = drop 1 w }) (record { kind = kinds.Word; text = w })))
plain_good w true f e (utf8, some, are) = record { utf8 = utf8; named = macro_writes w e; plain = are }
plain_good w false true e (utf8, some, are) = tt
plain_good w false false e (utf8, some, are) = record { utf8 = utf8; some = some; on_one_line = plain_line w are }

no_item_sign : (t : Bool) (i : Item) → cond t colon other ≡ item i → ⊥
no_item_sign true i e = cc
no_item_sign false i e = cc

item_good : (x : Lexeme) (i : Item) → IsGood x → head_of x ≡ item i → ItemGood i
item_good (sign b) i h e = absurd (no_item_sign (nat_eq b 58) i e)
item_good (quoted w) i h e = let same : record { kind = kinds.Word; text = w } ≡ i = cc in subst ItemGood same h
item_good (plain w) i h e = let same : plain_item w ≡ i = cc in subst ItemGood same (plain_good w (is_macro_name w) (is_file_name w) refl h)
item_good broken i h e = absurd cc

pub items_good : (is : List (Item × ℕ)) (ts rest : List Token) → AreGood ts → AreItems is ts rest → AllByRecursion (λ (i : Item × ℕ). ItemGood i.0) is × AreGood rest
items_good [] ts rest h are = (tt, subst AreGood are h)
items_good (i ∷ is) [] rest h are = absurd are
items_good (i ∷ is) (t ∷ ts) rest h (here, at, are) = let more = items_good is ts rest h.1 are in ((item_good t.0 i.0 h.0 here, more.0), more.1)

with_lines : (line : Item × ℕ → ℕ) (is : List (Item × ℕ)) → AllByRecursion (λ (i : Item × ℕ). ItemGood i.0) is → AllByRecursion (λ (i : Item × ℕ). ItemGood i.0) (map (λ i. (i.0, line i)) is)
with_lines line [] h = tt
with_lines line (i ∷ is) h = (h.0, with_lines line is h.1)

-- ---- formulas

-- what a formula and its level have to meet
pub record Within (t : Tree) (n : ℕ) : Type 0 where
  pub has_text : HasText t
  pub above : level_at top t ≤ n
  pub few : n ≤ LEVEL

abbrev AreWithin : Formulas → Type 0
AreWithin formulas = (name : List ℕ) → IfSome (formulas name) (λ m. Within m.0 m.1)

pub if_some : {X : Type 0} (P Q : X → Type 0) (o : Option X) → ((x : X) → P x → Q x) → IfSome o P → IfSome o Q
if_some P Q None f h = tt
if_some P Q (Some x) f h = f x h

-- ---- runs

is_ascii : (b : ℕ) → is_separator WhiteSpace b ≡ true → b < 128
is_ascii b e = grind (arith, nat_tests)

module _ (before_ascii : (a : List ℕ) (b : ℕ) (rest : List ℕ) → b < 128 → IsUtf8 (a ++ b ∷ rest) → IsUtf8 a × IsUtf8 (b ∷ rest))
    (after_ascii : (b : ℕ) (rest : List ℕ) → b < 128 → IsUtf8 (b ∷ rest) → IsUtf8 rest)
    (after_mark : (bytes : List ℕ) → IsUtf8 bytes → IsUtf8 (without_mark bytes)) where
  after_gap : (gap more : List ℕ) → AreSeparators WhiteSpace gap → IsUtf8 (gap ++ more) → IsUtf8 more
  after_gap [] more h utf8 = utf8
  after_gap (b ∷ gap) more h utf8 = after_gap gap more h.1 (after_ascii b (gap ++ more) (is_ascii b h.0) utf8)

  run_utf8 : (w rest : List ℕ) → EndsRun WhiteSpace rest → IsUtf8 (w ++ rest) → IsUtf8 w × IsUtf8 rest
  run_utf8 w [] ends utf8 = (subst IsUtf8 (append-nil w) utf8, IsUtf8-nil)
  run_utf8 w (b ∷ rest) ends utf8 = before_ascii w b rest (is_ascii b ends) utf8

  runs_good : (rs : List (List ℕ × ℕ)) (before : ℕ) (bytes : List ℕ) → IsUtf8 bytes → AreRuns WhiteSpace rs before bytes → AllByRecursion IsOneLine (map (λ r. r.0) rs)
  runs_good [] before bytes utf8 are = tt
  runs_good (r ∷ rs) before bytes utf8 (gap, rest, blanks, some, inner, ends, split, start, after) =
      let parts = run_utf8 r.0 rest ends (after_gap gap (r.0 ++ rest) blanks (subst IsUtf8 split utf8)) in
      (record { utf8 = parts.0; some = some; on_one_line = inner_line r.0 inner }, runs_good rs (r.1 + length r.0) rest parts.1 after)

  -- ---- what items define

  record DefinedGood (d : Defined) : Type 0 where
    words : AllByRecursion (λ (l : List ℕ × ℕ). IsOneLine l.0) d.words
    macros : AllByRecursion (λ (l : List ℕ × ℕ). IsPlainName l.0) d.macros

  abbrev AnswerGood : ItemsAnswer → Type 0
  AnswerGood (define d) = DefinedGood d
  AnswerGood (refuse_items error) = Unit {0}

  abbrev GivenGood : Given → Type 0
  GivenGood (gives names) = AllByRecursion IsOneLine names
  GivenGood (fails_to_give cause) = Unit {0}

  file_good : (found : Found) (given : Given) → FileGives found given → GivenGood given
  file_good _ _ missing = tt
  file_good _ _ long = tt
  file_good _ _ (file_at_fault bytes n is) = tt
  file_good _ _ (runs bytes rs utf8 are) = runs_good rs 0 (without_mark bytes) (after_mark bytes utf8) are

  lines_good : (line : ℕ) (names : List (List ℕ)) → AllByRecursion IsOneLine names → AllByRecursion (λ (l : List ℕ × ℕ). IsOneLine l.0) (on_line line names)
  lines_good line [] h = tt
  lines_good line (name ∷ names) h = (h.0, lines_good line names h.1)

  kind_good : (kind : ItemKind) (text : List ℕ) (line : ℕ) (names : List (List ℕ)) (here : List Asked) → KindGood kind text → KindGives kind text here (gives names) → DefinedGood (defined_as kind (on_line line names))
  kind_good kinds.Word text line names here h (asks, is) = let same : text ∷ [] ≡ names = cc in subst (λ (l : List (List ℕ)). DefinedGood (defined_as kinds.Word (on_line line l))) same (record { words = (h, tt); macros = tt })
  kind_good kinds.Macro text line names here h (asks, is) = let same : text ∷ [] ≡ names = cc in subst (λ (l : List (List ℕ)). DefinedGood (defined_as kinds.Macro (on_line line l))) same (record { words = tt; macros = (h, tt) })
  kind_good kinds.File text line names here h (found, asks, file) = record { words = lines_good line names (file_good found (gives names) file); macros = tt }

  with_good : (d : Defined) (answer : ItemsAnswer) → DefinedGood d → AnswerGood answer → AnswerGood (with_defined d answer)
  with_good d (define more) h k = record {
    words = all_append (λ (l : List ℕ × ℕ). IsOneLine l.0) d.words more.words h.words k.words;
    macros = all_append (λ (l : List ℕ × ℕ). IsPlainName l.0) d.macros more.macros h.macros k.macros;
  }
  with_good d (refuse_items error) h k = tt

  defined_good : (earlier : Defined) (items : List (Item × ℕ)) (asked : List Asked) (answer : ItemsAnswer) → AllByRecursion (λ (i : Item × ℕ). ItemGood i.0) items → ItemsGive earlier items asked answer → AnswerGood answer
  defined_good _ _ _ _ h (no_item earlier) = record { words = tt; macros = tt }
  defined_good _ _ _ _ h (defines earlier i line items names here asked answer given new more) =
      with_good (defined_as i.kind (on_line line names)) answer (kind_good i.kind i.text line names here h.0 given) (defined_good (both earlier (defined_as i.kind (on_line line names))) items asked answer h.1 more)
  defined_good _ _ _ _ h (twice earlier i line items names here error given is) = tt
  defined_good _ _ _ _ h (unread earlier i line items here cause given) = tt

  module _ (written : AreWritten) where
    formula_within : (earlier : Earlier) (body : List Token) (e : Written) (rest : List Token) → AreWithin earlier.formulas → IsSmall (filled earlier.formulas e.expr)
        → StandFor Token part (rules_after earlier) body e.expr e.level rest → Within (filled earlier.formulas e.expr) (filled_level earlier.formulas e.level e.expr)
    formula_within earlier body e rest are small h =
        let formulas = earlier.formulas in
        let a = h.derivation in
        let kept = tree_level_kept (rules_after earlier) a h.keeps in
        let within = tree_within formulas LEVEL a h.keeps in
        let reaches = level_reaches formulas (λ name. if_some (λ m. Within m.0 m.1) (λ m. level_at top m.0 ≤ m.1) (formulas name) (λ m w. w.above) (are name)) a in
        let readable = tree_readable formulas (λ name. if_some (λ m. Within m.0 m.1) (λ m. IsReadable m.0) (formulas name) (λ m w. w.has_text.readable) (are name)) written h.front a h.spells in
        let few : filled_level formulas (level a) (tree a) ≤ LEVEL = omega (arith, kept, within) in
        let all : Within (filled formulas (tree a)) (filled_level formulas (level a) (tree a)) = record {
          has_text = record {
            readable = readable;
            small = subst (λ (t : RawTree). IsSmall (filled formulas t)) (sym h.means) small;
            level = omega (arith, reaches, few);
          };
          above = reaches;
          few = few;
        } in
        subst (λ (t : RawTree). Within (filled formulas t) (filled_level formulas e.level t)) h.means (subst (λ (n : ℕ). Within (filled formulas (tree a)) (filled_level formulas n (tree a))) h.level_is all)

    -- ---- entries

    record MeaningGood (m : Meaning) : Type 0 where
      formula : Within m.formula m.level
      words : AllByRecursion IsOneLine m.words
      macros : AllByRecursion IsPlainName m.macros

    abbrev OutcomeGood : EntryOutcome → Type 0
    OutcomeGood (means m new rest) = MeaningGood m × AreGood rest
    OutcomeGood (fails error) = Unit {0}

    names_good : (P : List ℕ → Type 0) (ls : Lines) → AllByRecursion (λ (l : List ℕ × ℕ). P l.0) ls → AllByRecursion P (map (λ d. d.0) ls)
    names_good P [] h = tt
    names_good P (l ∷ ls) h = (h.0, names_good P ls h.1)

    entry_good : (bytes : List ℕ) (earlier : Earlier) (ts : List Token) (asked : List Asked) (outcome : EntryOutcome) → AreWithin earlier.formulas → AreGood ts
        → EntryGives bytes earlier ts asked outcome → OutcomeGood outcome
    entry_good bytes earlier ts _ _ are good (whole e rest asked new is small given) =
        let items = items_good e.items ts (is.mark ∷ is.body) good is.are_items in
        let defined = defined_good earlier.defined (map (λ i. (i.0, line_of bytes i)) e.items) asked (define new) (with_lines (line_of bytes) e.items items.0) given in (
          record {
            formula = formula_within earlier is.body e rest are small is.stands;
            words = names_good IsOneLine new.words defined.words;
            macros = names_good IsPlainName new.macros defined.macros;
          },
          all_right (λ (t : Token). IsGood t.0) is.stands.front rest (subst AreGood is.stands.split items.1.1),
        )
    entry_good bytes earlier ts _ _ are good (at_fault f left error is told) = tt
    entry_good bytes earlier ts _ _ are good (large e rest error is passes) = tt
    entry_good bytes earlier ts _ _ are good (at_items e rest asked error is small given) = tt

    -- ---- texts

    abbrev TextGood : TextAnswer → Type 0
    TextGood (stands ms) = AllByRecursion MeaningGood ms
    TextGood (refuse error) = Unit {0}

    with_meaning_good : (m : Meaning) (answer : TextAnswer) → MeaningGood m → TextGood answer → TextGood (with_meaning m answer)
    with_meaning_good m (stands ms) h k = (h, k)
    with_meaning_good m (refuse error) h k = tt

    either : (b : Bool) (x y : Option (Tree × ℕ)) → IfSome x (λ m. Within m.0 m.1) → IfSome y (λ m. Within m.0 m.1) → IfSome (cond b x y) (λ m. Within m.0 m.1)
    either true x y h k = h
    either false x y h k = k

    text_good : (bytes : List ℕ) (earlier : Earlier) (ts : List Token) (asked : List Asked) (answer : TextAnswer) → AreWithin earlier.formulas → AreGood ts
        → TextIs bytes earlier ts asked answer → TextGood answer
    text_good bytes _ _ _ _ are good (ended earlier) = tt
    text_good bytes _ _ _ _ are good (entry_then earlier ts rest asked more m new answer some given after) =
        let here = entry_good bytes earlier ts asked (means m new rest) are good given in
        let next : AreWithin (then_entry earlier new m).formulas = λ name. either (list_any (same_text name) m.macros) (Some (m.formula, m.level)) (earlier.formulas name) here.0.formula (are name) in
        with_meaning_good m answer here.0 (text_good bytes (then_entry earlier new m) rest more answer next here.1 after)
    text_good bytes _ _ _ _ are good (fault earlier ts asked error some given) = tt

    -- ---- dictionaries

    words_good : (t : Tree) (n : ℕ) (words : List (List ℕ)) → Within t n → AllByRecursion IsOneLine words → AllByRecursion (λ (w : List ℕ × Tree). IsWordToWrite w.0 w.1) (map (λ word. (word, t)) words)
    words_good t n [] f h = tt
    words_good t n (word ∷ words) f h = (record { utf8 = h.0.utf8; some = h.0.some; on_one_line = h.0.on_one_line; formula = f.has_text }, words_good t n words f h.1)

    macros_good : (t : Tree) (n : ℕ) (names : List (List ℕ)) → Within t n → AllByRecursion IsPlainName names → AllByRecursion (λ (m : List ℕ × (Tree × ℕ)). IsMacroToWrite m.0 m.1) (map (λ name. (name, (t, n))) names)
    macros_good t n [] f h = tt
    macros_good t n (name ∷ names) f h =
        (record { utf8 = h.0.utf8; named = h.0.named; plain = h.0.plain; formula = f.has_text; above = f.above; few = f.few }, macros_good t n names f h.1)

    all_words : (ms : List Meaning) → AllByRecursion MeaningGood ms → AllByRecursion (λ (w : List ℕ × Tree). IsWordToWrite w.0 w.1) (words_meant ms)
    all_words [] h = tt
    all_words (m ∷ ms) h = all_append (λ (w : List ℕ × Tree). IsWordToWrite w.0 w.1) (map (λ word. (word, m.formula)) m.words) (words_meant ms) (words_good m.formula m.level m.words h.0.formula h.0.words) (all_words ms h.1)

    all_macros : (ms : List Meaning) → AllByRecursion MeaningGood ms → AllByRecursion (λ (m : List ℕ × (Tree × ℕ)). IsMacroToWrite m.0 m.1) (macros_meant ms)
    all_macros [] h = tt
    all_macros (m ∷ ms) h =
        all_append (λ (m : List ℕ × (Tree × ℕ)). IsMacroToWrite m.0 m.1) (map (λ name. (name, (m.formula, m.level))) m.macros) (macros_meant ms) (macros_good m.formula m.level m.macros h.0.formula h.0.macros) (all_macros ms h.1)

    -- what holds of each entry holds of what is found
    found_step : {X : Type 0} (P : List ℕ → X → Type 0) (e : List ℕ × X) (q : List ℕ) (rest : Option X) (b : Bool) → eq_by_cmp (slice_cmp nat_cmp) q e.0 ≡ b → P e.0 e.1 → IfSome rest (P q) → IfSome (cond b (Some e.1) rest) (P q)
    found_step P e q rest true is h more = subst (λ (k : List ℕ). P k e.1) (sym (same_bytes q e.0 is)) h
    found_step P e q rest false is h more = more

    found_good : {X : Type 0} (P : List ℕ → X → Type 0) (es : List (List ℕ × X)) (q : List ℕ) → AllByRecursion (λ (e : List ℕ × X). P e.0 e.1) es → IfSome (find (slice_cmp nat_cmp) q es) (P q)
    found_good P [] q h = tt
    found_good P (e ∷ es) q h = found_step P e q (find (slice_cmp nat_cmp) q es) (eq_by_cmp (slice_cmp nat_cmp) q e.0) refl h.0 (found_good P es q h.1)

    module _ (tokens_utf8 : (ts : List Token) (bytes : List ℕ) → IsUtf8 bytes → AreTokens dictionary_marks ts 0 bytes → AllByRecursion (λ (t : Token). HasUtf8 t.0) ts) where
      answer_good : (bytes : List ℕ) (asked : List Asked) (answer : TextAnswer) → DictionaryGives bytes asked answer → TextGood answer
      answer_good bytes _ _ (not_utf8 n is) = tt
      answer_good bytes _ _ (of_text ts asked answer is gives_so) =
          let good = tokens_good ts 0 (without_mark bytes) is.tokens (tokens_utf8 ts (without_mark bytes) (after_mark bytes is.utf8) is.tokens) in
          text_good (without_mark bytes) nothing ts asked answer (λ name. tt) good gives_so

      pub read_is_exportable : (bytes : List ℕ) (asked : List Asked) (entries : List Meaning) → DictionaryGives bytes asked (stands entries) → IsExportable (dictionary_meant entries)
      read_is_exportable bytes asked entries given =
          let all = answer_good bytes asked (stands entries) given in
          record {
            words = λ word. subst (λ (o : Option Tree). IfSome o (IsWordToWrite word)) (sym (get-from_entries nat_list_cmp_total (words_meant entries) word)) (found_good IsWordToWrite (words_meant entries) word (all_words entries all));
            macros = λ name. subst (λ (o : Option (Tree × ℕ)). IfSome o (IsMacroToWrite name)) (sym (get-from_entries nat_list_cmp_total (macros_meant entries) name)) (found_good IsMacroToWrite (macros_meant entries) name (all_macros entries all));
          }
