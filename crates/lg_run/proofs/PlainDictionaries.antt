-- No text of a dictionary that is read has a line feed, nor of one that edits make of it.
use Rattle.std.proofs.Common.{◌≡◌, ℕ, Bool, true, false, List, [], ◌∷◌, map, Some, None, is_none, sym, ap, subst, ◌∙◌, true≢false, if◌then◌else◌}
use Rattle.std.specs.List.{AllByRecursion, flat_map, list_any}
use Rattle.lg_gram.specs.declared.entry.Item.{Item}
use Rattle.lg_gram.specs.declared.entry.ItemKind.{ItemKind}
use Rattle.lg_gram.specs.declared.entry.ItemKind.TheVariants as kinds
use Rattle.lg_gram.specs.EntryViews.{EntryView}
use Rattle.lg_gram.specs.Trees.{Tree}
use Rattle.lg_lex.specs.declared.run.Separators.TheVariants.{WhiteSpace}
use Rattle.lg_lex.specs.Marked.{without_mark}
use Rattle.lg_lex.specs.Runs.{is_separator, AreInner, AreRuns}
use Rattle.lg_lex.specs.Tokens.{Token}
use Rattle.lg_dict.specs.Dictionary.{Dictionary, macros_of}
use Rattle.lg_dictread.specs.Definitions.{same_text, Lines, Defined, gives, FileGives, runs, KindGives, on_line, defined_as, ItemsAnswer, define, refuse_items, with_defined, ItemsGive, no_item, defines, twice, unread}
use Rattle.lg_dictread.specs.Findings.{Found, Asked}
use Rattle.lg_dictread.specs.Lines.{line_of}
use Rattle.lg_dictread.specs.Texts as texts
use Rattle.lg_dictread.specs.Texts.{Earlier, rules_after, Meaning, then_entry, EntryOutcome, means, fails, EntryGives, TextAnswer, stands, refuse, with_meaning, TextIs, DictionaryGives}
use Rattle.lg_edit.specs.Edits.{EditView, puts, sets, removes, names_of, accept, edited, formula_in, level_in}
use Rattle.lg_expr.proofs.AllOf.{all_append, all_left, all_right}
use Rattle.lg_script.specs.SingleLines.{IsSingleLine, connector_texts, edit_texts}
use Rattle.lg_script.proofs.PlainExpressions.{expression_plain, connectors_single}
use Rattle.lg_script.proofs.PlainTokens.{IsPlain, ArePlainTokens, tokens_plain, items_single}
use Rattle.lg_script.proofs.SingleLines.{items_before}
use Rattle.lg_run.specs.PlainInputs.{IsPlainTree, IsPlainDictionary, DictionariesArePlain, EditsKeepPlain}
use Rattle.lg_run.proofs.PlainMaps.{of_entries, of_inserted, of_removed}
use Rattle.lg_run.proofs.PlainTrees.{ArePlainFormulas, filled_plain}

abbrev ArePlainNames : List (List ℕ) → Type 0
ArePlainNames names = AllByRecursion IsSingleLine names

-- ---- items

inner_single : (bs : List ℕ) → AreInner WhiteSpace bs → IsSingleLine bs
inner_single [] h = tt
inner_single (b ∷ bs) h = ((λ is. true≢false (sym (ap (is_separator WhiteSpace) is) ∙ h.0)), inner_single bs h.1)

runs_single : (rs : List (List ℕ × ℕ)) (before : ℕ) (bytes : List ℕ) → AreRuns WhiteSpace rs before bytes → ArePlainNames (map (λ (r : List ℕ × ℕ). r.0) rs)
runs_single [] before bytes are = tt
runs_single (r ∷ rs) before bytes (gap, rest, is_gap, some, inner, ends, split, place, more) = (inner_single r.0 inner, runs_single rs _ rest more)

file_single : (found : Found) (names : List (List ℕ)) → FileGives found (gives names) → ArePlainNames names
file_single _ _ (runs bytes rs utf8 are) = runs_single rs 0 (without_mark bytes) are

same_names : (a b : List (List ℕ)) → gives a ≡ gives b → a ≡ b
same_names a b e = cc

kind_single : (kind : ItemKind) (text : List ℕ) (asked : List Asked) (names : List (List ℕ)) → KindGives kind text asked (gives names) → IsSingleLine text → ArePlainNames names
kind_single kinds.Word text asked names is h = subst ArePlainNames (sym (same_names names (text ∷ []) is.1)) (h, tt)
kind_single kinds.Macro text asked names is h = subst ArePlainNames (sym (same_names names (text ∷ []) is.1)) (h, tt)
kind_single kinds.File text asked names (found, is, given) h = file_single found names given

abbrev ArePlainLines : Lines → Type 0
ArePlainLines ls = AllByRecursion (λ (d : List ℕ × ℕ). IsSingleLine d.0) ls

abbrev IsPlainDefined : Defined → Type 0
IsPlainDefined d = ArePlainLines d.words × ArePlainLines d.macros

lined : (line : ℕ) (names : List (List ℕ)) → ArePlainNames names → ArePlainLines (on_line line names)
lined line [] h = tt
lined line (name ∷ names) h = (h.0, lined line names h.1)

defined_plain : (kind : ItemKind) (ls : Lines) → ArePlainLines ls → IsPlainDefined (defined_as kind ls)
defined_plain kinds.Word ls h = (h, tt)
defined_plain kinds.Macro ls h = (tt, h)
defined_plain kinds.File ls h = (h, tt)

abbrev IsPlainAnswer : ItemsAnswer → Type 0
IsPlainAnswer (define d) = IsPlainDefined d
IsPlainAnswer (refuse_items error) = Unit {0}

with_plain : (d : Defined) (x : ItemsAnswer) → IsPlainDefined d → IsPlainAnswer x → IsPlainAnswer (with_defined d x)
with_plain d (define more) h k = (all_append _ d.words more.words h.0 k.0, all_append _ d.macros more.macros h.1 k.1)
with_plain d (refuse_items error) h k = tt

abbrev ArePlainItems : List (Item × ℕ) → Type 0
ArePlainItems is = AllByRecursion (λ (i : Item × ℕ). IsSingleLine i.0.text) is

items_plain : (earlier : Defined) (is : List (Item × ℕ)) (asked : List Asked) (x : ItemsAnswer) → ItemsGive earlier is asked x → ArePlainItems is → IsPlainAnswer x
items_plain _ _ _ _ (no_item earlier) all = (tt, tt)
items_plain _ _ _ _ (defines earlier item line items names here asked answer given new more) all =
    let here_plain = lined line names (kind_single item.kind item.text here names given all.0) in
    with_plain (defined_as item.kind (on_line line names)) answer (defined_plain item.kind (on_line line names) here_plain) (items_plain _ items asked answer more all.1)
items_plain _ _ _ _ (twice earlier item line items names here error given again) all = tt
items_plain _ _ _ _ (unread earlier item line items here cause given) all = tt

with_lines : (text : List ℕ) (is : List (Item × ℕ)) → AllByRecursion IsSingleLine (map (λ (i : Item). i.text) (map (λ (i : Item × ℕ). i.0) is)) → ArePlainItems (map (λ (i : Item × ℕ). (i.0, line_of text i)) is)
with_lines text [] h = tt
with_lines text (i ∷ is) h = (h.0, with_lines text is h.1)

names_plain : (ls : Lines) → ArePlainLines ls → ArePlainNames (map (λ (d : List ℕ × ℕ). d.0) ls)
names_plain [] h = tt
names_plain (d ∷ ls) h = (h.0, names_plain ls h.1)

-- ---- entries

record IsPlainMeaning (m : Meaning) : Type 0 where
  words : ArePlainNames m.words
  macros : ArePlainNames m.macros
  formula : IsPlainTree m.formula

abbrev IsPlainOutcome : EntryOutcome → Type 0
IsPlainOutcome (means m new rest) = IsPlainMeaning m × ArePlainTokens rest
IsPlainOutcome (fails error) = Unit {0}

entry_plain : (text : List ℕ) (earlier : Earlier) (ts : List Token) (asked : List Asked) (x : EntryOutcome) → EntryGives text earlier ts asked x → ArePlainFormulas earlier.formulas → ArePlainTokens ts → IsPlainOutcome x
entry_plain text earlier ts _ _ (texts.whole e rest asked new is small items) formulas all =
    let defined = items_plain earlier.defined _ asked (define new) items (with_lines text e.items (items_single e.items ts (is.mark ∷ is.body) is.are_items all)) in
    let body = (items_before e.items ts (is.mark ∷ is.body) is.are_items all).1 in
    let expr = expression_plain (rules_after earlier) is.body e.expr e.level rest is.stands body in (
      record {
        words = names_plain new.words defined.0;
        macros = names_plain new.macros defined.1;
        formula = filled_plain earlier.formulas formulas e.expr (connectors_single e.expr expr);
      },
      all_right (λ (t : Token). IsPlain t.0) is.stands.front rest (subst ArePlainTokens is.stands.split body),
    )
entry_plain text earlier ts _ _ (texts.at_fault f left error is told) formulas all = tt
entry_plain text earlier ts _ _ (texts.large e rest error is large) formulas all = tt
entry_plain text earlier ts _ _ (texts.at_items e rest asked error is small items) formulas all = tt

then_plain : (earlier : Earlier) (new : Defined) (m : Meaning) → ArePlainFormulas earlier.formulas → IsPlainMeaning m → ArePlainFormulas (then_entry earlier new m).formulas
then_plain earlier new m formulas plain name v is = by (list_any (same_text name) m.macros) is
  where
    by : (b : Bool) → (if b then Some (m.formula, m.level) else earlier.formulas name) ≡ Some v → IsPlainTree v.0
    by true e = let same : (m.formula, m.level) ≡ v = cc in subst (λ (z : Tree × ℕ). IsPlainTree z.0) same plain.formula
    by false e = formulas name v e

abbrev ArePlainMeanings : TextAnswer → Type 0
ArePlainMeanings (stands ms) = AllByRecursion IsPlainMeaning ms
ArePlainMeanings (refuse error) = Unit {0}

meaning_in_front : (m : Meaning) (x : TextAnswer) → IsPlainMeaning m → ArePlainMeanings x → ArePlainMeanings (with_meaning m x)
meaning_in_front m (stands ms) h all = (h, all)
meaning_in_front m (refuse error) h all = tt

text_plain : (text : List ℕ) (earlier : Earlier) (ts : List Token) (asked : List Asked) (x : TextAnswer) → TextIs text earlier ts asked x → ArePlainFormulas earlier.formulas → ArePlainTokens ts → ArePlainMeanings x
text_plain text _ _ _ _ (texts.ended earlier) formulas all = tt
text_plain text _ _ _ _ (texts.entry earlier ts rest asked more m new answer some given others) formulas all =
    let here = entry_plain text earlier ts asked (means m new rest) given formulas all in
    meaning_in_front m answer here.0 (text_plain text (then_entry earlier new m) rest more answer others (then_plain earlier new m formulas here.0) here.1)
text_plain text _ _ _ _ (texts.fault earlier ts asked error some given) formulas all = tt

nothing_plain : ArePlainFormulas (λ (name : List ℕ). None)
nothing_plain name m is = absurd (cc is)

gives_plain : (bytes : List ℕ) (asked : List Asked) (x : TextAnswer) → DictionaryGives bytes asked x → ArePlainMeanings x
gives_plain bytes _ _ (texts.not_utf8 n h) = tt
gives_plain bytes _ _ (texts.text ts asked answer is given) = text_plain (without_mark bytes) _ ts asked answer given nothing_plain (tokens_plain ts 0 (without_mark bytes) is.tokens)

-- ---- the dictionary

abbrev IsPlainWord : List ℕ → Tree → Type 0
IsPlainWord word t = IsSingleLine word × IsPlainTree t

abbrev IsPlainMacro : List ℕ → Tree × ℕ → Type 0
IsPlainMacro name m = IsSingleLine name × IsPlainTree m.0

module _ {V : Type 0} (P : List ℕ → V → Type 0) (value : Meaning → V) (names : Meaning → List (List ℕ)) where
  abbrev rows : Meaning → List (List ℕ × V)
  rows m = map (λ (name : List ℕ). (name, value m)) (names m)

  rows_plain : (ns : List (List ℕ)) (v : V) → AllByRecursion (λ (n : List ℕ). P n v) ns → AllByRecursion (λ (e : List ℕ × V). P e.0 e.1) (map (λ (name : List ℕ). (name, v)) ns)
  rows_plain [] v h = tt
  rows_plain (n ∷ ns) v h = (h.0, rows_plain ns v h.1)

  all_rows : (ms : List Meaning) → AllByRecursion (λ (m : Meaning). AllByRecursion (λ (n : List ℕ). P n (value m)) (names m)) ms → AllByRecursion (λ (e : List ℕ × V). P e.0 e.1) (flat_map rows ms)
  all_rows [] h = tt
  all_rows (m ∷ ms) h = all_append _ (rows m) (flat_map rows ms) (rows_plain (names m) (value m) h.0) (all_rows ms h.1)

with_tree : (ns : List (List ℕ)) (t : Tree) → ArePlainNames ns → IsPlainTree t → AllByRecursion (λ (n : List ℕ). IsPlainWord n t) ns
with_tree [] t h k = tt
with_tree (n ∷ ns) t h k = ((h.0, k), with_tree ns t h.1 k)

words_plain : (ms : List Meaning) → AllByRecursion IsPlainMeaning ms → AllByRecursion (λ (m : Meaning). AllByRecursion (λ (n : List ℕ). IsPlainWord n m.formula) m.words) ms
words_plain [] h = tt
words_plain (m ∷ ms) h = (with_tree m.words m.formula h.0.words h.0.formula, words_plain ms h.1)

macros_plain : (ms : List Meaning) → AllByRecursion IsPlainMeaning ms → AllByRecursion (λ (m : Meaning). AllByRecursion (λ (n : List ℕ). IsPlainMacro n (m.formula, m.level)) m.macros) ms
macros_plain [] h = tt
macros_plain (m ∷ ms) h = (with_tree m.macros m.formula h.0.macros h.0.formula, macros_plain ms h.1)

pub dictionaries_plain : DictionariesArePlain
dictionaries_plain bytes asked entries given =
    let all = gives_plain bytes asked (stands entries) given in record {
      words = of_entries IsPlainWord _ (all_rows IsPlainWord (λ (m : Meaning). m.formula) (λ (m : Meaning). m.words) entries (words_plain entries all));
      macros = of_entries IsPlainMacro _ (all_rows IsPlainMacro (λ (m : Meaning). (m.formula, m.level)) (λ (m : Meaning). m.macros) entries (macros_plain entries all));
    }

-- ---- edits

module _ (dict : Dictionary) (plain : IsPlainDictionary dict) where
  formula_plain : (e : EntryView) → AllByRecursion IsSingleLine (connector_texts e.expr) → IsPlainTree (formula_in dict e)
  formula_plain e h = filled_plain (macros_of dict) (λ name m is. (plain.macros name m is).1) e.expr h

  edited_plain : (edit : EditView) → AllByRecursion IsSingleLine (edit_texts edit) → IsPlainDictionary (edited dict edit)
  edited_plain (puts e) h =
      let names = all_left IsSingleLine (names_of e) (connector_texts e.expr) h in
      let formula = formula_plain e (all_right IsSingleLine (names_of e) (connector_texts e.expr) h) in record {
        words = of_inserted IsPlainWord (names_of e) (formula_in dict e) dict.words (with_tree (names_of e) (formula_in dict e) names formula) plain.words;
        macros = plain.macros;
      }
  edited_plain (sets e) h =
      let names = all_left IsSingleLine (names_of e) (connector_texts e.expr) h in
      let formula = formula_plain e (all_right IsSingleLine (names_of e) (connector_texts e.expr) h) in record {
        words = plain.words;
        macros = of_inserted IsPlainMacro (names_of e) (formula_in dict e, level_in dict e) dict.macros (with_tree (names_of e) (formula_in dict e) names formula) plain.macros;
      }
  edited_plain (removes word) h = record { words = of_removed IsPlainWord word dict.words plain.words; macros = plain.macros }

pub edits_keep_plain : EditsKeepPlain
edits_keep_plain dict edit plain h = by (is_none (accept dict edit))
  where
    by : (b : Bool) → IsPlainDictionary (if b then edited dict edit else dict)
    by true = edited_plain dict plain edit (all_left IsSingleLine (edit_texts edit) _ h)
    by false = plain
