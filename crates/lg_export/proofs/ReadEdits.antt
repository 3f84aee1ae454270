-- What edits make of a dictionary that can be exported can be exported.
use Rattle.std.proofs.Common.{◌≡◌, ℕ, ◌≤◌, Bool, true, false, cond, ◌||◌, List, [], ◌∷◌, map, Option, Some, None, IfSome, Result, Ok, Err, ltb, ltb-false, refl, sym, subst, arith}
use Rattle.std.specs.FinMap.{get}
use Rattle.std.specs.List.{AllByRecursion, list_any}
use Rattle.std.specs.Option.{option_map, option_or}
use Rattle.std.specs.Str.{IsUtf8}
use Rattle.std.specs.Cmp.Lexicographic.{same_text as text_same}
use Rattle.lg_gram.specs.declared.entry.Item.{Item}
use Rattle.lg_gram.specs.declared.entry.ItemKind.TheVariants as kinds
use Rattle.lg_gram.specs.declared.edit.EditRefusal.TheVariants.{TooDeep}
use Rattle.lg_gram.specs.EntryViews.{EntryView}
use Rattle.lg_gram.specs.Filled.{Formulas, filled, filled_level}
use Rattle.lg_gram.specs.Limits.{LEVEL, FORMULA_NODES, FORMULA_CHOICES, SIDE}
use Rattle.lg_gram.specs.Measured.{IsSmall, excess, longest_side}
use Rattle.lg_gram.specs.Measures.{node_count, choice_count}
use Rattle.lg_gram.specs.RawTrees.{RawTree}
use Rattle.lg_gram.specs.Trees.{Tree}
use Rattle.lg_dict.specs.Dictionary.{Dictionary, macros_of}
use Rattle.lg_dict.specs.Tables.{same_text}
use Rattle.lg_dict.proofs.Changed.{get-insert_all, get-removed}
use Rattle.lg_edit.specs.Edits.{EditView, puts, sets, removes, names_of, accept, accept_entry, unknown_macro, too_deep, too_large, refuse_excess, edited, formula_in, level_in, DefinesWords, DefinesOneMacro}
use Rattle.lg_dictread.specs.declared.entry_text.EntryError.{EntryError}
use Rattle.lg_dictread.specs.EntryTexts.{EntryTextIs, not_utf8, one, goes_on, faulty}
use Rattle.lg_lex.specs.declared.marks.Marks.TheVariants.{Dictionary as dictionary_marks}
use Rattle.lg_lex.specs.Tokens.{Token, AreTokens, HasUtf8}
use Rattle.lg_expr.specs.Grammar.{tree}
use Rattle.lg_export.specs.Exportable.{IsReadable, IsWordToWrite, IsMacroToWrite, IsExportable}
use Rattle.lg_export.specs.Levels.{MacrosReach}
use Rattle.lg_export.specs.Read.{IsReadEdit, read_puts, read_sets, read_removes}
use Rattle.lg_export.specs.Spelling.{top, level_at}
use Rattle.lg_export.proofs.Reach.{level_reaches}
use Rattle.lg_export.proofs.ReadTrees.{AreWritten, tree_readable}
use Rattle.lg_export.proofs.ReadEntries.{IsOneLine, IsPlainName, ItemGood, Within, if_some, tokens_good, items_good}

-- ---- an edit that is accepted has no cause of a refusal

none_first : {X : Type 0} (x y : Option X) → option_or x y ≡ None → (x ≡ None) × (y ≡ None)
none_first None y e = (refl, e)
none_first (Some x) y e = absurd cc

not_mapped : {X Y : Type 0} (f : X → Y) (o : Option X) → option_map f o ≡ None → o ≡ None
not_mapped f None e = refl
not_mapped f (Some x) e = absurd cc

not_beyond : {X : Type 0} (most n : ℕ) (b : Bool) (x : X) (rest : Option X) → ltb most n ≡ b → cond b (Some x) rest ≡ None → (n ≤ most) × (rest ≡ None)
not_beyond most n true x rest is e = absurd cc
not_beyond most n false x rest is e = (ltb-false most n is, e)

no_excess : (t : Tree) → excess t ≡ None → IsSmall t
no_excess t e =
    let nodes = not_beyond FORMULA_NODES (node_count t) (ltb FORMULA_NODES (node_count t)) _ _ refl e in
    let choices = not_beyond FORMULA_CHOICES (choice_count t) (ltb FORMULA_CHOICES (choice_count t)) _ _ refl nodes.1 in
    let side = not_beyond SIDE (longest_side t) (ltb SIDE (longest_side t)) _ _ refl choices.1 in
    record { nodes = nodes.0; choices = choices.0; side = side.0 }

-- ---- an entry that is read

-- its items are such as can be written; its formula too, whatever macros are put in that are so
record ViewGood (e : EntryView) : Type 0 where
  items : AllByRecursion ItemGood e.items
  readable : (formulas : Formulas) → ((name : List ℕ) → IfSome (formulas name) (λ m. IsReadable m.0)) → IsReadable (filled formulas e.expr)
  reaches : (formulas : Formulas) → MacrosReach formulas → level_at top (filled formulas e.expr) ≤ filled_level formulas e.level e.expr

abbrev AnswerGood : Result EntryView EntryError → Type 0
AnswerGood (Ok e) = ViewGood e
AnswerGood (Err error) = Unit {0}

only_items : (is : List (Item × ℕ)) → AllByRecursion (λ (i : Item × ℕ). ItemGood i.0) is → AllByRecursion ItemGood (map (λ i. i.0) is)
only_items [] h = tt
only_items (i ∷ is) h = (h.0, only_items is h.1)

module _ (written : AreWritten)
    (tokens_utf8 : (ts : List Token) (bytes : List ℕ) → IsUtf8 bytes → AreTokens dictionary_marks ts 0 bytes → AllByRecursion (λ (t : Token). HasUtf8 t.0) ts) where
  answer_good : (bytes : List ℕ) (x : Result EntryView EntryError) → EntryTextIs bytes x → AnswerGood x
  answer_good bytes _ (not_utf8 n is) = tt
  answer_good bytes _ (one ts e tokens is) =
      let good = tokens_good ts 0 bytes tokens.tokens (tokens_utf8 ts bytes tokens.utf8 tokens.tokens) in
      let h = is.stands in
      let a = h.derivation in
      record {
        items = only_items e.items (items_good e.items ts (is.mark ∷ is.body) good is.are_items).0;
        readable = λ formulas macros. subst (λ (t : RawTree). IsReadable (filled formulas t)) h.means (tree_readable formulas macros written h.front a h.spells);
        reaches = λ formulas reach. subst (λ (t : RawTree). level_at top (filled formulas t) ≤ filled_level formulas e.level t) h.means
            (subst (λ (n : ℕ). level_at top (filled formulas (tree a)) ≤ filled_level formulas n (tree a)) h.level_is (level_reaches formulas reach a));
      }
  answer_good bytes _ (goes_on ts e t rest error tokens is told) = tt
  answer_good bytes _ (faulty ts f left error tokens is told) = tt

  entry_within : (dict : Dictionary) (e : EntryView) → IsExportable dict → ViewGood e → accept_entry dict e ≡ None → Within (formula_in dict e) (level_in dict e)
  entry_within dict e can good accepted =
      let causes = none_first (unknown_macro dict e) (option_or (too_deep dict e) (too_large dict e)) accepted in
      let others = none_first (too_deep dict e) (too_large dict e) causes.1 in
      let few : level_in dict e ≤ LEVEL = (not_beyond LEVEL (level_in dict e) (ltb LEVEL (level_in dict e)) (TooDeep (level_in dict e)) None refl others.0).0 in
      let small = no_excess (formula_in dict e) (not_mapped refuse_excess (excess (formula_in dict e)) others.1) in
      let reaches = good.reaches (macros_of dict) (λ name. if_some (IsMacroToWrite name) (λ m. level_at top m.0 ≤ m.1) (macros_of dict name) (λ m w. w.above) (can.macros name)) in
      record {
        has_text = record {
          readable = good.readable (macros_of dict) (λ name. if_some (IsMacroToWrite name) (λ m. IsReadable m.0) (macros_of dict name) (λ m w. w.formula.readable) (can.macros name));
          small = small;
          level = omega (arith, reaches, few);
        };
        above = reaches;
        few = few;
      }

  -- ---- names

  -- what holds of all names holds of one that is among them
  among_step : (P : List ℕ → Type 0) (text key : List ℕ) (b rest : Bool) → same_text text key ≡ b → P key → (rest ≡ true → P text) → b || rest ≡ true → P text
  among_step P text key true rest is h more e = subst P (sym (text_same text key (sym is))) h
  among_step P text key false rest is h more e = more e

  among : (P : List ℕ → Type 0) (text : List ℕ) (keys : List (List ℕ)) → AllByRecursion P keys → list_any (same_text text) keys ≡ true → P text
  among P text [] h e = absurd cc
  among P text (key ∷ keys) h e = among_step P text key (same_text text key) (list_any (same_text text) keys) refl h.0 (among P text keys h.1) e

  words_one_line : (is : List Item) → AllByRecursion (λ (i : Item). i.kind ≡ kinds.Word) is → AllByRecursion ItemGood is → AllByRecursion IsOneLine (map (λ i. i.text) is)
  words_one_line [] words h = tt
  words_one_line (i ∷ is) words h = (kind_word i words.0 h.0, words_one_line is words.1 h.1)
    where
      kind_word : (i : Item) → i.kind ≡ kinds.Word → ItemGood i → IsOneLine i.text
      kind_word i is h = subst (λ k. ItemGood (record { kind = k; text = i.text })) is h

  put : {X : Type 0} (P : X → Type 0) (b : Bool) (x : X) (o : Option X) → (b ≡ true → P x) → IfSome o P → IfSome (cond b (Some x) o) P
  put P true x o h old = h refl
  put P false x o h old = old

  taken : {X : Type 0} (P : X → Type 0) (b : Bool) (o : Option X) → IfSome o P → IfSome (cond b None o) P
  taken P true o old = tt
  taken P false o old = old

  -- ---- edits

  with_words_can : (dict : Dictionary) (e : EntryView) → IsExportable dict → ViewGood e → DefinesWords e → accept_entry dict e ≡ None → IsExportable (edited dict (puts e))
  with_words_can dict e can good words accepted =
      let w = entry_within dict e can good accepted in
      let names = words_one_line e.items words good.items in
      record {
        words = λ word. subst (λ (o : Option Tree). IfSome o (IsWordToWrite word)) (sym (get-insert_all (names_of e) (formula_in dict e) dict.words word))
            (put (IsWordToWrite word) (list_any (same_text word) (names_of e)) (formula_in dict e) (get dict.words word)
            (λ there. let own = among IsOneLine word (names_of e) names there in record { utf8 = own.utf8; some = own.some; on_one_line = own.on_one_line; formula = w.has_text }) (can.words word));
        macros = can.macros;
      }

  with_macro_can : (dict : Dictionary) (e : EntryView) → IsExportable dict → ViewGood e → DefinesOneMacro e → accept_entry dict e ≡ None → IsExportable (edited dict (sets e))
  with_macro_can dict e can good (i, only, kind) accepted =
      let w = entry_within dict e can good accepted in
      let m : Tree × ℕ = (formula_in dict e, level_in dict e) in
      let item : ItemGood i = (subst (AllByRecursion ItemGood) only good.items).0 in
      let plain_name : IsPlainName i.text = subst (λ k. ItemGood (record { kind = k; text = i.text })) kind item in
      let names : AllByRecursion IsPlainName (names_of e) = subst (λ (is : List Item). AllByRecursion IsPlainName (map (λ i. i.text) is)) (sym only) (plain_name, tt) in
      record {
        words = can.words;
        macros = λ name. subst (λ (o : Option (Tree × ℕ)). IfSome o (IsMacroToWrite name)) (sym (get-insert_all (names_of e) m dict.macros name))
            (put (IsMacroToWrite name) (list_any (same_text name) (names_of e)) m (get dict.macros name)
            (λ there. let own = among IsPlainName name (names_of e) names there in
            record { utf8 = own.utf8; named = own.named; plain = own.plain; formula = w.has_text; above = w.above; few = w.few }) (can.macros name));
      }

  without_word_can : (dict : Dictionary) (key : List ℕ) → IsExportable dict → IsExportable (edited dict (removes key))
  without_word_can dict key can = record {
    words = λ word. subst (λ (o : Option Tree). IfSome o (IsWordToWrite word)) (sym (get-removed dict.words key word)) (taken (IsWordToWrite word) (same_text word key) (get dict.words word) (can.words word));
    macros = can.macros;
  }

  pub edited_is_exportable : (dict : Dictionary) (edit : EditView) → IsExportable dict → IsReadEdit edit → accept dict edit ≡ None → IsExportable (edited dict edit)
  edited_is_exportable dict _ can (read_puts bytes e is words) accepted = with_words_can dict e can (answer_good bytes (Ok e) is) words accepted
  edited_is_exportable dict _ can (read_sets bytes e is one_macro) accepted = with_macro_can dict e can (answer_good bytes (Ok e) is) one_macro accepted
  edited_is_exportable dict _ can (read_removes word) accepted = without_word_can dict word can
