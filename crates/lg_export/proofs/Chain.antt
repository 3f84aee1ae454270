-- The text of a dictionary, an entry after another.
use Rattle.std.proofs.Common.{◌≡◌, ◌≢◌, ℕ, ◌+◌, ◌-◌, ◌≤◌, ◌^◌, max, Bool, true, false, cond, List, [], ◌∷◌, ◌++◌, map, codes, refl, ap, sym, subst, ◌∙◌, arith, append_assoc, Option, Some, None}
use Rattle.std.specs.Prelude.{T, ℤ, unsigned_abs}
use Rattle.std.specs.Cmp.Lexicographic.{slice_cmp}
use Rattle.std.specs.FinMap.{entries, entries_sorted, from_entries}
use Rattle.std.specs.FinMap.Entries.{is_sorted}
use Rattle.std.specs.List.{flat_map, AllByRecursion}
use Rattle.std.specs.Ordering.{nat_cmp}
use Rattle.std.specs.Str.{IsUtf8}
use Rattle.std.proofs.lemmas.Bool.{cond-true}
use Rattle.std.proofs.lemmas.Str.{IsUtf8-append, IsUtf8-nil}
use Rattle.lg_base.specs.Costs.{cost_text, IsCostNumber, read_cost}
use Rattle.lg_gram.specs.declared.entry.Item.{Item}
use Rattle.lg_gram.specs.declared.entry.ItemKind.TheVariants.{Word, Macro}
use Rattle.lg_gram.specs.Connectors.{Connector}
use Rattle.lg_gram.specs.Filled.{Formulas, filled, filled_in, filled_level, level_reached, highest}
use Rattle.lg_gram.specs.Limits.{LEVEL}
use Rattle.lg_gram.specs.Measured.{IsSmall}
use Rattle.lg_gram.specs.Names.{NamesAreWritten}
use Rattle.lg_gram.specs.RawTrees.{RawTree, macros_of, macros_in}
use Rattle.lg_gram.specs.Trees.{Tree, Trees, empty, leaf, all_of, one_of, priced, no_trees, tree}
use Rattle.lg_lex.specs.declared.marks.Marks.{Marks}
use Rattle.lg_lex.specs.declared.marks.Marks.TheVariants.{Dictionary}
use Rattle.lg_lex.specs.Lexing.{lex, between}
use Rattle.lg_lex.specs.Marked.{without_mark}
use Rattle.lg_lex.specs.Tokens.{is_text, Lexeme, Token, sign, plain, quoted, ArePlain, AreTokens}
use Rattle.lg_expr.specs.declared.part.Operator.TheVariants.{And, Or}
use Rattle.lg_expr.specs.declared.macros.Known.{Known}
use Rattle.lg_expr.specs.Automaton.{read, start, run}
use Rattle.lg_expr.specs.Classes.{is_macro_name, part_of_lexeme, part_of_number, part_of_connector, connector_of}
use Rattle.lg_expr.specs.Grammar.{Rules}
use Rattle.lg_expr.specs.Parts.{Part, names, operates}
use Rattle.lg_expr.specs.Reading.{AnswerIs}
use Rattle.lg_expr.specs.Words.{Writes, IsMacroName, begins_number}
use Rattle.lg_dict.specs.Dictionary as dictionaries
use Rattle.lg_dictread.specs.Definitions.{Lines, line_in, Defined, ItemsGive, defines, no_item, none_defined, define}
use Rattle.lg_dictread.specs.Entries.{part, Written, EntryStands}
use Rattle.lg_dictread.specs.Items.{item, head_of, plain_item}
use Rattle.lg_dictread.specs.Lines.{line_of}
use Rattle.lg_dictread.specs.Texts.{Earlier, rules_after, nothing, Meaning, meaning_of, then_entry, EntryGives, means, whole, stands, TextIs}
use Rattle.lg_dictread.specs.Texts.TextIs.{ended, entry as entry_then}
use Rattle.lg_dictread.specs.Texts.DictionaryGives.{text as of_text}
use Rattle.lg_export.specs.Spelling.{top, spelled, level_at, bracketed, macro_line, word_line, dictionary_spelled}
use Rattle.lg_export.specs.Exports.{has_quote, quoted_word}
use Rattle.lg_export.specs.Levels.{raw_of, raws_of}
use Rattle.lg_export.specs.Exportable.{IsWordToWrite, IsMacroToWrite, IsExportable}
use Rattle.lg_export.specs.ReadBack.{words_meant, macros_meant, ReadsBack}
use Rattle.lg_export.proofs.Lexed.{one_plain, one_quoted}
use Rattle.lg_export.proofs.ReadTexts.{expression_read, alone_read}
use Rattle.lg_export.proofs.Texts.{small_both, small_is_utf8, top_small, bracketed_small}
use Rattle.lg_export.proofs.Found.{own_entries, of_entries, AllNew, new_at_first, new_after, rises_after, none_of}

-- ---- no macro is put in

mutual
  unfilled : (formulas : Formulas) (t : Tree) → filled formulas (raw_of t) ≡ t
  unfilled formulas empty = refl
  unfilled formulas (leaf c) = refl
  unfilled formulas (all_of ts) = ap all_of (all_unfilled formulas ts)
  unfilled formulas (one_of ts) = ap one_of (all_unfilled formulas ts)
  unfilled formulas (priced t cost) = ap (λ (u : Tree). priced u cost) (unfilled formulas t)

  all_unfilled : (formulas : Formulas) (ts : Trees) → filled_in formulas (raws_of ts) ≡ ts
  all_unfilled formulas no_trees = refl
  all_unfilled formulas (tree t ts) = λ i. tree (unfilled formulas t i) (all_unfilled formulas ts i)

mutual
  names_none : (t : Tree) → macros_of (raw_of t) ≡ []
  names_none empty = refl
  names_none (leaf c) = refl
  names_none (all_of ts) = all_none ts
  names_none (one_of ts) = all_none ts
  names_none (priced t cost) = names_none t

  all_none : (ts : Trees) → macros_in (raws_of ts) ≡ []
  all_none no_trees = refl
  all_none (tree t ts) = λ i. names_none t i ++ all_none ts i

same_level : (formulas : Formulas) (n : ℕ) (t : Tree) → filled_level formulas n (raw_of t) ≡ n
same_level formulas n t =
    let none = ap (λ (ms : List (List ℕ × ℕ)). max n (reached ms)) (names_none t) in
    let zero_more : max n 0 ≡ n = omega arith in
    none ∙ zero_more
  where
    reached : List (List ℕ × ℕ) → ℕ
    reached ms = highest (map (level_reached formulas) ms)

-- ---- names of macros

is_name : (o a i n : Bool) (m : List ℕ) (x y : Part) → x ≢ names m → y ≢ names m → cond o (operates Or) (cond a (operates And) (cond i (names m) (cond n x y))) ≡ names m → i ≡ true
is_name true a i n m x y p q e = absurd cc
is_name false true i n m x y p q e = absurd cc
is_name false false true n m x y p q e = refl
is_name false false false true m x y p q e = absurd (p e)
is_name false false false false m x y p q e = absurd (q e)

not_number : (o : Option ℤ) (m : List ℕ) → part_of_number o ≢ names m
not_number None m e = cc
not_number (Some cost) m e = cc

not_connector : (o : Option Connector) (m : List ℕ) → part_of_connector o ≢ names m
not_connector None m e = cc
not_connector (Some c) m e = cc

-- ---- one entry

abbrev rules_by : (List ℕ → Known) → Rules
rules_by known = record { known = known; limit = LEVEL }

module _ (lexed : (marks : Marks) (before : ℕ) (bytes : List ℕ) → AreTokens marks (lex marks between before bytes) before bytes)
    (answered : (part : Token → Part) (r : Rules) (ts : List Token) → AnswerIs Token part r ts (run Token part r start ts))
    (written_so : NamesAreWritten)
    (only : (x : Lexeme) (p : Part) → Writes x p → part_of_lexeme x ≡ p)
    (costs : (cost : ℤ) → unsigned_abs cost ≤ 10 ^ 7 → IsCostNumber (cost_text cost) cost × ArePlain Dictionary (cost_text cost) × (cost_text cost ≢ [])) where
  macro_item : (name : List ℕ) → IsMacroName name → plain_item name ≡ record { kind = Macro; text = name }
  macro_item name named =
      let is = is_name (is_text (codes "or") name) (is_text (codes "and") name) (is_macro_name name) (begins_number name) name (part_of_number (read_cost name)) (part_of_connector (connector_of name))
      (not_number (read_cost name) name) (not_connector (connector_of name) name) (only (plain name) (names name) (refl, named)) in
      cond-true (is_macro_name name) _ _ is

  entry_stands : (known : List ℕ → Known) (x : Lexeme) (i : Item) (at b : ℕ) (ts rest : List Token) (e : RawTree) (level : ℕ) → head_of x ≡ item i
      → run Token part (rules_by known) start ts ≡ read e level rest
      → EntryStands (rules_by known) ((x, at) ∷ (sign 58, b) ∷ ts) (record { items = (i, at) ∷ []; expr = e; level = level }) rest
  entry_stands known x i at b ts rest e level is_item is = record {
    mark = (sign 58, b);
    body = ts;
    some = λ q. cc;
    are_items = (is_item, refl, refl);
    is_colon = refl;
    stands = subst (AnswerIs Token part (rules_by known) ts) is (answered part (rules_by known) ts);
  }

  module _ (text : List ℕ) where
    -- the tokens stand for entries of these words and macros
    record Stands (earlier : Earlier) (ts : List Token) (words : List (List ℕ × Tree)) (macros : List (List ℕ × (Tree × ℕ))) : Type 0 where
      meanings : List Meaning
      is : TextIs text earlier ts [] (stands meanings)
      words_are : words_meant meanings ≡ words
      macros_are : macros_meant meanings ≡ macros

    -- ---- words

    abbrev of_word : List ℕ → ℕ → Defined
    of_word word line = record { words = (word, line) ∷ []; macros = [] }

    word_gives : (word : List ℕ) (line : ℕ) (defined : Defined) → line_in defined.words word ≡ None
        → ItemsGive defined ((record { kind = Word; text = word }, line) ∷ []) [] (define (of_word word line))
    word_gives word line defined new = defines defined (record { kind = Word; text = word }) line [] (word ∷ []) [] [] (define none_defined) (refl, refl) (new, tt) (no_item _)

    word_split : (w : List ℕ × Tree) (rest : List ℕ) → word_line w ++ rest ≡ 34 ∷ (w.0 ++ 34 ∷ 58 ∷ 32 ∷ (spelled top w.1 ++ 59 ∷ 10 ∷ rest))
    word_split w rest =
        ap (λ (l : List ℕ). 34 ∷ l) (append_assoc w.0 (34 ∷ 58 ∷ 32 ∷ (spelled top w.1 ++ 59 ∷ 10 ∷ [])) rest)
        ∙ ap (λ (l : List ℕ). 34 ∷ (w.0 ++ 34 ∷ 58 ∷ 32 ∷ l)) (append_assoc (spelled top w.1) (59 ∷ 10 ∷ []) rest)

    words_stand : (es : List (List ℕ × Tree)) (at : ℕ) (earlier : Earlier) → T (is_sorted (slice_cmp nat_cmp) es) → AllByRecursion (λ e. IsWordToWrite e.0 e.1) es → AllByRecursion (λ e. has_quote e.0 ≡ false) es
        → AllNew earlier.defined.words es → Stands earlier (lex Dictionary between at (flat_map word_line es)) es []
    words_stand [] at earlier rise good quotes new = record { meanings = []; is = ended earlier; words_are = refl; macros_are = refl }
    words_stand (e ∷ es) at earlier rise good quotes new =
        let rest = flat_map word_line es in
        let word = e.0 in
        let t = e.1 in
        let formula = good.0.formula in
        let (n, begins) = one_quoted word good.0.some good.0.on_one_line quotes.0 at (58 ∷ 32 ∷ (spelled top t ++ 59 ∷ 10 ∷ rest)) in
        let (m, reads) = alone_read written_so only costs (rules_after earlier).known t formula.readable formula.level (n + 1) rest in
        let line = line_of text (record { kind = Word; text = word }, at) in
        let w : Written = record { items = (record { kind = Word; text = word }, at) ∷ []; expr = raw_of t; level = level_at top t } in
        let after = lex Dictionary between m rest in
        let ts = (quoted word, at) ∷ (sign 58, n) ∷ lex Dictionary between (n + 1) (32 ∷ (spelled top t ++ 59 ∷ 10 ∷ rest)) in
        let small : IsSmall (filled earlier.formulas (raw_of t)) = subst IsSmall (sym (unfilled earlier.formulas t)) formula.small in
        let one : EntryGives text earlier ts [] (means (meaning_of text earlier w (of_word word line)) (of_word word line) after) =
        whole w after [] (of_word word line) (entry_stands (rules_after earlier).known (quoted word) (record { kind = Word; text = word }) at n _ after (raw_of t) (level_at top t) refl reads) small (word_gives word line earlier.defined new.0) in
        let meaning = meaning_of text earlier w (of_word word line) in
        let rises = rises_after e es rise in
        let more = words_stand es m (then_entry earlier (of_word word line) meaning) rises.1 good.1 quotes.1 (new_after earlier.defined.words word line es rises.0 new.1) in
        let front : lex Dictionary between at (word_line e ++ rest) ≡ ts = ap (lex Dictionary between at) (word_split e rest) ∙ begins in
        record {
          meanings = meaning ∷ more.meanings;
          is = subst (λ (l : List Token). TextIs text earlier l [] (stands (meaning ∷ more.meanings))) (sym front) (entry_then earlier ts after [] [] meaning (of_word word line) (stands more.meanings) (λ q. cc) one more.is);
          words_are = λ i. (word, unfilled earlier.formulas t i) ∷ more.words_are i;
          macros_are = more.macros_are;
        }

    -- ---- macros

    abbrev of_macro : List ℕ → ℕ → Defined
    of_macro name line = record { words = []; macros = (name, line) ∷ [] }

    macro_gives : (name : List ℕ) (line : ℕ) (defined : Defined) → line_in defined.macros name ≡ None
        → ItemsGive defined ((record { kind = Macro; text = name }, line) ∷ []) [] (define (of_macro name line))
    macro_gives name line defined new = defines defined (record { kind = Macro; text = name }) line [] (name ∷ []) [] [] (define none_defined) (refl, refl) (new, tt) (no_item _)

    abbrev more_of : Tree × ℕ → ℕ
    more_of m = m.1 - level_at top m.0

    macro_split : (e : List ℕ × (Tree × ℕ)) (rest : List ℕ) → macro_line e ++ rest ≡ e.0 ++ 58 ∷ 32 ∷ (bracketed (more_of e.1) (spelled top e.1.0) ++ 59 ∷ 10 ∷ rest)
    macro_split e rest =
        append_assoc e.0 (58 ∷ 32 ∷ (bracketed (more_of e.1) (spelled top e.1.0) ++ 59 ∷ 10 ∷ [])) rest
        ∙ ap (λ (l : List ℕ). e.0 ++ 58 ∷ 32 ∷ l) (append_assoc (bracketed (more_of e.1) (spelled top e.1.0)) (59 ∷ 10 ∷ []) rest)

    name_some : (name : List ℕ) → IsMacroName name → name ≢ []
    name_some name named e = let is : codes "<" ++ (named.0 ++ codes ">") ≡ [] = sym named.2 ∙ e in cc

    macros_stand : (es : List (List ℕ × (Tree × ℕ))) (at : ℕ) (earlier : Earlier) (tail : List ℕ) (words : List (List ℕ × Tree)) → T (is_sorted (slice_cmp nat_cmp) es) → AllByRecursion (λ e. IsMacroToWrite e.0 e.1) es
        → AllNew earlier.defined.macros es → earlier.defined.words ≡ []
        → ((n : ℕ) (later : Earlier) → later.defined.words ≡ [] → Stands later (lex Dictionary between n tail) words [])
        → Stands earlier (lex Dictionary between at (flat_map macro_line es ++ tail)) words es
    macros_stand [] at earlier tail words rise good new none rest_stands = rest_stands at earlier none
    macros_stand (e ∷ es) at earlier tail words rise good new none rest_stands =
        let rest = flat_map macro_line es ++ tail in
        let name = e.0 in
        let t = e.1.0 in
        let k = more_of e.1 in
        let formula = good.0.formula in
        let above = good.0.above in
        let few = good.0.few in
        let whole_level : k + level_at top t ≡ e.1.1 = omega arith in
        let within : k + level_at top t ≤ LEVEL = omega arith in
        let (n, begins) = one_plain name (name_some name good.0.named) good.0.plain at (58 ∷ 32 ∷ (bracketed k (spelled top t) ++ 59 ∷ 10 ∷ rest)) (λ q. cc) in
        let (m, reads) = expression_read written_so only costs (rules_after earlier).known k t formula.readable within (n + 1) rest in
        let line = line_of text (record { kind = Macro; text = name }, at) in
        let w : Written = record { items = (record { kind = Macro; text = name }, at) ∷ []; expr = raw_of t; level = k + level_at top t } in
        let after = lex Dictionary between m rest in
        let ts = (plain name, at) ∷ (sign 58, n) ∷ lex Dictionary between (n + 1) (32 ∷ (bracketed k (spelled top t) ++ 59 ∷ 10 ∷ rest)) in
        let small : IsSmall (filled earlier.formulas (raw_of t)) = subst IsSmall (sym (unfilled earlier.formulas t)) formula.small in
        let one : EntryGives text earlier ts [] (means (meaning_of text earlier w (of_macro name line)) (of_macro name line) after) =
        whole w after [] (of_macro name line) (entry_stands (rules_after earlier).known (plain name) (record { kind = Macro; text = name }) at n _ after (raw_of t) (k + level_at top t) (ap item (macro_item name good.0.named)) reads) small
        (macro_gives name line earlier.defined new.0) in
        let meaning = meaning_of text earlier w (of_macro name line) in
        let rises = rises_after e es rise in
        let later = then_entry earlier (of_macro name line) meaning in
        let more = macros_stand es m later tail words rises.1 good.1 (new_after earlier.defined.macros name line es rises.0 new.1) (ap (λ (l : Lines). l ++ []) none) rest_stands in
        let front : lex Dictionary between at ((macro_line e ++ flat_map macro_line es) ++ tail) ≡ ts
        = ap (lex Dictionary between at) (append_assoc (macro_line e) (flat_map macro_line es) tail ∙ macro_split e rest) ∙ begins in
        let levels : filled_level earlier.formulas (k + level_at top t) (raw_of t) ≡ e.1.1 = same_level earlier.formulas (k + level_at top t) t ∙ whole_level in
        record {
          meanings = meaning ∷ more.meanings;
          is = subst (λ (l : List Token). TextIs text earlier l [] (stands (meaning ∷ more.meanings))) (sym front) (entry_then earlier ts after [] [] meaning (of_macro name line) (stands more.meanings) (λ q. cc) one more.is);
          words_are = more.words_are;
          macros_are = λ i. (name, (unfilled earlier.formulas t i, levels i)) ∷ more.macros_are i;
        }

  -- ---- the whole text

  words_utf8 : (es : List (List ℕ × Tree)) → AllByRecursion (λ e. IsWordToWrite e.0 e.1) es → IsUtf8 (flat_map word_line es)
  words_utf8 [] good = IsUtf8-nil
  words_utf8 (e ∷ es) good =
      let back = small_both (spelled top e.1) (59 ∷ 10 ∷ []) (top_small written_so e.1 good.0.formula.readable) refl in
      IsUtf8-append (word_line e) (flat_map word_line es)
      (IsUtf8-append (34 ∷ []) (e.0 ++ 34 ∷ 58 ∷ 32 ∷ (spelled top e.1 ++ 59 ∷ 10 ∷ [])) (small_is_utf8 (34 ∷ []) refl)
      (IsUtf8-append e.0 (34 ∷ 58 ∷ 32 ∷ (spelled top e.1 ++ 59 ∷ 10 ∷ [])) good.0.utf8 (small_is_utf8 (34 ∷ 58 ∷ 32 ∷ (spelled top e.1 ++ 59 ∷ 10 ∷ [])) back)))
      (words_utf8 es good.1)

  macros_utf8 : (es : List (List ℕ × (Tree × ℕ))) → AllByRecursion (λ e. IsMacroToWrite e.0 e.1) es → IsUtf8 (flat_map macro_line es)
  macros_utf8 [] good = IsUtf8-nil
  macros_utf8 (e ∷ es) good =
      let k = e.1.1 - level_at top e.1.0 in
      let back = small_both (bracketed k (spelled top e.1.0)) (59 ∷ 10 ∷ []) (bracketed_small written_so k e.1.0 good.0.formula.readable) refl in
      IsUtf8-append (macro_line e) (flat_map macro_line es)
      (IsUtf8-append e.0 (58 ∷ 32 ∷ (bracketed k (spelled top e.1.0) ++ 59 ∷ 10 ∷ [])) good.0.utf8 (small_is_utf8 (58 ∷ 32 ∷ (bracketed k (spelled top e.1.0) ++ 59 ∷ 10 ∷ [])) back))
      (macros_utf8 es good.1)

  -- no byte order mark stands before the first entry
  no_mark : (ms : List (List ℕ × (Tree × ℕ))) (ws : List (List ℕ × Tree)) → AllByRecursion (λ e. IsMacroToWrite e.0 e.1) ms
      → without_mark (flat_map macro_line ms ++ flat_map word_line ws) ≡ flat_map macro_line ms ++ flat_map word_line ws
  no_mark [] [] good = refl
  no_mark [] (w ∷ ws) good = refl
  no_mark (m ∷ ms) ws good =
      subst (λ (name : List ℕ). without_mark ((macro_line (name, m.1) ++ flat_map macro_line ms) ++ flat_map word_line ws) ≡ (macro_line (name, m.1) ++ flat_map macro_line ms) ++ flat_map word_line ws)
      (sym good.0.named.2) refl

  pub text_reads_back : (dict : dictionaries.Dictionary) → IsExportable dict → quoted_word dict ≡ None → ReadsBack dict
  text_reads_back dict fine quotes =
      let ms = entries dict.macros in
      let ws = entries dict.words in
      let good_macros = of_entries IsMacroToWrite dict.macros fine.macros in
      let good_words = of_entries IsWordToWrite dict.words fine.words in
      let bytes = dictionary_spelled dict in
      let bare = no_mark ms ws good_macros in
      let text = without_mark bytes in
      let read_all = macros_stand text ms 0 nothing (flat_map word_line ws) ws (entries_sorted dict.macros) good_macros (new_at_first ms) refl
      (λ n later none. words_stand text ws n later (entries_sorted dict.words) good_words (none_of has_quote ws quotes) (subst (λ (l : Lines). AllNew l ws) (sym none) (new_at_first ws))) in
      record {
        entries = read_all.meanings;
        gives = of_text (lex Dictionary between 0 bytes) [] (stands read_all.meanings)
            (record {
              utf8 = IsUtf8-append (flat_map macro_line ms) (flat_map word_line ws) (macros_utf8 ms good_macros) (words_utf8 ws good_words);
              tokens = subst (λ (l : List ℕ). AreTokens Dictionary (lex Dictionary between 0 bytes) 0 l) (sym bare) (lexed Dictionary 0 bytes);
            })
            read_all.is;
        same = λ i. record {
          words = (ap from_entries read_all.words_are ∙ own_entries dict.words) i;
          macros = (ap from_entries read_all.macros_are ∙ own_entries dict.macros) i;
        };
      }
