-- A made dictionary: its entries, one after another.
use Rattle.std.proofs.Common.{◌≡◌, ◌≢◌, ℕ, zero, suc, ◌+◌, ◌%◌, ◌^◌, ◌<◌, ◌≤◌, Bool, true, false, cond, leb, List, [], ◌∷◌, ◌++◌, codes, refl, ap, sym, ◌∙◌, subst, arith, append_assoc, Option, None, Some}
use Rattle.std.specs.Fmt.{decimal}
use Rattle.std.specs.List.{flat_map, range_with_len}
use Rattle.std.specs.Cmp.Lexicographic.{same_text as text_same}
use Rattle.std.specs.Map.{lookup}
use Rattle.std.proofs.lemmas.Bool.{false_from_ne_true, cond-false, leb-true}
use Rattle.std.proofs.lemmas.Fmt.{decimal_injective}
use Rattle.std.proofs.lemmas.Nat.{mod_below}
use Rattle.std.proofs.Math.Bool.{and-false}
use Rattle.lg_gram.specs.declared.entry.Item.{Item}
use Rattle.lg_gram.specs.declared.entry.ItemKind.TheVariants.{Word}
use Rattle.lg_gram.specs.Filled.{Formulas, filled}
use Rattle.lg_gram.specs.Limits.{LEVEL, FORMULA_NODES, FORMULA_CHOICES, SIDE}
use Rattle.lg_gram.specs.Measured.{IsSmall, longest_side}
use Rattle.lg_gram.specs.Measures.{node_count, choice_count}
use Rattle.lg_gram.specs.RawTrees.{RawTree}
use Rattle.lg_gram.specs.Trees.{Tree}
use Rattle.lg_lex.specs.declared.marks.Marks.{Marks}
use Rattle.lg_lex.specs.declared.marks.Marks.TheVariants.{Dictionary}
use Rattle.lg_lex.specs.Lexing.{lex, between}
use Rattle.lg_lex.specs.Tokens.{Token, sign, plain, AreTokens}
use Rattle.lg_expr.specs.declared.macros.Known.{Known}
use Rattle.lg_expr.specs.Automaton.{read, start, run}
use Rattle.lg_expr.specs.Classes.{is_macro_name}
use Rattle.lg_expr.specs.Grammar.{Rules}
use Rattle.lg_expr.specs.Parts.{Part}
use Rattle.lg_expr.specs.Reading.{AnswerIs}
use Rattle.lg_dictread.specs.Definitions.{Lines, line_in, same_text, Defined, ItemsGive, defines, no_item, none_defined, define}
use Rattle.lg_dictread.specs.Entries.{part, Written, EntryStands}
use Rattle.lg_dictread.specs.Items.{item, is_file_name, plain_item}
use Rattle.lg_dictread.specs.Lines.{line_of}
use Rattle.lg_dictread.specs.Texts.{Earlier, rules_after, nothing, Meaning, meaning_of, then_entry, EntryGives, means, whole, stands, TextIs, DictionaryGives}
use Rattle.lg_dictread.specs.Texts.TextIs.{ended, entry as entry_then}
use Rattle.lg_dictread.specs.Texts.DictionaryGives.{text as of_text}
use Rattle.lg_gen.specs.Made.{word, expression, entry_line}
use Rattle.lg_gen.proofs.Bytes.{decimal_digits, entries_are_small, small_is_utf8}
use Rattle.lg_gen.proofs.Lexed.{digits_and_colon}

-- ---- a word

abbrev item_of : ℕ → Item
item_of n = record { kind = Word; text = word n }

no_macro : (n : ℕ) → is_macro_name (word n) ≡ false
no_macro n = search (and-false)

no_file : (n : ℕ) → is_file_name (word n) ≡ false
no_file n = search (and-false)

word_item : (n : ℕ) → plain_item (word n) ≡ item_of n
word_item n = cond-false (is_macro_name (word n)) _ _ (no_macro n) ∙ cond-false (is_file_name (word n)) _ _ (no_file n)

other_word : (m n : ℕ) → m < 2 ^ 64 → n < 2 ^ 64 → m ≢ n → same_text (word m) (word n) ≡ false
other_word m n small short other = false_from_ne_true (same_text (word m) (word n)) (λ e.
    let same : word m ≡ word n = text_same (word m) (word n) (sym e) in
    let numbers : decimal m ≡ decimal n = cc in
    other (decimal_injective m n small short numbers))

-- ---- an expression

abbrev rules_by : (List ℕ → Known) → Rules
rules_by known = record { known = known; limit = LEVEL }

-- the expression is read, whatever follows it, and is small
pub record IsRead (known : List ℕ → Known) (at : ℕ) (bytes rest : List ℕ) : Type 0 where
  pub expr : RawTree
  pub level : ℕ
  pub end : ℕ
  pub is : run Token part (rules_by known) start (lex Dictionary between at bytes) ≡ read expr level (lex Dictionary between end rest)
  pub small : (formulas : Formulas) → IsSmall (filled formulas expr)

is_small : (t : Tree) → leb (node_count t) FORMULA_NODES ≡ true → leb (choice_count t) FORMULA_CHOICES ≡ true → leb (longest_side t) SIDE ≡ true → IsSmall t
is_small t nodes choices side = record { nodes = leb-true _ _ nodes; choices = leb-true _ _ choices; side = leb-true _ _ side }

expression_is_read : (k : ℕ) → k < 4 → (known : List ℕ → Known) (at : ℕ) (rest : List ℕ) → IsRead known at (32 ∷ ((expression k ++ codes ";\n") ++ rest)) rest
expression_is_read zero h known at rest = record { expr = _; level = _; end = _; is = refl; small = λ formulas. is_small _ refl refl refl }
expression_is_read (suc zero) h known at rest = record { expr = _; level = _; end = _; is = refl; small = λ formulas. is_small _ refl refl refl }
expression_is_read (suc (suc zero)) h known at rest = record { expr = _; level = _; end = _; is = refl; small = λ formulas. is_small _ refl refl refl }
expression_is_read (suc (suc (suc zero))) h known at rest = record { expr = _; level = _; end = _; is = refl; small = λ formulas. is_small _ refl refl refl }
expression_is_read (suc (suc (suc (suc k)))) h known at rest = absurd (omega arith)

-- ---- the tokens of an entry

-- its word, its colon, and what its expression begins
entry_is_lexed : (n at : ℕ) (rest : List ℕ) → n < 2 ^ 64
    → (b : ℕ) × (c : ℕ) × (lex Dictionary between at (entry_line n ++ rest) ≡ (plain (word n), at) ∷ (sign 58, b) ∷ lex Dictionary between c (32 ∷ ((expression (n % 4) ++ codes ";\n") ++ rest)))
entry_is_lexed n at rest small =
    let (b, c, is) = digits_and_colon at (at + 1) (codes "w") (decimal n) (32 ∷ ((expression (n % 4) ++ codes ";\n") ++ rest)) (decimal_digits n small).all in
    (b, c, ap (λ (l : List ℕ). lex Dictionary between at (codes "w" ++ l)) (append_assoc (decimal n) (codes ": " ++ (expression (n % 4) ++ codes ";\n")) rest) ∙ is)

module _ (lexed : (marks : Marks) (before : ℕ) (bytes : List ℕ) → AreTokens marks (lex marks between before bytes) before bytes)
    (answered : (part : Token → Part) (r : Rules) (ts : List Token) → AnswerIs Token part r ts (run Token part r start ts)) where
  entry_stands : (known : List ℕ → Known) (n at b : ℕ) (ts rest : List Token) (e : RawTree) (level : ℕ)
      → run Token part (rules_by known) start ts ≡ read e level rest
      → EntryStands (rules_by known) ((plain (word n), at) ∷ (sign 58, b) ∷ ts) (record { items = (item_of n, at) ∷ []; expr = e; level = level }) rest
  entry_stands known n at b ts rest e level is = record {
    mark = (sign 58, b);
    body = ts;
    some = λ q. cc;
    are_items = (ap item (word_item n), refl, refl);
    is_colon = refl;
    stands = subst (AnswerIs Token part (rules_by known) ts) is (answered part (rules_by known) ts);
  }

  -- ---- one entry after another

  -- no word from this number on is defined
  abbrev Fresh : ℕ → Lines → Type 0
  Fresh first defined = (n : ℕ) → first ≤ n → n < 2 ^ 64 → line_in defined (word n) ≡ None

  none_by : (passes : Bool) (d : List ℕ × ℕ) (old more : Option ℕ) → (old ≡ None → more ≡ None) → cond passes (Some d.1) old ≡ None → cond passes (Some d.1) more ≡ None
  none_by true d old more then none = absurd cc
  none_by false d old more then none = then none

  none_more : (test : List ℕ → Bool) (es : Lines) (e : List ℕ × ℕ) → test e.0 ≡ false → lookup test es ≡ None → lookup test (es ++ e ∷ []) ≡ None
  none_more test [] e fails none = cond-false (test e.0) (Some e.1) None fails
  none_more test (d ∷ es) e fails none = none_by (test d.0) d (lookup test es) (lookup test (es ++ e ∷ [])) (none_more test es e fails) none

  fresh_more : (first line : ℕ) (defined : Lines) → first < 2 ^ 64 → Fresh first defined → Fresh (first + 1) (defined ++ (word first, line) ∷ [])
  fresh_more first line defined small fresh n later short =
      none_more (same_text (word n)) defined (word first, line) (other_word n first short small (λ e. omega arith)) (fresh n (omega arith) short)

  item_gives : (text : List ℕ) (n at : ℕ) (defined : Defined) → line_in defined.words (word n) ≡ None
      → ItemsGive defined ((item_of n, line_of text (item_of n, at)) ∷ []) [] (define (record { words = (word n, line_of text (item_of n, at)) ∷ []; macros = [] }))
  item_gives text n at defined new =
      defines defined (item_of n) (line_of text (item_of n, at)) [] (word n ∷ []) [] [] (define none_defined) (refl, refl) (new, tt) (no_item _)

  module _ (text : List ℕ) where
    abbrev Stands : Earlier → List Token → Type 0
    Stands earlier ts = (ms : List Meaning) × TextIs text earlier ts [] (stands ms)

    entries_stand : (n first at : ℕ) (earlier : Earlier) → first + n ≤ 100000 → Fresh first earlier.defined.words → Stands earlier (lex Dictionary between at (flat_map entry_line (range_with_len first n)))
    entries_stand zero first at earlier few fresh = ([], ended earlier)
    entries_stand (suc n) first at earlier few fresh =
        let rest = flat_map entry_line (range_with_len (first + 1) n) in
        let small : first < 2 ^ 64 = omega arith in
        let (b, c, is) = entry_is_lexed first at rest small in
        let known = (rules_after earlier).known in
        let x = expression_is_read (first % 4) (mod_below first 4 (omega arith)) known c rest in
        let e : Written = record { items = (item_of first, at) ∷ []; expr = x.expr; level = x.level } in
        let new : Defined = record { words = (word first, line_of text (item_of first, at)) ∷ []; macros = [] } in
        let after = lex Dictionary between x.end rest in
        let ts = (plain (word first), at) ∷ (sign 58, b) ∷ lex Dictionary between c (32 ∷ ((expression (first % 4) ++ codes ";\n") ++ rest)) in
        let one : EntryGives text earlier ts [] (means (meaning_of text earlier e new) new after) =
        whole e after [] new (entry_stands known first at b _ after x.expr x.level x.is) (x.small earlier.formulas) (item_gives text first at earlier.defined (fresh first (omega arith) small)) in
        let m = meaning_of text earlier e new in
        let (ms, more) = entries_stand n (first + 1) x.end (then_entry earlier new m) (omega arith) (fresh_more first (line_of text (item_of first, at)) earlier.defined.words small fresh) in
        (m ∷ ms, subst (λ (l : List Token). TextIs text earlier l [] (stands (m ∷ ms))) (sym is) (entry_then earlier ts after [] [] m new (stands ms) (λ q. cc) one more))

  pub dictionary_gives : (words : ℕ) → 1 ≤ words → words ≤ 100000 → (ms : List Meaning) × DictionaryGives (flat_map entry_line (range_with_len 0 words)) [] (stands ms)
  dictionary_gives zero some few = absurd (omega arith)
  dictionary_gives (suc n) some few =
      let bytes = flat_map entry_line (range_with_len 0 (suc n)) in
      let (ms, is) = entries_stand bytes (suc n) 0 0 nothing (omega arith) (λ m later short. refl) in
      (ms, of_text (lex Dictionary between 0 bytes) [] (stands ms) (record { utf8 = small_is_utf8 bytes (entries_are_small 0 (suc n) (omega arith)); tokens = lexed Dictionary 0 bytes }) is)
