-- What the entry at the front of the tokens is told to give.
use Rattle.std.proofs.Common.{◌≡◌, ◌≢◌, ℕ, suc, ◌&&◌, ◌==◌, nat_lt, eqb-true, Bool, true, false, cond, if◌then◌else◌, List, [], ◌∷◌, ◌++◌, length, map, drop, slice_index, Option, Some, Ok, Err, refl, sym, ap, subst, ◌∙◌, arith}
use Rattle.std.proofs.lemmas.List.{append-nil}
use Rattle.std.proofs.lemmas.Str.{IsCharBoundary-after_ascii, IsUtf8-drop}
use Rattle.std.proofs.lemmas.List.Concat.{flat_map-append}
use Rattle.std.proofs.lemmas.List.Folds.{flat_map-map}
use Rattle.std.specs.List.{AllByRecursion, zip, flat_map, list_any}
use Rattle.std.specs.Str.{IsUtf8}
use Rattle.lg_base.specs.Contents.{Contents}
use Rattle.lg_gram.specs.Filled.{Formulas, filled}
use Rattle.lg_gram.specs.Trees.{Tree}
use Rattle.lg_gram.specs.declared.entry.Entry.{Entry}
use Rattle.lg_lex.specs.declared.marks.Marks.TheVariants.{Dictionary}
use Rattle.lg_lex.specs.Lexing.{tokens_from}
use Rattle.lg_dictread.specs.declared.define.Names.{Names}
use Rattle.lg_dictread.specs.declared.define.Tables.{Tables}
use Rattle.lg_dictread.specs.declared.earlier.Earlier as code_earlier
use Rattle.lg_dictread.specs.declared.items.PlacedItems.{PlacedItems}
use Rattle.lg_gram.specs.declared.entry.Item.{Item}
use Rattle.lg_gram.specs.declared.entry.ItemKind.TheVariants as kinds
use Rattle.lg_lex.specs.declared.location.Location.{Location}
use Rattle.lg_lex.specs.Tokens.{Lexeme, sign, quoted, plain, broken, HasUtf8, Token}
use Rattle.lg_lex.specs.Spots.{location_left}
use Rattle.lg_expr.specs.declared.fault.Fault as expr_fault
use Rattle.lg_expr.specs.declared.fault.Fault.TheVariants.{Syntax}
use Rattle.lg_expr.specs.Grammar.{Rules}
use Rattle.lg_expr.specs.Classes.{is_macro_name}
use Rattle.lg_dictread.specs.declared.dict_error.DictError.{DictError}
use Rattle.lg_dictread.specs.declared.dict_error.DictError.TheVariants as errors
use Rattle.lg_dictread.specs.declared.stop.Stop.{Stop}
use Rattle.lg_dictread.specs.declared.stop.Stop.TheVariants as stops
use Rattle.lg_dictread.specs.Items.{item, colon, other, is_file_name, plain_item, head_of}
use Rattle.lg_dictread.specs.Entries.{head, Written, AreItems, EntryStands, EntryFault, in_items, in_expression}
use Rattle.lg_dictread.specs.Scanning.{items_end, items_stop, scan}
use Rattle.lg_dictread.specs.Recalling.{Means, IsRefused, at_fault, large}
use Rattle.lg_dictread.specs.Lines.{line_of, entry_line, part_left}
use Rattle.lg_dictread.specs.View.{TellsFault, TellsStop, KeepsItems, TellsItems}
use Rattle.lg_dictread.specs.Telling.{Answers, AsksFront, UnlessMemory, ErrorTells}
use Rattle.lg_dictread.specs.Definitions.{same_text, both, Lines, AreNew, Defined, ItemsAnswer, define, refuse_items, ItemsGive}
use Rattle.lg_dictread.specs.Defining.{names_in, defined_in, Listed, listed_in, none_listed, AddsDefined, HasUtf8Name, ItemsAre}
use Rattle.lg_dictread.specs.Texts.{Earlier, rules_after, Meaning, meaning_of, IsSmall, IsLarge, IsErrorOf, EntryOutcome, means, fails, EntryGives, whole, at_items}
use Rattle.lg_dictread.specs.Texts as outcomes
use Rattle.lg_dictread.specs.DictTexts.{entry_meaning}
use Rattle.lg_dictread.specs.Reading.{formulas_of, named_meaning, AddsEntry, AreListed, ListsAll, TellsStopBy, AreUtf8, NextIs}
use Rattle.lg_dictread.proofs.Entries.{ScanIs, scan_is}
use Rattle.lg_dictread.proofs.ErrorMaps.{memory_map, memory_error, error_map}
use Rattle.lg_dictread.proofs.ItemsTold.{new_then, names_then, now_is}
use Rattle.lg_dictread.specs.Findings.{Asked}
use Rattle.lg_dictread.proofs.Found.{known_none, known_in, or_none}
use Rattle.lg_dictread.proofs.ItemAnswers.{Laws}
use Rattle.lg_dictread.proofs.TextAnswers.{EntryLaws, some_outcome}

-- ---- items with their lines

zipped : (text : List ℕ) (is : List (Item × ℕ)) → zip (map (λ i. i.0) is) (map (line_of text) is) ≡ map (λ i. (i.0, line_of text i)) is
zipped text [] = refl
zipped text (i ∷ is) = ap (λ (l : List (Item × ℕ)). (i.0, line_of text i) ∷ l) (zipped text is)

pub items_zip : (text : List ℕ) (is : List (Item × ℕ)) (items : List Item) (lines : List ℕ) → KeepsItems text is items lines → zip items lines ≡ map (λ i. (i.0, line_of text i)) is
items_zip text is items lines keeps = (λ k. zip (keeps.items_are k) (keeps.lines_are k)) ∙ zipped text is

-- ---- tokens that are UTF-8

both_true : (a b : Bool) → (a && b) ≡ true → (a ≡ true) × (b ≡ true)
both_true true true e = (refl, refl)
both_true true false e = absurd cc
both_true false b e = absurd cc

file_rest : (w : List ℕ) → IsUtf8 w → is_file_name w ≡ true → IsUtf8 (drop 1 w)
file_rest [] utf8 is = absurd cc
file_rest (b ∷ w) utf8 is =
    let slash : b ≡ 47 = eqb-true b 47 (both_true (nat_lt 1 (suc (length w))) (b == 47) is).1 in
    IsUtf8-drop (b ∷ w) 1 utf8 (IsCharBoundary-after_ascii (b ∷ w) 0 utf8 (omega arith) (omega (arith, slash)))

name_utf8 : (w : List ℕ) (is_macro is_file : Bool) → is_file_name w ≡ is_file → IsUtf8 w
    → HasUtf8Name (cond is_macro (record { kind = kinds.Macro; text = w }) (cond is_file (record { kind = kinds.File; text = drop 1 w }) (record { kind = kinds.Word; text = w })))
name_utf8 w true is_file e utf8 = λ q. utf8
name_utf8 w false true e utf8 = λ q. file_rest w utf8 e
name_utf8 w false false e utf8 = λ q. utf8

no_sign : (b : Bool) (i : Item) → cond b colon other ≡ item i → ⊥
no_sign true i e = cc
no_sign false i e = cc

item_utf8 : (x : Lexeme) (i : Item) → HasUtf8 x → head_of x ≡ item i → HasUtf8Name i
item_utf8 (sign b) i utf8 is = absurd (no_sign (b == 58) i is)
item_utf8 (quoted w) i utf8 is = let same : record { kind = kinds.Word; text = w } ≡ i = cc in subst HasUtf8Name same (λ q. utf8)
item_utf8 (plain w) i utf8 is = let same : plain_item w ≡ i = cc in subst HasUtf8Name same (name_utf8 w (is_macro_name w) (is_file_name w) refl utf8)
item_utf8 broken i utf8 is = absurd cc

items_utf8 : (is : List (Item × ℕ)) (ts rest : List Token) → AreItems is ts rest → AreUtf8 ts → AllByRecursion HasUtf8Name (map (λ i. i.0) is) × AreUtf8 rest
items_utf8 [] ts rest are utf8 = (tt, subst AreUtf8 are utf8)
items_utf8 (i ∷ is) [] rest are utf8 = absurd are
items_utf8 (i ∷ is) (t ∷ ts) rest are utf8 = let further = items_utf8 is ts rest are.2 utf8.1 in ((item_utf8 t.0 i.0 utf8.0 are.0, further.0), further.1)

rest_utf8 : (front rest : List Token) → AreUtf8 (front ++ rest) → AreUtf8 rest
rest_utf8 [] rest h = h
rest_utf8 (t ∷ front) rest h = rest_utf8 front rest h.1

-- the names of word files, and the tokens after the entry
pub stands_utf8 : (r : Rules) (ts : List Token) (e : Written) (rest : List Token) → EntryStands r ts e rest → AreUtf8 ts → AllByRecursion HasUtf8Name (map (λ i. i.0) e.items) × AreUtf8 rest
stands_utf8 r ts e rest h utf8 =
    let items = items_utf8 e.items ts (h.mark ∷ h.body) h.are_items utf8 in
    (items.0, rest_utf8 h.stands.front rest (subst AreUtf8 h.stands.split items.1.1))

-- ---- the error of a stop

module _ (text : List ℕ) (Is : expr_fault.Fault → List Token → Type 0) (Told : DictError → Type 0)
    (leads : (f : expr_fault.Fault) (left : List Token) (error : DictError) → Is f left → IsErrorOf (location_left text left) (part_left left) f error → Told error) where
  abbrev AtFault : Stop → Type 0
  AtFault stop = (f : expr_fault.Fault) × (left : List Token) × Is f left × TellsFault f (location_left text left) (part_left left) stop

  at_location : (stop : Stop) (e : DictError) → AtFault stop → ((f : expr_fault.Fault) (left : List Token) → TellsFault f (location_left text left) (part_left left) stop → IsErrorOf (location_left text left) (part_left left) f e) → Told e
  at_location stop e (f, left, is, tells) error = leads f left e is (error f left tells)

  pub stop_told : (stop : Stop) (error : DictError) → TellsStop text Is stop → TellsStopBy stop error → UnlessMemory Told error
  stop_told stops.NoMemory error h k = subst (UnlessMemory Told) (sym k) tt
  stop_told (stops.Syntax location) error h k =
      subst (UnlessMemory Told) (sym k) (at_location (stops.Syntax location) (errors.Syntax location.line location.column) h
      (λ f left tells. subst (λ (x : expr_fault.Fault). IsErrorOf (location_left text left) (part_left left) x (errors.Syntax location.line location.column)) (sym tells.0) (ap (λ (p : Location). errors.Syntax p.line p.column) tells.1)))
  stop_told (stops.CostForm line) error h k =
      subst (UnlessMemory Told) (sym k) (at_location (stops.CostForm line) (errors.CostForm line) h
      (λ f left tells. subst (λ (x : expr_fault.Fault). IsErrorOf (location_left text left) (part_left left) x (errors.CostForm line)) (sym tells.0) (ap errors.CostForm tells.1)))
  stop_told (stops.UnknownMacro line name) error h k =
      memory_map (λ e. e ≡ errors.UnknownMacro line name.now) Told
      (λ e is. subst Told (sym is) (at_location (stops.UnknownMacro line name) (errors.UnknownMacro line name.now) h
      (λ f left tells. subst (λ (x : expr_fault.Fault). IsErrorOf (location_left text left) (part_left left) x (errors.UnknownMacro line name.now)) (sym tells.0) (name.now, tells.2, ap (λ (n : ℕ). errors.UnknownMacro n name.now) tells.1))))
      error k
  stop_told (stops.TooDeep line) error h k =
      subst (UnlessMemory Told) (sym k) (at_location (stops.TooDeep line) (errors.TooDeep line) h
      (λ f left tells. subst (λ (x : expr_fault.Fault). IsErrorOf (location_left text left) (part_left left) x (errors.TooDeep line)) (sym tells.0) (ap errors.TooDeep tells.1)))

-- ---- the items before the colon

pub record HasHead (text : List ℕ) (ts : List Token) (x : PlacedItems) : Type 0 where
  pub items : List (Item × ℕ)
  pub mark : Token
  pub some : items ≢ []
  pub are_items : AreItems items ts (mark ∷ tokens_from Dictionary text x.end.at)
  pub is_colon : head mark ≡ colon
  pub keeps : KeepsItems text items x.items.items x.lines.items

pub has_head : (text : List ℕ) (ts : List Token) (x : PlacedItems) → TellsItems text (scan [] ts) (Ok x) → HasHead text ts x
has_head text ts x (is, same, keeps, here) =
    let body = tokens_from Dictionary text x.end.at in
    let found : ScanIs [] ts (items_end is body) = subst (ScanIs [] ts) same (scan_is ts []) in
    record {
      items = is;
      mark = found.1;
      some = found.3;
      are_items = subst (λ (l : List (Item × ℕ)). AreItems l ts (found.1 ∷ body)) (sym found.2) found.4;
      is_colon = found.5;
      keeps = keeps;
    }

-- with an expression after them they are an entry
pub entry_stands : (earlier : Earlier) (text : List ℕ) (ts rest : List Token) (x : PlacedItems) (h : HasHead text ts x) (t : Tree) (level : ℕ) (m : Means earlier.formulas (tokens_from Dictionary text x.end.at) t level rest)
    → EntryStands (rules_after earlier) ts (record { items = h.items; expr = m.expr; level = m.written }) rest
entry_stands earlier text ts rest x h t level m = record {
  mark = h.mark;
  body = tokens_from Dictionary text x.end.at;
  some = h.some;
  are_items = h.are_items;
  is_colon = h.is_colon;
  stands = m.stands;
}

-- the line of the first item
pub line_told : (text : List ℕ) (ts : List Token) (x : PlacedItems) (h : HasHead text ts x) (line : ℕ) → line ≡ slice_index x.lines.items 0 → line ≡ entry_line text h.items
line_told text ts x h line is = is ∙ ap (λ (l : List ℕ). slice_index l 0) h.keeps.lines_are

-- ---- what the entry gives

module _ (known : Option Contents) (asked : List (List ℕ)) (text : List ℕ) (earlier : Earlier) (ts : List Token) where
  unasked : (o : EntryOutcome) → EntryGives text earlier ts [] o → Answers known (NextIs text earlier ts) asked asked o
  unasked o h = record { asked = []; names = sym (append-nil asked); found = known_none known; answers = h }

  -- nothing was asked
  pub asks_nothing : Laws → EntryLaws → AsksFront known (NextIs text earlier ts) asked asked
  asks_nothing laws entry_laws =
      let here = some_outcome laws entry_laws text earlier (or_none known) ts in
      record { front = []; rest = here.0; answer = here.1; names = sym (append-nil asked); found = known_in known here.0 here.2; answers = here.3 }

  abbrev Tells : List (List ℕ) → DictError → Type 0
  Tells now error = ErrorTells (AsksFront known (NextIs text earlier ts) asked now) known (NextIs text earlier ts) fails asked now error

  -- a fault before the colon
  pub items_stop_gives : Laws → EntryLaws → (stop : Stop) (error : DictError) → TellsItems text (scan [] ts) (Err stop) → TellsStopBy stop error → Tells asked error
  items_stop_gives laws entry_laws stop error tells by =
      let Told : DictError → Type 0 = λ e. Answers known (NextIs text earlier ts) asked asked (fails e) in
      memory_error Told (AsksFront known (NextIs text earlier ts) asked asked) known (NextIs text earlier ts) fails asked asked (asks_nothing laws entry_laws) (λ e h. h) error
      (stop_told text (λ f left. (f ≡ Syntax) × (scan [] ts ≡ items_stop left)) Told
      (λ f left e (is, same) at.
      let found : ScanIs [] ts (items_stop left) = subst (ScanIs [] ts) same (scan_is ts []) in
      unasked (fails e) (outcomes.at_fault f left e (subst (λ (x : expr_fault.Fault). EntryFault (rules_after earlier) ts x left) (sym is) (in_items found.0 found.1 found.2)) at))
      stop error tells by)

  -- a fault of the expression, or a formula past a measure
  refused_told : (head : PlacedItems) (h : HasHead text ts head) (line : ℕ) (error : DictError) → line ≡ entry_line text h.items
      → IsRefused text earlier.formulas line (tokens_from Dictionary text head.end.at) error → Answers known (NextIs text earlier ts) asked asked (fails error)
  refused_told head h line error is (at_fault f left first at) =
      unasked (fails error) (outcomes.at_fault f left error (in_expression h.items h.mark (tokens_from Dictionary text head.end.at) h.some h.are_items h.is_colon first) at)
  refused_told head h line error is (large e n rest stands passed) =
      unasked (fails error) (outcomes.large (record { items = h.items; expr = e; level = n }) rest error
      (record { mark = h.mark; body = tokens_from Dictionary text head.end.at; some = h.some; are_items = h.are_items; is_colon = h.is_colon; stands = stands })
      (subst (λ (n : ℕ). IsLarge (filled earlier.formulas e) n error) is passed))

  pub refused_gives : Laws → EntryLaws → (head : PlacedItems) (h : HasHead text ts head) (line : ℕ) (error : DictError) → line ≡ entry_line text h.items
      → UnlessMemory (IsRefused text earlier.formulas line (tokens_from Dictionary text head.end.at)) error → Tells asked error
  refused_gives laws entry_laws head h line error is refused =
      memory_error (IsRefused text earlier.formulas line (tokens_from Dictionary text head.end.at)) (AsksFront known (NextIs text earlier ts) asked asked) known (NextIs text earlier ts) fails asked asked
      (asks_nothing laws entry_laws) (λ e r. refused_told head h line e is r) error refused

  module _ (e : Written) (rest : List Token) (stands : EntryStands (rules_after earlier) ts e rest) where
    module _ (small : IsSmall (filled earlier.formulas e.expr)) (lined : List (Item × ℕ)) (are : lined ≡ map (λ i. (i.0, line_of text i)) e.items) (now : List (List ℕ)) where
      at_lines : (found : List Asked) (answer : ItemsAnswer) → ItemsGive earlier.defined lined found answer → ItemsGive earlier.defined (map (λ i. (i.0, line_of text i)) e.items) found answer
      at_lines found answer h = subst (λ (l : List (Item × ℕ)). ItemsGive earlier.defined l found answer) are h

      -- the items define so much
      pub whole_gives : (d : Defined) → Answers known (ItemsAre earlier.defined lined) asked now (define d) → Answers known (NextIs text earlier ts) asked now (means (meaning_of text earlier e d) d rest)
      whole_gives d h = record { asked = h.asked; names = h.names; found = h.found; answers = whole e rest h.asked d stands small (at_lines h.asked (define d) h.answers) }

      by_items : (found : List Asked) (answer : ItemsAnswer) → ItemsGive earlier.defined lined found answer → (o : EntryOutcome) × EntryGives text earlier ts found o
      by_items found (define d) h = (means (meaning_of text earlier e d) d rest, whole e rest found d stands small (at_lines found (define d) h))
      by_items found (refuse_items error) h = (fails error, at_items e rest found error stands small (at_lines found (refuse_items error) h))

      front_gives : AsksFront known (ItemsAre earlier.defined lined) asked now → AsksFront known (NextIs text earlier ts) asked now
      front_gives h =
          let o = by_items (h.front ++ h.rest) h.answer h.answers in
          record { front = h.front; rest = h.rest; answer = o.0; names = h.names; found = h.found; answers = o.1 }

      -- an item is at fault, or the call ends before
      pub items_error : (error : DictError) → ErrorTells (AsksFront known (ItemsAre earlier.defined lined) asked now) known (ItemsAre earlier.defined lined) refuse_items asked now error → Tells now error
      items_error error h =
          error_map (AsksFront known (ItemsAre earlier.defined lined) asked now) (AsksFront known (NextIs text earlier ts) asked now) known (ItemsAre earlier.defined lined) (NextIs text earlier ts) refuse_items fails asked asked now []
          (known_none known) (sym (append-nil asked)) front_gives (λ found x give. at_items e rest found x stands small (at_lines found (refuse_items x) give)) error h

-- ---- what the entry means

pub meaning_told : (text : List ℕ) (earlier : Earlier) (ts rest : List Token) (is : List (Item × ℕ)) (names : Names) (t : Tree) (level line : ℕ) (m : Means earlier.formulas ts t level rest) (old now d : Defined)
    → line ≡ entry_line text is → AddsDefined old now none_listed (listed_in names) d
    → named_meaning names t level line ≡ meaning_of text earlier (record { items = is; expr = m.expr; level = m.written }) d
meaning_told text earlier ts rest is names t level line m old now d at adds = λ i. record {
  words = adds.words.listed i;
  macros = adds.macros.listed i;
  formula = m.formula_is i;
  level = m.level_is i;
  line = at i;
}

-- what is read so far has the entry more
pub adds_entry : (old now : code_earlier.Earlier) (tables : Tables) (m told : Meaning) (listed : Listed) (d : Defined) → told ≡ m → now.tables ≡ tables → AddsDefined (defined_in old.tables) (defined_in tables) none_listed listed d
    → map entry_meaning now.entries.items ≡ map entry_meaning old.entries.items ++ told ∷ []
    → formulas_of now ≡ (λ name. if list_any (same_text name) told.macros then Some (told.formula, told.level) else formulas_of old name) → AddsEntry old now m d
adds_entry old now tables m told listed d same kept adds entries formulas =
    let defined : defined_in now.tables ≡ both (defined_in old.tables) d = ap defined_in kept ∙ now_is (defined_in old.tables) (defined_in tables) none_listed listed d adds in
    let after : Meaning → Formulas = λ x name. if list_any (same_text name) x.macros then Some (x.formula, x.level) else formulas_of old name in
    record {
      earlier = λ i. record { defined = defined i; formulas = (formulas ∙ ap after same) i };
      entries = entries ∙ ap (λ (x : Meaning). map entry_meaning old.entries.items ++ x ∷ []) same;
    }

-- ---- what is listed

lists_more : (old now : List Entry) (m : Meaning) (f : Meaning → List (List ℕ)) → map entry_meaning now ≡ map entry_meaning old ++ m ∷ [] → flat_map (λ x. f (entry_meaning x)) now ≡ flat_map (λ x. f (entry_meaning x)) old ++ f m
lists_more old now m f is =
    sym (flat_map-map f entry_meaning now)
    ∙ ap (flat_map f) is
    ∙ flat_map-append f (map entry_meaning old) (m ∷ [])
    ∙ (λ i. flat_map-map f entry_meaning old i ++ append-nil (f m) i)

listed_more : (old now new : Lines) (names all more : List (List ℕ)) → AreListed old names → AreNew old new → now ≡ old ++ new → all ≡ names ++ more → more ≡ names_in new → AreListed now all
listed_more old now new names all more h are_new is all_is more_is = record {
  are_new = subst (AreNew []) (sym is) (new_then [] old new h.are_new are_new);
  listed = all_is ∙ (λ i. h.listed i ++ more_is i) ∙ sym (names_then old new) ∙ ap names_in (sym is);
}

pub lists_all : (old now : code_earlier.Earlier) (m : Meaning) (listed : Listed) (d : Defined) → ListsAll old → AddsDefined (defined_in old.tables) (defined_in now.tables) none_listed listed d → m.words ≡ listed.words → m.macros ≡ listed.macros
    → map entry_meaning now.entries.items ≡ map entry_meaning old.entries.items ++ m ∷ [] → ListsAll now
lists_all old now m listed d h adds words macros is = record {
  words = listed_more (defined_in old.tables).words (defined_in now.tables).words d.words (flat_map (λ x. x.words) old.entries.items) (flat_map (λ x. x.words) now.entries.items) m.words
      h.words adds.words.are_new adds.words.table (lists_more old.entries.items now.entries.items m (λ y. y.words) is) (words ∙ adds.words.listed);
  macros = listed_more (defined_in old.tables).macros (defined_in now.tables).macros d.macros (flat_map (λ x. x.macros) old.entries.items) (flat_map (λ x. x.macros) now.entries.items) m.macros
      h.macros adds.macros.are_new adds.macros.table (lists_more old.entries.items now.entries.items m (λ y. y.macros) is) (macros ∙ adds.macros.listed);
}
