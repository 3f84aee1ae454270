-- No text of a command has a line feed: each is a part of its line, or a token of it.
use Rattle.std.proofs.Common.{◌≡◌, ◌≢◌, ℕ, ◌+◌, List, [], ◌∷◌, ◌++◌, Result, Ok, Err, refl, subst}
use Rattle.std.specs.List.{AllByRecursion}
use Rattle.lg_gram.specs.declared.entry.Item.{Item}
use Rattle.lg_gram.specs.EntryViews.{EntryView}
use Rattle.lg_gram.specs.Filled.{macro_names}
use Rattle.lg_lex.specs.Classes.{line_feed}
use Rattle.lg_lex.specs.Tokens.{Token}
use Rattle.lg_expr.proofs.AllOf.{all_append, all_left, all_right}
use Rattle.lg_dictread.specs.declared.entry_text.EntryError.{EntryError}
use Rattle.lg_dictread.specs.Entries.{AreItems}
use Rattle.lg_dictread.specs.EntryTexts.{free_rules, written_view, EntryTextIs, not_utf8, one, goes_on, faulty}
use Rattle.lg_edit.specs.Edits.{names_of}
use Rattle.lg_script.specs.Commands.{CommandView, IsListing, CommandIs, parse, list, more, version, set, macro, del}
use Rattle.lg_script.specs.Lines.{Says, returned, plain, IsCommand}
use Rattle.lg_script.specs.Scripts.{Outcome, with_command, LinesGive, ended, passed, command, fault, lines}
use Rattle.lg_script.specs.SingleLines.{IsSingleLine, connector_texts, HasSingleLines, ScriptsHaveSingleLines}
use Rattle.lg_script.proofs.PlainExpressions.{expression_plain, macros_single, connectors_single}
use Rattle.lg_script.proofs.PlainTokens.{ArePlainTokens, tokens_plain, items_single}

-- ---- entries

-- what follows some items
pub items_before : (is : List (Item × ℕ)) (ts rest : List Token) → AreItems is ts rest → ArePlainTokens ts → ArePlainTokens rest
items_before [] ts rest h all = subst ArePlainTokens h all
items_before (i ∷ is) [] rest h all = absurd h
items_before (i ∷ is) (t ∷ ts) rest h all = items_before is ts rest h.2 all.1

text_single : (bytes : List ℕ) (x : Result EntryView EntryError) (e : EntryView) → EntryTextIs bytes x → x ≡ Ok e
    → AllByRecursion IsSingleLine ((names_of e ++ connector_texts e.expr) ++ macro_names e.expr)
text_single bytes x e (not_utf8 n h) same = absurd cc
text_single bytes x e (one ts w is h) same =
    let read : written_view bytes w ≡ e = cc in
    let all = tokens_plain ts 0 bytes is.tokens in
    let items = items_single w.items ts (h.mark ∷ h.body) h.are_items all in
    let expr = expression_plain free_rules h.body w.expr w.level [] h.stands (items_before w.items ts (h.mark ∷ h.body) h.are_items all).1 in
    subst (λ (v : EntryView). AllByRecursion IsSingleLine ((names_of v ++ connector_texts v.expr) ++ macro_names v.expr)) read
    (all_append IsSingleLine _ _ (all_append IsSingleLine _ _ items (connectors_single w.expr expr)) (macros_single w.expr expr))
text_single bytes x e (goes_on ts w t rest error is h at) same = absurd cc
text_single bytes x e (faulty ts f left error is h at) same = absurd cc

-- ---- lines

abbrev NoFeed : ℕ → Type 0
NoFeed b = b ≢ line_feed

body_single : (line body : List ℕ) → Says line body → IsSingleLine line → IsSingleLine body
body_single line body (returned b split) single = all_left NoFeed b _ (subst IsSingleLine split single)
body_single line body (plain none) single = single

rest_single : (body word rest : List ℕ) → IsCommand body word rest → IsSingleLine body → IsSingleLine rest
rest_single body word rest is single =
    let t = is.trims in
    let tail = all_right NoFeed word is.tail (all_right NoFeed is.front (word ++ is.tail) (subst IsSingleLine is.split single)) in
    all_left NoFeed rest t.back (all_right NoFeed t.front (rest ++ t.back) (subst IsSingleLine t.split tail))

listing_single : (rest : List ℕ) (from want : ℕ) (sentence : List ℕ) → IsListing rest from want sentence → IsSingleLine rest → IsSingleLine sentence
listing_single rest from want sentence is single =
    let end = is.more ++ sentence in
    all_right NoFeed is.more sentence
    (all_right NoFeed is.second end (all_right NoFeed is.gap (is.second ++ end) (all_right NoFeed is.first (is.gap ++ (is.second ++ end)) (subst IsSingleLine is.split single))))

command_single : (word rest : List ℕ) (c : CommandView) → CommandIs word rest (Ok c) → IsSingleLine rest → HasSingleLines c
command_single word rest c (parse r) single = (single, tt)
command_single word rest c (list r from want sentence is) single = (listing_single r from want sentence is single, tt)
command_single word rest c more single = tt
command_single word rest c version single = tt
command_single word rest c (set r e is words) single = text_single r (Ok e) e is refl
command_single word rest c (macro r e is one_macro) single = text_single r (Ok e) e is refl
command_single word rest c (del r some inner) single = (single, tt)

-- ---- scripts

abbrev AreSingle : Outcome → Type 0
AreSingle (Ok commands) = AllByRecursion HasSingleLines commands
AreSingle (Err error) = Unit {0}

single_more : (c : CommandView) (x : Outcome) → HasSingleLines c → AreSingle x → AreSingle (with_command c x)
single_more c (Ok cs) is are = (is, are)
single_more c (Err error) is are = tt

lines_single : (n : ℕ) (ls : List (List ℕ)) (x : Outcome) → LinesGive n ls x → AllByRecursion IsSingleLine ls → AreSingle x
lines_single n ls x (ended m) single = tt
lines_single n ls x (passed m line body more_lines y says is gives) single = lines_single (m + 1) more_lines y gives single.1
lines_single n ls x (command m line body word rest more_lines c y says is means gives) single =
    single_more c y (command_single word rest c means (rest_single body word rest is (body_single line body says single.0))) (lines_single (m + 1) more_lines y gives single.1)
lines_single n ls x (fault m line body word rest more_lines f says is means) single = tt

pub single_lines : ScriptsHaveSingleLines
single_lines bytes commands (lines ls x utf8 are gives) = lines_single 1 ls (Ok commands) gives are.whole
