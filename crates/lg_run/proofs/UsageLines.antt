-- The lines of totals of linkages whose texts have no line feed: each is one line, and begins as such a line does.
use Rattle.std.proofs.Common.{◌≡◌, ◌≢◌, ℕ, Bool, true, false, cond, List, [], ◌∷◌, ◌++◌, map, Option, Some, None, IfSome, codes, decimal, refl, ◌+◌, sym, ap, subst, ◌∙◌, arith}
use Rattle.std.specs.FinMap.{get, entries}
use Rattle.std.specs.List.{flat_map, AllByRecursion}
use Rattle.std.specs.Option.{is_none, unwrap_or}
use Rattle.std.specs.Str.{bytes_eq}
use Rattle.std.proofs.lemmas.Bool.{cond_both}
use Rattle.std.proofs.lemmas.List.Sums.{sum_by-cons}
use Rattle.std.proofs.lemmas.Slice.Eq.{bytes_eq-Decides}
use Rattle.lg_expr.proofs.AllOf.{all_append}
use Rattle.lg_export.proofs.Found.{of_entries}
use Rattle.lg_gram.specs.Labels.{label_at}
use Rattle.lg_gram.specs.Linkages.{Linkage}
use Rattle.lg_gram.specs.Names.{Name}
use Rattle.lg_gram.specs.declared.disjunct.Disjunct.{Disjunct}
use Rattle.lg_gram.specs.declared.linkage.Link.{Link}
use Rattle.lg_gram.specs.declared.listing.PageItem.{PageItem}
use Rattle.lg_gram.specs.declared.reply.CommandKind.{CommandKind}
use Rattle.lg_gram.specs.declared.reply.CommandKind.TheVariants as kinds
use Rattle.lg_gram.specs.declared.reply.Reply.{Reply}
use Rattle.lg_gram.specs.declared.reply.Reply.TheVariants.{Listed, Beyond, Published, Refused, At, NoListing}
use Rattle.lg_script.specs.Commands.{CommandView}
use Rattle.lg_script.specs.Kinds.{kind_of}
use Rattle.lg_text.specs.Shown.{closed, IsOneLine, IsPlainDisjunct, IsPlainReply}
use Rattle.lg_text.specs.Texts as texts
use Rattle.lg_text.proofs.Bytes.{lacks_both}
use Rattle.lg_text.proofs.PlainTexts.{AreChosen, AreOneLines, number_plain, label_plain}
use Rattle.lg_usage.specs.Totals.{Tally, Totals, times, word_of, words_used, letters_of, label_text, labels_used, IsTally, AreTotals}
use Rattle.lg_audit.specs.Lines.{AreUnread}
use Rattle.lg_run.specs.Documents.{first_passing, items_of, first_linkage, first_linkages, all_first_linkages, AreUsageLines}
use Rattle.lg_run.specs.Shown.{HasPlainTexts}
use Rattle.lg_run.proofs.RightRuns.{bare_line, bare_lines, totals_are}

-- ---- texts that are counted

-- what stands among texts without a line feed has none
stands_plain : (text : List ℕ) (all : List (List ℕ)) → AreOneLines all → times text all ≢ 0 → IsOneLine text
stands_plain text [] plain some = absurd (some refl)
stands_plain text (x ∷ all) plain some =
    by (bytes_eq text x) refl (stands_plain text all plain.1) (λ none. some (sum_by-cons (λ (y : List ℕ). cond (bytes_eq text y) 1 0) x all ∙ none))
  where
    by : (b : Bool) → bytes_eq text x ≡ b → (times text all ≢ 0 → IsOneLine text) → cond b 1 0 + times text all ≢ 0 → IsOneLine text
    by true same rest some = subst IsOneLine (sym ((bytes_eq-Decides text x).0 same)) plain.0
    by false other rest some = rest (λ none. some (omega (arith, none)))

-- each entry of a tally of such texts has none
tally_plain : (tally : Tally) (all : List (List ℕ)) → IsTally all tally → AreOneLines all → AllByRecursion (λ e. IsOneLine e.0) (entries tally)
tally_plain tally all is plain = of_entries (λ text n. IsOneLine text) tally (λ text. counted text (get tally text) refl)
  where
    counted : (text : List ℕ) (o : Option ℕ) → get tally text ≡ o → IfSome o (λ n. IsOneLine text)
    counted text None at = tt
    counted text (Some n) at = stands_plain text all plain (λ none. is.only text (at ∙ ap Some (some_none at none)))
      where
        some_none : get tally text ≡ Some n → times text all ≡ 0 → n ≡ 0
        some_none at none = sym (ap (λ o. unwrap_or o 0) at) ∙ is.counts text ∙ none

-- ---- the texts of linkages

abbrev pub ArePlain : List Linkage → Type 0
ArePlain gs = AllByRecursion (λ (g : Linkage). AreChosen g.chosen) gs

word_plain : (o : Option Disjunct) → IfSome o IsPlainDisjunct → AreOneLines (word_of o)
word_plain None plain = tt
word_plain (Some d) plain = (plain.word, tt)

chosen_words : (chosen : List (Option Disjunct)) → AreChosen chosen → AreOneLines (flat_map word_of chosen)
chosen_words [] plain = tt
chosen_words (o ∷ chosen) plain = all_append IsOneLine (word_of o) (flat_map word_of chosen) (word_plain o plain.0) (chosen_words chosen plain.1)

all_words : (gs : List Linkage) → ArePlain gs → AreOneLines (flat_map words_used gs)
all_words [] plain = tt
all_words (g ∷ gs) plain = all_append IsOneLine (words_used g) (flat_map words_used gs) (chosen_words g.chosen plain.0) (all_words gs plain.1)

same_letters : (name : Option Name) → texts.letters_of name ≡ letters_of name
same_letters None = refl
same_letters (Some n) = refl

link_labels : (g : Linkage) → AreChosen g.chosen → (ls : List Link) → AreOneLines (map (label_text g) ls)
link_labels g plain [] = tt
link_labels g plain (l ∷ ls) = (subst IsOneLine (same_letters (label_at g l)) (label_plain g plain l), link_labels g plain ls)

all_labels : (gs : List Linkage) → ArePlain gs → AreOneLines (flat_map labels_used gs)
all_labels [] plain = tt
all_labels (g ∷ gs) plain = all_append IsOneLine (labels_used g) (flat_map labels_used gs) (link_labels g plain.0 g.links) (all_labels gs plain.1)

-- ---- the linkages of answers

passing_plain : (items : List PageItem) → AllByRecursion (λ (item : PageItem). AreChosen item.linkage.chosen) items → ArePlain (first_passing items)
passing_plain [] plain = tt
passing_plain (item ∷ items) plain = cond_both (is_none item.broken) (item.linkage ∷ []) (first_passing items) ArePlain (λ _. (plain.0, tt)) (λ _. passing_plain items plain.1)

items_plain : (r : Reply) → IsPlainReply r → ArePlain (first_passing (items_of r))
items_plain (Listed n tokens page stats) plain = passing_plain page.items plain.chosen_plain
items_plain (Beyond n bound) plain = tt
items_plain (Published n) plain = tt
items_plain (Refused n cause name) plain = tt
items_plain (At n) plain = tt
items_plain NoListing plain = tt

linkage_plain : (kind : CommandKind) (r : Reply) → IsPlainReply r → ArePlain (first_linkage kind r)
linkage_plain kinds.Parse r plain = items_plain r plain
linkage_plain kinds.List r plain = items_plain r plain
linkage_plain kinds.More r plain = tt
linkage_plain kinds.Set r plain = tt
linkage_plain kinds.Macro r plain = tt
linkage_plain kinds.Del r plain = tt
linkage_plain kinds.Version r plain = tt

session_plain : (commands : List CommandView) (rs : List Reply) → AllByRecursion IsPlainReply rs → ArePlain (first_linkages commands rs)
session_plain [] [] plain = tt
session_plain [] (r ∷ rs) plain = tt
session_plain (command ∷ commands) [] plain = tt
session_plain (command ∷ commands) (r ∷ rs) plain =
    all_append (λ (g : Linkage). AreChosen g.chosen) (first_linkage (kind_of command) r) (first_linkages commands rs) (linkage_plain (kind_of command) r plain.0) (session_plain commands rs plain.1)

pub sessions_plain : (scripts : List (List CommandView)) (replies : List (List Reply)) → HasPlainTexts replies → ArePlain (all_first_linkages scripts replies)
sessions_plain [] [] plain = tt
sessions_plain [] (rs ∷ replies) plain = tt
sessions_plain (commands ∷ scripts) [] plain = tt
sessions_plain (commands ∷ scripts) (rs ∷ replies) plain =
    all_append (λ (g : Linkage). AreChosen g.chosen) (first_linkages commands rs) (all_first_linkages scripts replies) (session_plain commands rs plain.0) (sessions_plain scripts replies plain.1)

-- ---- lines

line_unread : (kind : List ℕ) (entry : List ℕ × ℕ) → IsOneLine kind → IsOneLine entry.0 → IsOneLine (bare_line kind entry)
line_unread kind entry named plain =
    lacks_both 10 (codes "usage ") (kind ++ (32 ∷ (entry.0 ++ (32 ∷ decimal entry.1)))) refl
    (lacks_both 10 kind (32 ∷ (entry.0 ++ (32 ∷ decimal entry.1))) named (lacks_both 10 entry.0 (32 ∷ decimal entry.1) plain (number_plain entry.1)))

entries_unread : (kind : List ℕ) (es : List (List ℕ × ℕ)) → IsOneLine kind → AllByRecursion (λ e. IsOneLine e.0) es → AreUnread (codes "usage ") (map (bare_line kind) es)
entries_unread kind [] named plain = tt
entries_unread kind (e ∷ es) named plain = ((line_unread kind e named plain.0, refl), entries_unread kind es named plain.1)

totals_unread : (gs : List Linkage) (t : Totals) → AreTotals gs t → ArePlain gs → AreUnread (codes "usage ") (bare_lines t)
totals_unread gs t is plain =
    all_append _ (map (bare_line (codes "word")) (entries t.words)) (map (bare_line (codes "label")) (entries t.labels))
    (entries_unread (codes "word") (entries t.words) refl (tally_plain t.words _ is.words (all_words gs plain)))
    (entries_unread (codes "label") (entries t.labels) refl (tally_plain t.labels _ is.labels (all_labels gs plain)))

-- lines of totals are lines that an audit passes over
pub record AreLines (lines : List ℕ) : Type 0 where
  pub lines_are : List (List ℕ)
  pub is : lines ≡ flat_map closed lines_are
  pub unread : AreUnread (codes "usage ") lines_are

pub usage_lines : (usage : Bool) (gs : List Linkage) (lines : List ℕ) → AreUsageLines usage gs lines → ArePlain gs → AreLines lines
usage_lines false gs lines is plain = record { lines_are = []; is = is; unread = tt }
usage_lines true gs lines is plain = record { lines_are = bare_lines is.0; is = is.2 ∙ totals_are is.0; unread = totals_unread gs is.0 is.1 plain }
