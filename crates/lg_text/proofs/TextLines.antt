-- The lines of pages, of answers and of the journal.
use Rattle.std.proofs.Common.{◌≡◌, ℕ, zero, suc, ◌+◌, ◌<◌, ◌^◌, Bool, true, false, cond, List, [], ◌∷◌, ◌++◌, length, map, Option, Some, None, refl, ap, sym, ◌∙◌, arith, codes, append-nil, append_assoc}
use Rattle.std.specs.List.{list_all, flat_map, enumerate_from, zip, join_with_byte, AllByRecursion}
use Rattle.std.specs.Option.{option_map_or}
use Rattle.std.specs.Fmt.{decimal}
use Rattle.std.proofs.lemmas.Bool.{and_parts}
use Rattle.std.proofs.lemmas.Fmt.{decimal_nonempty}
use Rattle.std.proofs.lemmas.Grind.{flat_map-append}
use Rattle.lg_base.specs.Costs.{cost_text}
use Rattle.lg_gram.specs.Linkages.{Linkage, unlinked, total_cost, total_length}
use Rattle.lg_gram.specs.declared.disjunct.Disjunct.{Disjunct}
use Rattle.lg_gram.specs.declared.edit.EditRefusal.{EditRefusal}
use Rattle.lg_gram.specs.declared.edit.EditRefusal.TheVariants.{UnknownMacro, TooDeep, TooManyNodes, TooManyChoices, SideTooLong, NoSuchWord}
use Rattle.lg_gram.specs.declared.linkage.Link.{Link}
use Rattle.lg_gram.specs.declared.listing.Bound.{Bound}
use Rattle.lg_gram.specs.declared.listing.Bound.TheVariants.{TooManyWords, TooWide}
use Rattle.lg_gram.specs.declared.listing.Token.{Token}
use Rattle.lg_gram.specs.declared.listing.Page.{Page}
use Rattle.lg_gram.specs.declared.listing.PageItem.{PageItem}
use Rattle.lg_gram.specs.declared.listing.Stats.{Stats}
use Rattle.lg_gram.specs.declared.listing.Violation.{Violation}
use Rattle.lg_gram.specs.declared.reply.CommandKind.{CommandKind}
use Rattle.lg_gram.specs.declared.reply.CommandKind.TheVariants as kinds
use Rattle.lg_gram.specs.declared.reply.Place.{Place}
use Rattle.lg_gram.specs.declared.reply.Reply.{Reply}
use Rattle.lg_gram.specs.declared.reply.Reply.TheVariants.{Listed, Beyond, Published, Refused, At, NoListing}
use Rattle.lg_text.specs.Texts.{line_of, heading_line, word_line, link_line, label_text, choice_pieces, linkage_text, bound_pieces}
use Rattle.lg_text.specs.Diagrams.{Drawn, cells, starts_of, drawn_of, link_line_at, link_lines, cells_line, highest, line_width, marked_diagram}
use Rattle.lg_text.specs.Pages.{fail_line, shown_diagram, item_text, shown, page_line, page_text, shown_stats, listing_text}
use Rattle.lg_text.specs.declared.look.Look.{Look}
use Rattle.lg_text.specs.Replies.{kind_word, place_text, cause_pieces, reply_text, edit_line, journal_text}
use Rattle.lg_text.specs.Shown.{IsOneLine, IsPlainPage, IsPlainReply, IsPlain, Answered, answer_text, closed, begins, HasLines, HasHead, page_words, journal_words, is_digit}
use Rattle.lg_text.proofs.Bytes.{lacks_both, decimal_digits}
use Rattle.lg_text.proofs.PlainTexts.{AreOneLines, AreChosen, joined_plain, number_plain, cost_plain, label_plain, choice_plain}
use Rattle.lg_text.proofs.PlainDiagrams.{drawn_plain, link_line_plain, cells_plain, words_plain}

pub all_both : {X : Type 0} (P : X → Type 0) (xs ys : List X) → AllByRecursion P xs → AllByRecursion P ys → AllByRecursion P (xs ++ ys)
all_both P [] ys p q = q
all_both P (x ∷ xs) ys p q = (p.0, all_both P xs ys p.1 q)

module _ (words : List (List ℕ)) where
  pub lines_none : HasLines words []
  lines_none = record { lines = []; is = refl; single = tt; begun = tt }

  pub lines_both : (a b : List ℕ) → HasLines words a → HasLines words b → HasLines words (a ++ b)
  lines_both a b f g = record {
    lines = f.lines ++ g.lines;
    is = (λ i. f.is i ++ g.is i) ∙ sym (flat_map-append closed f.lines g.lines);
    single = all_both (λ line. IsOneLine line) f.lines g.lines f.single g.single;
    begun = all_both (λ line. begins words line ≡ true) f.lines g.lines f.begun g.begun;
  }

  pub lines_all : {X : Type 0} (f : X → List ℕ) (xs : List X) → AllByRecursion (λ x. HasLines words (f x)) xs → HasLines words (flat_map f xs)
  lines_all f [] all = lines_none
  lines_all f (x ∷ xs) all = lines_both (f x) (flat_map f xs) all.0 (lines_all f xs all.1)

  pub line_one : (pieces : List (List ℕ)) → AreOneLines pieces → begins words (join_with_byte 32 pieces) ≡ true → HasLines words (line_of pieces)
  line_one pieces plain begun = record { lines = join_with_byte 32 pieces ∷ []; is = sym (append-nil (line_of pieces)); single = (joined_plain 32 refl pieces plain, tt); begun = (begun, tt) }

-- ---- pages

heading_lines : (number : ℕ) (g : Linkage) → HasLines page_words (heading_line number g)
heading_lines number g = line_one page_words
    (codes "linkage" ∷ decimal number ∷ codes "unused" ∷ decimal (unlinked g) ∷ codes "cost" ∷ cost_text (total_cost g) ∷ codes "length" ∷ decimal (total_length g) ∷ [])
    (refl, (number_plain number, (refl, (number_plain (unlinked g), (refl, (cost_plain (total_cost g), (refl, (number_plain (total_length g), tt)))))))) refl

word_lines : (from : ℕ) (tokens : List Token) (chosen : List (Option Disjunct)) → AllByRecursion (λ (token : Token). IsOneLine token.text) tokens → AreChosen chosen
    → AllByRecursion (λ w. HasLines page_words (word_line w)) (enumerate_from from (zip tokens chosen))
word_lines from [] chosen named all = tt
word_lines from (t ∷ tokens) [] named all = tt
word_lines from (t ∷ tokens) (o ∷ chosen) named all = (
  line_one page_words (codes "word" ∷ decimal from ∷ t.text ∷ choice_pieces o) (refl, (number_plain from, (named.0, choice_plain o all.0))) refl,
  word_lines (from + 1) tokens chosen named.1 all.1,
)

links_lines : (g : Linkage) → AreChosen g.chosen → (links : List Link) → AllByRecursion (λ l. HasLines page_words (link_line g l)) links
links_lines g all [] = tt
links_lines g all (l ∷ links) = (
  line_one page_words (codes "link" ∷ decimal l.left ∷ decimal l.right ∷ label_text g l ∷ decimal l.lplace ∷ decimal l.rplace ∷ [])
      (refl, (number_plain l.left, (number_plain l.right, (label_plain g all l, (number_plain l.lplace, (number_plain l.rplace, tt)))))) refl,
  links_lines g all links,
)

linkage_lines : (tokens : List Token) (number : ℕ) (g : Linkage) → AllByRecursion (λ (token : Token). IsOneLine token.text) tokens → AreChosen g.chosen → HasLines page_words (linkage_text tokens number g)
linkage_lines tokens number g named all =
    lines_both page_words (heading_line number g) _ (heading_lines number g)
    (lines_both page_words (flat_map word_line (enumerate_from 0 (zip tokens g.chosen))) (flat_map (link_line g) g.links)
    (lines_all page_words word_line (enumerate_from 0 (zip tokens g.chosen)) (word_lines 0 tokens g.chosen named all))
    (lines_all page_words (link_line g) g.links (links_lines g all g.links)))

-- a line of a diagram, behind its mark
marked_line : (line rest : List ℕ) → IsOneLine line → HasLines page_words rest → HasLines page_words (62 ∷ (line ++ 10 ∷ rest))
marked_line line rest plain lines = record {
  lines = (62 ∷ line) ∷ lines.lines;
  is = ap (λ (l : List ℕ). 62 ∷ (line ++ 10 ∷ l)) lines.is ∙ sym (append_assoc (62 ∷ line) (10 ∷ []) (flat_map closed lines.lines));
  single = (plain, lines.single);
  begun = (refl, lines.begun);
}

diagram_lines : (tokens : List Token) (g : Linkage) → AllByRecursion (λ (token : Token). IsOneLine token.text) tokens → AreChosen g.chosen → HasLines page_words (marked_diagram (codes ">") tokens g)
diagram_lines tokens g named all =
    lines_both page_words (link_lines (codes ">") links columns (highest links)) (62 ∷ (cells_line 0 texts starts ++ 10 ∷ [])) (down (highest links))
    (marked_line (cells_line 0 texts starts) [] (words_plain 0 texts starts (cells_plain tokens g.chosen named)) (lines_none page_words))
  where
    texts : List (List ℕ)
    texts = cells tokens g

    starts : List ℕ
    starts = starts_of texts g (length texts)

    links : List Drawn
    links = map (drawn_of g starts) g.links

    columns : ℕ
    columns = line_width starts

    down : (h : ℕ) → HasLines page_words (link_lines (codes ">") links columns h)
    down zero = lines_none page_words
    down (suc h) = marked_line (link_line_at links columns (suc h)) (link_lines (codes ">") links columns h) (link_line_plain links (drawn_plain g starts all g.links) columns (suc h)) (down h)

shown_lines : (b : Bool) (tokens : List Token) (g : Linkage) → AllByRecursion (λ (token : Token). IsOneLine token.text) tokens → AreChosen g.chosen → HasLines page_words (shown_diagram b tokens g)
shown_lines true tokens g named all = diagram_lines tokens g named all
shown_lines false tokens g named all = lines_none page_words

broken_lines : (number : ℕ) (broken : Option Violation) (text : List ℕ) → HasLines page_words text → HasLines page_words (option_map_or (fail_line number) broken text)
broken_lines number None text lines = lines
broken_lines number (Some v) text lines = line_one page_words
    (codes "fail" ∷ decimal number ∷ codes "rule" ∷ decimal v.rule ∷ codes "link" ∷ decimal v.left ∷ decimal v.right ∷ [])
    (refl, (number_plain number, (refl, (number_plain v.rule, (refl, (number_plain v.left, (number_plain v.right, tt))))))) refl

item_lines : (look : Look) (tokens : List Token) (items : List PageItem) → AllByRecursion (λ (token : Token). IsOneLine token.text) tokens → AllByRecursion (λ (item : PageItem). AreChosen item.linkage.chosen) items
    → AllByRecursion (λ item. HasLines page_words (item_text look tokens item)) items
item_lines look tokens [] named all = tt
item_lines look tokens (item ∷ items) named all = (
  broken_lines item.number item.broken (linkage_text tokens item.number item.linkage ++ shown_diagram look.diagram tokens item.linkage)
      (lines_both page_words (linkage_text tokens item.number item.linkage) (shown_diagram look.diagram tokens item.linkage)
      (linkage_lines tokens item.number item.linkage named all.0) (shown_lines look.diagram tokens item.linkage named all.0)),
  item_lines look tokens items named all.1,
)

end_plain : (b : Bool) → IsOneLine (cond b (codes "end") (codes "more"))
end_plain true = refl
end_plain false = refl

page_lines : (look : Look) (tokens : List Token) (page : Page) → IsPlainPage tokens page → HasLines page_words (page_text look tokens page)
page_lines look tokens page plain =
    lines_both page_words (flat_map (item_text look tokens) page.items) (page_line page)
    (lines_all page_words (item_text look tokens) page.items (item_lines look tokens page.items plain.tokens_plain plain.chosen_plain))
    (line_one page_words
    (codes "page" ∷ codes "shown" ∷ decimal (shown page.items) ∷ codes "examined" ∷ decimal (length page.items) ∷ codes "next" ∷ decimal page.next ∷ cond page.end (codes "end") (codes "more") ∷ [])
    (refl, (refl, (number_plain (shown page.items), (refl, (number_plain (length page.items), (refl, (number_plain page.next, (end_plain page.end, tt)))))))) refl)

stats_lines : (b : Bool) (stats : Option Stats) → HasLines page_words (shown_stats b stats)
stats_lines true (Some s) = line_one page_words
    (codes "stats" ∷ codes "disjuncts" ∷ decimal s.disjuncts ∷ codes "kept" ∷ decimal s.kept ∷ [])
    (refl, (refl, (number_plain s.disjuncts, (refl, (number_plain s.kept, tt))))) refl
stats_lines true None = lines_none page_words
stats_lines false stats = lines_none page_words

pub listing_lines : (look : Look) (tokens : List Token) (page : Page) (stats : Option Stats) → IsPlainPage tokens page → HasLines page_words (listing_text look tokens page stats)
listing_lines look tokens page stats plain =
    lines_both page_words (shown_stats look.stats stats) (page_text look tokens page) (stats_lines look.stats stats) (page_lines look tokens page plain)

-- ---- answers

pub place_plain : (p : Place) → IsOneLine (place_text p)
place_plain p = lacks_both 10 (decimal p.session) (46 ∷ decimal p.command) (number_plain p.session) (number_plain p.command)

kind_plain : (kind : CommandKind) → IsOneLine (kind_word kind)
kind_plain kinds.Parse = refl
kind_plain kinds.List = refl
kind_plain kinds.More = refl
kind_plain kinds.Set = refl
kind_plain kinds.Macro = refl
kind_plain kinds.Del = refl
kind_plain kinds.Version = refl

-- what the first line of an answer says behind the place and the kind
abbrev pub told_pieces : Reply → List (List ℕ)
told_pieces (Listed version tokens page stats) = codes "version" ∷ decimal version ∷ []
told_pieces (Beyond version bound) = codes "version" ∷ decimal version ∷ bound_pieces bound
told_pieces (Published version) = codes "version" ∷ decimal version ∷ []
told_pieces (Refused version cause name) = codes "refused" ∷ codes "at" ∷ (decimal version ++ codes ":") ∷ cause_pieces cause name
told_pieces (At version) = decimal version ∷ []
told_pieces NoListing = codes "nothing" ∷ codes "held" ∷ []

abbrev pub told_line : Reply → List ℕ
told_line r = join_with_byte 32 (told_pieces r)

abbrev pub head_line : Answered → List ℕ
head_line a = place_text a.place ++ 32 ∷ (kind_word a.kind ++ 32 ∷ told_line a.reply)

abbrev tail_text : Look → Reply → List ℕ
tail_text look (Listed version tokens page stats) = listing_text look tokens page stats
tail_text look _ = []

head_is : (look : Look) (place : Place) (kind : CommandKind) (r : Reply) → reply_text look place kind r ≡ closed (place_text place ++ 32 ∷ (kind_word kind ++ 32 ∷ told_line r)) ++ tail_text look r
head_is look place kind (Listed version tokens page stats) = refl
head_is look place kind (Beyond version bound) = sym (append-nil (reply_text look place kind (Beyond version bound)))
head_is look place kind (Published version) = sym (append-nil (reply_text look place kind (Published version)))
head_is look place kind (Refused version cause name) = sym (append-nil (reply_text look place kind (Refused version cause name)))
head_is look place kind (At version) = sym (append-nil (reply_text look place kind (At version)))
head_is look place kind NoListing = sym (append-nil (reply_text look place kind NoListing))

cause_plain : (cause : EditRefusal) (name : List ℕ) → IsOneLine name → AreOneLines (cause_pieces cause name)
cause_plain (UnknownMacro number) name plain = (refl, (refl, (plain, tt)))
cause_plain (TooDeep level) name plain = (refl, (refl, (number_plain level, tt)))
cause_plain (TooManyNodes count) name plain = (refl, (refl, (refl, (number_plain count, tt))))
cause_plain (TooManyChoices count) name plain = (refl, (refl, (refl, (number_plain count, tt))))
cause_plain (SideTooLong count) name plain = (refl, (refl, (refl, (refl, (refl, (refl, (number_plain count, tt)))))))
cause_plain NoSuchWord name plain = (refl, (refl, (refl, tt)))

bound_plain : (bound : Bound) → AreOneLines (bound_pieces bound)
bound_plain (TooManyWords count) = (refl, (refl, (refl, (number_plain count, tt))))
bound_plain (TooWide count) = (refl, (refl, (refl, (number_plain count, tt))))

told_plain : (r : Reply) → IsPlainReply r → AreOneLines (told_pieces r)
told_plain (Listed version tokens page stats) plain = (refl, (number_plain version, tt))
told_plain (Beyond version bound) plain = (refl, (number_plain version, bound_plain bound))
told_plain (Published version) plain = (refl, (number_plain version, tt))
told_plain (Refused version cause name) plain = (refl, (refl, (lacks_both 10 (decimal version) (codes ":") (number_plain version) refl, cause_plain cause name plain)))
told_plain (At version) plain = (number_plain version, tt)
told_plain NoListing plain = (refl, (refl, tt))

tail_lines : (look : Look) (r : Reply) → IsPlainReply r → HasLines page_words (tail_text look r)
tail_lines look (Listed version tokens page stats) plain = listing_lines look tokens page stats plain
tail_lines look (Beyond version bound) plain = lines_none page_words
tail_lines look (Published version) plain = lines_none page_words
tail_lines look (Refused version cause name) plain = lines_none page_words
tail_lines look (At version) plain = lines_none page_words
tail_lines look NoListing plain = lines_none page_words

-- the first digit of a number
first_digit : (digits : List ℕ) → 0 < length digits → list_all is_digit digits ≡ true → (c : ℕ) × (cs : List ℕ) × (digits ≡ c ∷ cs) × (is_digit c ≡ true)
first_digit [] some all = absurd (omega arith)
first_digit (c ∷ cs) some all = (c, cs, refl, (and_parts (is_digit c) (list_all is_digit cs) all).0)

pub head_of : (look : Look) (a : Answered) → IsPlain a → HasHead (head_line a) (answer_text look a)
head_of look a plain =
    let small : a.place.session < 2 ^ 64 = let less = plain.place.0 in omega arith in
    let d = first_digit (decimal a.place.session) (decimal_nonempty a.place.session small) (decimal_digits a.place.session) in
    let told : IsOneLine (told_line a.reply) = joined_plain 32 refl (told_pieces a.reply) (told_plain a.reply plain.texts) in
    record {
      rest = tail_text look a.reply;
      is = head_is look a.place a.kind a.reply;
      single = lacks_both 10 (place_text a.place) _ (place_plain a.place) (lacks_both 10 (kind_word a.kind) _ (kind_plain a.kind) told);
      digit = d.0;
      more = (d.1 ++ 46 ∷ decimal a.place.command) ++ 32 ∷ (kind_word a.kind ++ 32 ∷ told_line a.reply);
      begins_so = ap (λ (l : List ℕ). (l ++ 46 ∷ decimal a.place.command) ++ 32 ∷ (kind_word a.kind ++ 32 ∷ told_line a.reply)) d.2;
      is_one = d.3;
      page = tail_lines look a.reply plain.texts;
    }

-- ---- the journal

abbrev pub entry_line : ℕ × Place → List ℕ
entry_line e = join_with_byte 32 (codes "edit" ∷ decimal e.0 ∷ place_text e.1 ∷ [])

abbrev pub journal_lines : List Place → List (List ℕ)
journal_lines j = join_with_byte 32 (codes "journal" ∷ decimal (length j) ∷ []) ∷ map entry_line (enumerate_from 1 j) ++ codes "done" ∷ []

entries_text : (es : List (ℕ × Place)) → flat_map edit_line es ≡ flat_map closed (map entry_line es)
entries_text [] = refl
entries_text (e ∷ es) = ap (λ (l : List ℕ). edit_line e ++ l) (entries_text es)

entries_plain : (es : List (ℕ × Place)) → AreOneLines (map entry_line es)
entries_plain [] = tt
entries_plain (e ∷ es) = (joined_plain 32 refl (codes "edit" ∷ decimal e.0 ∷ place_text e.1 ∷ []) (refl, (number_plain e.0, (place_plain e.1, tt))), entries_plain es)

entries_begun : (es : List (ℕ × Place)) → AllByRecursion (λ line. begins journal_words line ≡ true) (map entry_line es)
entries_begun [] = tt
entries_begun (e ∷ es) = (refl, entries_begun es)

pub journal_is : (j : List Place) → journal_text j ≡ flat_map closed (journal_lines j)
journal_is j =
    let es = enumerate_from 1 j in
    ap (λ (l : List ℕ). line_of (codes "journal" ∷ decimal (length j) ∷ []) ++ l)
    ((λ i. entries_text es i ++ line_of (codes "done" ∷ [])) ∙ sym (flat_map-append closed (map entry_line es) (codes "done" ∷ [])))

pub journal_plain : (j : List Place) → AreOneLines (journal_lines j)
journal_plain j = (
  joined_plain 32 refl (codes "journal" ∷ decimal (length j) ∷ []) (refl, (number_plain (length j), tt)),
  all_both (λ line. IsOneLine line) (map entry_line (enumerate_from 1 j)) (codes "done" ∷ []) (entries_plain (enumerate_from 1 j)) (refl, tt),
)

pub journal_begun : (j : List Place) → AllByRecursion (λ line. begins journal_words line ≡ true) (journal_lines j)
journal_begun j = (refl, all_both (λ line. begins journal_words line ≡ true) (map entry_line (enumerate_from 1 j)) (codes "done" ∷ []) (entries_begun (enumerate_from 1 j)) (refl, tt))

pub journal_has_lines : (j : List Place) → HasLines journal_words (journal_text j)
journal_has_lines j = record { lines = journal_lines j; is = journal_is j; single = journal_plain j; begun = journal_begun j }
