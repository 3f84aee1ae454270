-- What is printed of an answer is the lines of what it shows.
use Rattle.std.proofs.Common.{◌≡◌, ℕ, zero, suc, ◌+◌, Bool, true, false, List, [], ◌∷◌, ◌++◌, map, length, codes, decimal, Option, Some, None, refl, ap, sym, ◌∙◌, append-nil}
use Rattle.std.specs.List.{flat_map, enumerate_from, zip}
use Rattle.std.proofs.lemmas.Grind.{flat_map-append}
use Rattle.std.proofs.lemmas.List.{append_assoc}
use Rattle.lg_gram.specs.Linkages.{Linkage}
use Rattle.lg_gram.specs.declared.disjunct.Disjunct.{Disjunct}
use Rattle.lg_gram.specs.declared.linkage.Link.{Link}
use Rattle.lg_gram.specs.declared.edit.EditRefusal.{EditRefusal}
use Rattle.lg_gram.specs.declared.edit.EditRefusal.TheVariants.{UnknownMacro, TooDeep, TooManyNodes, TooManyChoices, SideTooLong, NoSuchWord}
use Rattle.lg_gram.specs.declared.listing.Page.{Page}
use Rattle.lg_gram.specs.declared.listing.PageItem.{PageItem}
use Rattle.lg_gram.specs.declared.listing.Stats.{Stats}
use Rattle.lg_gram.specs.declared.listing.Token.{Token}
use Rattle.lg_gram.specs.declared.listing.Violation.{Violation}
use Rattle.lg_gram.specs.declared.reply.CommandKind.{CommandKind}
use Rattle.lg_gram.specs.declared.reply.Place.{Place}
use Rattle.lg_gram.specs.declared.reply.Reply.{Reply}
use Rattle.lg_gram.specs.declared.reply.Reply.TheVariants.{Listed, Beyond, Published, Refused, At, NoListing}
use Rattle.lg_text.specs.Diagrams.{Drawn, cells, starts_of, drawn_of, link_line_at, link_lines, line_width, highest, cells_line, marked_diagram}
use Rattle.lg_text.specs.Pages as pages
use Rattle.lg_text.specs.Replies as replies
use Rattle.lg_text.specs.Shown.{closed}
use Rattle.lg_text.specs.Texts as texts
use Rattle.lg_text.specs.declared.look.Look.{Look}
use Rattle.lg_audit.specs.Lines.{beyond, published, refused, at, nothing_held, line, heading_line, word_line, link_line, fail_line, page_line, head_line}
use Rattle.lg_audit.specs.Documents.{item_lines, page_lines, unread_of, more_lines}
use Rattle.lg_audit.specs.Replies.{shown_word, shown_linkage}
use Rattle.lg_audit.specs.ShownAnswers.{height_lines, diagram_lines, drawn_if, counted_if, unread_by, shown_item, shown_page, shown_reply}

-- ---- lines

-- one line
closed_one : (l : List ℕ) → flat_map closed (l ∷ []) ≡ closed l
closed_one l = append-nil (closed l)

both_lines : (xs ys : List (List ℕ)) → flat_map closed (xs ++ ys) ≡ flat_map closed xs ++ flat_map closed ys
both_lines xs ys = flat_map-append closed xs ys

-- ---- diagrams

heights_are : (links : List Drawn) (columns h : ℕ) → link_lines (codes ">") links columns h ≡ flat_map closed (height_lines links columns h)
heights_are links columns zero = refl
heights_are links columns (suc h) =
    ap (λ (rest : List ℕ). codes ">" ++ (link_line_at links columns (suc h) ++ 10 ∷ rest)) (heights_are links columns h)
    ∙ sym (append_assoc (codes ">" ++ link_line_at links columns (suc h)) (10 ∷ []) (flat_map closed (height_lines links columns h))
    ∙ append_assoc (codes ">") (link_line_at links columns (suc h)) (10 ∷ flat_map closed (height_lines links columns h)))

last_line_is : (front text : List ℕ) → front ++ (text ++ 10 ∷ []) ≡ flat_map closed ((front ++ text) ∷ [])
last_line_is front text = sym (append_assoc front text (10 ∷ [])) ∙ sym (closed_one (front ++ text))

diagram_is : (tokens : List Token) (g : Linkage) → marked_diagram (codes ">") tokens g ≡ flat_map closed (diagram_lines tokens g)
diagram_is tokens g =
    let cs = cells tokens g in
    let starts = starts_of cs g (length cs) in
    let links = map (drawn_of g starts) g.links in
    (λ i. heights_are links (line_width starts) (highest links) i ++ last_line_is (codes ">") (cells_line 0 cs starts) i)
    ∙ sym (both_lines (height_lines links (line_width starts) (highest links)) ((codes ">" ++ cells_line 0 cs starts) ∷ []))

drawn_is : (diagram : Bool) (tokens : List Token) (g : Linkage) → pages.shown_diagram diagram tokens g ≡ flat_map closed (drawn_if diagram tokens g)
drawn_is true tokens g = diagram_is tokens g
drawn_is false tokens g = refl

-- ---- numbers of disjuncts

stats_is : (asked : Bool) (stats : Option Stats) → pages.shown_stats asked stats ≡ flat_map closed (unread_of (counted_if asked stats))
stats_is true (Some stats) = sym (closed_one (line (codes "stats" ∷ codes "disjuncts" ∷ decimal stats.disjuncts ∷ codes "kept" ∷ decimal stats.kept ∷ [])))
stats_is true None = refl
stats_is false stats = refl

-- ---- pages

words_are : (ws : List (ℕ × (Token × Option Disjunct))) → flat_map texts.word_line ws ≡ flat_map closed (map word_line (map shown_word ws))
words_are [] = refl
words_are ((position, (token, None)) ∷ ws) = ap (λ (rest : List ℕ). texts.word_line (position, (token, None)) ++ rest) (words_are ws)
words_are ((position, (token, Some d)) ∷ ws) = ap (λ (rest : List ℕ). texts.word_line (position, (token, Some d)) ++ rest) (words_are ws)

links_are : (g : Linkage) (ls : List Link) → flat_map (texts.link_line g) ls ≡ flat_map closed (map link_line (map (λ l. record { link = l; label = texts.label_text g l }) ls))
links_are g [] = refl
links_are g (l ∷ ls) = ap (λ (rest : List ℕ). texts.link_line g l ++ rest) (links_are g ls)

module _ (look : Look) (tokens : List Token) where
  shown_is : (number : ℕ) (g : Linkage)
      → texts.linkage_text tokens number g ++ pages.shown_diagram look.diagram tokens g
      ≡ flat_map closed (heading_line number (shown_linkage tokens g).sums ∷ (map word_line (shown_linkage tokens g).words ++ (map link_line (shown_linkage tokens g).links ++ drawn_if look.diagram tokens g)))
  shown_is number g =
      let ws = enumerate_from 0 (zip tokens g.chosen) in
      let heading = texts.heading_line number g in
      let words = flat_map texts.word_line ws in
      let links = flat_map (texts.link_line g) g.links in
      let drawn = pages.shown_diagram look.diagram tokens g in
      let shown_words = map word_line (map shown_word ws) in
      let shown_links = map link_line (shown_linkage tokens g).links in
      let lines = drawn_if look.diagram tokens g in
      append_assoc heading (words ++ links) drawn
      ∙ ap (λ (rest : List ℕ). heading ++ rest)
      (append_assoc words links drawn
      ∙ (λ i. words_are ws i ++ (links_are g g.links i ++ drawn_is look.diagram tokens g i))
      ∙ ap (λ (rest : List ℕ). flat_map closed shown_words ++ rest) (sym (both_lines shown_links lines))
      ∙ sym (both_lines shown_words (shown_links ++ lines)))

  item_is : (number : ℕ) (g : Linkage) (broken : Option Violation)
      → pages.item_text look tokens (record { number = number; linkage = g; broken = broken }) ≡ flat_map closed (item_lines (shown_item (unread_by look) tokens (record { number = number; linkage = g; broken = broken })))
  item_is number g None = shown_is number g
  item_is number g (Some v) = sym (closed_one (fail_line number v))

  items_are : (items : List PageItem) → flat_map (pages.item_text look tokens) items ≡ flat_map closed (flat_map item_lines (map (shown_item (unread_by look) tokens) items))
  items_are [] = refl
  items_are (item ∷ items) =
      (λ i. item_is item.number item.linkage item.broken i ++ items_are items i)
      ∙ sym (both_lines (item_lines (shown_item (unread_by look) tokens item)) (flat_map item_lines (map (shown_item (unread_by look) tokens) items)))

  last_is : (items : List PageItem) (next : ℕ) (end : Bool)
      → pages.page_line (record { items = items; next = next; end = end }) ≡ closed (page_line (shown_page (unread_by look) tokens (record { items = items; next = next; end = end })).last)
  last_is items next true = refl
  last_is items next false = refl

  page_is : (page : Page) → pages.page_text look tokens page ≡ flat_map closed (page_lines (shown_page (unread_by look) tokens page))
  page_is page =
      let lines = flat_map item_lines (map (shown_item (unread_by look) tokens) page.items) in
      (λ i. items_are page.items i ++ (last_is page.items page.next page.end ∙ sym (closed_one (page_line (shown_page (unread_by look) tokens page).last))) i)
      ∙ sym (both_lines lines (page_line (shown_page (unread_by look) tokens page).last ∷ []))

-- ---- answers

refused_is : (place : Place) (kind : CommandKind) (version : ℕ) (name : List ℕ) (cause : EditRefusal)
    → texts.line_of (replies.place_text place ∷ replies.kind_word kind ∷ codes "refused" ∷ codes "at" ∷ (decimal version ++ codes ":") ∷ replies.cause_pieces cause name)
    ≡ flat_map closed (head_line place kind (refused version (line (replies.cause_pieces cause name))) ∷ [])
refused_is place kind version name (UnknownMacro number) = sym (closed_one (head_line place kind (refused version (line (replies.cause_pieces (UnknownMacro number) name)))))
refused_is place kind version name (TooDeep level) = sym (closed_one (head_line place kind (refused version (line (replies.cause_pieces (TooDeep level) name)))))
refused_is place kind version name (TooManyNodes count) = sym (closed_one (head_line place kind (refused version (line (replies.cause_pieces (TooManyNodes count) name)))))
refused_is place kind version name (TooManyChoices count) = sym (closed_one (head_line place kind (refused version (line (replies.cause_pieces (TooManyChoices count) name)))))
refused_is place kind version name (SideTooLong count) = sym (closed_one (head_line place kind (refused version (line (replies.cause_pieces (SideTooLong count) name)))))
refused_is place kind version name NoSuchWord = sym (closed_one (head_line place kind (refused version (line (replies.cause_pieces NoSuchWord name)))))

pub reply_is : (look : Look) (place : Place) (kind : CommandKind) (r : Reply)
    → replies.reply_text look place kind r ≡ flat_map closed (head_line place kind (shown_reply (unread_by look) r) ∷ more_lines (shown_reply (unread_by look) r))
reply_is look place kind (Listed version tokens page stats) =
    ap (λ (rest : List ℕ). closed (line (replies.version_pieces place kind version)) ++ rest)
    ((λ i. stats_is look.stats stats i ++ page_is look tokens page i)
    ∙ sym (both_lines (unread_of (counted_if look.stats stats)) (page_lines (shown_page (unread_by look) tokens page))))
reply_is look place kind (Beyond version bound) = sym (closed_one (head_line place kind (beyond version bound)))
reply_is look place kind (Published version) = sym (closed_one (head_line place kind (published version)))
reply_is look place kind (Refused version cause name) = refused_is place kind version name cause
reply_is look place kind (At version) = sym (closed_one (head_line place kind (at version)))
reply_is look place kind NoListing = sym (closed_one (head_line place kind nothing_held))
