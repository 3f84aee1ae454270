-- What is shown of an answer in form is in form.
use Rattle.std.proofs.Common.{◌≡◌, ℕ, zero, suc, ◌+◌, ◌<◌, ◌≤◌, ◌^◌, Bool, true, false, eqb, List, [], ◌∷◌, ◌++◌, map, take, length, codes, decimal, Contains, Option, Some, None, IfSome, is_none, slice_get, slice_index_or, refl, arith}
use Rattle.std.specs.List.{list_any, enumerate_from, zip, join_with_byte, AllByRecursion}
use Rattle.std.specs.Option.{option_zip}
use Rattle.std.proofs.lemmas.Bool.{or_parts, or_from, cond_both}
use Rattle.std.proofs.lemmas.List.Sums.{count_by-le-length}
use Rattle.std.proofs.lemmas.Option.{slice_get_within}
use Rattle.lg_base.proofs.Elements.{contains_here, contains_later}
use Rattle.lg_gram.specs.Connectors.{Connector, connector_text, merged, either}
use Rattle.lg_gram.specs.Labels.{label_between}
use Rattle.lg_gram.specs.Linkages.{Linkage}
use Rattle.lg_gram.specs.Names.{trimmed}
use Rattle.lg_gram.specs.Rules.{chosen_at, rights_of, lefts_of, left_list, right_list}
use Rattle.lg_gram.specs.declared.disjunct.Disjunct.{Disjunct}
use Rattle.lg_gram.specs.declared.linkage.Link.{Link}
use Rattle.lg_gram.specs.declared.listing.Page.{Page}
use Rattle.lg_gram.specs.declared.listing.PageItem.{PageItem}
use Rattle.lg_gram.specs.declared.listing.Stats.{Stats}
use Rattle.lg_gram.specs.declared.listing.Token.{Token}
use Rattle.lg_gram.specs.declared.listing.Violation.{Violation}
use Rattle.lg_gram.specs.declared.reply.CommandKind.TheVariants as kinds
use Rattle.lg_gram.specs.declared.reply.Reply.TheVariants.{Listed, Beyond, Published, Refused, At, NoListing}
use Rattle.lg_text.specs.Diagrams.{Drawn, cells, starts_of, drawn_of, line_width, highest}
use Rattle.lg_text.specs.Pages.{shown}
use Rattle.lg_text.specs.Shown.{IsOneLine, IsPlainDisjunct}
use Rattle.lg_text.specs.Texts.{side_text, letters_of, label_text}
use Rattle.lg_text.specs.declared.look.Look.{Look}
use Rattle.lg_text.proofs.Bytes.{lacks_both}
use Rattle.lg_text.proofs.PlainDiagrams.{drawn_plain, link_line_plain, cells_plain, words_plain}
use Rattle.lg_text.proofs.PlainTexts.{AreChosen, number_plain, side_plain, label_plain}
use Rattle.lg_audit.specs.Pieces.{HasNoBlank, IsNumber, IsSmallNumber}
use Rattle.lg_audit.specs.Lines.{IsRun, IsChoiceInForm, IsWordInForm, IsLinkInForm, IsLinkageInForm, IsItemInForm, IsUnread, AreUnread}
use Rattle.lg_audit.specs.Documents.{IsPageInForm, unread_of}
use Rattle.lg_audit.specs.Replies.{shown_word, shown_linkage}
use Rattle.lg_audit.specs.ShownAnswers.{height_lines, diagram_lines, drawn_if, counted_if, unread_by, shown_item, shown_page, HasSolidName, IsSolidDisjunct, IsSolidLinkage, IsSolidItem, IsSolidPage, IsBareMore, AnswersAreInForm}

-- ---- texts without a blank

joined_solid : (c : ℕ) → eqb 32 c ≡ false → (pieces : List (List ℕ)) → AllByRecursion HasNoBlank pieces → HasNoBlank (join_with_byte c pieces)
joined_solid c e [] all = refl
joined_solid c e (x ∷ []) all = all.0
joined_solid c e (x ∷ y ∷ pieces) all =
    lacks_both 32 x (c ∷ join_with_byte c (y ∷ pieces)) all.0 (or_from (eqb 32 c) (list_any (eqb 32) (join_with_byte c (y ∷ pieces))) e (joined_solid c e (y ∷ pieces) all.1))

connector_solid : (c : Connector) → HasSolidName c → HasNoBlank (connector_text c)
connector_solid c solid =
    let both = lacks_both 32 c.caps c.subs solid.caps solid.subs in
    cond_both c.multi (64 ∷ c.caps ++ c.subs) (c.caps ++ c.subs) HasNoBlank (λ _. both) (λ _. both)

texts_solid : (cs : List Connector) → AllByRecursion HasSolidName cs → AllByRecursion HasNoBlank (map connector_text cs)
texts_solid [] all = tt
texts_solid (c ∷ cs) all = (connector_solid c all.0, texts_solid cs all.1)

side_solid : (cs : List Connector) → AllByRecursion HasSolidName cs → HasNoBlank (side_text cs)
side_solid [] all = refl
side_solid (c ∷ cs) all = joined_solid 44 refl (map connector_text (c ∷ cs)) (texts_solid (c ∷ cs) all)

merged_solid : (xs ys : List ℕ) → HasNoBlank xs → HasNoBlank ys → HasNoBlank (merged xs ys)
merged_solid [] ys e f = f
merged_solid (x ∷ xs) [] e f = e
merged_solid (x ∷ xs) (y ∷ ys) e f =
    let first = or_parts (eqb 32 x) (list_any (eqb 32) xs) e in
    let second = or_parts (eqb 32 y) (list_any (eqb 32) ys) f in
    or_from (eqb 32 (either x y)) (list_any (eqb 32) (merged xs ys))
    (cond_both (eqb x 42) y x (λ (z : ℕ). eqb 32 z ≡ false) (λ _. second.0) (λ _. first.0))
    (merged_solid xs ys first.1 second.1)

take_solid : (n : ℕ) (xs : List ℕ) → HasNoBlank xs → HasNoBlank (take n xs)
take_solid zero xs e = refl
take_solid (suc n) [] e = refl
take_solid (suc n) (x ∷ xs) e = let parts = or_parts (eqb 32 x) (list_any (eqb 32) xs) e in or_from (eqb 32 x) (list_any (eqb 32) (take n xs)) parts.0 (take_solid n xs parts.1)

between_solid : (a b : Option Connector) → IfSome a HasSolidName → IfSome b HasSolidName → HasNoBlank (letters_of (label_between (option_zip a b)))
between_solid None b e f = refl
between_solid (Some a) None e f = refl
between_solid (Some a) (Some b) e f = lacks_both 32 a.caps (trimmed (merged a.subs b.subs)) e.caps (take_solid _ (merged a.subs b.subs) (merged_solid a.subs b.subs e.subs f.subs))

some_solid : (cs : List Connector) → AllByRecursion HasSolidName cs → (k : ℕ) → IfSome (slice_get cs k) HasSolidName
some_solid [] all k = tt
some_solid (c ∷ cs) all zero = all.0
some_solid (c ∷ cs) all (suc k) = some_solid cs all.1 k

-- ---- what positions choose

abbrev AreSolid : List (Option Disjunct) → Type 0
AreSolid chosen = AllByRecursion (λ o. IfSome o IsSolidDisjunct) chosen

at_position : (chosen : List (Option Disjunct)) → AreSolid chosen → (i : ℕ) → IfSome (slice_index_or chosen i None) IsSolidDisjunct
at_position [] all i = tt
at_position (o ∷ chosen) all zero = all.0
at_position (o ∷ chosen) all (suc i) = at_position chosen all.1 i

plain_one : (o : Option Disjunct) → IfSome o IsSolidDisjunct → IfSome o IsPlainDisjunct
plain_one None solid = tt
plain_one (Some d) solid = solid.plain

all_plain : (chosen : List (Option Disjunct)) → AreSolid chosen → AreChosen chosen
all_plain [] all = tt
all_plain (o ∷ chosen) all = (plain_one o all.0, all_plain chosen all.1)

rights_solid : (o : Option Disjunct) → IfSome o IsSolidDisjunct → AllByRecursion HasSolidName (right_list o)
rights_solid None solid = tt
rights_solid (Some d) solid = solid.right

lefts_solid : (o : Option Disjunct) → IfSome o IsSolidDisjunct → AllByRecursion HasSolidName (left_list o)
lefts_solid None solid = tt
lefts_solid (Some d) solid = solid.left

few_rights : (o : Option Disjunct) → IfSome o IsSolidDisjunct → IsSmallNumber (length (right_list o))
few_rights None solid = omega arith
few_rights (Some d) solid = solid.few_right

few_lefts : (o : Option Disjunct) → IfSome o IsSolidDisjunct → IsSmallNumber (length (left_list o))
few_lefts None solid = omega arith
few_lefts (Some d) solid = solid.few_left

-- a position with a connector at a place is one of the positions
linked_within : (chosen : List (Option Disjunct)) (i k : ℕ) (c : Connector) → slice_get (left_list (slice_index_or chosen i None)) k ≡ Some c → i < length chosen
linked_within [] i k c e = absurd cc
linked_within (o ∷ chosen) zero k c e = omega arith
linked_within (o ∷ chosen) (suc i) k c e = let less = linked_within chosen i k c e in omega arith

-- ---- linkages

choice_form : (d : Disjunct) → IsSolidDisjunct d → IsChoiceInForm (record { word = d.word; left = side_text d.left; right = side_text d.right; cost = d.cost })
choice_form d solid = record {
  word = solid.plain.word;
  left = record { solid = side_solid d.left solid.left; single = side_plain d.left solid.plain.left };
  right = record { solid = side_solid d.right solid.right; single = side_plain d.right solid.plain.right };
  cost = solid.cost;
}

word_form : (position : ℕ) (t : Token) (o : Option Disjunct) → IsNumber position → IsRun t.text → IfSome o IsSolidDisjunct → IsWordInForm (shown_word (position, (t, o)))
word_form position t None number text solid = record { position = number; text = text; choice = tt }
word_form position t (Some d) number text solid = record { position = number; text = text; choice = choice_form d solid }

words_form : (position : ℕ) (tokens : List Token) (chosen : List (Option Disjunct)) → position + length chosen ≤ 2 ^ 32 → AllByRecursion (λ (t : Token). IsRun t.text) tokens → AreSolid chosen
    → AllByRecursion IsWordInForm (map shown_word (enumerate_from position (zip tokens chosen)))
words_form position [] chosen few texts solid = tt
words_form position (t ∷ tokens) [] few texts solid = tt
words_form position (t ∷ tokens) (o ∷ chosen) few texts solid = (word_form position t o (omega arith) texts.0 solid.0, words_form (position + 1) tokens chosen (omega arith) texts.1 solid.1)

module _ (g : Linkage) (solid : IsSolidLinkage g) where
  label_form : (l : Link) → IsRun (label_text g l)
  label_form l = record {
    solid = between_solid (slice_get (rights_of g l.left) l.lplace) (slice_get (lefts_of g l.right) l.rplace)
        (some_solid (rights_of g l.left) (rights_solid (chosen_at g l.left) (at_position g.chosen solid.chosen l.left)) l.lplace)
        (some_solid (lefts_of g l.right) (lefts_solid (chosen_at g l.right) (at_position g.chosen solid.chosen l.right)) l.rplace);
    single = label_plain g (all_plain g.chosen solid.chosen) l;
  }

  link_form : (l : Link) → Contains g.links l → IsLinkInForm (record { link = l; label = label_text g l })
  link_form l here =
      let forward = solid.good.rules.matched.forward l here in
      let joins = solid.good.rules.matched.joins l here in
      let within = linked_within g.chosen l.right l.rplace joins.1 joins.3 in
      let left_place = slice_get_within (rights_of g l.left) l.lplace joins.0 joins.2 in
      let right_place = slice_get_within (lefts_of g l.right) l.rplace joins.1 joins.3 in
      let few_left = few_rights (chosen_at g l.left) (at_position g.chosen solid.chosen l.left) in
      let few_right = few_lefts (chosen_at g l.right) (at_position g.chosen solid.chosen l.right) in
      let few = solid.few in
      record { left = omega arith; right = omega arith; lplace = omega arith; rplace = omega arith; label = label_form l }

  links_form : (ls : List Link) → ((l : Link) → Contains ls l → Contains g.links l) → AllByRecursion IsLinkInForm (map (λ l. record { link = l; label = label_text g l }) ls)
  links_form [] are = tt
  links_form (l ∷ ls) are = (link_form l (are l (contains_here l ls)), links_form ls (λ m at. are m (contains_later l ls m at)))

module _ (tokens : List Token) (texts : AllByRecursion (λ (t : Token). IsRun t.text) tokens) where
  linkage_form : (g : Linkage) → IsSolidLinkage g → IsLinkageInForm (shown_linkage tokens g)
  linkage_form g solid =
      let few = solid.few in
      let fewer = count_by-le-length is_none g.chosen in
      record {
        sums = record { unused = omega arith; cost = solid.cost; length = solid.sum };
        words = words_form 0 tokens g.chosen (omega arith) texts solid.chosen;
        links = links_form g solid g.links (λ l here. here);
      }

  -- ---- the lines behind a linkage

  single_texts : (ts : List Token) → AllByRecursion (λ (t : Token). IsRun t.text) ts → AllByRecursion (λ (t : Token). IsOneLine t.text) ts
  single_texts [] all = tt
  single_texts (t ∷ ts) all = (all.0.single, single_texts ts all.1)

  heights_unread : (links : List Drawn) → AllByRecursion (λ (d : Drawn). IsOneLine d.label) links → (columns h : ℕ) → AreUnread (codes ">") (height_lines links columns h)
  heights_unread links all columns zero = tt
  heights_unread links all columns (suc h) = ((link_line_plain links all columns (suc h), refl), heights_unread links all columns h)

  both_unread : (xs : List (List ℕ)) (l : List ℕ) → AreUnread (codes ">") xs → IsUnread (codes ">") l → AreUnread (codes ">") (xs ++ l ∷ [])
  both_unread [] l all one = (one, tt)
  both_unread (x ∷ xs) l all one = (all.0, both_unread xs l all.1 one)

  diagram_unread : (g : Linkage) → IsSolidLinkage g → AreUnread (codes ">") (diagram_lines tokens g)
  diagram_unread g solid =
      let cs = cells tokens g in
      let starts = starts_of cs g (length cs) in
      let links = map (drawn_of g starts) g.links in
      both_unread (height_lines links (line_width starts) (highest links)) _
      (heights_unread links (drawn_plain g starts (all_plain g.chosen solid.chosen) g.links) (line_width starts) (highest links))
      (words_plain 0 cs starts (cells_plain tokens g.chosen (single_texts tokens texts)), refl)

  behind_unread : (diagram : Bool) (g : Linkage) → IsSolidLinkage g → AreUnread (codes ">") (drawn_if diagram tokens g)
  behind_unread true g solid = diagram_unread g solid
  behind_unread false g solid = tt

  -- ---- pages

  item_form : (look : Look) (number : ℕ) (g : Linkage) (broken : Option Violation) → IsSolidItem (record { number = number; linkage = g; broken = broken })
      → IsItemInForm (shown_item (unread_by look) tokens (record { number = number; linkage = g; broken = broken }))
  item_form look number g None solid = (solid.number, linkage_form g solid.linkage, behind_unread look.diagram g solid.linkage)
  item_form look number g (Some v) solid = (solid.number, solid.broken)

  items_form : (look : Look) (items : List PageItem) → AllByRecursion IsSolidItem items → AllByRecursion IsItemInForm (map (shown_item (unread_by look) tokens) items)
  items_form look [] all = tt
  items_form look (item ∷ items) all = (item_form look item.number item.linkage item.broken all.0, items_form look items all.1)

page_form : (look : Look) (tokens : List Token) (page : Page) → IsSolidPage tokens page → IsPageInForm (shown_page (unread_by look) tokens page)
page_form look tokens page solid =
    let few = solid.few in
    let fewer = count_by-le-length (λ (item : PageItem). is_none item.broken) page.items in
    record {
      items = items_form tokens solid.tokens_solid look page.items solid.items;
      last = record { shown = omega arith; examined = few; next = solid.next };
    }

-- ---- answers

stats_unread : (asked : Bool) (stats : Option Stats) → AreUnread (codes "stats ") (unread_of (counted_if asked stats))
stats_unread true (Some stats) = (
  (
    (lacks_both 10 (codes "stats disjuncts ") (decimal stats.disjuncts ++ (codes " kept " ++ decimal stats.kept)) refl
        (lacks_both 10 (decimal stats.disjuncts) (codes " kept " ++ decimal stats.kept) (number_plain stats.disjuncts) (lacks_both 10 (codes " kept ") (decimal stats.kept) refl (number_plain stats.kept)))),
    refl,
  ),
  tt,
)
stats_unread true None = tt
stats_unread false stats = tt

bare_counts : (asked : Bool) (version : ℕ) (tokens : List Token) (page : Page) (stats : Option Stats) → IsBareMore kinds.More (Listed version tokens page stats) → counted_if asked stats ≡ None
bare_counts true version tokens page None bare = refl
bare_counts true version tokens page (Some stats) bare = absurd (bare refl)
bare_counts false version tokens page stats bare = refl

pub answers_form : AnswersAreInForm
answers_form look kinds.Parse (Listed version tokens page stats) fits bare solid = (solid.0, stats_unread look.stats stats, page_form look tokens page solid.1)
answers_form look kinds.Parse (Beyond version bound) fits bare solid = solid
answers_form look kinds.List (Listed version tokens page stats) fits bare solid = (solid.0, stats_unread look.stats stats, page_form look tokens page solid.1)
answers_form look kinds.List (Beyond version bound) fits bare solid = solid
answers_form look kinds.More (Listed version tokens page stats) fits bare solid = (solid.0, bare_counts look.stats version tokens page stats bare, page_form look tokens page solid.1)
answers_form look kinds.More NoListing fits bare solid = tt
answers_form look kinds.Set (Published version) fits bare solid = solid
answers_form look kinds.Set (Refused version cause name) fits bare solid = (solid.0, record { cause = cause; name = name; form = solid.1; single = solid.2; is = refl })
answers_form look kinds.Macro (Published version) fits bare solid = solid
answers_form look kinds.Macro (Refused version cause name) fits bare solid = (solid.0, record { cause = cause; name = name; form = solid.1; single = solid.2; is = refl })
answers_form look kinds.Del (Published version) fits bare solid = solid
answers_form look kinds.Del (Refused version cause name) fits bare solid = (solid.0, record { cause = cause; name = name; form = solid.1; single = solid.2; is = refl })
answers_form look kinds.Version (At version) fits bare solid = solid
-- a command of each kind has no other answers
answers_form look kinds.Parse (Published version) fits bare solid = absurd fits
answers_form look kinds.Parse (Refused version cause name) fits bare solid = absurd fits
answers_form look kinds.Parse (At version) fits bare solid = absurd fits
answers_form look kinds.Parse NoListing fits bare solid = absurd fits
answers_form look kinds.List (Published version) fits bare solid = absurd fits
answers_form look kinds.List (Refused version cause name) fits bare solid = absurd fits
answers_form look kinds.List (At version) fits bare solid = absurd fits
answers_form look kinds.List NoListing fits bare solid = absurd fits
answers_form look kinds.More (Beyond version bound) fits bare solid = absurd fits
answers_form look kinds.More (Published version) fits bare solid = absurd fits
answers_form look kinds.More (Refused version cause name) fits bare solid = absurd fits
answers_form look kinds.More (At version) fits bare solid = absurd fits
answers_form look kinds.Set (Listed version tokens page stats) fits bare solid = absurd fits
answers_form look kinds.Set (Beyond version bound) fits bare solid = absurd fits
answers_form look kinds.Set (At version) fits bare solid = absurd fits
answers_form look kinds.Set NoListing fits bare solid = absurd fits
answers_form look kinds.Macro (Listed version tokens page stats) fits bare solid = absurd fits
answers_form look kinds.Macro (Beyond version bound) fits bare solid = absurd fits
answers_form look kinds.Macro (At version) fits bare solid = absurd fits
answers_form look kinds.Macro NoListing fits bare solid = absurd fits
answers_form look kinds.Del (Listed version tokens page stats) fits bare solid = absurd fits
answers_form look kinds.Del (Beyond version bound) fits bare solid = absurd fits
answers_form look kinds.Del (At version) fits bare solid = absurd fits
answers_form look kinds.Del NoListing fits bare solid = absurd fits
answers_form look kinds.Version (Listed version tokens page stats) fits bare solid = absurd fits
answers_form look kinds.Version (Beyond version bound) fits bare solid = absurd fits
answers_form look kinds.Version (Published version) fits bare solid = absurd fits
answers_form look kinds.Version (Refused version cause name) fits bare solid = absurd fits
answers_form look kinds.Version NoListing fits bare solid = absurd fits
