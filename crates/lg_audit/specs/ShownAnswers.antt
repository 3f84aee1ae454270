-- What a document shows of answers, and that this is what is printed of them.
use Rattle.std.specs.Prelude.{◌≡◌, ◌≢◌, ℕ, zero, suc, Bool, true, false, List, [], ◌∷◌, ◌++◌, map, length, codes, decimal, Option, Some, None, IfSome}
use Rattle.std.specs.List.{flat_map, AllByRecursion}
use Rattle.std.specs.Option.{option_map_or}
use Rattle.lg_base.specs.Costs.{IsWithinCosts}
use Rattle.lg_gram.specs.Connectors.{Connector}
use Rattle.lg_gram.specs.Linkages.{Linkage, total_cost, total_length}
use Rattle.lg_gram.specs.Rules.{Good}
use Rattle.lg_gram.specs.declared.disjunct.Disjunct.{Disjunct}
use Rattle.lg_gram.specs.declared.listing.Page.{Page}
use Rattle.lg_gram.specs.declared.listing.PageItem.{PageItem}
use Rattle.lg_gram.specs.declared.listing.Stats.{Stats}
use Rattle.lg_gram.specs.declared.listing.Token.{Token}
use Rattle.lg_gram.specs.declared.reply.CommandKind.{CommandKind}
use Rattle.lg_gram.specs.declared.reply.CommandKind.TheVariants as kinds
use Rattle.lg_gram.specs.declared.reply.Place.{Place}
use Rattle.lg_gram.specs.declared.reply.Reply.{Reply}
use Rattle.lg_gram.specs.declared.reply.Reply.TheVariants.{Listed, Beyond, Published, Refused, At, NoListing}
use Rattle.lg_text.specs.Diagrams.{Drawn, cells, starts_of, drawn_of, link_line_at, line_width, highest, cells_line}
use Rattle.lg_text.specs.Pages.{shown}
use Rattle.lg_text.specs.Replies.{cause_pieces, reply_text, IsAnswerTo}
use Rattle.lg_text.specs.Shown.{IsOneLine, IsPlainDisjunct, closed}
use Rattle.lg_text.specs.declared.look.Look.{Look}
use Rattle.lg_audit.specs.Pieces.{HasNoBlank, IsNumber, IsSmallNumber}
use Rattle.lg_audit.specs.Lines.{ShownItem, passes, fails, ShownPage, ShownReply, listed, beyond, published, refused, at, nothing_held, line, head_line, IsRun, IsViolationInForm}
use Rattle.lg_audit.specs.Documents.{ShownDocument, more_lines, IsCauseInForm, IsBoundInForm, IsReplyInForm}
use Rattle.lg_audit.specs.Replies.{shown_linkage}

-- ---- the lines that are not read

-- the lines behind a linkage, and that of numbers of disjuncts
pub record Unread : Type 0 where
  pub behind : List Token → Linkage → List (List ℕ)
  pub counts : Option Stats → Option (List ℕ)

-- the lines of links from height h down, each behind its mark
abbrev pub height_lines : List Drawn → ℕ → ℕ → List (List ℕ)
height_lines links columns zero = []
height_lines links columns (suc h) = (codes ">" ++ link_line_at links columns (suc h)) ∷ height_lines links columns h

-- the lines of a diagram, each behind its mark
abbrev pub diagram_lines : List Token → Linkage → List (List ℕ)
diagram_lines tokens g =
    let texts = cells tokens g in
    let starts = starts_of texts g (length texts) in
    let links = map (drawn_of g starts) g.links in
    height_lines links (line_width starts) (highest links) ++ (codes ">" ++ cells_line 0 texts starts) ∷ []

abbrev pub drawn_if : Bool → List Token → Linkage → List (List ℕ)
drawn_if true tokens g = diagram_lines tokens g
drawn_if false tokens g = []

abbrev pub counted_if : Bool → Option Stats → Option (List ℕ)
counted_if true (Some stats) = Some (line (codes "stats" ∷ codes "disjuncts" ∷ decimal stats.disjuncts ∷ codes "kept" ∷ decimal stats.kept ∷ []))
counted_if true None = None
counted_if false stats = None

-- by what is printed beside linkages
abbrev pub unread_by : Look → Unread
unread_by look = record { behind = drawn_if look.diagram; counts = counted_if look.stats }

-- ---- what is shown of answers

abbrev pub shown_item : Unread → List Token → PageItem → ShownItem
shown_item unread tokens item = option_map_or (fails item.number) item.broken (passes item.number (shown_linkage tokens item.linkage) (unread.behind tokens item.linkage))

abbrev pub shown_page : Unread → List Token → Page → ShownPage
shown_page unread tokens page = record {
  items = map (shown_item unread tokens) page.items;
  last = record { shown = shown page.items; examined = length page.items; next = page.next; end = page.end };
}

abbrev pub shown_reply : Unread → Reply → ShownReply
shown_reply unread (Listed version tokens page stats) = listed version (unread.counts stats) (shown_page unread tokens page)
shown_reply unread (Beyond version bound) = beyond version bound
shown_reply unread (Published version) = published version
shown_reply unread (Refused version cause name) = refused version (line (cause_pieces cause name))
shown_reply unread (At version) = at version
shown_reply unread NoListing = nothing_held

abbrev pub shown_document : Unread → List (List Reply) → List Place → List (List ℕ) → ShownDocument
shown_document unread replies journal usage = record { replies = map (map (shown_reply unread)) replies; journal = journal; usage = usage }

-- ---- answers whose texts and numbers are in form

-- its name has no blank
pub record HasSolidName (c : Connector) : Type 0 where
  pub caps : HasNoBlank c.caps
  pub subs : HasNoBlank c.subs

pub record IsSolidDisjunct (d : Disjunct) : Type 0 where
  pub plain : IsPlainDisjunct d
  pub left : AllByRecursion HasSolidName d.left
  pub right : AllByRecursion HasSolidName d.right
  pub cost : IsWithinCosts d.cost
  pub few_left : IsSmallNumber (length d.left)
  pub few_right : IsSmallNumber (length d.right)

pub record IsSolidLinkage (g : Linkage) : Type 0 where
  pub positions : List (List Disjunct)
  pub good : Good positions g
  pub few : IsSmallNumber (length g.chosen)
  pub chosen : AllByRecursion (λ o. IfSome o IsSolidDisjunct) g.chosen
  pub cost : IsWithinCosts (total_cost g)
  pub sum : IsNumber (total_length g)

pub record IsSolidItem (item : PageItem) : Type 0 where
  pub number : IsNumber item.number
  pub broken : IfSome item.broken IsViolationInForm
  pub linkage : IsSolidLinkage item.linkage

pub record IsSolidPage (tokens : List Token) (page : Page) : Type 0 where
  pub tokens_solid : AllByRecursion (λ (t : Token). IsRun t.text) tokens
  pub items : AllByRecursion IsSolidItem page.items
  pub few : IsNumber (length page.items)
  pub next : IsNumber page.next

abbrev pub IsSolidReply : Reply → Type 0
IsSolidReply (Listed version tokens page stats) = IsNumber version × IsSolidPage tokens page
IsSolidReply (Beyond version bound) = IsNumber version × IsBoundInForm bound
IsSolidReply (Published version) = IsNumber version
IsSolidReply (Refused version cause name) = IsNumber version × IsCauseInForm cause × IsOneLine name
IsSolidReply (At version) = IsNumber version
IsSolidReply NoListing = Unit {0}

-- there are no numbers of disjuncts with `more`
abbrev pub IsBareMore : CommandKind → Reply → Type 0
IsBareMore kind (Listed version tokens page None) = Unit {0}
IsBareMore kind (Listed version tokens page (Some stats)) = kind ≢ kinds.More
IsBareMore kind _ = Unit {0}

-- ---- laws

-- What is printed of an answer is the lines of what it shows.
abbrev pub AnswersHaveLines : Type 0
AnswersHaveLines =
    (look : Look) (place : Place) (kind : CommandKind) (r : Reply)
    → reply_text look place kind r ≡ flat_map closed (head_line place kind (shown_reply (unread_by look) r) ∷ more_lines (shown_reply (unread_by look) r))

-- What is shown of an answer in form is an answer of its kind.
abbrev pub AnswersAreInForm : Type 0
AnswersAreInForm = (look : Look) (kind : CommandKind) (r : Reply) → IsAnswerTo kind r → IsBareMore kind r → IsSolidReply r → IsReplyInForm kind (shown_reply (unread_by look) r)
