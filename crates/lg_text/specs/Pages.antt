-- What is printed of a page: the linkages that pass, with their diagrams where these are asked for, and a last line.
use Rattle.std.specs.Prelude.{ℕ, Bool, true, false, List, [], ◌∷◌, ◌++◌, length, codes, Option, Some, None, is_none, if◌then◌else◌}
use Rattle.std.specs.List.{flat_map, count_by}
use Rattle.std.specs.Fmt.{decimal}
use Rattle.std.specs.Option.{option_map_or}
use Rattle.lg_gram.specs.Linkages.{Linkage}
use Rattle.lg_gram.specs.declared.listing.Page.{Page}
use Rattle.lg_gram.specs.declared.listing.PageItem.{PageItem}
use Rattle.lg_gram.specs.declared.listing.Stats.{Stats}
use Rattle.lg_gram.specs.declared.listing.Token.{Token}
use Rattle.lg_gram.specs.declared.listing.Violation.{Violation}
use Rattle.lg_text.specs.Diagrams.{marked_diagram}
use Rattle.lg_text.specs.Texts.{line_of, linkage_text}
use Rattle.lg_text.specs.declared.look.Look.{Look}

abbrev pub fail_line : ℕ → Violation → List ℕ
fail_line number v = line_of (codes "fail" ∷ decimal number ∷ codes "rule" ∷ decimal v.rule ∷ codes "link" ∷ decimal v.left ∷ decimal v.right ∷ [])

-- the diagram of a linkage where it is asked for, each line of it behind a `>`
abbrev pub shown_diagram : Bool → List Token → Linkage → List ℕ
shown_diagram true tokens g = marked_diagram (codes ">") tokens g
shown_diagram false tokens g = []

-- a candidate that passes has its linkage text and its diagram, another one line
abbrev pub item_text : Look → List Token → PageItem → List ℕ
item_text look tokens item = option_map_or (fail_line item.number) item.broken (linkage_text tokens item.number item.linkage ++ shown_diagram look.diagram tokens item.linkage)

-- how many candidates of a page pass
abbrev pub shown : List PageItem → ℕ
shown items = count_by (λ item. is_none item.broken) items

abbrev pub page_line : Page → List ℕ
page_line page =
    line_of (codes "page" ∷ codes "shown" ∷ decimal (shown page.items) ∷ codes "examined" ∷ decimal (length page.items) ∷ codes "next" ∷ decimal page.next ∷ (if page.end then codes "end" else codes "more") ∷ [])

-- a page: its candidates in order, and a last line
abbrev pub page_text : Look → List Token → Page → List ℕ
page_text look tokens page = flat_map (item_text look tokens) page.items ++ page_line page

-- how many disjuncts a sentence has, and how many are left after pruning
abbrev pub stats_line : Stats → List ℕ
stats_line stats = line_of (codes "stats" ∷ codes "disjuncts" ∷ decimal stats.disjuncts ∷ codes "kept" ∷ decimal stats.kept ∷ [])

-- the numbers of disjuncts, where they are asked for and there
abbrev pub shown_stats : Bool → Option Stats → List ℕ
shown_stats true (Some stats) = stats_line stats
shown_stats true None = []
shown_stats false stats = []

-- a page of a listing, behind the numbers of its disjuncts
abbrev pub listing_text : Look → List Token → Page → Option Stats → List ℕ
listing_text look tokens page stats = shown_stats look.stats stats ++ page_text look tokens page
