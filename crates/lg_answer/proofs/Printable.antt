-- The linkages of a page may be printed beside the listing's tokens.
use Rattle.std.proofs.Common.{◌≡◌, ℕ, ◌+◌, List, [], ◌∷◌, map, drop, All, sym, ap, ◌∙◌, subst}
use Rattle.std.specs.List.{enumerate_from}
use Rattle.std.proofs.lemmas.List.Elements.{All-nil, All-cons, All-head, All-tail, All-drop}
use Rattle.lg_gram.specs.Linkages.{Linkage}
use Rattle.lg_gram.specs.declared.listing.PageItem.{PageItem}
use Rattle.lg_gram.specs.declared.listing.Page.{Page}
use Rattle.lg_knowread.specs.declared.knowledge.Knowledge.{Knowledge}
use Rattle.lg_answer.specs.Pages.{Listing, IsOpen, IsLinkageFor, IsPage}
use Rattle.lg_answer.proofs.Places.{all_places}

items_fit : (P : Linkage → Type 0) (n : ℕ) (items : List PageItem) (gs : List Linkage) → map (λ item. (item.number, item.linkage)) items ≡ enumerate_from n gs → All P gs → All (λ item. P item.linkage) items
items_fit P n [] gs same all = All-nil (λ (item : PageItem). P item.linkage)
items_fit P n (item ∷ items) [] same all = let no : ⊥ = cc in absurd no
items_fit P n (item ∷ items) (g ∷ gs) same all =
    let shown : ◌≡◌ {A = ℕ × Linkage} (item.number, item.linkage) (n, g) = cc in
    let first : g ≡ item.linkage = ap (λ (p : ℕ × Linkage). p.1) (sym shown) in
    let rest : map (λ item. (item.number, item.linkage)) items ≡ enumerate_from (n + 1) gs = cc in
    All-cons (λ (item : PageItem). P item.linkage) item items (subst P first (All-head P g gs all)) (items_fit P (n + 1) items gs rest (All-tail P g gs all))

pub page_fits : (listing : Listing) (know : Knowledge) (want examine : ℕ) (page : Page) → IsOpen listing
    → IsPage listing.course.problem know listing.course.nulls listing.course.position want examine page → All (λ item. IsLinkageFor listing.tokens item.linkage) page.items
page_fits listing know want examine page is of =
    let P = IsLinkageFor listing.tokens in
    let from = listing.course.position in
    let fit = all_places P of.front (λ i g at.
    let good = (of.first.sound i g at).good in
    record { same_length = sym is ∙ sym good.belongs.same_length; good = record { positions = listing.course.problem; good = good } }) in
    items_fit P (from + 1) page.items (drop from of.front) of.numbered (All-drop P from of.front fit)
