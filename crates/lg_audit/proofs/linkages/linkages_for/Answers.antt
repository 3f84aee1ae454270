-- What the page shows, as the program holds it, is read off its fields.
use Rattle.std.proofs.Common.{List, ◌++◌, map, sym, ◌∙◌, subst, true≢false}
use Rattle.std.specs.List.{flat_map}
use Rattle.std.specs.List.Sorted.{IsStrictlySortedBy}
use Rattle.lg_gram.specs.Linkages.{Linkage, linkage_cmp}
use Rattle.lg_audit.specs.Lines.{ShownPage}
use Rattle.lg_audit.specs.Pages.{AreOnesOf, IsPageFor}
use Rattle.lg_audit.specs.Replies.{linkages_of}
use Rattle.lg_audit.specs.Views.{item_of}
use Rattle.lg_audit.specs.declared.shown.ShownItem.{ShownItem as Item}
use Rattle.lg_audit.proofs.FoundPages.{none_found, same_shown, not_counted, not_rising}
use Rattle.lg_audit.proofs.Singles.{when_some, unless_some}
use Rattle.lg_audit.proofs.linkages.linkages_for.Goals as goal

pub returns-in_default-clause-exact : goal.returns-in_default-clause-exact
returns-in_default-clause-exact c = λ before sorted is.
    let know = c.args.know.now in
    let dict = c.args.view.now in
    let tokens = c.args.tokens.now in
    let seen : ShownPage = record { items = map item_of c.page.inside.items.items; last = c.page.inside.last } in
    let never = subst (λ (xs : List Item). (gs : List Linkage) → AreOnesOf know dict tokens (flat_map linkages_of (map item_of xs)) gs → ⊥) c.as_slice-items.ensures.value
    (unless_some _ _ c.in_ok-shown.field-0 c.in_default.not-Some c.in_ok-shown.ensures) in
    subst (λ (p : ShownPage). (gs : List Linkage) → IsPageFor know dict tokens c.args.from before gs p → ⊥) c.page.view_is
    (none_found c.names_are_written.ensures c.connectors_are_ordered.ensures.exact know dict tokens c.requires.named c.args.from seen never before)

pub returns-then-page-len-clause-exact : goal.returns-then-page-len-clause-exact
returns-then-page-len-clause-exact c = λ before sorted is.
    let know = c.args.know.now in
    let dict = c.args.view.now in
    let tokens = c.args.tokens.now in
    let seen : ShownPage = record { items = map item_of c.page.inside.items.items; last = c.page.inside.last } in
    let shown = c.in-Some.shown.items in
    let ones = subst (λ (xs : List Item). AreOnesOf know dict tokens (flat_map linkages_of (map item_of xs)) shown) c.as_slice-items.ensures.value
    (when_some _ _ c.in_ok-shown.field-0 _ c.in-Some.is c.in_ok-shown.ensures) in
    subst (λ (p : ShownPage). (gs : List Linkage) → IsPageFor know dict tokens c.args.from before gs p → ⊥) c.page.view_is
    (not_counted c.names_are_written.ensures c.connectors_are_ordered.ensures.exact know dict tokens c.requires.named c.args.from seen shown ones (λ e. c.if-page-len.true (e ∙ sym (c.len.ensures ∙ c.in-Some.shown.ok.0))) before)

pub returns-then-not-go_on-clause-exact : goal.returns-then-not-go_on-clause-exact
returns-then-not-go_on-clause-exact c = λ before sorted is.
    let know = c.args.know.now in
    let dict = c.args.view.now in
    let tokens = c.args.tokens.now in
    let seen : ShownPage = record { items = map item_of c.page.inside.items.items; last = c.page.inside.last } in
    let shown = c.in-Some.shown.items in
    let ones = subst (λ (xs : List Item). AreOnesOf know dict tokens (flat_map linkages_of (map item_of xs)) shown) c.as_slice-items.ensures.value
    (when_some _ _ c.in_ok-shown.field-0 _ c.in-Some.is c.in_ok-shown.ensures) in
    let never : IsStrictlySortedBy linkage_cmp (before ++ shown) → ⊥ = λ up. true≢false (sym ((c.go_on.ensures before sorted is).1 (subst (λ (gs : List Linkage). IsStrictlySortedBy linkage_cmp (before ++ gs)) (sym c.as_slice.ensures.value) up)) ∙ c.if-not-go_on.true) in
    subst (λ (p : ShownPage). (gs : List Linkage) → IsPageFor know dict tokens c.args.from before gs p → ⊥) c.page.view_is
    (not_rising c.names_are_written.ensures c.connectors_are_ordered.ensures.exact know dict tokens c.requires.named c.args.from seen shown ones before never)

pub returns-clause-only : goal.returns-clause-only
returns-clause-only c = λ before gs is.
    let know = c.args.know.now in
    let dict = c.args.view.now in
    let tokens = c.args.tokens.now in
    let seen : ShownPage = record { items = map item_of c.page.inside.items.items; last = c.page.inside.last } in
    let shown = c.in-Some.shown.items in
    let ones = subst (λ (xs : List Item). AreOnesOf know dict tokens (flat_map linkages_of (map item_of xs)) shown) c.as_slice-items.ensures.value
    (when_some _ _ c.in_ok-shown.field-0 _ c.in-Some.is c.in_ok-shown.ensures) in
    same_shown c.names_are_written.ensures c.connectors_are_ordered.ensures.exact know dict tokens c.requires.named c.args.from seen shown ones before gs (subst (λ (p : ShownPage). IsPageFor know dict tokens c.args.from before gs p) (sym c.page.view_is) is)
