-- What the lines show, as the program holds it, is read off its fields.
use Rattle.std.proofs.Common.{◌≡◌, List, sym, ap, ◌∙◌, subst, MatchOption}
use Rattle.std.specs.Result.{IfOk}
use Rattle.lg_gram.specs.Linkages.{Linkage, IsLinkage}
use Rattle.lg_audit.specs.Lines.{ShownWord, ShownLink, ShownLinkage}
use Rattle.lg_audit.specs.Pages.{AreFound, IsOneOf, Keeps, links_in}
use Rattle.lg_audit.proofs.ShownLinkages.{none_made, one_kept}
use Rattle.lg_audit.proofs.Singles.{when_some, unless_some}
use Rattle.lg_audit.proofs.linkages.linkage.linkage_of.Goals as goal

pub returns-in_default-2 : goal.returns-in_default-2
returns-in_default-2 c =
    let dict = c.args.view.now in
    let tokens = c.args.tokens.now in
    let chosen = c.in-Some.chosen.items in
    let seen : ShownLinkage = record { sums = c.shown.inside.sums; words = c.shown.inside.words.items; links = c.shown.inside.links.items } in
    let found = subst (λ (ws : List ShownWord). AreFound dict 0 tokens ws chosen) c.as_slice.ensures.value (when_some _ _ c.in_ok-chosen.field-0 _ c.in-Some.is c.in_ok-chosen.ensures) in
    let never = unless_some _ _ c.in_ok-g.field-0 c.in_default-2.not-Some c.in_ok-g.ensures in
    subst (λ (s : ShownLinkage). (g : Linkage) → IsOneOf c.args.know.now dict tokens s g → ⊥) c.shown.view_is
    (none_made c.names_are_written.ensures c.connectors_are_ordered.ensures.exact c.args.know.now dict tokens c.requires.few c.requires.named seen chosen found
    (λ is. never (subst (λ (ls : List ShownLink). IsLinkage (record { chosen = chosen; links = links_in ls })) (sym c.as_slice-2.ensures.value) is)))

pub returns : goal.returns
returns c =
    let dict = c.args.view.now in
    let tokens = c.args.tokens.now in
    let chosen = c.in-Some.chosen.items in
    let seen : ShownLinkage = record { sums = c.shown.inside.sums; words = c.shown.inside.words.items; links = c.shown.inside.links.items } in
    let found = subst (λ (ws : List ShownWord). AreFound dict 0 tokens ws chosen) c.as_slice.ensures.value (when_some _ _ c.in_ok-chosen.field-0 _ c.in-Some.is c.in_ok-chosen.ensures) in
    let made = when_some _ _ c.in_ok-g.field-0 _ c.in-Some-2.is c.in_ok-g.ensures in
    let g : Linkage = record { chosen = c.in-Some-2.g.chosen; links = c.in-Some-2.g.links } in
    let same : g ≡ record { chosen = chosen; links = links_in seen.links } = made.0 ∙ ap (λ (ls : List ShownLink). record { chosen = chosen; links = links_in ls }) c.as_slice-2.ensures.value in
    let kept = subst (λ (ls : List ShownLink). IfOk c.kept.result (λ r. MatchOption r (Keeps c.args.know.now seen.sums ls g → ⊥) (λ k. (k ≡ g) × Keeps c.args.know.now seen.sums ls g))) c.as_slice-3.ensures.value c.kept.ensures in
    subst (λ (s : ShownLinkage). IfOk c.kept.result (λ r. MatchOption r ((g : Linkage) → IsOneOf c.args.know.now dict tokens s g → ⊥) (IsOneOf c.args.know.now dict tokens s))) c.shown.view_is
    (one_kept c.names_are_written.ensures c.connectors_are_ordered.ensures.exact c.args.know.now dict tokens c.requires.few c.requires.named seen chosen found g same c.kept.result kept)
