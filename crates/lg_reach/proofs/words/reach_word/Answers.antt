use Rattle.std.proofs.Common.{◌≡◌, ◌-◌, Some, None, ap, refl, subst}
use Rattle.lg_eprune.specs.Live.{WordTree}
use Rattle.lg_gram.specs.Measures.{choices_of}
use Rattle.lg_gram.specs.Trees.{tree_of}
use Rattle.lg_sharpen.specs.Filling.{Notes}
use Rattle.lg_reach.specs.Climbs.{at_first, seen}
use Rattle.lg_reach.specs.Walks.{Walks}
use Rattle.lg_reach.proofs.Wording.{narrowed_away, narrowed_by}
use Rattle.lg_reach.proofs.words.reach_word.Goals as goal

pub returns-in_default : goal.returns-in_default
returns-in_default c =
    let s = c.args.sites.now in
    let new = c.reach.new.sites in
    let stand = c.args.stand.now in
    let own = tree_of c.word.inside.expr in
    let same : own ≡ c.args.word.tree = ap (λ (w : WordTree). w.tree) c.word.view_is in
    narrowed_away s new stand c.args.word c.args.ways.now
    (subst (λ t. Walks s new stand at_first (choices_of t) None) same
    (subst (λ o. Walks s new stand at_first (choices_of own) (seen o)) c.in_default.is
    (subst (λ from. Walks s new stand from (choices_of own) (seen c.in_ok-left.field-0)) c.first.ensures c.in_ok-left.ensures)))

pub returns : goal.returns
returns c =
    let s = c.args.sites.now in
    let new = c.reach.new.sites in
    let stand = c.args.stand.now in
    let own = tree_of c.word.inside.expr in
    let what = tree_of c.in-Some.left.what in
    let after = c.in-Some.left.least in
    let same : own ≡ c.args.word.tree = ap (λ (w : WordTree). w.tree) c.word.view_is in
    let notes : Notes stand.position (after.left.least - 1) (after.right.least - 1) c.args.ways.now c.note.new.self =
    subst (λ n. Notes stand.position n (after.right.least - 1) c.args.ways.now c.note.new.self) c.length.ensures
    (subst (λ n. Notes stand.position c.length.result n c.args.ways.now c.note.new.self) c.length-2.ensures c.note.ensures) in
    narrowed_by s new stand c.args.word c.args.ways.now c.note.new.self what after (record { word = c.word.inside.word.now; tree = what })
    (subst (λ t. Walks s new stand at_first (choices_of t) (Some (choices_of what, after))) same
    (subst (λ o. Walks s new stand at_first (choices_of own) (seen o)) c.in-Some.is
    (subst (λ from. Walks s new stand from (choices_of own) (seen c.in_ok-left.field-0)) c.first.ensures c.in_ok-left.ensures)))
    notes
    (ap (λ (w : WordTree). w.word) c.word.view_is)
    refl
