use Rattle.std.proofs.Common.{◌∙◌, ◌++◌, ◌∷◌, [], ◌<◌, length, map, get_or, ap, sym, subst}
use Rattle.std.specs.Prelude.{slice_get}
use Rattle.std.specs.List.{All}
use Rattle.lg_disj.specs.Lists.{lists_in}
use Rattle.lg_disj.specs.Made.{list_of_choice}
use Rattle.lg_disj.specs.Places.{no_places, leaf_at, listed}
use Rattle.lg_disj.proofs.Lines.{comes_no, comes_new, made_at, placed_on}
use Rattle.lg_disj.proofs.outlining.number_of.Goals as goal

-- the guess has a list of the same leaves
pub returns-then-is_same-clause-number : goal.returns-then-is_same-clause-number
returns-then-is_same-clause-number c =
    let leaves = c.args.leaves.now in
    let all = listed c.args.kept.now.choices in
    let lists = lists_in c.args.lists.now in
    let list = list_of_choice c.args.right leaves (get_or all c.args.choice no_places) in
    let same = ap (map (leaf_at leaves)) (sym c.side.ensures ∙ c.is_same.ensures.0 c.if-is_same.true ∙ c.side-places.ensures) in
    comes_no lists list c.side-then-is_same.result (ap (slice_get lists) c.side-then-is_same.ensures
    ∙ made_at c.args.right leaves lists all c.args.made.now c.args.choice c.replace-guess.result c.index-made-guess.result list c.if-guess-made.true c.requires.made
    c.index-made-guess.is same)

pub returns-clause-number : goal.returns-clause-number
returns-clause-number c =
    let old = lists_in c.args.lists.now in
    let leaves = c.args.leaves.now in
    comes_new old (lists_in c.push.new.self) _ c.len-number.result c.len-number.ensures
    (c.in_ok-push.ensures.exact ∙ ap (λ ns. old ++ map (leaf_at leaves) ns ∷ []) c.side-places.ensures)

-- each place is that of a leaf
pub push-requires-clause-placed : goal.push-requires-clause-placed
push-requires-clause-placed c =
    let leaves = c.args.leaves.now in
    subst (All (λ n. n < length leaves)) (sym c.side-places.ensures) (placed_on leaves c.args.right _ (c.requires.placed c.args.choice no_places c.requires.within))
