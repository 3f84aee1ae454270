use Rattle.std.proofs.Common.{◌≡◌, ◌+◌, subst, sym, ap, IfSome, IfOk, Contains, [], ◌∷◌, map, ◌∙◌, arith, rules}
use Rattle.std.specs.List.{flat_map}
use Rattle.std.specs.Map.{keys_of}
use Rattle.lg_region.specs.Keys.{IsAltOf}
use Rattle.lg_region.specs.declared.alternative.Alt.TheVariants.{Split as At}
use Rattle.lg_forest.specs.Demands.{left_key, right_key}
use Rattle.lg_forest.specs.Search.{alt_bound}
use Rattle.lg_forest.specs.Drafts.{AreDraftsOf, AreDraftsOfPart, IsSpelled, HasAlt, Draft, empty, joined}
use Rattle.lg_forest.specs.declared.draft.Use.{Use}
use Rattle.lg_forest.proofs.Asked.{ok_as}
use Rattle.lg_forest.proofs.Once.{contains_at}
use Rattle.lg_forest.proofs.Forested.{SpelledBy, forest_valid, alt_in, alt_of, keys_in, drafts_more, drafts_all}
use Rattle.lg_forest.proofs.spell.+spell.Goals as goal

pub drafts_of-drafts_of_part-requires : goal.drafts_of-drafts_of_part-requires
drafts_of-drafts_of_part-requires t c =
    let e = ap (alt_bound c.args.problem.now) c.in-Split.is in
    let keys = keys_in c.args.problem.now c.requires.forest.0 c.args.forest.now c.requires.forest.1 c.args.key c.args.alt c.requires.alt in
    (search rules, (c.requires.forest, subst (λ z. IfSome (left_key z) (Contains (keys_of c.args.forest.now.entries))) c.in-Split.is keys.0))

pub drafts_of-drafts_of_part-requires-in-Split : goal.drafts_of-drafts_of_part-requires-in-Split
drafts_of-drafts_of_part-requires-in-Split t c =
    let e = ap (alt_bound c.args.problem.now) c.in-Split.is in
    let keys = keys_in c.args.problem.now c.requires.forest.0 c.args.forest.now c.requires.forest.1 c.args.key c.args.alt c.requires.alt in
    (search rules, (c.requires.forest, subst (λ z. IfSome (right_key z) (Contains (keys_of c.args.forest.now.entries))) c.in-Split.is keys.1))

pub drafts_of-returns-in-AllNull : goal.drafts_of-returns-in-AllNull
drafts_of-returns-in-AllNull t c = λ from is.
    let positions = c.args.problem.now in
    let laws = c.linkages_are_spelled.ensures positions is.lists is.numbered in
    let alt = (alt_of positions from c.args.forest.now is c.args.key c.args.alt c.requires.alt).0 in
    let one = laws.nothing c.args.key (subst (λ z. IsAltOf positions is.lists c.args.key z) c.in-AllNull.is alt) in
    ok_as c.only_empty.result (λ all. all.items ≡ empty ∷ []) (λ all. AreDraftsOf positions (IsSpelled positions is.lists c.args.key c.args.alt) all.items)
    (λ all e. subst (λ z. AreDraftsOf positions (IsSpelled positions is.lists c.args.key c.args.alt) z) (sym e) (subst (λ z. AreDraftsOf positions (IsSpelled positions is.lists c.args.key z) (empty ∷ [])) (sym c.in-AllNull.is) one))
    c.only_empty.ensures

pub drafts_of-returns-in_ok-rights-in-Split : goal.drafts_of-returns-in_ok-rights-in-Split
drafts_of-returns-in_ok-rights-in-Split t c = λ from is.
    let positions = c.args.problem.now in
    let s = c.in-Split in
    let laws = c.linkages_are_spelled.ensures positions is.lists is.numbered in
    let decided = c.keys_are_decided.ensures positions is.lists is.numbered in
    let valid = forest_valid positions from c.args.forest.now is decided c.args.key (alt_in c.args.forest.now c.args.key c.args.alt c.requires.alt) in
    let alt = (alt_of positions from c.args.forest.now is c.args.key c.args.alt c.requires.alt).0 in
    let all_made = laws.made c.args.key s.word s.disjunct s.to_left s.to_right s.lkey s.rkey c.in_ok-joints-in-Split.joints.items c.in_ok-lefts-in-Split.lefts.items c.in_ok-rights-in-Split.rights.items valid
    (subst (λ z. IsAltOf positions is.lists c.args.key z) s.is alt) c.in_ok-joints-in-Split.ensures (c.in_ok-lefts-in-Split.ensures from is) (c.in_ok-rights-in-Split.ensures from is) in
    let u : Use = record { word = s.word; disjunct = s.disjunct } in
    ok_as c.join_all.result (λ all. all.items ≡ flat_map (λ (p : Draft). map (joined u c.deref-in-Split-2.result.now p) c.deref-in-Split.result.now) c.deref.result.now) (λ all. AreDraftsOf positions (IsSpelled positions is.lists c.args.key c.args.alt) all.items)
    (λ all e. subst (λ z. AreDraftsOf positions (IsSpelled positions is.lists c.args.key z) all.items) (sym s.is)
    (subst (λ z. AreDraftsOf positions (IsSpelled positions is.lists c.args.key (At s.word s.disjunct s.to_left s.to_right s.lkey s.rkey)) z)
    (sym (e ∙ λ i. flat_map (λ (p : Draft). map (joined u (c.deref-in-Split-2.ensures.value i) p) (c.deref-in-Split.ensures.value i)) (c.deref.ensures.value i))) all_made))
    c.join_all.ensures

pub drafts_of_part-returns-in-Some : goal.drafts_of_part-returns-in-Some
drafts_of_part-returns-in-Some t c = λ from is. subst (λ z. IfOk c.drafts_under.result (λ all. AreDraftsOfPart c.args.problem.now is.lists z all.items)) (sym c.in-Some.is) (c.drafts_under.ensures from is)

pub drafts_under-drafts_of-requires : goal.drafts_under-drafts_of-requires
drafts_under-drafts_of-requires t c =
    let positions = c.args.problem.now in
    let (from, is) = c.requires.forest in
    let decided = c.keys_are_decided.ensures positions is.lists is.numbered in
    let valid = forest_valid positions from c.args.forest.now is decided c.args.key c.requires.key in
    let has = contains_at c.in-Some.alts.now c.loop-index.index c.get.result c.get.ensures in
    let at : HasAlt c.args.forest.now c.args.key c.get.result = (c.in-Some.alts.now, c.in-Some.ensures, has) in
    let below = decided.below c.args.key c.get.result valid (alt_of positions from c.args.forest.now is c.args.key c.get.result at).0 in
    (search rules, (c.requires.forest, at))

pub drafts_under-loop-index-preserved : goal.drafts_under-loop-index-preserved
drafts_under-loop-index-preserved t c = λ from is.
    let positions = c.args.problem.now in
    let more = drafts_more positions is.lists c.args.key c.in-Some.alts.now c.loop-index.index (c.loop-index.index + 1) c.get.result c.loop-index.all.items c.in_ok-drafts.drafts.items c.get.ensures (omega arith) (c.loop-index.invariant from is) (c.in_ok-drafts.ensures from is) in
    subst (λ z. AreDraftsOf positions (SpelledBy positions is.lists c.args.key c.in-Some.alts.now (c.loop-index.index + 1)) z) (sym c.in_ok-append.ensures.items) more

pub drafts_under-returns : goal.drafts_under-returns
drafts_under-returns t c = λ from is.
    let positions = c.args.problem.now in
    drafts_all positions from c.args.forest.now is (c.keys_are_decided.ensures positions is.lists is.numbered) (c.linkages_are_spelled.ensures positions is.lists is.numbered)
    c.args.key c.in-Some.alts.now c.loop-index.index c.loop-index.all.items c.in-Some.ensures (omega arith) (c.loop-index.invariant from is)
