use Rattle.std.proofs.Common.{◌≡◌, ◌∙◌, ◌<◌, ◌≤◌, ◌+◌, ◌∷◌, ◌++◌, [], Some, None, ap, arith, drop, get_or, length, map, refl, subst, sym, take}
use Rattle.std.proofs.lemmas.Grind.{common_steps}
use Rattle.std.proofs.lemmas.List.{take_all}
use Rattle.lg_gram.specs.Measures.{choices_of, choices_of_any, picks_of}
use Rattle.lg_gram.specs.Trees.{all_of, one_of, priced, tree_of, trees_in}
use Rattle.lg_reach.specs.Climbs.{seen}
use Rattle.lg_reach.specs.Walks.{Walks}
use Rattle.lg_reach.proofs.Folding.{tree_of-Priced}
use Rattle.lg_reach.proofs.Replacing.{put_behind, same_long, still_put, still_taken, still_there, taken_before, taken_long}
use Rattle.lg_reach.proofs.Walking.{WalksOn, WalksTo, all_end, all_more, all_none, on_start, so_far, to_end, to_more, to_same, to_start, walks_dearer}
use Rattle.lg_reach.proofs.walk.+reach.Goals as goal

pub reach_all-loop-place-init : goal.reach_all-loop-place-init
reach_all-loop-place-init t c = record {
  long = refl;
  same = λ k d past. refl;
  walks = on_start c.args.sites.now c.args.stand.now c.args.start (trees_in c.args.members.items);
}

pub reach_all-loop-place-preserved : goal.reach_all-loop-place-preserved
reach_all-loop-place-preserved t c =
    let at = c.loop-place in
    let now = at.members.items in
    let es = c.args.members.items in
    let new = c.reach.new.sites in
    let stand = c.args.stand.now in
    let all = trees_in es in
    let e = c.replace-member.result in
    let gone = c.replace-member.new.dest in
    let left = c.in-Some.left in
    let test = c.loop-place-test.true in
    let long = at.invariant.long in
    let within : at.place < length es = grind (arith, common_steps) in
    let inside : at.place < length now = omega (arith, within, long) in
    let read : e ≡ get_or es at.place e = still_there now es at.place e c.index_mut.result.now at.invariant.same c.replace-member.ensures.value c.index_mut.ensures.value in
    record {
      long = same_long now at.place at.place gone left.what (omega arith) inside ∙ long;
      same = still_put now es at.place at.place gone left.what (omega arith) at.invariant.same;
      walks = subst (λ ks. WalksOn c.args.sites.now new stand c.args.start all (map tree_of ks) left.least (trees_in (drop (at.place + 1) es)))
          (sym (put_behind now at.place at.place gone left.what (omega arith) inside))
          (all_more c.args.sites.now at.sites new stand c.args.start at.least all es at.place e within read (take at.place now) at.invariant.walks left.what left.least
          (subst (λ o. Walks at.sites new stand at.least (choices_of (tree_of e)) (seen o)) c.in-Some.is c.in_ok-left.ensures));
    }

pub reach_all-returns-in_default : goal.reach_all-returns-in_default
reach_all-returns-in_default t c =
    let at = c.loop-place in
    let now = at.members.items in
    let es = c.args.members.items in
    let new = c.reach.new.sites in
    let stand = c.args.stand.now in
    let e = c.replace-member.result in
    let test = c.loop-place-test.true in
    let long = at.invariant.long in
    let within : at.place < length es = grind (arith, common_steps) in
    let read : e ≡ get_or es at.place e = still_there now es at.place e c.index_mut.result.now at.invariant.same c.replace-member.ensures.value c.index_mut.ensures.value in
    all_none c.args.sites.now at.sites new stand c.args.start at.least (trees_in es) es at.place e within read (take at.place now) at.invariant.walks
    (subst (λ o. Walks at.sites new stand at.least (choices_of (tree_of e)) (seen o)) c.in_default.is c.in_ok-left.ensures)

pub reach_all-returns : goal.reach_all-returns
reach_all-returns t c =
    let at = c.loop-place in
    let now = at.members.items in
    let es = c.args.members.items in
    let stand = c.args.stand.now in
    let test = c.loop-place-test.false in
    let long = at.invariant.long in
    let past : length es ≤ at.place = grind (arith, common_steps) in
    let end : length now ≤ at.place = omega (arith, past, long) in
    subst (λ t. Walks c.args.sites.now at.sites stand c.args.start (picks_of (trees_in es)) (Some (choices_of t, at.least)))
    (ap (λ ks. all_of (trees_in ks)) (take_all at.place now end ∙ sym c.of.ensures) ∙ sym c.all_of.ensures)
    (all_end c.args.sites.now at.sites stand c.args.start at.least (trees_in es) es (take at.place now) at.place past at.invariant.walks)

pub reach_any-loop-place-init : goal.reach_any-loop-place-init
reach_any-loop-place-init t c = record {
  few = omega arith;
  long = refl;
  same = λ k d past. refl;
  walks = to_start c.args.sites.now c.args.stand.now c.args.start;
}

pub reach_any-loop-place-preserved : goal.reach_any-loop-place-preserved
reach_any-loop-place-preserved t c =
    let at = c.loop-place in
    let now = at.members.items in
    let es = c.args.members.items in
    let old = c.args.sites.now in
    let new = c.reach.new.sites in
    let stand = c.args.stand.now in
    let start = c.args.start in
    let e = c.replace-member.result in
    let gone = c.replace-member.new.dest in
    let left = c.in-Some.left in
    let test = c.loop-place-test.true in
    let long = at.invariant.long in
    let few = at.invariant.few in
    let within : at.place < length es = grind (arith, common_steps) in
    let inside : at.place < length now = omega (arith, within, long) in
    let read : e ≡ get_or es at.place e = still_there now es at.place e c.index_mut.result.now at.invariant.same c.replace-member.ensures.value c.index_mut.ensures.value in
    record {
      few = omega (arith, few);
      long = same_long now at.place at.kept gone left.what few inside ∙ long;
      same = still_put now es at.place at.kept gone left.what few at.invariant.same;
      walks = subst (λ ks. WalksTo old new stand start (take (at.place + 1) es) ks (Some c.nearer.result)) (sym (put_behind now at.place at.kept gone left.what few inside))
          (subst (λ m. WalksTo old new stand start (take (at.place + 1) es) (take at.kept now ++ left.what ∷ []) (Some m)) (sym c.nearer.ensures)
          (to_more old at.sites new stand start es at.place e within read (take at.kept now) at.least at.invariant.walks left.what left.least
          (subst (λ o. Walks at.sites new stand start (choices_of (tree_of e)) (seen o)) c.in-Some.is c.in_ok-left.ensures)));
    }

pub reach_any-loop-place-preserved-in_default : goal.reach_any-loop-place-preserved-in_default
reach_any-loop-place-preserved-in_default t c =
    let at = c.loop-place in
    let now = at.members.items in
    let es = c.args.members.items in
    let old = c.args.sites.now in
    let new = c.reach.new.sites in
    let stand = c.args.stand.now in
    let start = c.args.start in
    let e = c.replace-member.result in
    let gone = c.replace-member.new.dest in
    let test = c.loop-place-test.true in
    let long = at.invariant.long in
    let few = at.invariant.few in
    let within : at.place < length es = grind (arith, common_steps) in
    let read : e ≡ get_or es at.place e = still_there now es at.place e c.index_mut.result.now at.invariant.same c.replace-member.ensures.value c.index_mut.ensures.value in
    record {
      few = omega (arith, few);
      long = taken_long now at.place gone ∙ long;
      same = still_taken now es at.place gone at.invariant.same;
      walks = subst (λ ks. WalksTo old new stand start (take (at.place + 1) es) ks at.least) (sym (taken_before now at.place at.kept gone few))
          (to_same old at.sites new stand start es at.place e within read (take at.kept now) at.least at.invariant.walks
          (subst (λ o. Walks at.sites new stand start (choices_of (tree_of e)) (seen o)) c.in_default.is c.in_ok-left.ensures));
    }

pub reach_any-returns-in-None : goal.reach_any-returns-in-None
reach_any-returns-in-None t c =
    let at = c.loop-place in
    let es = c.args.members.items in
    let kept = take at.kept at.members.items in
    let test = c.loop-place-test.false in
    let long = at.invariant.long in
    let past : length es ≤ at.place = grind (arith, common_steps) in
    subst (λ o. Walks c.args.sites.now at.sites c.args.stand.now c.args.start (choices_of_any (trees_in es)) (so_far kept o)) c.in-None.is
    (to_end c.args.sites.now at.sites c.args.stand.now c.args.start es kept at.least at.place past at.invariant.walks)

pub reach_any-returns-in-Some-least : goal.reach_any-returns-in-Some-least
reach_any-returns-in-Some-least t c =
    let at = c.loop-place in
    let es = c.args.members.items in
    let kept = take at.kept at.members.items in
    let least = c.in-Some-least.least in
    let test = c.loop-place-test.false in
    let long = at.invariant.long in
    let past : length es ≤ at.place = grind (arith, common_steps) in
    subst (λ t. Walks c.args.sites.now at.sites c.args.stand.now c.args.start (choices_of_any (trees_in es)) (Some (choices_of t, least)))
    (ap (λ ks. one_of (trees_in ks)) (sym c.truncate.ensures.items ∙ sym c.of.ensures) ∙ sym c.one_of.ensures)
    (subst (λ o. Walks c.args.sites.now at.sites c.args.stand.now c.args.start (choices_of_any (trees_in es)) (so_far kept o)) c.in-Some-least.is
    (to_end c.args.sites.now at.sites c.args.stand.now c.args.start es kept at.least at.place past at.invariant.walks))

pub reach_priced-returns-in_default : goal.reach_priced-returns-in_default
reach_priced-returns-in_default t c =
    let s = c.args.sites.now in
    let new = c.reach.new.sites in
    let stand = c.args.stand.now in
    let start = c.args.start in
    let inner = c.args.inner.value in
    let is : c.replace-e.result ≡ inner = c.replace-e.ensures.value ∙ c.deref_mut.ensures.value in
    walks_dearer s new stand start (choices_of (tree_of inner)) None c.args.cost
    (subst (λ e. Walks s new stand start (choices_of (tree_of e)) None) is
    (subst (λ o. Walks s new stand start (choices_of (tree_of c.replace-e.result)) (seen o)) c.in_default.is c.in_ok-left.ensures))

pub reach_priced-returns : goal.reach_priced-returns
reach_priced-returns t c =
    let s = c.args.sites.now in
    let new = c.reach.new.sites in
    let stand = c.args.stand.now in
    let start = c.args.start in
    let inner = c.args.inner.value in
    let left = c.in-Some.left in
    let is : c.replace-e.result ≡ inner = c.replace-e.ensures.value ∙ c.deref_mut.ensures.value in
    subst (λ t. Walks s new stand start (choices_of (priced (tree_of inner) c.args.cost)) (Some (choices_of t, left.least))) (sym (tree_of-Priced _ left.what c.args.cost))
    (walks_dearer s new stand start (choices_of (tree_of inner)) (Some (choices_of (tree_of left.what), left.least)) c.args.cost
    (subst (λ e. Walks s new stand start (choices_of (tree_of e)) (Some (choices_of (tree_of left.what), left.least))) is
    (subst (λ o. Walks s new stand start (choices_of (tree_of c.replace-e.result)) (seen o)) c.in-Some.is c.in_ok-left.ensures)))
