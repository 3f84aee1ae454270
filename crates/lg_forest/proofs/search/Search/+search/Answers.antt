use Rattle.std.proofs.Common.{inl, inr, refl, [], List, ◌≡◌, ◌↔◌, ◌+◌, ◌-◌, ◌<◌, ◌≤◌, ◌∙◌, true≢false, Option, subst, sym, ap, Some, IsTrue, IfOk, MatchOption, OnOk, IfSome, length, take, slice_get, Contains, map, append-nil, eqb-true, arith, rules}
use Rattle.std.proofs.lemmas.List.{nil_from_length}
use Rattle.lg_region.specs.Groups.{key_behind}
use Rattle.lg_region.specs.Keys.{IsValidKey, kept}
use Rattle.lg_region.specs.declared.group.Right.{Right}
use Rattle.lg_region.specs.Small.{full}
use Rattle.lg_forest.specs.Demands.{HasLinkageUnder, left_key}
use Rattle.lg_forest.specs.Forests.{IsLive, AreLive}
use Rattle.lg_forest.specs.Search.{Asked, AsksOf, IsLast, key_width}
use Rattle.lg_region.specs.declared.key.Key.{Key}
use Rattle.lg_region.specs.declared.opening.Origin.{Origin}
use Rattle.lg_forest.specs.declared.openings.Opening.{Opening}
use Rattle.lg_region.specs.declared.alternative.Alt.{Alt}
use Rattle.lg_region.specs.declared.alternative.Alt.TheVariants.{Split as At}
use Rattle.lg_forest.proofs.Going.{goes_added, goes_as, goes_from, goes_none, goes_then, gap_valid, ok_goes, ok_then, ok_ticked, ready_after, ready_from, ready_less, ready_ticked}
use Rattle.lg_forest.specs.Goes.{Goes, gap_width, key_of}
use Rattle.lg_forest.proofs.Asked.{live_decides, live_found, not_there, asked_as, asked_more, asked_all, asked_same, asked_left, asked_both, ok_as, on_ok_as, last_kept, alt_at, exact}
use Rattle.lg_forest.proofs.Flags.{Flags, kept_live, flags_long, flags_more, all_flags}
use Rattle.lg_forest.specs.Halves.{AddsLive, AsksAmong}
use Rattle.lg_forest.specs.Shut.{IsShut}
use Rattle.lg_forest.proofs.Shutting.{shut_asked, shut_live}
use Rattle.lg_forest.proofs.Among as part
use Rattle.lg_forest.proofs.Among.{Among, In}
use Rattle.lg_region.specs.Alike.{end_of}
use Rattle.lg_region.specs.Openings.{LeavesLeft, left_of}
use Rattle.lg_region.specs.declared.opening.Beginning.{Beginning}
use Rattle.lg_forest.specs.Opened.{AsksLeft, IsAny, IsOpening, IsStart, StandsAt, StartsSo}
use Rattle.lg_region.specs.Ways.{AddsExactly, AreExactly}
use Rattle.std.specs.Map.{keys_of}
use Rattle.lg_forest.specs.Ends.{AreEnds, AsksRight, EndsWith, IsLiveRight}
use Rattle.lg_forest.specs.declared.halves.Half.{Half}
use Rattle.lg_region.proofs.Once.{exactly_same}
use Rattle.lg_forest.proofs.Once.{contains_at, contains_map}
use Rattle.lg_forest.proofs.search.Search.+search.Goals as goal
use Rattle.lg_forest.proofs.search.Search.+search.Goals.{explore_rights-then-branch+in_ok-push, explore_rights-else-branch, open_group-then-branch+in_ok-push, open_group-else-branch, open-in-Some, open-in-None}
use Rattle.lg_forest.proofs.KeyRows.{valid_small}
use Rattle.lg_forest.proofs.Opening.{none_starts, opening_kept, opening_new, opening_some, start_there, word_opened, words_all, words_first, words_next}
use Rattle.lg_forest.proofs.Ending.{all_asked, all_live, ended_asked, ended_live, ends_asked, ends_here, ends_known, first_asked, next_asked, right_valid}
use Rattle.lg_forest.proofs.Levels.{LeavesFewer, fewer_apart, fewer_next, fewer_none, levels_asked, levels_live}
use Rattle.lg_forest.proofs.Starting.{IsOfGroup, OfFirst, SoFar, opening_asked, opening_live, start_asked, group_asked, group_started, group_there, groups_apart, groups_started, left_asked, lefts_as, lefts_then, start_dropped, start_kept, at_word, word_started}

same_key : (k m : Key) → ◌≡◌ {A = Option Key} (Some k) (Some m) → k ≡ m
same_key k m e = cc

pub explore_all-is_live-requires : goal.explore_all-is_live-requires
explore_all-is_live-requires g t c κs within =
    let is = alt_at c.args.lists.now c.args.key c.in_ok-alts.alts c.loop-index.index c.get.result c.in_ok-alts.ensures.alts.exactly c.get.ensures in
    let below = c.requires.ready.decided.below c.args.key c.get.result c.requires.key is in
    (search rules, (search rules, (ready_after c.requires.ready c.loop-index.invariant.goes (omega arith), (c.requires.ready.decided.valid c.args.key c.get.result c.requires.key is, c.loop-index.invariant.last))))

pub explore_all-loop-index-preserved : goal.explore_all-loop-index-preserved
explore_all-loop-index-preserved g t c =
    let at = subst (λ z. slice_get z c.loop-index.index ≡ Some c.get.result) (sym c.alts.view_is) c.get.ensures in
    let n = c.args.lists.now in
    record {
      goes = goes_then c.loop-index.invariant.goes c.in_ok-live.ensures.goes
          (asked_more n (map full c.alts.inside.items.items) c.loop-index.index (c.loop-index.index + 1) c.get.result c.args.self.now.table c.loop-index.self.table c.is_live.new.self.table at (omega arith) c.loop-index.invariant.goes.asked c.in_ok-live.ensures.goes.asked);
      flags = subst (λ z. Flags (IsLive n.positions n.lists) (take (c.loop-index.index + 1) (map full c.alts.inside.items.items)) z) (sym c.in_ok-push.ensures.items)
          (flags_more (IsLive n.positions n.lists) (map full c.alts.inside.items.items) c.loop-index.index (c.loop-index.index + 1) c.get.result c.loop-index.flags.items c.in_ok-live.live at (omega arith) c.loop-index.invariant.flags c.in_ok-live.ensures.live);
      last = c.in_ok-live.ensures.last;
    }

pub explore_all-keep-requires : goal.explore_all-keep-requires
explore_all-keep-requires g t c =
    let all = all_flags c.args.lists.now c.in_ok-alts.alts (map full c.alts.inside.items.items) c.loop-index.index c.loop-index.flags.items c.alts.view_is (omega arith) c.loop-index.invariant.flags in
    ap length c.as_slice.ensures.value ∙ flags_long c.args.lists.now c.in_ok-alts.alts c.loop-index.flags.items all

pub explore_all-returns-clause-live : goal.explore_all-returns-clause-live
explore_all-returns-clause-live g t c =
    let n = c.args.lists.now in
    let all = all_flags n c.in_ok-alts.alts (map full c.alts.inside.items.items) c.loop-index.index c.loop-index.flags.items c.alts.view_is (omega arith) c.loop-index.invariant.flags in
    let live = kept_live n c.args.key c.in_ok-alts.alts c.loop-index.flags.items c.in_ok-alts.ensures.alts.exactly c.in_ok-alts.ensures.alts.once all in
    subst (λ z. AreLive n.positions n.lists c.args.key z) (sym (c.keep.ensures ∙ ap (kept c.in_ok-alts.alts) c.as_slice.ensures.value)) live

pub explore_all-returns-clause-goes : goal.explore_all-returns-clause-goes
explore_all-returns-clause-goes g t c =
    let e = ap length c.alts.view_is in
    goes_as c.loop-index.invariant.goes
    (asked_all c.args.lists.now c.args.key (map full c.alts.inside.items.items) c.loop-index.index c.args.self.now.table c.loop-index.self.table
    (exact c.args.lists.now c.args.key c.in_ok-alts.alts (map full c.alts.inside.items.items) c.alts.view_is c.in_ok-alts.ensures.alts.exactly) (omega arith) c.loop-index.invariant.goes.asked)

pub is_live-returns-then-branch-clause-live : goal.is_live-returns-then-branch-clause-live
is_live-returns-then-branch-clause-live g t c =
    let n = c.args.lists.now in
    subst (λ z. IfOk c.visit_part.result (λ live. IsTrue live ↔ IsLive n.positions n.lists z)) (sym c.in-Split.is)
    (ok_as c.visit_part.result (λ found. IsTrue found ↔ IfSome c.in-Split.rkey (HasLinkageUnder n.positions n.lists)) (λ live. IsTrue live ↔ IsLive n.positions n.lists (At c.in-Split.word c.in-Split.disjunct c.in-Split.to_left c.in-Split.to_right c.in-Split.lkey c.in-Split.rkey))
    (λ found h. ((λ yes. record { left = c.in_ok-visit_left-in-Split.ensures.found.0 c.if-branch.true; right = h.0 yes }), (λ live. h.1 live.right)))
    c.visit_part.ensures.found)

pub is_live-returns-then-branch-clause-goes : goal.is_live-returns-then-branch-clause-goes
is_live-returns-then-branch-clause-goes g t c =
    let n = c.args.lists.now in
    let left = c.in_ok-visit_left-in-Split.ensures in
    subst (λ z. OnOk c.visit_part.result (Goes n (AsksOf n z) 0 c.args.self.now c.args.steps.now c.visit_part.new.self c.visit_part.new.steps)) (sym c.in-Split.is)
    (ok_then c.visit_part.result c.visit_part.new.self c.visit_part.new.steps left.goes c.visit_part.ensures.goes (asked_both n (At c.in-Split.word c.in-Split.disjunct c.in-Split.to_left c.in-Split.to_right c.in-Split.lkey c.in-Split.rkey) c.args.self.now.table c.visit_left.new.self.table c.visit_part.new.self.table (left.found.0 c.if-branch.true) left.goes.asked))

pub is_live-returns-then-branch-clause-last : goal.is_live-returns-then-branch-clause-last
is_live-returns-then-branch-clause-last g t c =
    let n = c.args.lists.now in
    on_ok_as c.visit_part.result (Goes n (λ k. c.in-Split.rkey ≡ Some k) 0 c.visit_left.new.self c.visit_left.new.steps c.visit_part.new.self c.visit_part.new.steps) (IsLast n c.visit_part.new.self.table c.visit_left.new.last)
    (λ x. last_kept n c.visit_left.new.self.table c.visit_part.new.self.table c.visit_left.new.last x.asked.kept c.in_ok-visit_left-in-Split.ensures.last)
    c.visit_part.ensures.goes

pub is_live-returns-else-branch-clause-live : goal.is_live-returns-else-branch-clause-live
is_live-returns-else-branch-clause-live g t c =
    let n = c.args.lists.now in (
      (λ yes. absurd (true≢false (sym yes))),
      (λ live. absurd (true≢false (sym (c.in_ok-visit_left-in-Split.ensures.found.1 (subst (λ z. IfSome (left_key z) (HasLinkageUnder n.positions n.lists)) c.in-Split.is live.left)) ∙ c.if-branch.false))),
    )

pub is_live-returns-else-branch-clause-goes : goal.is_live-returns-else-branch-clause-goes
is_live-returns-else-branch-clause-goes g t c =
    let n = c.args.lists.now in
    let left = c.in_ok-visit_left-in-Split.ensures in
    subst (λ z. Goes n (AsksOf n z) 0 c.args.self.now c.args.steps.now c.visit_left.new.self c.visit_left.new.steps) (sym c.in-Split.is)
    (goes_as left.goes (asked_left n (At c.in-Split.word c.in-Split.disjunct c.in-Split.to_left c.in-Split.to_right c.in-Split.lkey c.in-Split.rkey) c.args.self.now.table c.visit_left.new.self.table (λ live. true≢false (sym (left.found.1 live) ∙ c.if-branch.false)) left.goes.asked))

pub visit-returns-in-Some-clause-found : goal.visit-returns-in-Some-clause-found
visit-returns-in-Some-clause-found g t c =
    live_found c.args.lists.now c.args.key c.args.self.now.table c.in-Some.live c.requires.ready.decided c.requires.ready.table c.requires.key c.in-Some.ensures.live

-- the key is in the table
pub visit-returns-in-Some-clause-goes : goal.visit-returns-in-Some-clause-goes
visit-returns-in-Some-clause-goes g t c =
    let n = c.args.lists.now in
    let table = c.args.self.now.table in
    let same = c.in-Some.ensures.same in
    let (alts, has, some) = c.in-Some.ensures.live in
    let asked = asked_same n (λ k. k ≡ c.args.key) table c.requires.ready.table (λ k e. subst (λ z. Contains (keys_of table) z) (sym e) (contains_map (λ (x : Key × List Alt). x.0) table (c.args.key, alts) has)) in
    goes_from same refl (goes_none (ready_from same refl c.requires.ready) (subst (λ z. Asked n (λ k. k ≡ c.args.key) z z) (sym same) asked))

pub visit-add-requires-clause-fresh : goal.visit-add-requires-clause-fresh
visit-add-requires-clause-fresh g t c = not_there c.args.lists.now c.args.key c.is_live.new.self c.explore.new.self.table c.requires.ready.decided c.requires.key (subst (λ z. Contains (keys_of z) c.args.key → ⊥) (sym c.in_default.ensures.same) c.in_default.ensures.live) c.in_ok-live.ensures.goes.asked

pub visit-add-requires-clause-small : goal.visit-add-requires-clause-small
visit-add-requires-clause-small g t c = valid_small c.args.lists.now.positions c.args.lists.now.lists c.args.key c.keep_limits.ensures.few c.requires.key

pub visit-returns-clause-found : goal.visit-returns-clause-found
visit-returns-clause-found g t c =
    live_decides c.args.lists.now c.args.key c.in_ok-live.live c.is_empty-found.result c.requires.ready.decided c.requires.key c.in_ok-live.ensures.live c.is_empty-found.ensures

pub visit-returns-clause-goes : goal.visit-returns-clause-goes
visit-returns-clause-goes g t c = goes_from c.in_default.ensures.same refl (goes_added c.requires.key c.in_ok-live.ensures.live c.in_ok-live.ensures.goes c.in_ok-add.ensures.entered refl)

pub visit_part-returns-in-Some-clause-found : goal.visit_part-returns-in-Some-clause-found
visit_part-returns-in-Some-clause-found g t c =
    let n = c.args.lists.now in subst (λ z. IfOk c.visit.result (λ found. IsTrue found ↔ IfSome z (HasLinkageUnder n.positions n.lists))) (sym c.in-Some.is) c.visit.ensures.found

pub visit_part-returns-in-Some-clause-goes : goal.visit_part-returns-in-Some-clause-goes
visit_part-returns-in-Some-clause-goes g t c =
    let n = c.args.lists.now in
    ok_goes c.visit.result 0 c.args.steps.now c.visit.new.steps c.args.self.now c.visit.new.self c.visit.ensures.goes
    (asked_as n (λ k. k ≡ c.in-Some.key) (λ k. c.args.key ≡ Some k) c.args.self.now.table c.visit.new.self.table (λ k e. c.in-Some.is ∙ ap Some (sym e)) (λ k e. same_key k c.in-Some.key (sym e ∙ c.in-Some.is)))

pub explore-tick-requires : goal.explore-tick-requires
explore-tick-requires g t c =
    let room = c.requires.ready.room in
    let few = c.is_short.ensures.few in
    omega arith

pub explore-explore_gap-requires : goal.explore-explore_gap-requires
explore-explore_gap-requires g t c κs within =
    let width = ap (key_width c.args.lists.now.positions) c.in-Some.ensures.gap.key_is in
    (omega arith, (search rules, (ready_ticked c.tick.ensures c.in-Some.ensures.gap c.requires.ready, gap_valid c.requires.key c.in-Some.ensures.gap)))

pub explore-returns-in-Some-clause-live : goal.explore-returns-in-Some-clause-live
explore-returns-in-Some-clause-live g t c =
    let n = c.args.lists.now in
    subst (λ z. IfOk c.explore_gap.result (AreLive n.positions n.lists z)) (sym c.in-Some.ensures.gap.key_is) c.explore_gap.ensures.live

pub explore-returns-in-Some-clause-goes : goal.explore-returns-in-Some-clause-goes
explore-returns-in-Some-clause-goes g t c = ok_ticked c.explore_gap.result c.args.steps.now c.explore_gap.new.steps c.args.self.now c.explore_gap.new.self c.tick.ensures c.in-Some.ensures.gap c.explore_gap.ensures.goes

pub explore_gap-loop-nulls-init : goal.explore_gap-loop-nulls-init
explore_gap-loop-nulls-init g t c = record {
  goes = goes_none c.requires.ready (part.asked_start c.args.lists.now _ c.args.self.now.table c.requires.ready.table (λ k (a, alt, m, o). fewer_none a m));
  live = subst (λ z. AddsLive c.args.lists.now (key_of c.args.gap.now) (LeavesFewer 0) [] z) (sym c.new-live.ensures.items) (part.adds_none [] _ (λ a (alt, m, l). fewer_none a m));
}

pub explore_gap-explore_opening-requires : goal.explore_gap-explore_opening-requires
explore_gap-explore_opening-requires g t c κs within =
    let test = c.loop-nulls-test.true in
    let few : c.loop-nulls.nulls ≤ c.args.gap.now.nulls = omega arith in
    (search rules, (search rules, (ready_after c.requires.ready c.loop-nulls.invariant.goes (omega arith), (c.requires.gap, few))))

pub explore_gap-loop-nulls-preserved : goal.explore_gap-loop-nulls-preserved
explore_gap-loop-nulls-preserved g t c =
    let n = c.args.lists.now in
    let i = c.loop-nulls.nulls in
    let step = fewer_next i (i + 1) refl in
    record {
      goes = goes_then c.loop-nulls.invariant.goes c.in_ok-explore_opening.ensures.goes
          (part.asked_parts n (key_of c.args.gap.now) (LeavesFewer i) (LeavesLeft i) (LeavesFewer (i + 1)) step c.args.self.now.table c.loop-nulls.self.table c.explore_opening.new.self.table c.loop-nulls.invariant.goes.asked c.in_ok-explore_opening.ensures.goes.asked);
      live = part.live_parts n (key_of c.args.gap.now) (LeavesFewer i) (LeavesLeft i) (LeavesFewer (i + 1)) step [] c.loop-nulls.live.items c.explore_opening.new.live.items (fewer_apart i) c.loop-nulls.invariant.live c.in_ok-explore_opening.ensures.live;
    }

pub explore_gap-returns-clause-live : goal.explore_gap-returns-clause-live
explore_gap-returns-clause-live g t c =
    let n = c.args.lists.now in
    let test = c.loop-nulls-test.false in
    let live = levels_live n (key_of c.args.gap.now) c.args.gap.now c.requires.gap.is_gap c.are_numbered.ensures c.regions_begin_alike.ensures c.loop-nulls.nulls (omega arith) c.loop-nulls.live.items c.loop-nulls.invariant.live in
    ok_as c.of.result (λ list. list ≡ c.deref.result.now) (AreLive n.positions n.lists (key_of c.args.gap.now)) (λ list e. subst (λ z. AreLive n.positions n.lists (key_of c.args.gap.now) z) (sym (e ∙ c.deref.ensures.value)) live) c.of.ensures

pub explore_gap-returns-clause-goes : goal.explore_gap-returns-clause-goes
explore_gap-returns-clause-goes g t c =
    let test = c.loop-nulls-test.false in
    part.ok_any c.of.result _
    (goes_as c.loop-nulls.invariant.goes
    (levels_asked c.args.lists.now (key_of c.args.gap.now) c.args.gap.now c.requires.gap.is_gap c.are_numbered.ensures c.regions_begin_alike.ensures c.loop-nulls.nulls (omega arith) c.args.self.now.table c.loop-nulls.self.table c.loop-nulls.invariant.goes.asked))

pub explore_gap-of-requires : goal.explore_gap-of-requires
explore_gap-of-requires g t c = λ a h.
    let n = c.args.lists.now in
    let test = c.loop-nulls-test.false in
    let live = levels_live n (key_of c.args.gap.now) c.args.gap.now c.requires.gap.is_gap c.are_numbered.ensures c.regions_begin_alike.ensures c.loop-nulls.nulls (omega arith) c.loop-nulls.live.items c.loop-nulls.invariant.live in
    c.alternatives_are_small.ensures n.positions n.lists (key_of c.args.gap.now) a c.keep_limits.ensures c.are_numbered.ensures c.requires.gap.valid ((live.exactly a).0 (subst (λ z. Contains z a) c.deref.ensures.value h)).0

pub open_group-loop-index-init : goal.open_group-loop-index-init
open_group-loop-index-init g t c = record {
  starts = part.adds_none c.args.starts.now.items _ (λ s (u, m, v). part.among_none (λ (b : Beginning) (d : Beginning). b ≡ d) c.in_ok-begins.begins.items s.begin m);
  goes = goes_none c.requires.ready (part.asked_start c.args.lists.now _ c.args.self.now.table c.requires.ready.table (λ k m. part.among_none (λ (b : Beginning) (k : Key). left_of c.args.gap.now c.args.group.now b ≡ k) c.in_ok-begins.begins.items k m));
}

pub open_group-visit-requires : goal.open_group-visit-requires
open_group-visit-requires g t c κs within =
    let end : c.len-index-end.result ≡ length c.in_ok-begins.begins.items = c.len-index-end.ensures ∙ c.in_ok-begins.begins.ok.0 in
    let test = c.loop-index-test.true in
    let at = part.at_of c.in_ok-begins.begins.items c.loop-index.index c.index-begin.result.now (omega arith) c.index-begin.ensures in
    let of = c.in_ok-begins.ensures.each c.index-begin.result.now (contains_at c.in_ok-begins.begins.items c.loop-index.index c.index-begin.result.now at) in
    let valid = part.left_valid c.args.lists.now (key_of c.args.gap.now) c.args.gap.now c.args.group.now c.index-begin.result.now c.key-lkey.result c.requires.ready.decided c.requires.gap.valid refl c.key-lkey.ensures of in
    let narrow : key_width c.args.lists.now.positions c.key-lkey.result < gap_width c.args.gap.now = valid.1 in
    (search rules, (search rules, (ready_after c.requires.ready c.loop-index.invariant.goes (omega arith), valid.0)))

pub open_group-loop-index-preserved : goal.open_group-loop-index-preserved
open_group-loop-index-preserved g t c =
    let n = c.args.lists.now in
    let gap = c.args.gap.now in
    let group = c.args.group.now in
    let bs = c.in_ok-begins.begins.items in
    let i = c.loop-index.index in
    let b = c.index-begin.result.now in
    let end : c.len-index-end.result ≡ length c.in_ok-begins.begins.items = c.len-index-end.ensures ∙ c.in_ok-begins.begins.ok.0 in
    let test = c.loop-index-test.true in
    let at = part.at_of bs i c.index-begin.result.now (omega arith) c.index-begin.ensures in
    let key = c.key-lkey.ensures in
    record {
      starts = elim c.if-branch.branch [
        | open_group-then-branch+in_ok-push w ↦ subst (λ z. AddsExactly c.args.starts.now.items z (OfFirst n gap group bs (i + 1))) (sym (ap (λ v. v.items) w.starts-is))
            (start_kept n gap group bs i (i + 1) b (omega arith) at c.args.starts.now.items c.loop-index.starts.items _ (record { group = group; begin = b }) c.in_ok-begins.ensures.once refl refl
            (subst (λ z. HasLinkageUnder n.positions n.lists z) key (c.in_ok-visit.ensures.found.0 w.if-branch.true)) w.in_ok-push.ensures.items c.loop-index.invariant.starts)
        | open_group-else-branch w ↦ subst (λ z. AddsExactly c.args.starts.now.items z (OfFirst n gap group bs (i + 1))) (sym (ap (λ v. v.items) w.starts-is))
            (start_dropped n gap group bs i (i + 1) b (omega arith) at c.args.starts.now.items c.loop-index.starts.items (λ l. true≢false (sym (c.in_ok-visit.ensures.found.1 (subst (λ z. HasLinkageUnder n.positions n.lists z) (sym key) l)) ∙ w.if-branch.false)) c.loop-index.invariant.starts)
      ];
      goes = goes_then c.loop-index.invariant.goes c.in_ok-visit.ensures.goes
          (left_asked n gap group bs i (i + 1) b (omega arith) at c.args.self.now.table c.loop-index.self.table c.visit.new.self.table c.key-lkey.result key c.loop-index.invariant.goes.asked c.in_ok-visit.ensures.goes.asked);
    }

pub open_group-returns-clause-starts : goal.open_group-returns-clause-starts
open_group-returns-clause-starts g t c =
    let bs = c.in_ok-begins.begins.items in
    let end : c.len-index-end.result ≡ length c.in_ok-begins.begins.items = c.len-index-end.ensures ∙ c.in_ok-begins.begins.ok.0 in
    let test = c.loop-index-test.false in
    group_started c.args.lists.now (key_of c.args.gap.now) c.args.gap.now c.args.group.now c.args.nulls refl bs c.in_ok-begins.ensures c.loop-index.index (omega arith) c.args.starts.now.items c.loop-index.starts.items c.loop-index.invariant.starts

pub open_group-returns-clause-goes : goal.open_group-returns-clause-goes
open_group-returns-clause-goes g t c =
    let bs = c.in_ok-begins.begins.items in
    let end : c.len-index-end.result ≡ length c.in_ok-begins.begins.items = c.len-index-end.ensures ∙ c.in_ok-begins.begins.ok.0 in
    let test = c.loop-index-test.false in
    goes_as c.loop-index.invariant.goes
    (group_asked c.args.lists.now (key_of c.args.gap.now) c.args.gap.now c.args.group.now c.args.nulls refl bs c.in_ok-begins.ensures c.loop-index.index (omega arith) c.args.self.now.table c.loop-index.self.table c.loop-index.invariant.goes.asked)

pub open_word-loop-index-init : goal.open_word-loop-index-init
open_word-loop-index-init g t c = record {
  starts = part.adds_none c.args.opening.now.starts.items _ (λ s m. part.among_none (IsOfGroup c.args.lists.now c.args.gap.now c.args.nulls) c.in_ok-groups.groups.items s m);
  goes = goes_none c.requires.ready (part.asked_start c.args.lists.now _ c.args.self.now.table c.requires.ready.table (λ k (a, alt, m, e). part.among_none In c.in_ok-groups.groups.items a m));
}

pub open_word-open_group-requires : goal.open_word-open_group-requires
open_word-open_group-requires g t c κs within =
    let gs = c.in_ok-groups.groups.items in
    let end : c.len-index-end.result ≡ length c.in_ok-groups.groups.items = c.len-index-end.ensures ∙ c.in_ok-groups.groups.ok.0 in
    let test = c.loop-index-test.true in
    let at = part.at_of gs c.loop-index.index c.index-group.result.now (omega arith) c.index-group.ensures in
    let of = group_there c.args.lists.now c.args.gap.now c.args.word gs c.in_ok-groups.ensures c.index-group.result.now (contains_at gs c.loop-index.index c.index-group.result.now at) in
    (search rules, (search rules, (ready_after c.requires.ready c.loop-index.invariant.goes (omega arith), (c.requires.gap, of.0))))

pub open_word-loop-index-preserved : goal.open_word-loop-index-preserved
open_word-loop-index-preserved g t c =
    let n = c.args.lists.now in
    let gs = c.in_ok-groups.groups.items in
    let i = c.loop-index.index in
    let end : c.len-index-end.result ≡ length c.in_ok-groups.groups.items = c.len-index-end.ensures ∙ c.in_ok-groups.groups.ok.0 in
    let test = c.loop-index-test.true in
    let at = part.at_of gs i c.index-group.result.now (omega arith) c.index-group.ensures in
    let step = part.among_next In gs i (i + 1) c.index-group.result.now (omega arith) at in
    record {
      starts = groups_started n c.args.gap.now c.args.nulls gs (groups_apart n c.args.gap.now c.args.word gs c.in_ok-groups.ensures) i (i + 1) c.index-group.result.now (omega arith) at c.args.opening.now.starts.items c.loop-index.opening.starts.items c.open_group.new.starts.items c.loop-index.invariant.starts c.in_ok-open_group.ensures.starts;
      goes = goes_then c.loop-index.invariant.goes c.in_ok-open_group.ensures.goes
          (lefts_then n (key_of c.args.gap.now) c.args.nulls (Among In gs i) (In c.index-group.result.now) (Among In gs (i + 1)) step c.args.self.now.table c.loop-index.self.table c.open_group.new.self.table c.loop-index.invariant.goes.asked c.in_ok-open_group.ensures.goes.asked);
    }

pub open_word-returns-clause-opens : goal.open_word-returns-clause-opens
open_word-returns-clause-opens g t c =
    let gs = c.in_ok-groups.groups.items in
    let end : c.len-index-end.result ≡ length c.in_ok-groups.groups.items = c.len-index-end.ensures ∙ c.in_ok-groups.groups.ok.0 in
    let test = c.loop-index-test.false in
    word_started c.args.lists.now c.args.gap.now c.args.nulls c.args.word gs c.in_ok-groups.ensures c.loop-index.index (omega arith) c.args.opening.now (record { done = c.args.word + 1; starts = c.loop-index.opening.starts }) refl c.loop-index.invariant.starts

pub open_word-returns-clause-goes : goal.open_word-returns-clause-goes
open_word-returns-clause-goes g t c =
    let n = c.args.lists.now in
    let gs = c.in_ok-groups.groups.items in
    let end : c.len-index-end.result ≡ length c.in_ok-groups.groups.items = c.len-index-end.ensures ∙ c.in_ok-groups.groups.ok.0 in
    let test = c.loop-index-test.false in
    goes_as c.loop-index.invariant.goes
    (lefts_as n (key_of c.args.gap.now) c.args.nulls (Among In gs c.loop-index.index) (StandsAt c.args.word)
    (λ a alt. at_word n c.args.gap.now c.args.word gs c.in_ok-groups.ensures c.loop-index.index (omega arith) (key_of c.args.gap.now) refl a alt.0) c.args.self.now.table c.loop-index.self.table c.loop-index.invariant.goes.asked)

pub open-loop-word-init : goal.open-loop-word-init
open-loop-word-init g t c =
    let n = c.args.lists.now in
    let begin = c.requires.alike.left_is in
    let empty : (o : Opening) → o.done ≡ c.args.gap.now.left + 1 → o.starts.items ≡ [] → IsOpening n c.args.self.now.table c.args.origin.now o =
    λ o done none. opening_new n c.are_numbered.ensures c.regions_begin_alike.ensures c.args.origin.now c.args.self.now.table o (done ∙ ap (λ z. z + 1) begin) none in
    let opened : IsOpening n c.args.self.now.table c.args.origin.now c.match-taken.opening = elim c.match-taken.branch [
      | open-in-Some w ↦ subst (λ z. IsOpening n c.args.self.now.table c.args.origin.now z) (sym w.opening-is)
          (c.requires.ready.known.opened c.args.origin.now w.in-Some.opening
          (subst (λ o. MatchOption o (Contains (keys_of c.args.self.now.memory.openings) c.args.origin.now → ⊥) (λ opening. Contains c.args.self.now.memory.openings (c.args.origin.now, opening))) w.in-Some.is c.in_ok-taken.ensures.taken))
      | open-in-None w ↦ subst (λ z. IsOpening n c.args.self.now.table c.args.origin.now z) (sym w.opening-is) (empty w.none-opening.result w.none-opening.ensures.done w.none-opening.ensures.starts)
    ] in
    let behind = opened.behind in
    record {
      done = refl;
      after = omega arith;
      opened = opened;
      goes = record {
        asked = words_first n c.are_numbered.ensures c.regions_begin_alike.ensures c.args.origin.now (key_of c.args.gap.now) c.args.gap.now refl c.requires.alike c.match-taken.opening c.args.self.now.table c.requires.ready.table opened;
        left = record {
          known = record {
            known = c.requires.ready.known.known;
            opened = λ o x has. elim (c.in_ok-taken.ensures.left o x has) [
              | inl was ↦ c.requires.ready.known.opened o x was
              | inr here ↦ subst (λ (p : Origin × Opening). IsOpening n c.args.self.now.table p.0 p.1) (λ i. (sym here.0 i, sym here.1 i)) (empty c.none-none.result c.none-none.ensures.done c.none-none.ensures.starts)
            ];
            ended = c.requires.ready.known.ended;
            shut = c.requires.ready.known.shut;
          };
          fewer = omega arith;
        };
        steps = omega arith;
        later = omega arith;
      };
    }

pub open-open_word-requires : goal.open-open_word-requires
open-open_word-requires g t c κs within =
    let test = c.loop-word-test.true in
    let end = c.end_with-end.ensures in
    (search rules, (search rules, (ready_after c.requires.ready c.loop-word.invariant.goes (omega arith), (c.requires.gap, (c.loop-word.invariant.after, omega arith)))))

pub open-loop-word-preserved : goal.open-loop-word-preserved
open-loop-word-preserved g t c =
    let n = c.args.lists.now in
    let gap = c.args.gap.now in
    let end : c.loop-word.word < end_of gap c.args.origin.now.nulls = (let test = c.loop-word-test.true in let e = c.end_with-end.ensures in omega arith) in
    let behind = c.loop-word.invariant.after in
    record {
      done = c.in_ok-open_word.ensures.opens.done;
      after = omega arith;
      opened = word_opened n c.are_numbered.ensures c.regions_begin_alike.ensures c.args.origin.now (key_of c.args.gap.now) gap c.loop-word.word refl c.requires.alike end c.loop-word.self.table c.open_word.new.self.table c.loop-word.opening c.open_word.new.opening
          c.loop-word.invariant.done c.in_ok-open_word.ensures.opens c.in_ok-open_word.ensures.goes.asked.kept c.in_ok-open_word.ensures.goes.asked.there c.loop-word.invariant.opened;
      goes = goes_then c.loop-word.invariant.goes c.in_ok-open_word.ensures.goes
          (words_next n (key_of c.args.gap.now) c.args.origin.now.nulls c.loop-word.word (c.loop-word.word + 1) refl c.args.self.now.table c.loop-word.self.table c.open_word.new.self.table c.loop-word.invariant.goes.asked c.in_ok-open_word.ensures.goes.asked);
    }

pub open-returns-clause-goes : goal.open-returns-clause-goes
open-returns-clause-goes g t c =
    let test = c.loop-word-test.false in
    let end = c.end_with-end.ensures in
    goes_as c.loop-word.invariant.goes
    (words_all c.args.lists.now c.are_numbered.ensures c.regions_begin_alike.ensures c.args.origin.now (key_of c.args.gap.now) c.args.gap.now refl c.requires.alike c.loop-word.word (omega arith) c.args.self.now.table c.loop-word.self.table c.loop-word.invariant.goes.asked)

pub open-returns-clause-done : goal.open-returns-clause-done
open-returns-clause-done g t c =
    let test = c.loop-word-test.false in
    let end = c.end_with-end.ensures in
    let done = c.loop-word.invariant.done in
    omega arith

pub explore_start-returns-then-start-end-clause-live : goal.explore_start-returns-then-start-end-clause-live
explore_start-returns-then-start-end-clause-live g t c =
    let test = c.if-start-end.true in
    let end = c.end_with-end.ensures in
    part.adds_none c.args.live.now.items _
    (λ a (alt, s, l). none_starts c.args.lists.now c.are_numbered.ensures c.regions_begin_alike.ensures c.args.origin.now (key_of c.args.gap.now) c.args.gap.now refl c.requires.alike c.args.start.now c.requires.level (omega arith) a alt s)

pub explore_start-returns-then-start-end-clause-goes : goal.explore_start-returns-then-start-end-clause-goes
explore_start-returns-then-start-end-clause-goes g t c =
    let test = c.if-start-end.true in
    let end = c.end_with-end.ensures in
    goes_none c.requires.ready
    (part.asked_start c.args.lists.now _ c.args.self.now.table c.requires.ready.table
    (λ k (a, alt, s, o). none_starts c.args.lists.now c.are_numbered.ensures c.regions_begin_alike.ensures c.args.origin.now (key_of c.args.gap.now) c.args.gap.now refl c.requires.alike c.args.start.now c.requires.level (omega arith) a alt s))

pub explore_start-explore_ending-requires : goal.explore_start-explore_ending-requires
explore_start-explore_ending-requires g t c κs within =
    let test = c.if-start-end.false in
    let end = c.end_with-end.ensures in
    (search rules, (search rules, (ready_less c.requires.ready (omega arith), (c.requires.gap, (c.requires.start (omega arith), c.requires.left)))))

-- the left key is in the table, and then the right ones are asked for
pub explore_start-returns-clause-goes : goal.explore_start-returns-clause-goes
explore_start-returns-clause-goes g t c =
    let test = c.if-start-end.false in
    let end = c.end_with-end.ensures in
    let n = c.args.lists.now in
    let gap = c.args.gap.now in
    let s = c.args.start.now in
    let lt : s.group.word < end_of gap c.args.origin.now.nulls = omega arith in
    let start = c.requires.start lt in
    let lkey = left_of gap s.group s.begin in
    let table = c.args.self.now.table in
    let ends = c.alternatives_end.ensures n gap s.group s.begin c.are_numbered.ensures c.requires.gap.is_gap.known start.group start.some in
    let there = asked_same n (λ k. k ≡ lkey) table c.requires.ready.table (λ k e. subst (λ z. Contains (keys_of table) z) (sym e) (c.requires.there lt)) in
    ok_then c.explore_ending.result c.explore_ending.new.self c.explore_ending.new.steps (goes_none c.requires.ready there) c.explore_ending.ensures.goes
    (ended_asked n gap s.group s.begin (key_of gap) refl ends c.requires.left start.some table table c.explore_ending.new.self.table there)

pub explore_opening-loop-index-init : goal.explore_opening-loop-index-init
explore_opening-loop-index-init g t c =
    let n = c.args.lists.now in
    let gap = c.args.gap.now in
    let starts = c.in_ok-opening.opening.starts.items in
    let asked = subst (λ z. Asked n (AsksLeft n (key_of c.args.gap.now) z IsAny) c.args.self.now.table c.open.new.self.table) c.origin_of-origin.ensures.nulls c.in_ok-opening.ensures.goes.asked in
    record {
      goes = goes_as c.in_ok-opening.ensures.goes
          (asked_as n (AsksLeft n (key_of c.args.gap.now) c.args.nulls IsAny) (SoFar n (key_of c.args.gap.now) c.args.nulls gap starts 0) c.args.self.now.table c.open.new.self.table (λ k h. inl h) (λ k h. elim h [ inl l ↦ l | inr (a, alt, m, o) ↦ absurd (part.among_none (StartsSo gap) starts a m) ]) asked);
      live = part.adds_none c.args.live.now.items _ (λ a (alt, m, l). part.among_none (StartsSo gap) starts a m);
      opened = c.in_ok-opening.ensures.opened;
    }

pub explore_opening-explore_start-requires : goal.explore_opening-explore_start-requires
explore_opening-explore_start-requires g t c κs within =
    let starts = c.in_ok-opening.opening.starts in
    let end : c.len-index-end.result ≡ length starts.items = c.len-index-end.ensures ∙ starts.ok.0 in
    let test = c.loop-index-test.true in
    let at = part.at_of starts.items c.loop-index.index c.index.result.now (omega arith) c.index.ensures in
    let has = contains_at starts.items c.loop-index.index c.index.result.now at in
    let gap = c.args.gap.now in
    let s = c.index.result.now in
    let opened = c.loop-index.invariant.opened in
    let begins = c.origin_of-origin.ensures.begins in
    let each : s.group.word < end_of gap c.origin_of-origin.result.nulls → IsStart c.args.lists.now gap s = λ l. opened.each gap s begins has l in
    (search rules, (search rules, (ready_after c.requires.ready c.loop-index.invariant.goes (omega arith), (c.requires.gap, (c.origin_of-origin.ensures.begins, (each, (opened.level s has, (opened.live gap s begins has, λ l. start_there c.args.lists.now c.loop-index.self.table c.origin_of-origin.result c.in_ok-opening.opening gap s opened begins has (each l)))))))))

pub explore_opening-loop-index-preserved : goal.explore_opening-loop-index-preserved
explore_opening-loop-index-preserved g t c =
    let n = c.args.lists.now in
    let gap = c.args.gap.now in
    let starts = c.in_ok-opening.opening.starts in
    let i = c.loop-index.index in
    let s = c.index.result.now in
    let end : c.len-index-end.result ≡ length starts.items = c.len-index-end.ensures ∙ starts.ok.0 in
    let test = c.loop-index-test.true in
    let at = part.at_of starts.items i s (omega arith) c.index.ensures in
    let R = StartsSo gap in
    let step = part.among_next R starts.items i (i + 1) s (omega arith) at in
    record {
      goes = goes_then c.loop-index.invariant.goes c.in_ok-explore_start.ensures.goes
          (start_asked n (key_of c.args.gap.now) c.args.nulls gap starts.items i (i + 1) s (omega arith) at c.args.self.now.table c.loop-index.self.table c.explore_start.new.self.table c.loop-index.invariant.goes.asked c.in_ok-explore_start.ensures.goes.asked);
      live = part.live_parts n (key_of c.args.gap.now) (Among R starts.items i) (R s) (Among R starts.items (i + 1)) step c.args.live.now.items c.loop-index.live.items c.explore_start.new.live.items
          (part.among_apart R starts.items (λ j k u v a e f p q. c.loop-index.invariant.opened.apart gap j k u v a e f p q) i s at) c.loop-index.invariant.live c.in_ok-explore_start.ensures.live;
      opened = opening_kept n c.loop-index.self.table c.explore_start.new.self.table c.in_ok-explore_start.ensures.goes.asked.kept _ c.in_ok-opening.opening c.loop-index.invariant.opened;
    }

pub explore_opening-returns-clause-live : goal.explore_opening-returns-clause-live
explore_opening-returns-clause-live g t c =
    let n = c.args.lists.now in
    let starts = c.in_ok-opening.opening.starts in
    let end : c.len-index-end.result ≡ length starts.items = c.len-index-end.ensures ∙ starts.ok.0 in
    let test = c.loop-index-test.false in
    let opened = c.loop-index.invariant.opened in
    let level = c.origin_of-origin.ensures.nulls in
    let some = opening_some n c.are_numbered.ensures c.regions_begin_alike.ensures c.origin_of-origin.result (key_of c.args.gap.now) c.args.gap.now refl c.origin_of-origin.ensures.begins c.in_ok-opening.opening c.loop-index.self.table c.in_ok-opening.ensures.done opened in
    opening_live n (key_of c.args.gap.now) c.args.nulls c.args.gap.now starts.items c.loop-index.index (omega arith) (λ s has. opened.level s has ∙ level) (λ a alt live. some a (alt.0, subst (λ z. LeavesLeft z a) (sym level) alt.1) live) c.args.live.now.items c.loop-index.live.items c.loop-index.invariant.live

pub explore_opening-returns-clause-goes : goal.explore_opening-returns-clause-goes
explore_opening-returns-clause-goes g t c =
    let n = c.args.lists.now in
    let starts = c.in_ok-opening.opening.starts in
    let end : c.len-index-end.result ≡ length starts.items = c.len-index-end.ensures ∙ starts.ok.0 in
    let test = c.loop-index-test.false in
    let opened = c.loop-index.invariant.opened in
    let level = c.origin_of-origin.ensures.nulls in
    let some = opening_some n c.are_numbered.ensures c.regions_begin_alike.ensures c.origin_of-origin.result (key_of c.args.gap.now) c.args.gap.now refl c.origin_of-origin.ensures.begins c.in_ok-opening.opening c.loop-index.self.table c.in_ok-opening.ensures.done opened in
    let goes = c.loop-index.invariant.goes in
    record {
      asked = opening_asked n (key_of c.args.gap.now) c.args.nulls c.args.gap.now starts.items c.loop-index.index (omega arith) (λ s has. opened.level s has ∙ level) (λ a alt live. some a (alt.0, subst (λ z. LeavesLeft z a) (sym level) alt.1) live) c.args.self.now.table c.loop-index.self.table c.loop-index.invariant.goes.asked;
      left = record {
        known = record {
          known = goes.left.known.known;
          opened = λ o x has. elim (c.in_ok-put.ensures.put o x has) [
            | inl h ↦ goes.left.known.opened o x h
            | inr (e, f) ↦ subst (λ z. IsOpening n c.loop-index.self.table z x) (sym e) (subst (λ z. IsOpening n c.loop-index.self.table c.origin_of-origin.result z) (sym f) opened)
          ];
          ended = goes.left.known.ended;
          shut = goes.left.known.shut;
        };
        fewer = goes.left.fewer;
      };
      steps = goes.steps;
      later = goes.later;
    }

-- nothing starts in the region, so no alternative's left key has a linkage, and all of these keys are in the table
pub explore_opening-returns-then-is_shut-clause-live : goal.explore_opening-returns-then-is_shut-clause-live
explore_opening-returns-then-is_shut-clause-live g t c =
    let (o, has, shut) = c.is_shut.ensures c.if-is_shut.true in
    let level = c.origin_of-origin.ensures.nulls in
    part.adds_none c.args.live.now.items _ (λ a (alt, leaves, l).
    shut_live c.args.lists.now c.are_numbered.ensures c.regions_begin_alike.ensures c.origin_of-origin.result (key_of c.args.gap.now) c.args.gap.now refl c.origin_of-origin.ensures.begins o c.args.self.now.table
    (subst (λ z. IsShut z o) (c.end_with.ensures ∙ ap (λ z. end_of c.args.gap.now z) (sym level)) shut) (c.requires.ready.known.opened c.origin_of-origin.result o has) a (alt, subst (λ z. LeavesLeft z a) (sym level) leaves) l.left)

pub explore_opening-returns-then-is_shut-clause-goes : goal.explore_opening-returns-then-is_shut-clause-goes
explore_opening-returns-then-is_shut-clause-goes g t c =
    let (o, has, shut) = c.is_shut.ensures c.if-is_shut.true in
    let level = c.origin_of-origin.ensures.nulls in
    goes_none c.requires.ready
    (subst (λ z. Asked c.args.lists.now (AsksAmong c.args.lists.now (key_of c.args.gap.now) (LeavesLeft z)) c.args.self.now.table c.args.self.now.table) level
    (shut_asked c.args.lists.now c.are_numbered.ensures c.regions_begin_alike.ensures c.origin_of-origin.result (key_of c.args.gap.now) c.args.gap.now refl c.origin_of-origin.ensures.begins o c.args.self.now.table
    (subst (λ z. IsShut z o) (c.end_with.ensures ∙ ap (λ z. end_of c.args.gap.now z) (sym level)) shut) (c.requires.ready.known.opened c.origin_of-origin.result o has) c.requires.ready.table))

pub explore_opening-origin_of-origin-requires-clause-gap : goal.explore_opening-origin_of-origin-requires-clause-gap
explore_opening-origin_of-origin-requires-clause-gap g t c = (key_of c.args.gap.now, c.requires.gap.is_gap)

pub explore_opening-open-requires : goal.explore_opening-open-requires
explore_opening-open-requires g t c κs within = (search rules, (search rules, (ready_less c.requires.ready (omega arith), (c.requires.gap, c.origin_of-origin.ensures.begins))))

pub explore_rights-loop-index-init : goal.explore_rights-loop-index-init
explore_rights-loop-index-init g t c =
    let n = c.args.lists.now in
    let all = c.in_ok-all.all.items in
    record {
      goes = goes_none c.requires.ready (first_asked n c.args.gap.now c.args.start.now.group c.args.nulls all c.args.self.now.table c.requires.ready.table);
      live = subst (λ z. AddsExactly [] z (λ r. HasLinkageUnder n.positions n.lists (key_behind c.args.gap.now c.args.start.now.group c.args.nulls r) × Among (λ (x : Right) (y : Right). x ≡ y) all 0 r)) (sym c.clear.ensures.items)
          (part.adds_none [] _ (λ r (l, m). part.among_none (λ (x : Right) (y : Right). x ≡ y) all r m));
    }

pub explore_rights-visit-requires : goal.explore_rights-visit-requires
explore_rights-visit-requires g t c κs within =
    let n = c.args.lists.now in
    let gap = c.args.gap.now in
    let s = c.args.start.now in
    let all = c.in_ok-all.all.items in
    let end : c.len-index-end.result ≡ length c.in_ok-all.all.items = c.len-index-end.ensures ∙ c.in_ok-all.all.ok.0 in
    let test = c.loop-index-test.true in
    let at = part.at_of all c.loop-index.index c.index-right.result.now (omega arith) c.index-right.ensures in
    let ends = c.alternatives_end.ensures n gap s.group s.begin c.are_numbered.ensures c.requires.gap.is_gap.known c.requires.start.group c.requires.start.some in
    let valid = right_valid n gap s.group s.begin (key_of gap) refl ends c.requires.ready.decided c.requires.gap.valid c.index-right.result.now ((c.in_ok-all.ensures.each c.index-right.result.now).0 (contains_at all c.loop-index.index c.index-right.result.now at)) in
    let same : key_behind gap s.group (gap.nulls - s.begin.nulls) c.index-right.result.now ≡ c.key-rkey.result = ap (λ z. key_behind gap s.group z c.index-right.result.now) (sym c.requires.nulls) ∙ sym c.key-rkey.ensures in
    let narrow : key_width n.positions c.key-rkey.result < gap_width gap = subst (λ z. key_width n.positions z < gap_width gap) same valid.1 in
    (search rules, (search rules, (ready_after c.requires.ready c.loop-index.invariant.goes (omega arith), subst (IsValidKey n.positions n.lists) same valid.0)))

pub explore_rights-loop-index-preserved : goal.explore_rights-loop-index-preserved
explore_rights-loop-index-preserved g t c =
    let n = c.args.lists.now in
    let gap = c.args.gap.now in
    let group = c.args.start.now.group in
    let nulls = c.args.nulls in
    let all = c.in_ok-all.all.items in
    let i = c.loop-index.index in
    let r = c.index-right.result.now in
    let end : c.len-index-end.result ≡ length c.in_ok-all.all.items = c.len-index-end.ensures ∙ c.in_ok-all.all.ok.0 in
    let test = c.loop-index-test.true in
    let at = part.at_of all i c.index-right.result.now (omega arith) c.index-right.ensures in
    let Live : Right → Type 0 = λ z. HasLinkageUnder n.positions n.lists (key_behind gap group nulls z) in
    record {
      goes = goes_then c.loop-index.invariant.goes c.in_ok-visit.ensures.goes
          (next_asked n gap group nulls all i (i + 1) r c.args.self.now.table c.loop-index.self.table c.visit.new.self.table (omega arith) at c.loop-index.invariant.goes.asked
          (subst (λ z. Asked n (λ k. k ≡ z) c.loop-index.self.table c.visit.new.self.table) c.key-rkey.ensures c.in_ok-visit.ensures.goes.asked));
      live = elim c.if-branch.branch [
        | explore_rights-then-branch+in_ok-push w ↦ subst (λ z. AddsExactly [] z (λ x. Live x × Among (λ (u v : Right). u ≡ v) all (i + 1) x)) (sym (ap (λ v. v.items) w.live-is))
            (part.one_kept Live all i (i + 1) r (omega arith) at c.in_ok-all.ensures.once [] c.loop-index.live.items _ (subst (HasLinkageUnder n.positions n.lists) c.key-rkey.ensures (c.in_ok-visit.ensures.found.0 w.if-branch.true)) w.in_ok-push.ensures.items c.loop-index.invariant.live)
        | explore_rights-else-branch w ↦ subst (λ z. AddsExactly [] z (λ x. Live x × Among (λ (u v : Right). u ≡ v) all (i + 1) x)) (sym (ap (λ v. v.items) w.live-is))
            (part.one_dropped Live all i (i + 1) r (omega arith) at c.in_ok-all.ensures.once [] c.loop-index.live.items (λ l. true≢false (sym (c.in_ok-visit.ensures.found.1 (subst (HasLinkageUnder n.positions n.lists) (sym c.key-rkey.ensures) l)) ∙ w.if-branch.false)) c.loop-index.invariant.live)
      ];
    }

pub explore_rights-returns-clause-live : goal.explore_rights-returns-clause-live
explore_rights-returns-clause-live g t c =
    let end : c.len-index-end.result ≡ length c.in_ok-all.all.items = c.len-index-end.ensures ∙ c.in_ok-all.all.ok.0 in
    let test = c.loop-index-test.false in
    all_live c.args.lists.now c.args.gap.now c.args.start.now.group c.args.nulls c.in_ok-all.all.items c.in_ok-all.ensures c.loop-index.index (omega arith) [] c.loop-index.live.items refl c.loop-index.invariant.live

pub explore_rights-returns-clause-goes : goal.explore_rights-returns-clause-goes
explore_rights-returns-clause-goes g t c =
    let end : c.len-index-end.result ≡ length c.in_ok-all.all.items = c.len-index-end.ensures ∙ c.in_ok-all.all.ok.0 in
    let test = c.loop-index-test.false in
    goes_as c.loop-index.invariant.goes
    (all_asked c.args.lists.now c.args.gap.now c.args.start.now.group c.args.nulls c.in_ok-all.all.items c.in_ok-all.ensures c.loop-index.index (omega arith) c.args.self.now.table c.loop-index.self.table c.loop-index.invariant.goes.asked)

pub explore_ending-of-half-requires-clause-word : goal.explore_ending-of-half-requires-clause-word
explore_ending-of-half-requires-clause-word g t c =
    let few : length c.args.lists.now.positions ≤ 252 = c.keep_limits.ensures.few in
    let before = c.requires.start.group.before in
    let within = c.requires.gap.is_gap.within in
    omega arith

pub explore_ending-of-half-requires-clause-right : goal.explore_ending-of-half-requires-clause-right
explore_ending-of-half-requires-clause-right g t c =
    let few : length c.args.lists.now.positions ≤ 252 = c.keep_limits.ensures.few in
    let within = c.requires.gap.is_gap.within in
    omega arith

pub explore_ending-of-half-requires-clause-nulls : goal.explore_ending-of-half-requires-clause-nulls
explore_ending-of-half-requires-clause-nulls g t c =
    let few : length c.args.lists.now.positions ≤ 252 = c.keep_limits.ensures.few in
    let within = c.requires.gap.is_gap.within in
    let less = c.requires.gap.is_gap.few in
    omega arith

-- the search looks whether the half is shut, and is as before
pub explore_ending-explore_rights-requires : goal.explore_ending-explore_rights-requires
explore_ending-explore_rights-requires g t c κs within =
    (search rules, (search rules, (ready_from refl (ap (λ z. record c.args.self.now.memory { shut = z }) c.has.ensures.same) c.requires.ready, (c.requires.gap, (c.requires.start, refl)))))

-- no disjunct of a half that is shut goes on
pub explore_ending-returns-then-has-clause-live : goal.explore_ending-returns-then-has-clause-live
explore_ending-returns-then-has-clause-live g t c =
    let n = c.args.lists.now in
    let gap = c.args.gap.now in
    let s = c.args.start.now in
    let nulls = gap.nulls - s.begin.nulls in
    let ends = c.alternatives_end.ensures n gap s.group s.begin c.are_numbered.ensures c.requires.gap.is_gap.known c.requires.start.group c.requires.start.some in
    let known = c.requires.ready.known.shut c.of-half.result (c.has.ensures.value.0 c.if-has.true) in
    let with = subst (λ z. EndsWith n z gap s.group) (sym c.of-half.ensures) (ends_here n (key_of gap) gap s.group nulls c.requires.gap.is_gap) in
    let same : c.of-half.result.nulls ≡ nulls = ap (λ (h : Half). h.nulls) c.of-half.ensures in
    ended_live n gap s.group s.begin (key_of gap) refl ends c.requires.left [] (subst (λ z. AreExactly [] (IsLiveRight n gap s.group z)) same (known.live gap s.group with)) c.args.live.now.items c.args.live.now.items
    (sym (append-nil c.args.live.now.items))

pub explore_ending-returns-then-has-clause-goes : goal.explore_ending-returns-then-has-clause-goes
explore_ending-returns-then-has-clause-goes g t c =
    let n = c.args.lists.now in
    let gap = c.args.gap.now in
    let s = c.args.start.now in
    let nulls = gap.nulls - s.begin.nulls in
    let memory = ap (λ z. record c.args.self.now.memory { shut = z }) c.has.ensures.same in
    let known = c.requires.ready.known.shut c.of-half.result (c.has.ensures.value.0 c.if-has.true) in
    let with = subst (λ z. EndsWith n z gap s.group) (sym c.of-half.ensures) (ends_here n (key_of gap) gap s.group nulls c.requires.gap.is_gap) in
    let same : c.of-half.result.nulls ≡ nulls = ap (λ (h : Half). h.nulls) c.of-half.ensures in
    goes_from refl memory
    (goes_none (ready_from refl memory c.requires.ready) (subst (λ z. Asked n (AsksRight n gap s.group z) c.args.self.now.table c.args.self.now.table) same (ends_asked n c.args.self.now.table c.of-half.result [] gap s.group c.requires.ready.table known with)))

pub explore_ending-returns-in-Some-clause-live : goal.explore_ending-returns-in-Some-clause-live
explore_ending-returns-in-Some-clause-live g t c =
    let n = c.args.lists.now in
    let gap = c.args.gap.now in
    let s = c.args.start.now in
    let nulls = gap.nulls - s.begin.nulls in
    let ends = c.alternatives_end.ensures n gap s.group s.begin c.are_numbered.ensures c.requires.gap.is_gap.known c.requires.start.group c.requires.start.some in
    let known = c.requires.ready.known.ended c.of-half.result c.in-Some.rights.now c.in-Some.ensures in
    let with = subst (λ z. EndsWith n z gap s.group) (sym c.of-half.ensures) (ends_here n (key_of gap) gap s.group nulls c.requires.gap.is_gap) in
    let same : c.of-half.result.nulls ≡ nulls = ap (λ (h : Half). h.nulls) c.of-half.ensures in
    on_ok_as c.push_ended.result _ _
    (λ e. ended_live n gap s.group s.begin (key_of gap) refl ends c.requires.left c.in-Some.rights.now (subst (λ z. AreExactly c.in-Some.rights.now (IsLiveRight n gap s.group z)) same (known.live gap s.group with)) c.args.live.now.items c.push_ended.new.out.items
    e)
    c.push_ended.ensures.added

pub explore_ending-returns-in-Some-clause-goes : goal.explore_ending-returns-in-Some-clause-goes
explore_ending-returns-in-Some-clause-goes g t c =
    let n = c.args.lists.now in
    let gap = c.args.gap.now in
    let s = c.args.start.now in
    let nulls = gap.nulls - s.begin.nulls in
    let known = c.requires.ready.known.ended c.of-half.result c.in-Some.rights.now c.in-Some.ensures in
    let with = subst (λ z. EndsWith n z gap s.group) (sym c.of-half.ensures) (ends_here n (key_of gap) gap s.group nulls c.requires.gap.is_gap) in
    let same : c.of-half.result.nulls ≡ nulls = ap (λ (h : Half). h.nulls) c.of-half.ensures in
    let memory = ap (λ z. record c.args.self.now.memory { shut = z }) c.has.ensures.same in
    part.ok_any c.push_ended.result _
    (goes_from refl memory
    (goes_none (ready_from refl memory c.requires.ready) (subst (λ z. Asked n (AsksRight n gap s.group z) c.args.self.now.table c.args.self.now.table) same (ends_asked n c.args.self.now.table c.of-half.result c.in-Some.rights.now gap s.group c.requires.ready.table known with))))

-- none goes on
pub explore_ending-returns-then-is_empty-clause-live : goal.explore_ending-returns-then-is_empty-clause-live
explore_ending-returns-then-is_empty-clause-live g t c =
    let n = c.args.lists.now in
    let gap = c.args.gap.now in
    let s = c.args.start.now in
    let ends = c.alternatives_end.ensures n gap s.group s.begin c.are_numbered.ensures c.requires.gap.is_gap.known c.requires.start.group c.requires.start.some in
    let rights = c.in_ok-found.found.items in
    let none : rights ≡ [] = nil_from_length rights (sym c.in_ok-found.found.ok.0 ∙ eqb-true _ 0 (sym c.is_empty.ensures ∙ c.if-is_empty.true)) in
    part.ok_any c.add.result _
    (ended_live n gap s.group s.begin (key_of gap) refl ends c.requires.left [] (subst (λ z. AreExactly z (IsLiveRight n gap s.group (gap.nulls - s.begin.nulls))) none c.in_ok-found.ensures.live) c.args.live.now.items c.args.live.now.items
    (sym (append-nil c.args.live.now.items)))

pub explore_ending-returns-then-is_empty-clause-goes : goal.explore_ending-returns-then-is_empty-clause-goes
explore_ending-returns-then-is_empty-clause-goes g t c =
    let n = c.args.lists.now in
    let gap = c.args.gap.now in
    let s = c.args.start.now in
    let nulls = gap.nulls - s.begin.nulls in
    let rights = c.in_ok-found.found.items in
    let none : rights ≡ [] = nil_from_length rights (sym c.in_ok-found.found.ok.0 ∙ eqb-true _ 0 (sym c.is_empty.ensures ∙ c.if-is_empty.true)) in
    let goes = goes_from refl (ap (λ z. record c.args.self.now.memory { shut = z }) c.has.ensures.same) c.in_ok-found.ensures.goes in
    let table = c.explore_rights.new.self.table in
    let half = c.of-half.result in
    let with = subst (λ z. EndsWith n z gap s.group) (sym c.of-half.ensures) (ends_here n (key_of gap) gap s.group nulls c.requires.gap.is_gap) in
    let same : half.nulls ≡ nulls = ap (λ (h : Half). h.nulls) c.of-half.ensures in
    let new : AreEnds n table half [] = ends_known n table half gap s.group [] with
    (subst (λ z. AreExactly [] (IsLiveRight n gap s.group z)) (sym same) (subst (λ z. AreExactly z (IsLiveRight n gap s.group nulls)) none c.in_ok-found.ensures.live))
    (λ r of. subst (λ z. Contains (keys_of table) (key_behind gap s.group z r)) (sym same) (goes.asked.there (key_behind gap s.group nulls r) (r, of, refl))) in
    on_ok_as c.add.result _ _
    (λ added. record {
      asked = goes.asked;
      left = record {
        known = record {
          known = goes.left.known.known;
          opened = goes.left.known.opened;
          ended = goes.left.known.ended;
          shut = λ h has. elim ((added h).0 has) [
            | inl k ↦ goes.left.known.shut h k
            | inr e ↦ subst (λ z. AreEnds n table z []) (sym e) new
          ];
        };
        fewer = goes.left.fewer;
      };
      steps = goes.steps;
      later = goes.later;
    })
    c.add.ensures.added

pub explore_ending-returns-clause-live : goal.explore_ending-returns-clause-live
explore_ending-returns-clause-live g t c =
    let n = c.args.lists.now in
    let gap = c.args.gap.now in
    let s = c.args.start.now in
    let ends = c.alternatives_end.ensures n gap s.group s.begin c.are_numbered.ensures c.requires.gap.is_gap.known c.requires.start.group c.requires.start.some in
    let rights = c.deref.result.now in
    ended_live n gap s.group s.begin (key_of gap) refl ends c.requires.left rights (exactly_same _ _ c.deref.ensures.value c.in_ok-found.ensures.live) c.args.live.now.items c.push_ended-2.new.out.items
    c.in_ok-push_ended.ensures.added

pub explore_ending-returns-clause-goes : goal.explore_ending-returns-clause-goes
explore_ending-returns-clause-goes g t c =
    let n = c.args.lists.now in
    let gap = c.args.gap.now in
    let s = c.args.start.now in
    let nulls = gap.nulls - s.begin.nulls in
    let rights = c.in_ok-found.found.items in
    let goes = goes_from refl (ap (λ z. record c.args.self.now.memory { shut = z }) c.has.ensures.same) c.in_ok-found.ensures.goes in
    let table = c.explore_rights.new.self.table in
    let half = c.of-half.result in
    let with = subst (λ z. EndsWith n z gap s.group) (sym c.of-half.ensures) (ends_here n (key_of gap) gap s.group nulls c.requires.gap.is_gap) in
    let same : half.nulls ≡ nulls = ap (λ (h : Half). h.nulls) c.of-half.ensures in
    let new : AreEnds n table half rights = ends_known n table half gap s.group rights with
    (subst (λ z. AreExactly rights (IsLiveRight n gap s.group z)) (sym same) c.in_ok-found.ensures.live)
    (λ r of. subst (λ z. Contains (keys_of table) (key_behind gap s.group z r)) (sym same) (goes.asked.there (key_behind gap s.group nulls r) (r, of, refl))) in
    record {
      asked = goes.asked;
      left = record {
        known = record {
          known = goes.left.known.known;
          opened = goes.left.known.opened;
          ended = λ h x has. elim (c.in_ok-put.ensures.put h x has) [
            | inl k ↦ goes.left.known.ended h x k
            | inr (e, f) ↦ subst (λ z. AreEnds n table z x) (sym e) (subst (λ z. AreEnds n table half z) (sym (f ∙ c.deref-2.ensures.value)) new)
          ];
          shut = goes.left.known.shut;
        };
        fewer = goes.left.fewer;
      };
      steps = goes.steps;
      later = goes.later;
    }

pub open-none-none-requires : goal.open-none-none-requires
open-none-none-requires g t c =
    let ends = c.requires.gap.is_gap.ends in
    let within' = c.requires.gap.is_gap.within in
    let few : length c.args.lists.now.positions ≤ 252 = c.keep_limits.ensures.few in
    omega arith

pub open_word-overflow_add-opening : goal.open_word-overflow_add-opening
open_word-overflow_add-opening g t c =
    let before = c.requires.before in
    let within = c.requires.gap.is_gap.within in
    let few : length c.args.lists.now.positions ≤ 252 = c.keep_limits.ensures.few in
    omega arith
