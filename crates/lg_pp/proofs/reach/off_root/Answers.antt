use Rattle.std.proofs.Common.{◌≡◌, true, false, get_or, length, ap, arith}
use Rattle.lg_gram.specs.Limits.{LINKAGE_POSITIONS}
use Rattle.lg_gram.specs.Rules.{HasLink}
use Rattle.lg_walks.specs.Islands.{IsWithin}
use Rattle.lg_pp.specs.Labels.{MatchesOne}
use Rattle.std.proofs.lemmas.List.{take_all}
use Rattle.std.proofs.lemmas.List.Elements.{All-push, All-weaker}
use Rattle.lg_pp.proofs.Good.{no_link, has_at, ends_within}
use Rattle.lg_pp.proofs.Kept.{kept_taken, kept_passed}
use Rattle.lg_pp.proofs.Picking.{flag_here}
use Rattle.lg_pp.proofs.Reaching.{IsClear, clear_by_flag, off_root_from_kept}
use Rattle.lg_pp.proofs.reach.off_root.Goals as goal
use Rattle.lg_pp.proofs.reach.off_root.Goals.{then-is_off_root+in_ok-push, else-is_off_root}

pub bounds-ignored-n : goal.bounds-ignored-n
bounds-ignored-n c = let e = ap length c.links-link-items.ensures.value in omega arith

-- one more link, kept where it is off the root
pub loop-n-preserved : goal.loop-n-preserved
loop-n-preserved c =
    let g = c.args.g.now in
    let links = c.links-link-items.result.now in
    let n = c.loop-n.n in
    let link = get_or links n no_link in
    let less = c.loop-n-test.true in
    let e = c.links-link-items.ensures.value in
    let flag = get_or c.args.ignored.now n false in
    let has = has_at g links n e less in
    elim c.if-is_off_root.branch [
      | then-is_off_root+in_ok-push w ↦ rw (w.links-is, w.in_ok-push.ensures.items) (record {
        has = All-push (HasLink g) c.loop-n.links.items link c.loop-n.invariant.has has;
        kept = λ know are.
            let says = clear_by_flag know g c.args.root link flag (flag_here (MatchesOne know.ignored g) g c.args.ignored.now links n are e less) in
            kept_taken (IsClear know g c.args.root) links c.loop-n.links.items n no_link less (c.loop-n.invariant.kept know are) (says.0 (c.is_off_root.ensures.0 w.if-is_off_root.true));
      })
      | else-is_off_root w ↦ rw w.links-is (record {
        has = c.loop-n.invariant.has;
        kept = λ know are.
            let says = clear_by_flag know g c.args.root link flag (flag_here (MatchesOne know.ignored g) g c.args.ignored.now links n are e less) in
            kept_passed (IsClear know g c.args.root) links c.loop-n.links.items n no_link less (c.loop-n.invariant.kept know are) (λ here. let t : c.is_off_root.result ≡ true = c.is_off_root.ensures.1 (says.1 here) in let f = w.if-is_off_root.false in cc);
      })
    ]

-- all links were looked at
pub returns-clause-exactly : goal.returns-clause-exactly
returns-clause-exactly c = λ know are.
    let whole = take_all c.loop-n.n c.links-link-items.result.now (omega arith) in
    off_root_from_kept know c.args.g.now c.args.root c.loop-n.links.items (rw (← c.links-link-items.ensures.value, ← whole) (c.loop-n.invariant.kept know are))

pub returns-clause-within : goal.returns-clause-within
returns-clause-within c =
    let g = c.args.g.now in
    let few = c.links-link-items.ensures.limits.few in
    All-weaker (HasLink g) (IsWithin LINKAGE_POSITIONS) (λ l has. let h = ends_within g c.requires.good l has in (omega arith, omega arith)) c.loop-n.links.items c.loop-n.invariant.has
