use Rattle.std.proofs.Common.{◌↔◌, IsTrue, false, ◌<◌, length, get_or, ap, arith}
use Rattle.lg_pp.specs.Domains.{InDomain}
use Rattle.lg_pp.specs.Labels.{MatchesOne}
use Rattle.lg_pp.proofs.Picking.{flag_here}
use Rattle.lg_pp.proofs.Good.{no_link, has_at, ends_within}
use Rattle.lg_pp.proofs.Reaching.{collected_by_flag}
use Rattle.lg_pp.proofs.Zipped.{zip_more}
use Rattle.lg_pp.proofs.reach.collected.Goals as goal

pub bounds-ignored-n : goal.bounds-ignored-n
bounds-ignored-n c = let e = ap length c.links-link-items.ensures.value in omega arith

-- ends of links are positions, and each position has a label
pub is_collected-requires-clause-start : goal.is_collected-requires-clause-start
is_collected-requires-clause-start c =
    let within = ends_within c.args.g.now c.requires.good c.args.start.now c.requires.has in
    let few = c.links-link-items.ensures.limits.few in
    omega arith

pub is_collected-requires-clause-left : goal.is_collected-requires-clause-left
is_collected-requires-clause-left c =
    let link = get_or c.links-link-items.result.now c.loop-n.n no_link in
    let within = ends_within c.args.g.now c.requires.good link (has_at c.args.g.now c.links-link-items.result.now c.loop-n.n c.links-link-items.ensures.value c.loop-n-test.true) in
    let few = c.links-link-items.ensures.limits.few in
    omega arith

pub is_collected-requires-clause-right : goal.is_collected-requires-clause-right
is_collected-requires-clause-right c =
    let link = get_or c.links-link-items.result.now c.loop-n.n no_link in
    let within = ends_within c.args.g.now c.requires.good link (has_at c.args.g.now c.links-link-items.result.now c.loop-n.n c.links-link-items.ensures.value c.loop-n-test.true) in
    let few = c.links-link-items.ensures.limits.few in
    omega arith

-- one more flag
pub loop-n-preserved : goal.loop-n-preserved
loop-n-preserved c = λ know are tell.
    let g = c.args.g.now in
    let links = c.links-link-items.result.now in
    let n = c.loop-n.n in
    let less = c.loop-n-test.true in
    let e = c.links-link-items.ensures.value in
    let link = get_or links n no_link in
    let has = has_at g links n e less in
    let within = ends_within g c.requires.good link has in
    let few = c.links-link-items.ensures.limits.few in
    let left : link.left < length c.args.islands.now = omega arith in
    let right : link.right < length c.args.islands.now = omega arith in
    let flag = get_or c.args.ignored.now n false in
    let says = collected_by_flag know g c.args.start.now link flag c.args.islands.now tell left right has (flag_here (MatchesOne know.ignored g) g c.args.ignored.now links n are e less) in
    let test = c.is_collected.ensures in
    rw c.in_ok-push.ensures.items
    (zip_more (λ l flag. IsTrue flag ↔ InDomain know g c.args.start.now l) links c.loop-n.flags.items n no_link c.is_collected.result
    less (c.loop-n.invariant know are tell) (λ t. says.0 (test.0 t), λ h. test.1 (says.1 h)))
