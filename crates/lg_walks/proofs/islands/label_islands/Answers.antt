use Rattle.std.proofs.Common.{◌≡◌, length, get_or, take, refl, arith}
use Rattle.std.proofs.lemmas.List.{take_more, take_all}
use Rattle.std.proofs.lemmas.List.Elements.{All-take}
use Rattle.lg_walks.specs.Islands.{IsWithin}
use Rattle.lg_gram.specs.declared.linkage.Link.{Link}
use Rattle.lg_walks.proofs.Labels.{tell_none, tell_more, labels_tell}
use Rattle.lg_walks.proofs.islands.label_islands.Goals as goal

-- any link, where a list has none
abbrev no_link : Link
no_link = record { left = 0; lplace = 0; right = 0; rplace = 0 }

pub loop-link-init : goal.loop-link-init
loop-link-init c = record { enough = refl; tell = tell_none c.number.new.labels (λ k less. c.number.ensures k (omega arith)) }

pub loop-link-preserved : goal.loop-link-preserved
loop-link-preserved c =
    let links = c.args.links.now in
    let i = c.loop-link.link-index in
    let l : Link = get_or links i no_link in
    let old = c.loop-link.labels in
    let new = c.merge.new.labels in
    let n = length c.args.labels.now in
    let same : n ≡ length old = omega arith in
    let within : IsWithin (length old) l = rw (← same) (c.requires.within i no_link c.loop-link-test.true) in
    let all = rw same at (All-take (IsWithin n) i links c.requires.within) in
    record {
      enough = omega arith;
      tell = rw (take_more links i no_link c.loop-link-test.true) (tell_more (take i links) l old new all within (omega arith) c.loop-link.invariant.tell c.merge.ensures);
    }

pub returns : goal.returns
returns c = λ a b p q.
    let links = c.args.links.now in
    let h = c.loop-link.invariant.tell in
    let n = length c.loop-link.labels in
    let e = take_all c.loop-link.link-index links (omega arith) in
    let at_a = c.settle.ensures h.roots h.lead a (omega arith) in
    let at_b = c.settle.ensures h.roots h.lead b (omega arith) in
    rw (at_a, at_b, ← e) (labels_tell (take c.loop-link.link-index links) n h.roots h.same h.ends a b (omega arith) (omega arith))
