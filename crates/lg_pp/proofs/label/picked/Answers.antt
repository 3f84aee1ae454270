use Rattle.std.proofs.Common.{◌↔◌, Bool, IsTrue, get_or, subst, arith}
use Rattle.std.proofs.lemmas.List.{length_push}
use Rattle.lg_gram.specs.Names.{Name}
use Rattle.lg_pp.proofs.Picking.{any_name, picked_again}
use Rattle.lg_pp.proofs.Zipped.{zip_more}
use Rattle.lg_pp.proofs.label.picked.Goals as goal
use Rattle.lg_pp.proofs.label.picked.Goals.{then-first-n+in_ok-push, else-first-n+in_ok-push-2}

pub index-requires : goal.index-requires
index-requires g c = omega (arith, c.loop-n.flags.ok.0, c.loop-n.invariant.enough, c.if-first-n.true)

-- one more flag, that of an equal label or a new one
pub loop-n-preserved : goal.loop-n-preserved
loop-n-preserved g c =
    let P : Name → Type 0 = g.T.Picks.picked c.args.test.now in
    let labels = c.args.labels.now in
    let n = c.loop-n.n in
    let flags = c.loop-n.flags.items in
    let less = c.loop-n-test.true in
    let R : Name → Bool → Type 0 = λ label flag. IsTrue flag ↔ P label in
    let so = c.loop-n.invariant in
    elim c.if-first-n.branch [
      | then-first-n+in_ok-push w ↦ rw (w.flags-is, w.in_ok-push.ensures.items) (record {
        enough = rw length_push (cc);
        picked = zip_more R labels flags n any_name w.index.result.now less so.picked
            (picked_again P labels n (get_or c.args.firsts.now n 0) flags less so.picked w.if-first-n.true (c.requires.equal n less) w.index.result.now w.index.ensures);
      })
      | else-first-n+in_ok-push-2 w ↦ rw (w.flags-is, w.in_ok-push-2.ensures.items) (record {
        enough = rw length_push (cc);
        picked = zip_more R labels flags n c.index-labels-n.result w.picks.result less so.picked (subst (λ z. IsTrue w.picks.result ↔ P z) c.index-labels-n.is w.picks.ensures);
      })
    ]
