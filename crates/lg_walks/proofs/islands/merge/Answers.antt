use Rattle.std.proofs.Common.{◌≡◌, inl, inr, arith}
use Rattle.std.proofs.lemmas.Bool.{cases_lt}
use Rattle.lg_walks.proofs.Labels.{merged_back, merged_forth}
use Rattle.lg_walks.proofs.islands.merge.Goals as goal

-- whichever root is the later one
pub returns : goal.returns
returns c =
    let old = c.args.labels.now in
    let x = c.root-from.result in
    let y = c.root-to.result in
    let f = c.root-from.ensures in
    let t = c.root-to.ensures in
    elim (cases_lt x y) [
      | inl less ↦
          let hi : c.max.result ≡ y = omega arith in
          let lo : c.min.result ≡ x = omega arith in
          rw (hi, lo) (merged_forth old c.requires.down y x (omega arith) t.within f.within t.own f.own c.args.a c.args.b f.root t.root)
      | inr rest ↦
          let hi : c.max.result ≡ x = omega arith in
          let lo : c.min.result ≡ y = omega arith in
          rw (hi, lo) (merged_back old c.requires.down x y rest f.within t.within f.own t.own c.args.a c.args.b f.root t.root)
    ]
