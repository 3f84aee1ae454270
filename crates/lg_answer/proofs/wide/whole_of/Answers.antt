use Rattle.std.proofs.Common.{All, subst, sym}
use Rattle.std.specs.List.{AllZip}
use Rattle.lg_answer.specs.Steps.{AreApart, AreMade}
use Rattle.lg_answer.proofs.Within.{made_as_good}
use Rattle.lg_answer.proofs.wide.whole_of.Goals as goal

pub expanded-requires : goal.expanded-requires
expanded-requires c = subst (All AreApart) (sym c.items.ensures) c.requires.apart

pub of_known-requires : goal.of_known-requires
of_known-requires c =
    let positions = c.in_ok-positions.positions in
    c.requires.limits positions (subst (λ ws. AllZip AreMade ws positions) c.items.ensures c.in_ok-positions.ensures)

pub returns : goal.returns
returns c =
    let positions = c.in_ok-positions.positions in
    rw c.of_known.ensures (made_as_good c.args.words.now positions (subst (λ ws. AllZip AreMade ws positions) c.items.ensures c.in_ok-positions.ensures))
