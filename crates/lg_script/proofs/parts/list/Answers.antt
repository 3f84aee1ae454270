use Rattle.std.proofs.Common.{ℕ, List, refl, sym, subst}
use Rattle.lg_script.specs.Commands.{IsListing, list, no_list}
use Rattle.lg_script.proofs.parts.list.Goals as goal

pub returns-in-None : goal.returns-in-None
returns-in-None c = (refl, no_list c.args.rest.now c.in-None.ensures)

pub returns-in_ok-sentence-in-Some : goal.returns-in_ok-sentence-in-Some
returns-in_ok-sentence-in-Some c =
    let l = c.in-Some.listing in
    list c.args.rest.now l.from l.want c.in_ok-sentence-in-Some.sentence (subst (λ (s : List ℕ). IsListing c.args.rest.now l.from l.want s) (sym c.in_ok-sentence-in-Some.ensures) c.in-Some.ensures)
