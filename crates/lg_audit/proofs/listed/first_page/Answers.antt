use Rattle.std.proofs.Common.{[], refl, sym, subst}
use Rattle.lg_dict.specs.Dictionary.{Dictionary}
use Rattle.lg_audit.specs.Grounds.{basis_in}
use Rattle.lg_audit.specs.Replies.{IsPageOf}
use Rattle.lg_audit.specs.Walks.{Follows}
use Rattle.lg_audit.proofs.Singles.{when_some, when_none}
use Rattle.lg_audit.proofs.Comings.{no_first_page, is_first_page}
use Rattle.lg_audit.proofs.Goings.{none_rise}
use Rattle.lg_audit.proofs.listed.first_page.Goals as goal

pub returns-in-Some : goal.returns-in-Some
returns-in-Some c = λ p h command stats asked.
    let basis = basis_in c.args.basis.now in
    let follows = when_some _ _ c.in_ok-going.field-0 c.in-Some.going c.in-Some.is (c.in_ok-going.ensures [] none_rise refl) in
    is_first_page basis p h command c.args.text.now c.args.first asked c.args.dated.now.version stats c.args.page.now c.in-Some.going c.requires.text
    (subst (λ (d : Dictionary). Follows basis.know d c.args.text.now c.args.first [] c.args.page.now c.in-Some.going) c.requires.dated.is follows)

pub returns-in-None : goal.returns-in-None
returns-in-None c = λ p h command stats asked.
    let basis = basis_in c.args.basis.now in
    let none = when_none _ _ c.in_ok-going.field-0 c.in-None.is (c.in_ok-going.ensures [] none_rise refl) in
    no_first_page basis p h command c.args.text.now c.args.first asked c.args.dated.now.version stats c.args.page.now
    (λ shown is. none shown (subst (λ (d : Dictionary). IsPageOf basis.know d c.args.text.now c.args.first [] shown c.args.page.now) (sym c.requires.dated.is) is))
