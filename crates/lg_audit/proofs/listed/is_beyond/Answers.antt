use Rattle.std.proofs.Common.{◌≡◌, Decides, rules}
use Rattle.std.specs.Cmp.Rules.{comparing}
use Rattle.std.proofs.lemmas.Bool.{false≢true}
use Rattle.std.proofs.lemmas.Bool.Decides.{Decides-at}
use Rattle.lg_audit.proofs.Goings.{not_beyond, beyond_so}
use Rattle.lg_audit.proofs.listed.is_beyond.Goals as goal

pub returns-in_default : goal.returns-in_default
returns-in_default c =
    let one = c.tokens_are_one_list.ensures.one in
    (λ e. absurd (false≢true e), λ is. absurd (not_beyond one c.args.view.now c.args.text.now c.args.bound c.in_default.field-0 (rw c.in_default.is at c.in_ok-found.ensures.listed) is))

pub returns : goal.returns
returns c =
    let same : Decides c.eq.result (c.in-Err.found ≡ c.args.bound) = Decides-at c.eq.result _ c.eq.ensures (search (comparing, rules)) in
    beyond_so c.tokens_are_one_list.ensures.one c.args.view.now c.args.text.now c.args.bound c.in-Err.found c.eq.result (rw c.in-Err.is at c.in_ok-found.ensures.beyond) same
