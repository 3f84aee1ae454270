use Rattle.std.proofs.Common.{◌≡◌, ◌≤◌, ◌∙◌, ◌∷◌, [], Some, ap, sym, subst, cond}
use Rattle.lg_gram.specs.Measures.{choices_of, single}
use Rattle.lg_reach.specs.Ends.{EndsSo, HasSite, alone}
use Rattle.lg_reach.specs.Walks.{Walks}
use Rattle.lg_reach.proofs.Joining.{least_on}
use Rattle.lg_reach.proofs.Walking.{walks_link, walks_none}
use Rattle.lg_reach.proofs.walk.reach_leaf.Goals as goal

pub returns-in_default : goal.returns-in_default
returns-in_default c =
    let start = c.args.start in
    let connector = c.args.connector.now in
    let i = c.args.stand.now.position in
    let from : c.on-next.result ≡ least_on connector.right start = c.on-next.ensures ∙ ap (λ b. cond b start.right start.left) c.is_right.ensures in
    walks_none c.args.sites.now c.args.stand.now start connector
    (λ g suits n ends long. c.in_default.ensures g suits n (subst (λ m. EndsSo g i m.first connector n) (sym from) ends) (subst (λ m. m.least ≤ n) (sym from) long))

pub returns : goal.returns
returns c =
    let start = c.args.start in
    let connector = c.args.connector.now in
    let i = c.args.stand.now.position in
    let from : c.on-next.result ≡ least_on connector.right start = c.on-next.ensures ∙ ap (λ b. cond b start.right start.left) c.is_right.ensures in
    subst (λ t. Walks c.args.sites.now c.add.new.self c.args.stand.now start (single connector ∷ []) (Some (choices_of t, c.after.result))) (sym c.leaf.ensures)
    (walks_link c.args.sites.now c.add.new.self c.args.stand.now start c.after.result connector c.in-Some.length c.in_ok-add.ensures.keeps
    (subst (HasSite c.add.new.self i connector c.in-Some.length) (c.is_alone-lone.ensures ∙ ap (λ m. alone m.first connector) from) c.in_ok-add.ensures.added)
    (λ g suits n ends long. c.in-Some.ensures g suits n (subst (λ m. EndsSo g i m.first connector n) (sym from) ends) (subst (λ m. m.least ≤ n) (sym from) long)) c.after.ensures)
