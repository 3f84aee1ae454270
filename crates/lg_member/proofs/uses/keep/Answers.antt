use Rattle.std.proofs.Common.{rules}
use Rattle.std.proofs.lemmas.Fn.{filter_same}
use Rattle.lg_member.specs.Members.{are_on}
use Rattle.lg_member.proofs.Keeping.{keeps_filter}
use Rattle.lg_member.proofs.uses.keep.Goals as goal

pub returns : goal.returns
returns c =
    keeps_filter (are_on c.args.lefts.now c.args.rights.now) c.args.members.now.items c.retain.new.self.items
    (filter_same _ (are_on c.args.lefts.now c.args.rights.now) _ (λ x b f k. search rules) _ _ c.retain.ensures.filtered)
