use Rattle.std.proofs.Common.{◌≡◌, ◌+◌, length, subst, Contains, MatchOption}
use Rattle.std.specs.Map.{keys_of}
use Rattle.lg_forest.proofs.Tables.{taken, left_in}
use Rattle.lg_forest.proofs.known.Known.take.Goals as goal

pub returns-clause-taken : goal.returns-clause-taken
returns-clause-taken c =
    let left = c.swap_remove.new.self in
    subst (λ z. MatchOption c.swap_remove.result ((Contains (keys_of z) c.args.key.now → ⊥) × (length left.entries ≡ length z)) (λ alts. Contains z (c.args.key.now, alts) × (length left.entries + 1 ≡ length z))) c.self.view_is
    (taken c.self.inside.found left c.args.key.now c.swap_remove.result c.swap_remove.ensures.value c.swap_remove.ensures.len)

pub returns-clause-left : goal.returns-clause-left
returns-clause-left c = λ k alts has. subst (λ z. Contains z (k, alts)) c.self.view_is (left_in c.self.inside.found c.swap_remove.new.self c.args.key.now c.swap_remove.ensures.unique c.swap_remove.ensures.updates.0 k alts has)
