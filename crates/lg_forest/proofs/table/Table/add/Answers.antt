use Rattle.std.proofs.Common.{◌≡◌, ◌++◌, ◌∷◌, [], ◌⊎◌, ◌↔◌, suc, length, Contains, true≢false, sym, ◌∙◌, subst}
use Rattle.std.specs.Map.{keys_of}
use Rattle.lg_region.specs.declared.key.Key.{Key}
use Rattle.lg_forest.specs.Entries.{IsEntered, entries_of}
use Rattle.lg_forest.proofs.Asked.{on_ok_as}
use Rattle.lg_forest.proofs.Entering.{dead_after, dead_entered, dead_key, live_after, live_entered, live_key, on_both}
use Rattle.lg_forest.proofs.table.Table.add.Goals as goal

pub add-requires-else-is_empty : goal.add-requires-else-is_empty
add-requires-else-is_empty c = λ live. c.requires.fresh (subst (λ z. Contains (keys_of z) c.args.key) c.self.view_is (live_key c.self.inside.live c.self.inside.dead c.args.key live))

pub invariant_of-self : goal.invariant_of-self
invariant_of-self c =
    dead_after c.add.result c.self.inside.live c.args.key c.self.inside.dead c.add.new.self
    (λ has. c.requires.fresh (subst (λ z. Contains (keys_of z) c.args.key) c.self.view_is has)) c.add.ensures.added c.add.ensures.unchanged c.self.invariant

pub invariant_of-self-else-is_empty : goal.invariant_of-self-else-is_empty
invariant_of-self-else-is_empty c =
    live_after c.add-else-is_empty.result c.self.inside.live c.args.key c.self.inside.dead c.args.alts c.add-else-is_empty.new.self
    (λ has. c.requires.fresh (subst (λ z. Contains (keys_of z) c.args.key) c.self.view_is has))
    (λ none. true≢false (sym (c.is_empty.ensures.1 none) ∙ c.if-is_empty.false)) c.add-else-is_empty.ensures.added c.add-else-is_empty.ensures.unchanged c.self.invariant

pub returns-then-is_empty-clause-entered : goal.returns-then-is_empty-clause-entered
returns-then-is_empty-clause-entered c =
    let live = c.self.inside.live in
    let old = c.self.inside.dead in
    let new = c.add.new.self in
    let none = c.is_empty.ensures.0 c.if-is_empty.true in
    let fresh : Contains (keys_of (entries_of live old)) c.args.key → ⊥ = λ has. c.requires.fresh (subst (λ z. Contains (keys_of z) c.args.key) c.self.view_is has) in
    on_both c.add.result ((k : Key) → Contains new k ↔ (Contains old k ⊎ (k ≡ c.args.key))) ((Contains old c.args.key → ⊥) → length new ≡ suc (length old)) (IsEntered c.args.self.now c.args.key c.args.alts (entries_of live new))
    (λ added longer. subst (λ z. IsEntered z c.args.key c.args.alts (entries_of live new)) c.self.view_is (dead_entered live c.args.key old new fresh added c.args.alts none (longer (λ dead. fresh (dead_key live old c.args.key dead)))))
    c.add.ensures.added c.add.ensures.longer

pub returns-else-is_empty-clause-entered : goal.returns-else-is_empty-clause-entered
returns-else-is_empty-clause-entered c =
    let live = c.self.inside.live in
    let new = c.add-else-is_empty.new.self in
    on_ok_as c.add-else-is_empty.result (new ≡ live ++ (c.args.key, c.args.alts) ∷ []) (IsEntered c.args.self.now c.args.key c.args.alts (entries_of new c.self.inside.dead))
    (λ grown. subst (λ z. IsEntered z c.args.key c.args.alts (entries_of new c.self.inside.dead)) c.self.view_is (live_entered live c.args.key c.self.inside.dead c.args.alts new grown))
    c.add-else-is_empty.ensures.added
