use Rattle.std.proofs.Common.{◌≡◌, ◌⊎◌, Contains, sym, subst}
use Rattle.lg_forest.specs.Slots.{pairs_in}
use Rattle.lg_forest.proofs.Slotting.{kept_at, put_at, same_keys, same_nexts, taken_at, there_at}
use Rattle.lg_forest.proofs.slots.replace_at.Goals as goal

pub returns-clause-keys : goal.returns-clause-keys
returns-clause-keys g c = same_keys c.args.slots.now.items c.args.at c.index_mut.result.now c.replace.new.dest c.index_mut.ensures.value

pub returns-clause-nexts : goal.returns-clause-nexts
returns-clause-nexts g c = same_nexts c.args.slots.now.items c.args.at c.index_mut.result.now c.replace.new.dest c.index_mut.ensures.value

pub returns-clause-taken : goal.returns-clause-taken
returns-clause-taken g c = λ key is. subst (λ z. Contains (pairs_in c.args.slots.now.items) (key, z)) (sym c.replace.ensures.value) (taken_at c.args.slots.now.items c.args.at c.index_mut.result.now c.args.value c.index_mut.ensures.value key is)

pub returns-clause-put : goal.returns-clause-put
returns-clause-put g c = λ key k v is has. subst (λ z. Contains (pairs_in c.args.slots.now.items) (k, v) ⊎ ((k ≡ key) × (v ≡ z))) c.replace.ensures.after
    (put_at c.args.slots.now.items c.args.at c.index_mut.result.now c.replace.new.dest c.index_mut.ensures.value key k v is has)

pub returns-clause-there : goal.returns-clause-there
returns-clause-there g c = λ key is. there_at c.args.slots.now.items c.args.at c.index_mut.result.now c.replace.new.dest c.index_mut.ensures.value key c.args.value c.replace.ensures.after is

pub returns-clause-kept : goal.returns-clause-kept
returns-clause-kept g c = λ key k v is other has. kept_at c.args.slots.now.items c.args.at c.index_mut.result.now c.replace.new.dest c.index_mut.ensures.value key k v is other has
