use Rattle.std.proofs.Common.{◌↔◌, ◌∙◌, Contains, sym, subst}
use Rattle.lg_region.specs.Fronts.{AreOnce}
use Rattle.lg_region.specs.Keys.{IsAltOf}
use Rattle.lg_region.specs.declared.alternative.Alt.{Alt}
use Rattle.lg_region.proofs.Once.{if_ok}
use Rattle.lg_region.proofs.SmallFits.{alt_small}
use Rattle.lg_region.proofs.expand.expand_key.Goals as goal

pub of-requires : goal.of-requires
of-requires g c = λ a h.
    alt_small c.args.lists.now.positions c.args.lists.now.lists c.args.key a c.keep_limits.ensures c.are_numbered.ensures c.requires.key
    ((c.in_ok-items.ensures.each a).0 (subst (λ z. Contains z a) c.deref.ensures.value h))

pub returns-clause-exactly : goal.returns-clause-exactly
returns-clause-exactly g c =
    if_ok c.of.result c.of.ensures
    (λ alts e. subst (λ z. (a : Alt) → Contains z a ↔ IsAltOf c.args.lists.now.positions c.args.lists.now.lists c.args.key a) (sym (e ∙ c.deref.ensures.value)) c.in_ok-items.ensures.each)

pub returns-clause-once : goal.returns-clause-once
returns-clause-once g c =
    if_ok c.of.result c.of.ensures (λ alts e. subst (λ z. AreOnce {A = Alt} z) (sym (e ∙ c.deref.ensures.value)) c.in_ok-items.ensures.once)
