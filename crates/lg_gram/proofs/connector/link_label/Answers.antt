use Rattle.std.proofs.Common.{◌≡◌, take, Some, sym, subst, refl, ap, ◌∙◌}
use Rattle.std.specs.Prelude.{IsSome}
use Rattle.std.proofs.lemmas.Bool.{false≢true}
use Rattle.lg_gram.specs.Connectors.{label_of, merged, name_of}
use Rattle.lg_gram.proofs.Merged.{label_given, label_itself}
use Rattle.lg_gram.proofs.Same.{name_Decides}
use Rattle.lg_gram.proofs.connector.link_label.Goals as goal

-- connectors of one name have it as label, a joint's name too
pub returns-then-eq : goal.returns-then-eq
returns-then-eq c =
    let first : c.a.inside.name ≡ name_of c.args.a.now = ap name_of c.a.view_is in
    let second : c.b.inside.name ≡ name_of c.args.b.now = ap name_of c.b.view_is in
    let same = (name_Decides c.a.inside.name c.b.inside.name).0 (sym c.eq.ensures ∙ c.if-eq.true) in
    first ∙ label_itself c.args.a.now c.args.b.now c.subs-first.ensures.named (sym first ∙ same ∙ second)

pub unwrap-requires : goal.unwrap-requires
unwrap-requires c =
    let first : c.a.inside.name ≡ name_of c.args.a.now = ap name_of c.a.view_is in
    let second : c.b.inside.name ≡ name_of c.args.b.now = ap name_of c.b.view_is in
    let other : name_of c.args.a.now ≡ name_of c.args.b.now → ⊥ = λ e. false≢true (sym c.if-eq.false ∙ c.eq.ensures ∙ (name_Decides c.a.inside.name c.b.inside.name).1 (first ∙ e ∙ sym second)) in
    let letters : take c.max.result c.merged-letters.result ≡ merged c.args.a.now.subs c.args.b.now.subs = cc in
    let given : c.of.result ≡ Some (label_of c.args.a.now c.args.b.now) =
    label_given c.args.a.now c.args.b.now c.subs-first.ensures.named c.subs-second.ensures.named c.requires.capitals other c.caps.result.now _ c.caps.ensures.value letters c.of.result c.of.ensures in
    subst IsSome (sym given) refl
