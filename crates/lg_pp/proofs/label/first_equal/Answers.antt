use Rattle.std.proofs.Common.{◌≡◌, length, refl, sym, ◌∙◌, ap, Some, arith}
use Rattle.std.proofs.lemmas.Option.{slice_get_read}
use Rattle.lg_gram.specs.Names.{Name}
use Rattle.lg_pp.proofs.label.first_equal.Goals as goal

same_name : (a b : Name) → a.caps ≡ b.caps → a.subs ≡ b.subs → a ≡ b
same_name a b caps subs = λ i. record { caps = caps i; subs = subs i }

pub returns-then-is_same-clause-equal : goal.returns-then-is_same-clause-equal
returns-then-is_same-clause-equal c =
    let labels = c.args.labels.now in
    let k = c.loop-k.k in
    let n = c.args.n in
    let same = c.is_same.ensures.0 c.if-is_same.true in
    let here = slice_get_read labels (length labels) k c.index-labels-k.result refl (omega arith) c.index-labels-k.is in
    let there = slice_get_read labels (length labels) n c.index-labels-n.result refl c.requires c.index-labels-n.is in
    here ∙ ap Some (same_name c.index-labels-k.result c.index-labels-n.result same.0 same.1) ∙ sym there
