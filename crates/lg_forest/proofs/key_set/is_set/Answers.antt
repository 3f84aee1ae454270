use Rattle.std.proofs.Common.{eq-eqb, eqb-true, sym, ◌∙◌}
use Rattle.std.proofs.lemmas.Nat.Bits.{shr_and_one}
use Rattle.lg_forest.proofs.key_set.is_set.Goals as goal

pub returns : goal.returns
returns c = (λ t. sym (shr_and_one c.args.bits c.args.place) ∙ eqb-true _ 1 t, λ one. eq-eqb _ 1 (shr_and_one c.args.bits c.args.place ∙ one))
