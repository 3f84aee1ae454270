-- The letters that a name keeps.
use Rattle.std.proofs.Common.{◌≡◌, ◌+◌, ◌-◌, take, ◌++◌, sym, ap, ◌∙◌, arith}
use Rattle.std.proofs.Math.Seq.{take-add}
use Rattle.lg_gram.specs.Stored.{IsStored, named}
use Rattle.lg_gram.specs.declared.label.Label.TheInside.{Inside}

pub stored_text : (a : Inside) → IsStored a → take a.len a.letters ≡ (named a).caps ++ (named a).subs
stored_text a h =
    let sum : a.caps_len + (a.len - a.caps_len) ≡ a.len = omega (arith, h.ordered) in
    ap (λ k. take k a.letters) (sym sum) ∙ take-add a.caps_len (a.len - a.caps_len) a.letters
