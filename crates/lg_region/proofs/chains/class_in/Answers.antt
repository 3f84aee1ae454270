use Rattle.std.proofs.Common.{◌≡◌, ◌-◌, ◌<◌, false, length, get_or, sym, subst, arith}
use Rattle.std.proofs.lemmas.Option.{slice_get-get_or}
use Rattle.lg_region.specs.Chains.{class_of}
use Rattle.lg_region.specs.Fronts.{list_of}
use Rattle.lg_region.specs.declared.ways.End.{End}
use Rattle.lg_region.proofs.Keeping.{pred_of}
use Rattle.lg_region.proofs.chains.class_in.Goals as goal

abbrev no_end : End
no_end = record { id = 0; place = 0; shorter = 0; kind = 0; class = 0; is_multi = false }

pub returns : goal.returns
returns c = λ lists kinds are.
    let ends = c.args.ends.now in
    let id = c.args.id in
    let some = c.if-id-eq0.false in
    let known = c.requires in
    let l : id - 1 < length ends = omega arith in
    let e = get_or ends (id - 1) no_end in
    let is = (are.each (id - 1) e (slice_get-get_or ends (id - 1) no_end l)).class_is in
    subst (λ z. e.class ≡ class_of (list_of lists z)) (sym (pred_of id some)) is
