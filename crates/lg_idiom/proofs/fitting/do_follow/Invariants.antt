use Rattle.std.proofs.Common.{◌≡◌, drop}
use Rattle.lg_idiom.specs.Steps.{do_follow}
use Rattle.lg_idiom.proofs.fitting.do_follow.Given as goal

-- whether what is left follows tells whether all do
abbrev pub invariant-loop-part : goal.invariant-loop-part
invariant-loop-part l = do_follow (drop l.part-index l.parts) l.rest ≡ do_follow l.parts l.tokens
