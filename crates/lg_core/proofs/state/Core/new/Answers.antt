use Rattle.std.proofs.Common.{◌≡◌, ℕ, List, replicate, sym, subst, ap, ◌∙◌, arith}
use Rattle.lg_core.specs.declared.state.Actor.{Actor}
use Rattle.lg_core.specs.Core.{newcomer, IsCore}
use Rattle.lg_core.proofs.Cores.{starts}
use Rattle.lg_core.proofs.state.Core.new.Goals as goal

pub returns-clause-core : goal.returns-clause-core
returns-clause-core c = λ scripts base same.
    let all : c.loop.counter ≡ c.args.sessions = omega arith in
    let actors = c.of-2.ensures ∙ c.loop.invariant.0 ∙ ap (λ (n : ℕ). replicate n newcomer) all in
    let history = c.of.ensures ∙ c.new.ensures.items in
    subst (λ (z : List ℕ × List Actor). IsCore scripts base (record { history = z.0; actors = z.1 })) (λ i. (sym history i, sym actors i)) (starts scripts base c.args.sessions same)
