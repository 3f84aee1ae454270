use Rattle.std.proofs.Common.{ℕ, List, Ok, codes, inl, inr, refl, sym, subst}
use Rattle.lg_edit.specs.Edits.{removes}
use Rattle.lg_script.specs.Commands.{makes, CommandIs, del, no_del}
use Rattle.lg_script.proofs.Commanded.{nothing, something, fails}
use Rattle.lg_script.proofs.parts.del.Goals as goal
use Rattle.lg_script.proofs.parts.del.Goals.{then-is_empty-via-then-is_empty, then-is_empty-via-else-is_empty+then-not-is_word}

pub returns-then-is_empty : goal.returns-then-is_empty
returns-then-is_empty c = (
  refl,
  no_del c.args.rest.now (elim c.then-is_empty.branch [
    | then-is_empty-via-then-is_empty w ↦ inl (nothing c.args.rest.now c.is_empty.result c.is_empty.ensures w.if-is_empty.true)
    | then-is_empty-via-else-is_empty+then-not-is_word w ↦ inr (fails w.is_word.result w.is_word.ensures w.if-not-is_word.true)
  ]),
)

pub returns : goal.returns
returns c = subst (λ (s : List ℕ). CommandIs (codes "del") c.args.rest.now (Ok (makes (removes s)))) (sym c.in_ok-of.ensures)
    (del c.args.rest.now (something c.args.rest.now c.is_empty.result c.is_empty.ensures c.if-is_empty.false) (c.is_word.ensures.0 c.if-not-is_word.false))
