use Rattle.std.proofs.Common.{◌≡◌, ◌==◌, filter, take}
use Rattle.lg_gram.specs.declared.reply.Place.{Place}
use Rattle.lg_audit.proofs.published.of_session.Given as goal

-- those of the places so far
abbrev pub invariant-loop-place : goal.invariant-loop-place
invariant-loop-place l = l.places.items ≡ filter (λ (p : Place). p.session == l.session) (take l.place-index l.journal)
