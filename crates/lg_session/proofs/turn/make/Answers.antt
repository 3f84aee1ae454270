use Rattle.std.proofs.Common.{◌≡◌, ℕ, [], ◌∷◌, true, arith, ap, refl}
use Rattle.std.proofs.lemmas.Bool.Decides.{nat_tests}
use Rattle.lg_gram.specs.declared.reply.Place.{Place}
use Rattle.lg_log.specs.Codes.{has_session}
use Rattle.lg_script.specs.Commands.{script_views}
use Rattle.lg_session.proofs.Elsewhere.{fresh_by_place}
use Rattle.lg_session.proofs.turn.make.Goals as goal

has_itself : (s : ℕ) → has_session (s ∷ []) s ≡ true
has_itself s = grind (arith, nat_tests)

-- the pass carries the session alone, and the code is the session's
pub publish-requires-clause-carried : goal.publish-requires-clause-carried
publish-requires-clause-carried g c = rw (c.requires.at.alone, c.code_at-code.ensures.session) (has_itself c.args.state.session)

pub publish-requires-clause-fresh : goal.publish-requires-clause-fresh
publish-requires-clause-fresh g c =
    fresh_by_place (script_views c.args.scripts.now) c.args.state.pass.seen c.code_at-code.result c.args.state.place
    (λ seen. c.requires.at.earlier c.code_at-code.result seen c.code_at-code.ensures.session) (omega (arith, ap (λ (p : Place). p.command) c.code_at-code.ensures.at))

pub returns : goal.returns
returns g c = record {
  session = refl;
  place = refl;
  held = refl;
  code = c.code_at-code.result;
  own = c.code_at-code.ensures.session;
  at = c.code_at-code.ensures.at;
  counted_so = c.code_at-code.ensures.counted_so;
  edited = c.in_ok-reply.ensures;
}
