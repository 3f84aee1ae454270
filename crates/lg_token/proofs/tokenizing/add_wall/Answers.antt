use Rattle.std.proofs.Common.{true≢false, refl, sym}
use Rattle.lg_token.proofs.Adding.{wall_absent, wall_stands}
use Rattle.lg_token.proofs.tokenizing.add_wall.Goals as goal

pub returns-then-not-has : goal.returns-then-not-has
returns-then-not-has c = wall_absent c.args.view.now c.args.name.now c.args.at c.args.places.now.items (λ h. true≢false (sym (c.if-not-has.ensures.1 h)))

pub returns : goal.returns
returns c = wall_stands c.args.view.now c.args.places.now.items c.push.new.self.items _ (c.if-not-has.ensures.0 refl) refl refl c.in_ok-push.ensures.items
