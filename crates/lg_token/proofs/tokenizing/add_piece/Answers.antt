use Rattle.std.proofs.Common.{refl}
use Rattle.lg_token.proofs.Adding.{piece_stands}
use Rattle.lg_token.proofs.tokenizing.add_piece.Goals as goal

pub returns : goal.returns
returns c = piece_stands c.args.initial c.args.places.now.items c.push.new.self.items _ refl refl c.in_ok-push.ensures.items
