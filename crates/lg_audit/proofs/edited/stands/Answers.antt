use Rattle.std.proofs.Common.{◌-◌, get_or}
use Rattle.std.proofs.lemmas.Bool.Decides.{Decides-at}
use Rattle.lg_gram.specs.declared.reply.Place.{Place}
use Rattle.lg_audit.proofs.Sharing.{place_Decides}
use Rattle.lg_audit.proofs.Tested.{stands_is}
use Rattle.lg_audit.proofs.edited.stands.Goals as goal

pub returns : goal.returns
returns c =
    let zero : Place = record { session = 0; command = 0 } in
    stands_is c.args.journal.now c.args.version c.args.place zero c.eq.result c.requires.least c.requires.there
    (Decides-at _ _ c.eq.ensures (place_Decides (get_or c.args.journal.now (c.args.version - 1) zero) c.args.place))
