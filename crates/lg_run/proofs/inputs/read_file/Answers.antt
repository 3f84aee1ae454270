use Rattle.std.proofs.Common.{◌∷◌, []}
use Rattle.std.proofs.lemmas.Option.{IfSome_then}
use Rattle.lg_run.specs.Inputs.{whole}
use Rattle.lg_run.proofs.Readings.{known_all}
use Rattle.lg_run.proofs.Dictionaries.{asks_file, long_file}
use Rattle.lg_run.proofs.About.{first_name}
use Rattle.lg_run.proofs.inputs.read_file.Goals as goal

-- the file was asked for
pub returns-in-Ok-clause-names : goal.returns-in-Ok-clause-names
returns-in-Ok-clause-names g c = known_all (g.F.Files.contents c.args.files.now) _ (λ known. asks_file known c.args.name.now (g.F.Files.asked c.args.files.now) (g.F.Files.asked c.read_all.new.self) c.in-Ok.ensures.asked)

pub returns-in-Ok-clause-told : goal.returns-in-Ok-clause-told
returns-in-Ok-clause-told g c = IfSome_then (g.F.Files.contents c.args.files.now) c.in-Ok.ensures.told (λ known is. record { names = c.args.name.now ∷ []; read = whole c.in-Ok.bytes.items is.0 is.1; grown = c.in-Ok.ensures.asked })

pub returns-in-Err-Failed-clause-names : goal.returns-in-Err-Failed-clause-names
returns-in-Err-Failed-clause-names g c = known_all (g.F.Files.contents c.args.files.now) _
    (λ known. asks_file known c.args.name.now (g.F.Files.asked c.args.files.now) (g.F.Files.asked c.read_all.new.self) (rw c.in-Err-Failed.field-0-is at c.in-Err-Failed.ensures.asked))

pub returns-in-Err-TooLong-clause-names : goal.returns-in-Err-TooLong-clause-names
returns-in-Err-TooLong-clause-names g c = known_all (g.F.Files.contents c.args.files.now) _
    (λ known. asks_file known c.args.name.now (g.F.Files.asked c.args.files.now) (g.F.Files.asked c.read_all.new.self) (rw c.in-Err-TooLong.field-0-is at c.in-Err-TooLong.ensures.asked))

-- the file is there, and too long
pub returns-in-Err-TooLong-clause-told : goal.returns-in-Err-TooLong-clause-told
returns-in-Err-TooLong-clause-told g c =
    IfSome_then (g.F.Files.contents c.args.files.now) (rw c.in-Err-TooLong.field-0-is at c.in-Err-TooLong.ensures.told)
    (λ known is. long_file known c.args.name.now (g.F.Files.asked c.args.files.now) (g.F.Files.asked c.read_all.new.self) (rw c.in-Err-TooLong.field-0-is at c.in-Err-TooLong.ensures.asked) is)

pub returns-in-Err-TooLong-clause-about : goal.returns-in-Err-TooLong-clause-about
returns-in-Err-TooLong-clause-about g c = first_name c.args.name.now []

-- one name, or none where memory ran out
pub returns-in-Ok-clause-asks : goal.returns-in-Ok-clause-asks
returns-in-Ok-clause-asks g c = record { names = c.args.name.now ∷ []; grown = c.in-Ok.ensures.asked }

pub returns-in-Err-Failed-clause-asks : goal.returns-in-Err-Failed-clause-asks
returns-in-Err-Failed-clause-asks g c = record { names = c.args.name.now ∷ []; grown = rw c.in-Err-Failed.field-0-is at c.in-Err-Failed.ensures.asked }

pub returns-in-Err-TooLong-clause-asks : goal.returns-in-Err-TooLong-clause-asks
returns-in-Err-TooLong-clause-asks g c = record { names = c.args.name.now ∷ []; grown = rw c.in-Err-TooLong.field-0-is at c.in-Err-TooLong.ensures.asked }
