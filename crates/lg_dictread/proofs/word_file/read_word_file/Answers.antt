use Rattle.std.proofs.Common.{◌∷◌, [], ◌++◌, ℕ, List, refl, subst, ap, ◌∙◌}
use Rattle.std.specs.Str.{IsValidUpTo}
use Rattle.lg_dictread.specs.declared.dict_error.WordFileError.TheVariants.{Failed, TooLong, NotUtf8}
use Rattle.lg_dictread.specs.Definitions.{missing, long, at_fault}
use Rattle.lg_dictread.specs.Findings.{not_read, too_long, has_bytes}
use Rattle.lg_dictread.proofs.Unread.{unread_told, unread_cause, long_known, bytes_known}
use Rattle.lg_dictread.proofs.word_file.read_word_file.Goals as goal

pub returns-in-Some-clause-told : goal.returns-in-Some-clause-told
returns-in-Some-clause-told g c =
    let known = g.F.Files.contents c.args.files.now in
    let bytes = c.in-Ok-read_all.bytes.items in
    let wrong : IsValidUpTo bytes c.in-Some.byte = subst (λ (l : List ℕ). IsValidUpTo l c.in-Some.byte) c.deref.ensures.value c.in-Some.ensures.fault in
    unread_told known c.args.line c.args.name.now (NotUtf8 c.in-Some.byte) (has_bytes bytes) c.unread.result (at_fault bytes c.in-Some.byte wrong)
    (bytes_known known c.args.name.now c.in-Ok.path.now bytes c.in-Ok.ensures.cases.0 c.in-Ok-read_all.ensures.told) c.unread.ensures

pub returns-in-Some-clause-cause : goal.returns-in-Some-clause-cause
returns-in-Some-clause-cause g c = record {
  later = c.read_all.ensures.cause.later;
  error = unread_cause (g.F.Files.faults c.args.files.now) (g.F.Files.faults c.read_all.new.self) c.args.line (g.F.Files.asked c.args.files.now) (g.F.Files.asked c.read_all.new.self) c.args.name.now (NotUtf8 c.in-Some.byte) c.unread.result
      (c.in-Ok-read_all.ensures.asked ∙ ap (λ (name : List ℕ). g.F.Files.asked c.args.files.now ++ name ∷ []) c.in-Ok.ensures.cases.0) (λ q. cc) c.unread.ensures;
}

pub returns-in-Err-TooLong-clause-told : goal.returns-in-Err-TooLong-clause-told
returns-in-Err-TooLong-clause-told g c =
    let known = g.F.Files.contents c.args.files.now in
    unread_told known c.args.line c.args.name.now TooLong too_long c.unread-in-Err-TooLong.result long
    (long_known known c.args.name.now c.in-Ok.path.now c.in-Ok.ensures.cases.0 (rw c.in-Err-TooLong.field-0-is at c.in-Err-TooLong.ensures.told)) c.unread-in-Err-TooLong.ensures

pub returns-in-Err-Failed-clause-told : goal.returns-in-Err-Failed-clause-told
returns-in-Err-Failed-clause-told g c =
    unread_told (g.F.Files.contents c.args.files.now) c.args.line c.args.name.now Failed not_read c.unread-in-Err-Failed.result missing refl c.unread-in-Err-Failed.ensures
