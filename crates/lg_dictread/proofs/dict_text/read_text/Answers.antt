use Rattle.std.proofs.Common.{map, List, Option, refl, rules, sym, ap, subst, ◌∙◌, arith}
use Rattle.lg_gram.specs.declared.entry.Entry.{Entry}
use Rattle.std.proofs.lemmas.Result.{err_from_is_err_and}
use Rattle.lg_base.specs.Contents.{Contents}
use Rattle.lg_lex.specs.declared.marks.Marks.TheVariants.{Dictionary}
use Rattle.lg_lex.specs.declared.run.Separators.TheVariants.{WhiteSpace}
use Rattle.lg_lex.specs.Found.{lexeme_of, following}
use Rattle.lg_lex.specs.Lexing.{tokens_from}
use Rattle.lg_dictread.specs.Telling.{Answers, AsksFront, ErrorTells}
use Rattle.lg_dictread.specs.Texts.{Earlier, Meaning, then_entry, means, fails}
use Rattle.lg_dictread.specs.DictTexts.{entry_meaning}
use Rattle.lg_dictread.specs.Reading.{earlier_of, NextIs}
use Rattle.lg_dictread.proofs.ItemAnswers.{Laws}
use Rattle.lg_dictread.proofs.Listing.{entries_fit}
use Rattle.lg_dictread.proofs.TextAnswers.{EntryLaws}
use Rattle.lg_dictread.proofs.TextsTold.{Leads, leads_start, leads_end, leads_more, leads_error, none_left, some_left}
use Rattle.lg_dictread.proofs.Unread.{cause_since}
use Rattle.lg_dictread.proofs.dict_text.read_text.Goals as goal

pub loop-alloc-init : goal.loop-alloc-init
loop-alloc-init g c = record {
  spot = search rules;
  utf8 = search rules;
  kept = search rules;
  listed = search rules;
  unchanged = refl;
  later = omega arith;
  leads = leads_start (g.F.Files.contents c.args.files.now) c.args.text.now (g.F.Files.asked c.args.files.now) (tokens_from Dictionary c.args.text.now 0) (earlier_of c.new-earlier.result) (map entry_meaning c.new-earlier.result.entries.items) _
      c.new-earlier.ensures.earlier (ap (λ (es : List Entry). map entry_meaning es) c.new-earlier.ensures.entries) refl;
}

-- one entry more
pub loop-alloc-preserved : goal.loop-alloc-preserved
loop-alloc-preserved g c =
    let text = c.args.text.now in
    let known = g.F.Files.contents c.args.files.now in
    let asked = g.F.Files.asked c.args.files.now in
    let all = tokens_from Dictionary text 0 in
    let now = g.F.Files.asked c.loop-alloc.files in
    let next = g.F.Files.asked c.read_next.new.files in
    let old = c.loop-alloc.earlier in
    let new = c.read_next.new.earlier in
    let ts = tokens_from Dictionary text c.loop-alloc.spot.at in
    let rest = tokens_from Dictionary text c.in_ok-spot.spot.at in
    let some = some_left c.next_spotted.result ts (λ f. (lexeme_of f.token, f.start.at)) (λ f. following f.token (tokens_from Dictionary text f.end.at)) c.loop-alloc-test.ensures c.next_spotted.ensures.next in
    let told = c.in_ok-spot.ensures.told in
    let answers = subst (λ (k : Option Contents). Answers k (NextIs text (earlier_of old) ts) now next (means told.0 told.1 rest)) c.loop-alloc.invariant.unchanged told.3 in
    let leads = leads_more known text asked all now (earlier_of old) (map entry_meaning old.entries.items) ts some c.loop-alloc.invariant.leads next told.0 told.1 rest answers in
    record {
      spot = c.in_ok-spot.ensures.spot;
      utf8 = c.in_ok-spot.ensures.utf8;
      kept = c.in_ok-spot.ensures.kept;
      listed = c.in_ok-spot.ensures.listed;
      unchanged = c.in_ok-spot.ensures.unchanged ∙ c.loop-alloc.invariant.unchanged;
      later = omega (arith, c.in_ok-spot.ensures.cause.later, c.loop-alloc.invariant.later);
      leads = subst (λ (e : Earlier). Leads known text asked all next e (map entry_meaning new.entries.items) rest) (sym told.2.earlier)
          (subst (λ (ms : List Meaning). Leads known text asked all next (then_entry (earlier_of old) told.1 told.0) ms rest) (sym told.2.entries) leads);
    }

pub returns-clause-fit : goal.returns-clause-fit
returns-clause-fit g c = entries_fit c.loop-alloc.earlier c.loop-alloc.invariant.kept c.loop-alloc.invariant.listed

-- no token is left
pub returns-clause-value : goal.returns-clause-value
returns-clause-value g c =
    let text = c.args.text.now in
    let ts = tokens_from Dictionary text c.loop-alloc.spot.at in
    let none = none_left c.next_spotted.result ts (λ f. (lexeme_of f.token, f.start.at)) (λ f. following f.token (tokens_from Dictionary text f.end.at)) c.loop-alloc-test.ensures c.next_spotted.ensures.next in
    leads_end (g.F.Files.contents c.args.files.now) text (g.F.Files.asked c.args.files.now) (tokens_from Dictionary text 0) (g.F.Files.asked c.loop-alloc.files) (earlier_of c.loop-alloc.earlier)
    (map entry_meaning c.loop-alloc.earlier.entries.items) ts none c.loop-alloc.invariant.leads

-- the error of an entry is that of the text
pub returns-in_err-spot-clause-fault : goal.returns-in_err-spot-clause-fault
returns-in_err-spot-clause-fault g c =
    let p = err_from_is_err_and c.from_residual.result c.from_residual.ensures.1 in
    let text = c.args.text.now in
    let now = g.F.Files.asked c.loop-alloc.files in
    let next = g.F.Files.asked c.read_next.new.files in
    let earlier = earlier_of c.loop-alloc.earlier in
    let ts = tokens_from Dictionary text c.loop-alloc.spot.at in
    let some = some_left c.next_spotted.result ts (λ f. (lexeme_of f.token, f.start.at)) (λ f. following f.token (tokens_from Dictionary text f.end.at)) c.loop-alloc-test.ensures c.next_spotted.ensures.next in
    let error = c.in_err-spot.field-0.0 in
    let told = subst (λ (k : Option Contents). ErrorTells (AsksFront k (NextIs text earlier ts) now next) k (NextIs text earlier ts) fails now next error) c.loop-alloc.invariant.unchanged c.in_err-spot.ensures.told in
    let laws : Laws = record {
      cut = c.runs_are_one_list.ensures.cut WhiteSpace 0;
      one_cut = λ rs bytes. c.runs_are_one_list.ensures.one WhiteSpace rs 0 bytes;
      utf8_or_fault = c.bytes_are_utf8_or_at_fault.ensures.some;
      one_fault = c.bytes_are_utf8_or_at_fault.ensures.one;
      fault_apart = c.bytes_are_utf8_or_at_fault.ensures.apart;
    } in
    let entry_laws : EntryLaws = record { some = c.exactly_one_entry.ensures.some; one = c.exactly_one_entry.ensures.one } in
    rw (p.1, p.2) (leads_error (g.F.Files.contents c.args.files.now) text (g.F.Files.asked c.args.files.now) (tokens_from Dictionary text 0) now earlier (map entry_meaning c.loop-alloc.earlier.entries.items) ts some c.loop-alloc.invariant.leads laws entry_laws next error told)

pub returns-in_err-spot-clause-cause : goal.returns-in_err-spot-clause-cause
returns-in_err-spot-clause-cause g c =
    let p = err_from_is_err_and c.from_residual.result c.from_residual.ensures.1 in
    let cause = c.in_err-spot.ensures.cause in
    rw (p.1, p.2) (record {
      later = omega (arith, cause.later, c.loop-alloc.invariant.later);
      error = cause_since (g.F.Files.faults c.args.files.now) (g.F.Files.faults c.loop-alloc.files) (g.F.Files.faults c.read_next.new.files) (g.F.Files.asked c.read_next.new.files) c.in_err-spot.field-0.0 c.loop-alloc.invariant.later cause.error;
    })
