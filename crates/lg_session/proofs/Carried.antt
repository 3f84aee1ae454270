-- An answer stays right where the journal grows.
use Rattle.std.proofs.Common.{◌≡◌, ℕ, ◌-◌, ◌≤◌, List, ◌++◌, length, Option, Some, None, sym, subst, arith}
use Rattle.lg_gram.specs.declared.reply.Place.{Place}
use Rattle.lg_gram.specs.declared.reply.Reply.{Reply}
use Rattle.lg_dict.specs.Dictionary.{Dictionary}
use Rattle.lg_edit.specs.Edits.{accept}
use Rattle.lg_token.specs.Bounds.{AreListed, IsBeyond}
use Rattle.lg_script.specs.Commands.{CommandView}
use Rattle.lg_script.specs.Histories.{reply_version}
use Rattle.lg_session.specs.Engines.{start_of}
use Rattle.lg_session.specs.Legal as legal
use Rattle.lg_session.specs.Legal.{Run, Holding, AnswerIs, dictionary_at}
use Rattle.lg_session.proofs.Versions.{version_more, numbered_more}

abbrev pub grown : Run → List Place → Run
grown run more = record run { journal = run.journal ++ more }

-- what holds of a version that is there
kept : (run : Run) (more : List Place) (n : ℕ) (P : Dictionary → Type 0) → n ≤ length run.journal → P (dictionary_at run n) → P (dictionary_at (grown run more) n)
kept run more n P there holds = subst P (sym (version_more run.scripts run.base run.journal more n there)) holds

pub carried : (run : Run) (more : List Place) (p : Place) (held then : Option Holding) (command : CommandView) (reply : Reply)
    → AnswerIs run p held command reply then → reply_version reply ≤ length run.journal → AnswerIs (grown run more) p held command reply then
carried run more p held then command reply (legal.published h edit n is) there = legal.published h edit n (record {
  stands = numbered_more run.journal more n p is.stands;
  accepted = kept run more (n - 1) (λ dict. accept dict edit ≡ None) (omega arith) is.accepted;
})
carried run more p held then command reply (legal.refused h edit n cause name is) there = legal.refused h edit n cause name (record {
  refused = kept run more n (λ dict. accept dict edit ≡ Some cause) there is.refused;
  named = is.named;
})
carried run more p held then command reply (legal.version h n) there = legal.version h n
carried run more p held then command reply (legal.listed h asked text first want n tokens page stats asks tokenized shows counts) there = legal.listed h asked text first want n tokens page stats asks
    (kept run more n (λ dict. AreListed dict text tokens) there tokenized)
    (kept run more n (λ dict. run.meaning.shows dict (start_of text want tokens first) page) there shows)
    (kept run more n (λ dict. run.meaning.counts dict text stats) there counts)
carried run more p held then command reply (legal.beyond h asked text first want n bound asks passes) there = legal.beyond h asked text first want n bound asks
    (kept run more n (λ dict. IsBeyond dict text bound) there passes)
carried run more p held then command reply (legal.more h page shows) there = legal.more h page
    (kept run more h.version (λ dict. run.meaning.shows dict h.progress page) there shows)
carried run more p held then command reply legal.no_more there = legal.no_more
