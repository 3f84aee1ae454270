-- The answers of sessions that are legal can be printed.
use Rattle.std.proofs.Common.{List, Option, All}
use Rattle.std.proofs.lemmas.List.Elements.{All-weaker}
use Rattle.lg_gram.specs.Linkages.{Linkage}
use Rattle.lg_gram.specs.declared.listing.PageItem.{PageItem}
use Rattle.lg_gram.specs.declared.listing.Token.{Token}
use Rattle.lg_gram.specs.declared.reply.Place.{Place}
use Rattle.lg_gram.specs.declared.reply.Reply.{Reply}
use Rattle.lg_dict.specs.Dictionary.{Dictionary}
use Rattle.lg_edit.specs.Edits.{puts, sets, removes}
use Rattle.lg_knowread.specs.declared.knowledge.Knowledge.{Knowledge}
use Rattle.lg_answer.specs.Pages.{IsLinkageFor}
use Rattle.lg_answer.specs.declared.options.Options.{Options}
use Rattle.lg_script.specs.Commands.{CommandView}
use Rattle.lg_script.specs.Kinds.{kind_of}
use Rattle.lg_session.specs.Legal.{Run, Holding, parse, list, AnswerIs, published, refused, version, listed, beyond, more, no_more}
use Rattle.lg_text.specs.Replies.{IsAnswerTo, IsPrintableReply}
use Rattle.lg_text.specs.Texts.{IsPrintable}
use Rattle.lg_run.specs.Documents.{listings}

-- what may be printed beside tokens by the rules of the listing, may be by those of the text
fits_text : (tokens : List Token) (g : Linkage) → IsLinkageFor tokens g → IsPrintable tokens g
fits_text tokens g h = record { same_length = h.same_length; positions = h.good.positions; good = h.good.good }

pub items_printed : (tokens : List Token) (items : List PageItem) → All (λ item. IsLinkageFor tokens item.linkage) items → All (λ item. IsPrintable tokens item.linkage) items
items_printed tokens items = All-weaker (λ (item : PageItem). IsLinkageFor tokens item.linkage) (λ item. IsPrintable tokens item.linkage) (λ item. fits_text tokens item.linkage) items

module _ (know : Knowledge) (options : Options) (scripts : List (List CommandView)) (base : Dictionary) (journal : List Place) where
  abbrev run : Run
  run = record { meaning = listings know options; scripts = scripts; base = base; journal = journal }

  -- an answer fits its command, and can be printed
  pub answer_printed : (p : Place) (held then : Option Holding) (command : CommandView) (r : Reply) → AnswerIs run p held command r then → IsAnswerTo (kind_of command) r × IsPrintableReply r
  answer_printed p _ _ _ _ (published held (puts e) n is) = (tt, tt)
  answer_printed p _ _ _ _ (published held (sets e) n is) = (tt, tt)
  answer_printed p _ _ _ _ (published held (removes word) n is) = (tt, tt)
  answer_printed p _ _ _ _ (refused held (puts e) n cause name is) = (tt, tt)
  answer_printed p _ _ _ _ (refused held (sets e) n cause name is) = (tt, tt)
  answer_printed p _ _ _ _ (refused held (removes word) n cause name is) = (tt, tt)
  answer_printed p _ _ _ _ (version held n) = (tt, tt)
  answer_printed p _ _ _ _ (listed held _ _ _ _ n tokens page stats (parse text) _ shows counts) = (tt, items_printed tokens page.items shows.printable)
  answer_printed p _ _ _ _ (listed held _ _ _ _ n tokens page stats (list first count text) _ shows counts) = (tt, items_printed tokens page.items shows.printable)
  answer_printed p _ _ _ _ (beyond held _ _ _ _ n bound (parse text) is) = (tt, tt)
  answer_printed p _ _ _ _ (beyond held _ _ _ _ n bound (list first count text) is) = (tt, tt)
  answer_printed p _ _ _ _ (more h page shows) = (tt, items_printed h.progress.tokens page.items shows.printable)
  answer_printed p _ _ _ _ no_more = (tt, tt)
