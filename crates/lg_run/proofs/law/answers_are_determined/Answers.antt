use Rattle.std.proofs.Common.{◌≡◌, ℕ, List, map, Some, refl, ap, sym, ◌∙◌, map-id}
use Rattle.lg_gram.specs.declared.listing.Token.{Token}
use Rattle.lg_gram.specs.declared.reply.Reply.{Reply}
use Rattle.lg_gram.specs.declared.reply.Reply.TheVariants.{Listed}
use Rattle.lg_dict.specs.Dictionary.{Dictionary}
use Rattle.lg_token.specs.Tokens.{AreTokens}
use Rattle.lg_idiom.specs.Overlays.{TakenAreOne}
use Rattle.lg_session.specs.Legal.{Run}
use Rattle.lg_run.specs.Documents.{listings}
use Rattle.lg_run.specs.Determined.{without_stats, AnswersAreDetermined}
use Rattle.lg_run.proofs.DocumentsTell.{documents_tell_answers}
use Rattle.lg_run.proofs.Determined.{determined}
use Rattle.lg_run.proofs.OnePage.{one_page, one_count}
use Rattle.lg_run.proofs.law.answers_are_determined.Goals as goal

all_the_same : (replies : List (List Reply)) → map (λ (rs : List Reply). map (λ (r : Reply). r) rs) replies ≡ replies
all_the_same replies = ap (λ (f : List Reply → List Reply). map f replies) (λ i rs. map-id rs i) ∙ map-id replies

answers : (one_taken : TakenAreOne) (one_tokens : (dict : Dictionary) (text : List ℕ) (ts us : List Token) → AreTokens dict text ts → AreTokens dict text us → ts ≡ us) → AnswersAreDetermined
answers one_taken one_tokens know options scripts base journal replies others a b e =
    let run : Run = record { meaning = listings know options; scripts = scripts; base = base; journal = journal } in (
      determined run without_stats one_tokens (one_page one_taken know options one_tokens) (λ dict text n ts page s t p q. refl) replies others a b e,
      λ counted.
          sym (all_the_same replies)
          ∙ determined run (λ r. r) one_tokens (one_page one_taken know options one_tokens) (λ dict text n ts page s t p q i. Listed n ts page (Some (one_count one_taken know options one_tokens dict text s t counted p q i))) replies others a b e
          ∙ all_the_same others,
    )

pub returns : goal.returns
returns c =
    let determined_by = answers c.taken_are_one.ensures c.tokens_are_one_list.ensures.one in
    record { answers = determined_by; documents = documents_tell_answers determined_by c.documents_show.ensures.inputs }
