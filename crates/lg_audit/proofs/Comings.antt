-- What it means that an answer holds.
use Rattle.std.proofs.Common.{◌≡◌, ℕ, zero, suc, ◌≤◌, List, [], ◌++◌, Option, Some, None, refl, ap, sym, subst, ◌∙◌, arith}
use Rattle.std.proofs.lemmas.Option.{none-some}
use Rattle.lg_gram.specs.Linkages.{Linkage}
use Rattle.lg_gram.specs.declared.listing.Bound.{Bound}
use Rattle.lg_gram.specs.declared.reply.Place.{Place}
use Rattle.lg_edit.specs.Edits.{EditView}
use Rattle.lg_token.specs.Bounds.{IsBeyond}
use Rattle.lg_script.specs.Bounds.{IsSentence}
use Rattle.lg_script.specs.Commands.{CommandView, parses, lists, goes_on, makes, asks}
use Rattle.lg_script.specs.Histories.{numbered}
use Rattle.lg_audit.specs.Lines.{ShownPage, ShownReply, listed, beyond, published, refused, at, nothing_held}
use Rattle.lg_audit.specs.Replies.{Basis, Held, AsksFor, parse, list, GoesOn, IsPageOf, ReplyHolds, edited, not_edited, tells, lists_page, past_bound, more, no_more, dictionary_at, outline}
use Rattle.lg_audit.specs.Tests.{EditHolds}
use Rattle.lg_audit.specs.Walks.{IsKept, Follows, ComesTo}
use Rattle.lg_audit.specs.declared.listed.Going.{Going}
use Rattle.lg_audit.specs.declared.verdict.Verdict.TheVariants.{Wrong, Right}
use Rattle.lg_audit.proofs.InTime.{MakesSome}

-- what is held once a page is shown
abbrev pub first_held : ℕ → List ℕ → ShownPage → List Linkage → Held
first_held version text page shown = record { version = version; text = text; next = page.last.next; shown = shown }

abbrev pub next_held : Held → ShownPage → List Linkage → Held
next_held h page shown = record h { next = page.last.next; shown = h.shown ++ shown }

-- ---- by the command and the answer

pub record ListsPage (basis : Basis) (text : List ℕ) (first version : ℕ) (page : ShownPage) (then : Option Held) : Type 0 where
  pub shown : List Linkage
  pub page_is : IsPageOf basis.know (dictionary_at basis version) text first [] shown page
  pub then_is : then ≡ Some (first_held version text page shown)

pub record GoesOnBy (basis : Basis) (h : Held) (version : ℕ) (stats : Option (List ℕ)) (page : ShownPage) (then : Option Held) : Type 0 where
  pub version_is : version ≡ h.version
  pub stats_is : stats ≡ None
  pub stays : GoesOn h.next page
  pub shown : List Linkage
  pub page_is : IsPageOf basis.know (dictionary_at basis h.version) h.text h.next h.shown shown page
  pub then_is : then ≡ Some (next_held h page shown)

abbrev pub Lists : Basis → List ℕ → ℕ → ShownReply → Option Held → Type 0
Lists basis text first (listed version stats page) then = ListsPage basis text first version page then
Lists basis text first (beyond version bound) then = IsBeyond (dictionary_at basis version) text bound × (then ≡ None)
Lists basis text first _ then = ⊥

abbrev pub GoesOnSo : Basis → Option Held → ShownReply → Option Held → Type 0
GoesOnSo basis (Some h) (listed version stats page) then = GoesOnBy basis h version stats page then
GoesOnSo basis None nothing_held then = then ≡ None
GoesOnSo basis _ _ then = ⊥

abbrev pub Asked : Option Held → ShownReply → Option Held → Type 0
Asked held (at version) then = then ≡ held
Asked held _ then = ⊥

abbrev pub Means : Basis → Place → Option Held → CommandView → ShownReply → Option Held → Type 0
Means basis p held (parses text) r then = Lists basis text 1 r then
Means basis p held (lists from want text) r then = Lists basis text from r then
Means basis p held goes_on r then = GoesOnSo basis held r then
Means basis p held (makes edit) r then = EditHolds basis p edit r × (then ≡ held)
Means basis p held asks r then = Asked held r then

page_means : (basis : Basis) (p : Place) (held : Option Held) (command : CommandView) (text : List ℕ) (first version : ℕ) (stats : Option (List ℕ)) (page : ShownPage) (shown : List Linkage)
    → AsksFor command text first → IsPageOf basis.know (dictionary_at basis version) text first [] shown page
    → Means basis p held command (listed version stats page) (Some (first_held version text page shown))
page_means basis p held _ _ _ version stats page shown (parse text) is = record { shown = shown; page_is = is; then_is = refl }
page_means basis p held _ _ _ version stats page shown (list first want text) is = record { shown = shown; page_is = is; then_is = refl }

bound_means : (basis : Basis) (p : Place) (held : Option Held) (command : CommandView) (text : List ℕ) (first version : ℕ) (bound : Bound) → AsksFor command text first
    → IsBeyond (dictionary_at basis version) text bound → Means basis p held command (beyond version bound) None
bound_means basis p held _ _ _ version bound (parse text) is = (is, refl)
bound_means basis p held _ _ _ version bound (list first want text) is = (is, refl)

pub means : (basis : Basis) (p : Place) (held : Option Held) (command : CommandView) (r : ShownReply) (then : Option Held) → ReplyHolds basis p held command r then → Means basis p held command r then
means basis p _ _ _ _ (edited held edit version is) = (is, refl)
means basis p _ _ _ _ (not_edited held edit version cause name is) = (record { cause = cause; name = name; refused = is; is = refl }, refl)
means basis p _ _ _ _ (tells held version) = refl
means basis p _ _ _ _ (lists_page held command text first version stats page shown asked is) = page_means basis p held command text first version stats page shown asked is
means basis p _ _ _ _ (past_bound held command text first version bound asked is) = bound_means basis p held command text first version bound asked is
means basis p _ _ _ _ (more h page shown stays is) = record { version_is = refl; stats_is = refl; stays = stays; shown = shown; page_is = is; then_is = refl }
means basis p _ _ _ _ no_more = refl

-- a version that an edit made is not 0
some_made : (journal : List Place) (version : ℕ) (p : Place) → numbered journal version ≡ Some p → 1 ≤ version
some_made journal zero p is = absurd (none-some p is)
some_made journal (suc n) p is = omega arith

pub makes_some : (basis : Basis) (p : Place) (held : Option Held) (command : CommandView) (r : ShownReply) (then : Option Held) → ReplyHolds basis p held command r then → MakesSome (outline r)
makes_some basis p _ _ _ _ (edited held edit version is) = some_made basis.journal version p is.stands
makes_some basis p _ _ _ _ (not_edited held edit version cause name is) = tt
makes_some basis p _ _ _ _ (tells held version) = tt
makes_some basis p _ _ _ _ (lists_page held command text first version stats page shown asked is) = tt
makes_some basis p _ _ _ _ (past_bound held command text first version bound asked is) = tt
makes_some basis p _ _ _ _ (more h page shown stays is) = tt
makes_some basis p _ _ _ _ no_more = tt

-- ---- answers to sentences

pub lists_so : (basis : Basis) (p : Place) (held : Option Held) (command : CommandView) (text : List ℕ) (first : ℕ) (r : ShownReply) (then : Option Held) → AsksFor command text first
    → ReplyHolds basis p held command r then → Lists basis text first r then
lists_so basis p held _ _ _ r then (parse text) holds = means basis p held (parses text) r then holds
lists_so basis p held _ _ _ r then (list first want text) holds = means basis p held (lists first want text) r then holds

module _ (basis : Basis) (p : Place) (held : Option Held) (command : CommandView) (text : List ℕ) (first : ℕ) (asked : AsksFor command text first) where
  pub no_first_page : (version : ℕ) (stats : Option (List ℕ)) (page : ShownPage) → ((shown : List Linkage) → IsPageOf basis.know (dictionary_at basis version) text first [] shown page → ⊥)
      → ComesTo basis p held command (listed version stats page) version Wrong
  no_first_page version stats page none then holds = let so = lists_so basis p held command text first (listed version stats page) then asked holds in none so.shown so.page_is

  pub is_first_page : (version : ℕ) (stats : Option (List ℕ)) (page : ShownPage) (g : Going) → IsSentence text → Follows basis.know (dictionary_at basis version) text first [] page g
      → ComesTo basis p held command (listed version stats page) version (Right (Some g))
  is_first_page version stats page g sentence follows =
      let shown = follows.shown in (
        Some (first_held version text page shown),
        record { version_is = refl; text = sym follows.text_is; sentence = sentence; next = sym follows.next; last = follows.last; rise = follows.just.is.rise },
        record {
          holds = lists_page held command text first version stats page shown asked follows.just.is;
          only = λ other holds.
              let so = lists_so basis p held command text first (listed version stats page) other asked holds in
              so.then_is ∙ ap (λ (gs : List Linkage). Some (first_held version text page gs)) (follows.just.only so.shown so.page_is);
        },
      )

  pub not_past : (version : ℕ) (bound : Bound) → (IsBeyond (dictionary_at basis version) text bound → ⊥) → ComesTo basis p held command (beyond version bound) version Wrong
  not_past version bound none then holds = none (lists_so basis p held command text first (beyond version bound) then asked holds).0

  pub is_past : (version : ℕ) (bound : Bound) → IsBeyond (dictionary_at basis version) text bound → ComesTo basis p held command (beyond version bound) version (Right None)
  is_past version bound is = (
    None,
    tt,
    record {
      holds = past_bound held command text first version bound asked is;
      only = λ other holds. (lists_so basis p held command text first (beyond version bound) other asked holds).1;
    },
  )

-- ---- answers to `more`

module _ (basis : Basis) (p : Place) (h : Held) (version : ℕ) (stats : Option (List ℕ)) (page : ShownPage) where
  goes_on_so : (then : Option Held) → ReplyHolds basis p (Some h) goes_on (listed version stats page) then → GoesOnBy basis h version stats page then
  goes_on_so then holds = means basis p (Some h) goes_on (listed version stats page) then holds

  pub other_version : (version ≡ h.version → ⊥) → ComesTo basis p (Some h) goes_on (listed version stats page) h.version Wrong
  other_version other then holds = other (goes_on_so then holds).version_is

  pub elsewhere : (GoesOn h.next page → ⊥) → ComesTo basis p (Some h) goes_on (listed version stats page) h.version Wrong
  elsewhere other then holds = other (goes_on_so then holds).stays

  pub no_next_page : ((shown : List Linkage) → IsPageOf basis.know (dictionary_at basis h.version) h.text h.next h.shown shown page → ⊥) → ComesTo basis p (Some h) goes_on (listed version stats page) h.version Wrong
  no_next_page none then holds = let so = goes_on_so then holds in none so.shown so.page_is

  pub is_next_page : (g : Going) → version ≡ h.version → stats ≡ None → GoesOn h.next page → IsSentence h.text → Follows basis.know (dictionary_at basis h.version) h.text h.next h.shown page g
      → ComesTo basis p (Some h) goes_on (listed version stats page) h.version (Right (Some g))
  is_next_page g same none stays sentence follows =
      let shown = follows.shown in
      let is : ReplyHolds basis p (Some h) goes_on (listed h.version None page) (Some (next_held h page shown)) = more h page shown stays follows.just.is in (
        Some (next_held h page shown),
        record { version_is = refl; text = sym follows.text_is; sentence = sentence; next = sym follows.next; last = follows.last; rise = follows.just.is.rise },
        record {
          holds =
              subst (λ (v : ℕ). ReplyHolds basis p (Some h) goes_on (listed v stats page) (Some (next_held h page shown))) (sym same)
              (subst (λ (s : Option (List ℕ)). ReplyHolds basis p (Some h) goes_on (listed h.version s page) (Some (next_held h page shown))) (sym none) is);
          only = λ other holds.
              let so = goes_on_so other holds in
              so.then_is ∙ ap (λ (gs : List Linkage). Some (next_held h page gs)) (follows.just.only so.shown so.page_is);
        },
      )

-- ---- edits

module _ (basis : Basis) (p : Place) (held : Option Held) (edit : EditView) where
  edit_so : (r : ShownReply) → EditHolds basis p edit r → ReplyHolds basis p held (makes edit) r held
  edit_so (listed version stats page) holds = absurd holds
  edit_so (beyond version bound) holds = absurd holds
  edit_so (published version) holds = edited held edit version holds
  edit_so (refused version text) holds = subst (λ (t : List ℕ). ReplyHolds basis p held (makes edit) (refused version t) held) (sym holds.is) (not_edited held edit version holds.cause holds.name holds.refused)
  edit_so (at version) holds = absurd holds
  edit_so nothing_held holds = absurd holds

  pub is_edited : (version : ℕ) (going : Option Going) (r : ShownReply) → IsKept version held going → EditHolds basis p edit r → ComesTo basis p held (makes edit) r version (Right going)
  is_edited version going r kept holds = (held, kept, record { holds = edit_so r holds; only = λ other so. (means basis p held (makes edit) r other so).1 })

  pub not_so : (version : ℕ) (r : ShownReply) → (EditHolds basis p edit r → ⊥) → ComesTo basis p held (makes edit) r version Wrong
  not_so version r none then holds = none (means basis p held (makes edit) r then holds).0
