-- What is kept of a listing, as its pages are shown.
use Rattle.std.proofs.Common.{◌≡◌, ℕ, ◌↔◌, Bool, List, [], ◌∷◌, ◌++◌, Option, Some, None, Result, IfOk, IsTrue, refl, ap, sym, subst, ◌∙◌}
use Rattle.std.specs.Borrow.{Bor}
use Rattle.std.specs.List.{last_or}
use Rattle.std.specs.List.Sorted.{IsStrictlySortedBy}
use Rattle.std.proofs.lemmas.Option.{none-some, same_Some}
use Rattle.lg_gram.specs.Linkages.{Linkage, linkage_cmp}
use Rattle.lg_gram.specs.declared.listing.Bound.{Bound}
use Rattle.lg_gram.specs.declared.listing.Token.{Token}
use Rattle.lg_gram.specs.declared.reply.Place.{Place}
use Rattle.lg_dict.specs.Dictionary.{Dictionary}
use Rattle.lg_script.specs.Commands.{CommandView, goes_on, asks}
use Rattle.lg_token.specs.Bounds.{AreListed, IsBeyond, bound_of}
use Rattle.lg_token.specs.Tokens.{AreTokens}
use Rattle.lg_audit.specs.Answers.{reply_of}
use Rattle.lg_audit.specs.Lines.{ShownPage, ShownReply, listed, beyond, published, refused, at, nothing_held}
use Rattle.lg_audit.specs.Replies.{Basis, Held, GoesOn, IsPageOf, tells, no_more, dictionary_at}
use Rattle.lg_audit.specs.Views.{text_of}
use Rattle.lg_audit.specs.Walks.{IsKept, IsGoing, Follows, ComesTo}
use Rattle.lg_audit.specs.declared.listed.Going.{Going}
use Rattle.lg_audit.specs.declared.shown.ShownReply.{ShownReply as Reply}
use Rattle.lg_audit.specs.declared.shown.ShownReply.TheVariants as replies
use Rattle.lg_audit.specs.declared.verdict.Verdict.{Verdict}
use Rattle.lg_audit.specs.declared.verdict.Verdict.TheVariants.{Wrong, Right}
use Rattle.lg_audit.proofs.Comings.{means, elsewhere, other_version, no_next_page, is_next_page}

pub none_rise : IsStrictlySortedBy linkage_cmp []
unfolding IsStrictlySortedBy
none_rise = tt

-- ---- the last linkage

last_append : {A : Type 0} (o : Option A) (xs ys : List A) → last_or o (xs ++ ys) ≡ last_or (last_or o xs) ys
last_append o [] ys = refl
last_append o (x ∷ xs) ys = last_append (Some x) xs ys

pub last_pushed : {A : Type 0} (before all xs : List A) (x : A) → all ≡ xs ++ x ∷ [] → Some x ≡ last_or None (before ++ all)
last_pushed {A} before all xs x is = sym (ap (λ (ys : List A). last_or None (before ++ ys)) is ∙ last_append None before (xs ++ x ∷ []) ∙ last_append (last_or None before) xs (x ∷ []))

-- ---- bounds

pub beyond_same : (d e : Dictionary) (s t : List ℕ) (bound : Bound) → d ≡ e → s ≡ t → IsBeyond d s bound → IsBeyond e t bound
beyond_same d e s t bound same_dict same_text is = subst (λ (d' : Dictionary). IsBeyond d' t bound) same_dict (subst (λ (t' : List ℕ). IsBeyond d t' bound) same_text is)

-- there is one list of tokens
abbrev pub IsOneList : Type 0
IsOneList = (dict : Dictionary) (text : List ℕ) (tokens others : List Token) → AreTokens dict text tokens → AreTokens dict text others → tokens ≡ others

module _ (one : IsOneList) (dict : Dictionary) (text : List ℕ) (bound : Bound) where
  pub not_beyond : (tokens : List Token) → AreListed dict text tokens → IsBeyond dict text bound → ⊥
  not_beyond tokens are is = none-some bound (sym are.unbound ∙ ap (bound_of dict) (one dict text tokens is.tokens are.of_text is.of_text) ∙ is.is_bound)

  pub same_beyond : (found : Bound) → IsBeyond dict text found → IsBeyond dict text bound → found ≡ bound
  same_beyond found is other =
      same_Some found bound (sym is.is_bound ∙ ap (bound_of dict) (one dict text is.tokens other.tokens is.of_text other.of_text) ∙ other.is_bound)

  pub beyond_so : (found : Bound) (r : Bool) → IsBeyond dict text found → (IsTrue r ↔ (found ≡ bound)) → IsTrue r ↔ IsBeyond dict text bound
  beyond_so found r is same = (λ e. subst (IsBeyond dict text) (same.0 e) is, λ other. same.1 (same_beyond found is other))

-- ---- what an answer comes to, by what the program holds of it

pub nothing_so : (basis : Basis) (p : Place) (version : ℕ) → ComesTo basis p None goes_on nothing_held version (Right None)
nothing_so basis p version = (None, tt, record { holds = no_more; only = λ other holds. means basis p None goes_on nothing_held other holds })

pub something : (basis : Basis) (p : Place) (version : ℕ) (r : Reply) → (r ≡ replies.NothingHeld → ⊥) → ComesTo basis p None goes_on (reply_of r) version Wrong
something basis p version (replies.Listed v stats page) other then holds = means basis p None goes_on (listed v (text_of stats) page) then holds
something basis p version (replies.Beyond v bound) other then holds = means basis p None goes_on (beyond v bound) then holds
something basis p version (replies.Published v) other then holds = means basis p None goes_on (published v) then holds
something basis p version (replies.Refused v cause) other then holds = means basis p None goes_on (refused v cause.now) then holds
something basis p version (replies.At v) other then holds = means basis p None goes_on (at v) then holds
something basis p version replies.NothingHeld other then holds = absurd (other refl)

-- an answer at the version that the dictionary has come to
module _ (basis : Basis) (p : Place) (h : Option Held) (command : CommandView) (reply : Reply) (version here : ℕ) (same : here ≡ version) where
  pub comes_listed : {E : Type 0} (r : Result Verdict E) (stats : Option (Bor (List ℕ))) (page : ShownPage) → reply ≡ replies.Listed version stats page
      → IfOk r (ComesTo basis p h command (listed here (text_of stats) page) here) → IfOk r (ComesTo basis p h command (reply_of reply) here)
  comes_listed {E} r stats page is comes =
      subst (λ (q : ShownReply). IfOk r (ComesTo basis p h command q here)) (ap (λ (v : ℕ). listed v (text_of stats) page) same ∙ ap reply_of (sym is)) comes

  pub comes_beyond : {E : Type 0} (r : Result Verdict E) (bound : Bound) → reply ≡ replies.Beyond version bound
      → IfOk r (ComesTo basis p h command (beyond version bound) version) → IfOk r (ComesTo basis p h command (reply_of reply) here)
  comes_beyond {E} r bound is comes =
      subst (λ (v : ℕ). IfOk r (ComesTo basis p h command (reply_of reply) v)) (sym same)
      (subst (λ (q : ShownReply). IfOk r (ComesTo basis p h command q version)) (ap reply_of (sym is)) comes)

-- what is held beside what is kept
pub kept_some : (here : ℕ) (h : Option Held) (g : Going) → IsKept here h (Some g) → (x : Held) × (h ≡ Some x) × IsGoing here x g
kept_some here None g kept = absurd kept
kept_some here (Some x) g kept = (x, refl, kept)

pub kept_none : (here : ℕ) (h : Option Held) → IsKept here h None → h ≡ None
kept_none here None kept = refl
kept_none here (Some x) kept = absurd kept

-- ---- the next page

module _ (basis : Basis) (p : Place) (here : ℕ) (h : Held) (g : Going) (kept : IsGoing here h g) where
  pub another : (version : ℕ) (stats : Option (List ℕ)) (page : ShownPage) → (version ≡ here → ⊥) → ComesTo basis p (Some h) goes_on (listed version stats page) here Wrong
  another version stats page other = other_version basis p h version stats page (λ e. other (e ∙ kept.version_is))

  pub jumps : (version : ℕ) (stats : Option (List ℕ)) (page : ShownPage) → (GoesOn g.next page → ⊥) → ComesTo basis p (Some h) goes_on (listed version stats page) here Wrong
  jumps version stats page other = elsewhere basis p h version stats page (λ stays. other (subst (λ (n : ℕ). GoesOn n page) kept.next stays))

  page_there : (dict : Dictionary) (page : ShownPage) (shown : List Linkage) → dict ≡ dictionary_at basis here → IsPageOf basis.know (dictionary_at basis h.version) h.text h.next h.shown shown page
      → IsPageOf basis.know dict g.text.now g.next h.shown shown page
  page_there dict page shown is page_is =
      subst (λ (n : ℕ). IsPageOf basis.know dict g.text.now n h.shown shown page) kept.next
      (subst (λ (t : List ℕ). IsPageOf basis.know dict t h.next h.shown shown page) kept.text
      (subst (λ (d : Dictionary). IsPageOf basis.know d h.text h.next h.shown shown page) (ap (dictionary_at basis) kept.version_is ∙ sym is) page_is))

  pub no_page : (dict : Dictionary) → dict ≡ dictionary_at basis here → (version : ℕ) (stats : Option (List ℕ)) (page : ShownPage)
      → ((shown : List Linkage) → IsPageOf basis.know dict g.text.now g.next h.shown shown page → ⊥) → ComesTo basis p (Some h) goes_on (listed version stats page) here Wrong
  no_page dict is version stats page none = no_next_page basis p h version stats page (λ shown page_is. none shown (page_there dict page shown is page_is))

  follows_there : (dict : Dictionary) (page : ShownPage) (g' : Going) → dict ≡ dictionary_at basis here → Follows basis.know dict g.text.now g.next h.shown page g'
      → Follows basis.know (dictionary_at basis h.version) h.text h.next h.shown page g'
  follows_there dict page g' is follows =
      subst (λ (n : ℕ). Follows basis.know (dictionary_at basis h.version) h.text n h.shown page g') (sym kept.next)
      (subst (λ (t : List ℕ). Follows basis.know (dictionary_at basis h.version) t g.next h.shown page g') (sym kept.text)
      (subst (λ (d : Dictionary). Follows basis.know d g.text.now g.next h.shown page g') (is ∙ ap (dictionary_at basis) (sym kept.version_is)) follows))

  pub next_so : (dict : Dictionary) → dict ≡ dictionary_at basis here → (version : ℕ) (stats : Option (List ℕ)) (page : ShownPage) (g' : Going) → version ≡ here → stats ≡ None → GoesOn g.next page
      → Follows basis.know dict g.text.now g.next h.shown page g' → ComesTo basis p (Some h) goes_on (listed version stats page) here (Right (Some g'))
  next_so dict is version stats page g' same none stays follows =
      subst (λ (v : ℕ). ComesTo basis p (Some h) goes_on (listed version stats page) v (Right (Some g'))) kept.version_is
      (is_next_page basis p h version stats page g' (same ∙ sym kept.version_is) none (subst (λ (n : ℕ). GoesOn n page) (sym kept.next) stays) kept.sentence
      (follows_there dict page g' is follows))

-- ---- answers to `version`

pub told_so : (basis : Basis) (p : Place) (h : Option Held) (version : ℕ) (going : Option Going) (v : ℕ) → IsKept version h going → ComesTo basis p h asks (at v) version (Right going)
told_so basis p h version going v kept = (h, kept, record { holds = tells h v; only = λ other holds. means basis p h asks (at v) other holds })

pub not_told : (basis : Basis) (p : Place) (h : Option Held) (version : ℕ) (r : Reply) → ((v : ℕ) → r ≡ replies.At v → ⊥) → ComesTo basis p h asks (reply_of r) version Wrong
not_told basis p h version (replies.Listed v stats page) other then holds = means basis p h asks (listed v (text_of stats) page) then holds
not_told basis p h version (replies.Beyond v bound) other then holds = means basis p h asks (beyond v bound) then holds
not_told basis p h version (replies.Published v) other then holds = means basis p h asks (published v) then holds
not_told basis p h version (replies.Refused v cause) other then holds = means basis p h asks (refused v cause.now) then holds
not_told basis p h version (replies.At v) other then holds = absurd (other v refl)
not_told basis p h version replies.NothingHeld other then holds = means basis p h asks nothing_held then holds
