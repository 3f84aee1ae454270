-- Legal answers by one journal that name the same versions are the same.
use Rattle.std.proofs.Common.{◌≡◌, ℕ, suc, ◌+◌, ◌<◌, Bool, true, false, cond, List, [], ◌∷◌, length, map, Option, Some, None, slice_get, refl, sym, ap, ◌∙◌, subst, arith, true≢false}
use Rattle.std.specs.List.{filter, enumerate_from}
use Rattle.std.proofs.lemmas.Option.{none-some}
use Rattle.lg_gram.specs.declared.listing.Bound.{Bound}
use Rattle.lg_gram.specs.declared.listing.Page.{Page}
use Rattle.lg_gram.specs.declared.listing.Stats.{Stats}
use Rattle.lg_gram.specs.declared.listing.Token.{Token}
use Rattle.lg_gram.specs.declared.reply.Place.{Place}
use Rattle.lg_gram.specs.declared.reply.Reply.{Reply}
use Rattle.lg_gram.specs.declared.reply.Reply.TheVariants.{Listed, Beyond, Published, Refused, At}
use Rattle.lg_dict.specs.Dictionary.{Dictionary}
use Rattle.lg_edit.specs.Edits.{accept}
use Rattle.lg_token.specs.Bounds.{AreListed, IsBeyond, bound_of}
use Rattle.lg_token.specs.Tokens.{AreTokens}
use Rattle.lg_script.specs.Commands.{CommandView, parses, lists}
use Rattle.lg_script.specs.Histories.{is_published, reply_version, unknown_name}
use Rattle.lg_session.specs.Engines.{Progress, start_of, moved}
use Rattle.lg_session.specs.Legal.{Holding, AsksFor, parse, list, Run, dictionary_at, AnswerIs, published, refused, version, listed, beyond, more, no_more, Answered, so_far, next, IsLegal}
use Rattle.lg_run.specs.Determined.{versions_named}

cons_head : {X : Type 0} (x y : X) (xs ys : List X) → x ∷ xs ≡ y ∷ ys → x ≡ y
cons_head x y xs ys e = cc

cons_tail : {X : Type 0} (x y : X) (xs ys : List X) → x ∷ xs ≡ y ∷ ys → xs ≡ ys
cons_tail x y xs ys e = cc

nil_cons : {X : Type 0} (x : X) (xs : List X) → [] ≡ x ∷ xs → ⊥
nil_cons x xs e = absurd (cc e)

same_some : {X : Type 0} (x y : X) → Some x ≡ Some y → x ≡ y
same_some x y e = cc

-- ---- what is asked for

abbrev is_listing : CommandView → Bool
is_listing (parses text) = true
is_listing (lists first want text) = true
is_listing _ = false

asks_listing : (command : CommandView) (text : List ℕ) (first : ℕ) (want : Option ℕ) → AsksFor command text first want → is_listing command ≡ true
asks_listing _ _ _ _ (parse text) = refl
asks_listing _ _ _ _ (list first want text) = refl

no_listing : (command : CommandView) (text : List ℕ) (first : ℕ) (want : Option ℕ) → is_listing command ≡ false → AsksFor command text first want → ⊥
no_listing command text first want other asks = true≢false (sym (asks_listing command text first want asks) ∙ other)

-- a sentence, the number of a candidate, and how many are wanted
record Asked : Type 0 where
  text : List ℕ
  first : ℕ
  want : Option ℕ

abbrev asked_for : List ℕ → ℕ → Option ℕ → Asked
asked_for text first want = record { text = text; first = first; want = want }

one_asked : (command : CommandView) (text other : List ℕ) (first second : ℕ) (want most : Option ℕ) → AsksFor command text first want → AsksFor command other second most
    → asked_for text first want ≡ asked_for other second most
one_asked _ _ _ _ _ _ _ (parse text) (parse _) = refl
one_asked _ _ _ _ _ _ _ (list first want text) (list _ _ _) = refl

-- ---- the edits that were published

abbrev place_in : ℕ → ℕ × Reply → Place
place_in session x = record { session = session; command = x.0 }

abbrev places_from : ℕ → ℕ → List Reply → List Place
places_from session n rs = map (place_in session) (filter (λ (x : ℕ × Reply). is_published x.1) (enumerate_from n rs))

module _ (session : ℕ) where
  abbrev at : ℕ → Place
  at n = record { session = session; command = n }

  later : (n m : ℕ) (ps : List Place) (ss : List Reply) → n < m → at n ∷ ps ≡ places_from session m ss → ⊥
  later n m ps [] less e = nil_cons (at n) ps (sym e)
  later n m ps (s ∷ ss) less e = by (later n (m + 1) ps ss (omega arith)) (is_published s) e
    where
      by : (at n ∷ ps ≡ places_from session (m + 1) ss → ⊥) → (b : Bool) → at n ∷ ps ≡ map (place_in session) (cond b ((m, s) ∷ filter (λ (x : ℕ × Reply). is_published x.1) (enumerate_from (m + 1) ss)) (filter (λ (x : ℕ × Reply). is_published x.1) (enumerate_from (m + 1) ss))) → ⊥
      by rest true e = let same : n ≡ m = ap (λ (p : Place). p.command) (cons_head (at n) (at m) ps _ e) in omega arith
      by rest false e = rest e

  flags : (n : ℕ) (rs ss : List Reply) → map reply_version rs ≡ map reply_version ss → places_from session n rs ≡ places_from session n ss → map is_published rs ≡ map is_published ss
  flags n [] [] v e = refl
  flags n [] (s ∷ ss) v e = absurd (nil_cons (reply_version s) (map reply_version ss) v)
  flags n (r ∷ rs) [] v e = absurd (nil_cons (reply_version r) (map reply_version rs) (sym v))
  flags n (r ∷ rs) (s ∷ ss) v e = by (flags (n + 1) rs ss (cons_tail (reply_version r) (reply_version s) (map reply_version rs) (map reply_version ss) v)) (is_published r) (is_published s) e
    where
      by : (places_from session (n + 1) rs ≡ places_from session (n + 1) ss → map is_published rs ≡ map is_published ss) → (a b : Bool)
          → map (place_in session) (cond a ((n, r) ∷ filter (λ (x : ℕ × Reply). is_published x.1) (enumerate_from (n + 1) rs)) (filter (λ (x : ℕ × Reply). is_published x.1) (enumerate_from (n + 1) rs)))
          ≡ map (place_in session) (cond b ((n, s) ∷ filter (λ (x : ℕ × Reply). is_published x.1) (enumerate_from (n + 1) ss)) (filter (λ (x : ℕ × Reply). is_published x.1) (enumerate_from (n + 1) ss)))
          → a ∷ map is_published rs ≡ b ∷ map is_published ss
      by rest true true e = ap (λ (l : List Bool). true ∷ l) (rest (cons_tail (at n) (at n) (places_from session (n + 1) rs) (places_from session (n + 1) ss) e))
      by rest false false e = ap (λ (l : List Bool). false ∷ l) (rest e)
      by rest true false e = absurd (later n (n + 1) (places_from session (n + 1) rs) ss (omega arith) e)
      by rest false true e = absurd (later n (n + 1) (places_from session (n + 1) ss) rs (omega arith) (sym e))

-- ---- answers, as they are seen: with all that they say, or without what the meaning leaves open

module _ (run : Run) (view : Reply → Reply)
    (one_tokens : (dict : Dictionary) (text : List ℕ) (ts us : List Token) → AreTokens dict text ts → AreTokens dict text us → ts ≡ us)
    (one_page : (dict : Dictionary) (progress : Progress) (page other : Page) → run.meaning.shows dict progress page → run.meaning.shows dict progress other → page ≡ other)
    (same_counts : (dict : Dictionary) (text : List ℕ) (n : ℕ) (tokens : List Token) (page : Page) (stats other : Stats) → run.meaning.counts dict text stats → run.meaning.counts dict text other
    → view (Listed n tokens page (Some stats)) ≡ view (Listed n tokens page (Some other))) where
  -- by a version, what is asked for has these tokens, this page and these numbers
  record IsListed (n : ℕ) (asked : Asked) (tokens : List Token) (page : Page) (stats : Stats) : Type 0 where
    tokenized : AreListed (dictionary_at run n) asked.text tokens
    shows : run.meaning.shows (dictionary_at run n) (start_of asked.text asked.want tokens asked.first) page
    counts : run.meaning.counts (dictionary_at run n) asked.text stats

  abbrev held_then : ℕ → Asked → List Token → Page → Option Holding
  held_then n asked tokens page = Some (record { version = n; progress = moved (start_of asked.text asked.want tokens asked.first) page })

  one_listed : (n : ℕ) (asked : Asked) (ts us : List Token) (page other : Page) (stats numbers : Stats) → IsListed n asked ts page stats → IsListed n asked us other numbers
      → (view (Listed n ts page (Some stats)) ≡ view (Listed n us other (Some numbers))) × (held_then n asked ts page ≡ held_then n asked us other)
  one_listed n asked ts us page other stats numbers a b =
      let same = one_tokens (dictionary_at run n) asked.text ts us a.tokenized.of_text b.tokenized.of_text in
      let pages = one_page (dictionary_at run n) (start_of asked.text asked.want ts asked.first) page other a.shows (subst (λ (l : List Token). run.meaning.shows (dictionary_at run n) (start_of asked.text asked.want l asked.first) other) (sym same) b.shows) in (
        (λ i. view (Listed n (same i) (pages i) (Some stats))) ∙ same_counts (dictionary_at run n) asked.text n us other stats numbers a.counts b.counts,
        (λ i. held_then n asked (same i) (pages i)),
      )

  -- also if what is asked for, and the version, are only known to be equal
  one_listing : (n m : ℕ) (asked for : Asked) (ts us : List Token) (page other : Page) (stats numbers : Stats) → n ≡ m → asked ≡ for → IsListed n asked ts page stats → IsListed m for us other numbers
      → (view (Listed n ts page (Some stats)) ≡ view (Listed m us other (Some numbers))) × (held_then n asked ts page ≡ held_then m for us other)
  one_listing n m asked for ts us page other stats numbers e f a =
      let key : ◌≡◌ {A = ℕ × Asked} (n, asked) (m, for) = λ i. (e i, f i) in
      subst (λ (k : ℕ × Asked). IsListed k.0 k.1 us other numbers → (view (Listed n ts page (Some stats)) ≡ view (Listed k.0 us other (Some numbers))) × (held_then n asked ts page ≡ held_then k.0 k.1 us other))
      key (one_listed n asked ts us page other stats numbers a)

  not_both : (dict : Dictionary) (text : List ℕ) (ts : List Token) (bound : Bound) → AreListed dict text ts → IsBeyond dict text bound → ⊥
  not_both dict text ts bound a b = none-some bound (sym a.unbound ∙ ap (bound_of dict) (one_tokens dict text ts b.tokens a.of_text b.of_text) ∙ b.is_bound)

  one_bound : (dict : Dictionary) (text : List ℕ) (bound other : Bound) → IsBeyond dict text bound → IsBeyond dict text other → bound ≡ other
  one_bound dict text bound other a b = same_some bound other (sym a.is_bound ∙ ap (bound_of dict) (one_tokens dict text a.tokens b.tokens a.of_text b.of_text) ∙ b.is_bound)

  -- what holds of a sentence by a version, said of an equal one
  moved_to : (P : Dictionary → List ℕ → Type 0) (n m : ℕ) (asked for : Asked) → n ≡ m → asked ≡ for → P (dictionary_at run m) for.text → P (dictionary_at run n) asked.text
  moved_to P n m asked for e f holds =
      let key : ◌≡◌ {A = ℕ × Asked} (m, for) (n, asked) = λ i. (sym e i, sym f i) in
      subst (λ (k : ℕ × Asked). P (dictionary_at run k.0) k.1.text) key holds

  abbrev Same : Reply → Reply → Option Holding → Option Holding → Type 0
  Same r s then last = (view r ≡ view s) × (then ≡ last)

  one_answer : (p : Place) (held : Option Holding) (command : CommandView) (r s : Reply) (then last : Option Holding) → AnswerIs run p held command r then → AnswerIs run p held command s last
      → is_published r ≡ is_published s → reply_version r ≡ reply_version s → Same r s then last
  one_answer p _ _ _ _ _ _ (published held edit n is) (published _ _ m other) flag e = (ap (λ v. view (Published v)) e, refl)
  one_answer p _ _ _ _ _ _ (published held edit n is) (refused _ _ m cause name other) flag e = absurd (true≢false flag)
  one_answer p _ _ _ _ _ _ (published held edit n is) (listed _ _ text first want m us page stats asks _ _ _) flag e = absurd (no_listing _ text first want refl asks)
  one_answer p _ _ _ _ _ _ (published held edit n is) (beyond _ _ text first want m bound asks _) flag e = absurd (no_listing _ text first want refl asks)
  one_answer p _ _ _ _ _ _ (refused held edit n cause name is) (published _ _ m other) flag e = absurd (true≢false (sym flag))
  one_answer p _ _ _ _ _ _ (refused held edit n cause name is) (refused _ _ m reason word other) flag e =
      let c : cause ≡ reason = same_some cause reason (sym is.refused ∙ ap (λ v. accept (dictionary_at run v) edit) e ∙ other.refused) in
      let w : name ≡ word = is.named ∙ ap (unknown_name edit) c ∙ sym other.named in
      ((λ i. view (Refused (e i) (c i) (w i))), refl)
  one_answer p _ _ _ _ _ _ (refused held edit n cause name is) (listed _ _ text first want m us page stats asks _ _ _) flag e = absurd (no_listing _ text first want refl asks)
  one_answer p _ _ _ _ _ _ (refused held edit n cause name is) (beyond _ _ text first want m bound asks _) flag e = absurd (no_listing _ text first want refl asks)
  one_answer p _ _ _ _ _ _ (version held n) (version _ m) flag e = (ap (λ v. view (At v)) e, refl)
  one_answer p _ _ _ _ _ _ (version held n) (listed _ _ text first want m us page stats asks _ _ _) flag e = absurd (no_listing _ text first want refl asks)
  one_answer p _ _ _ _ _ _ (version held n) (beyond _ _ text first want m bound asks _) flag e = absurd (no_listing _ text first want refl asks)
  one_answer p _ _ _ _ _ _ (listed held _ text first want n ts page stats asks _ _ _) (published _ edit m other) flag e = absurd (no_listing _ text first want refl asks)
  one_answer p _ _ _ _ _ _ (listed held _ text first want n ts page stats asks _ _ _) (refused _ edit m cause name other) flag e = absurd (no_listing _ text first want refl asks)
  one_answer p _ _ _ _ _ _ (listed held _ text first want n ts page stats asks _ _ _) (version _ m) flag e = absurd (no_listing _ text first want refl asks)
  one_answer p _ _ _ _ _ _ (listed held command text first want n ts page stats asks is shows counts) (listed _ _ text' first' want' m us other numbers asks' is' shows' counts') flag e =
      one_listing n m (asked_for text first want) (asked_for text' first' want') ts us page other stats numbers e (one_asked command text text' first first' want want' asks asks')
      (record { tokenized = is; shows = shows; counts = counts }) (record { tokenized = is'; shows = shows'; counts = counts' })
  one_answer p _ _ _ _ _ _ (listed held command text first want n ts page stats asks is shows counts) (beyond _ _ text' first' want' m bound asks' is') flag e =
      absurd (not_both (dictionary_at run n) text ts bound is (moved_to (λ dict t. IsBeyond dict t bound) n m (asked_for text first want) (asked_for text' first' want') e (one_asked command text text' first first' want want' asks asks') is'))
  one_answer p _ _ _ _ _ _ (listed held _ text first want n ts page stats asks _ _ _) (more h other shows) flag e = absurd (no_listing _ text first want refl asks)
  one_answer p _ _ _ _ _ _ (listed held _ text first want n ts page stats asks _ _ _) no_more flag e = absurd (no_listing _ text first want refl asks)
  one_answer p _ _ _ _ _ _ (beyond held _ text first want n bound asks _) (published _ edit m other) flag e = absurd (no_listing _ text first want refl asks)
  one_answer p _ _ _ _ _ _ (beyond held _ text first want n bound asks _) (refused _ edit m cause name other) flag e = absurd (no_listing _ text first want refl asks)
  one_answer p _ _ _ _ _ _ (beyond held _ text first want n bound asks _) (version _ m) flag e = absurd (no_listing _ text first want refl asks)
  one_answer p _ _ _ _ _ _ (beyond held command text first want n bound asks is) (listed _ _ text' first' want' m us page stats asks' is' _ _) flag e =
      absurd (not_both (dictionary_at run m) text' us bound is' (moved_to (λ dict t. IsBeyond dict t bound) m n (asked_for text' first' want') (asked_for text first want) (sym e) (one_asked command text' text first' first want' want asks' asks) is))
  one_answer p _ _ _ _ _ _ (beyond held command text first want n bound asks is) (beyond _ _ text' first' want' m other asks' is') flag e =
      let same = one_bound (dictionary_at run n) text bound other is (moved_to (λ dict t. IsBeyond dict t other) n m (asked_for text first want) (asked_for text' first' want') e (one_asked command text text' first first' want want' asks asks') is') in
      ((λ i. view (Beyond (e i) (same i))), refl)
  one_answer p _ _ _ _ _ _ (beyond held _ text first want n bound asks _) (more h other shows) flag e = absurd (no_listing _ text first want refl asks)
  one_answer p _ _ _ _ _ _ (beyond held _ text first want n bound asks _) no_more flag e = absurd (no_listing _ text first want refl asks)
  one_answer p _ _ _ _ _ _ (more h page shows) (listed _ _ text first want m us other stats asks _ _ _) flag e = absurd (no_listing _ text first want refl asks)
  one_answer p _ _ _ _ _ _ (more h page shows) (beyond _ _ text first want m bound asks _) flag e = absurd (no_listing _ text first want refl asks)
  one_answer p _ _ _ _ _ _ (more h page shows) (more _ other shows') flag e =
      let pages = one_page (dictionary_at run h.version) h.progress page other shows shows' in
      ((λ i. view (Listed h.version h.progress.tokens (pages i) None)), (λ i. Some (record h { progress = moved h.progress (pages i) })))
  one_answer p _ _ _ _ _ _ no_more (listed _ _ text first want m us other stats asks _ _ _) flag e = absurd (no_listing _ text first want refl asks)
  one_answer p _ _ _ _ _ _ no_more (beyond _ _ text first want m bound asks _) flag e = absurd (no_listing _ text first want refl asks)
  one_answer p _ _ _ _ _ _ no_more no_more flag e = (refl, refl)

  one_session : (session n : ℕ) (held : Option Holding) (commands : List CommandView) (rs ss : List Reply) → Answered run session n held commands rs → Answered run session n held commands ss
      → map is_published rs ≡ map is_published ss → map reply_version rs ≡ map reply_version ss → map view rs ≡ map view ss
  one_session session _ _ _ _ _ (so_far n held commands) (so_far _ _ _) flag e = refl
  one_session session _ _ _ _ _ (so_far n held commands) (next _ _ then command others s ss is rest) flag e = absurd (nil_cons (reply_version s) (map reply_version ss) e)
  one_session session _ _ _ _ _ (next n held then command others r rs is rest) (so_far _ _ _) flag e = absurd (nil_cons (reply_version r) (map reply_version rs) (sym e))
  one_session session _ _ _ _ _ (next n held then command others r rs is rest) (next _ _ last _ _ s ss is' rest') flag e =
      let here = one_answer (record { session = session; command = n }) held command r s then last is is'
      (cons_head (is_published r) (is_published s) (map is_published rs) (map is_published ss) flag) (cons_head (reply_version r) (reply_version s) (map reply_version rs) (map reply_version ss) e) in
      let later = one_session session (n + 1) then others rs ss rest (subst (λ (h : Option Holding). Answered run session (n + 1) h others ss) (sym here.1) rest')
      (cons_tail (is_published r) (is_published s) (map is_published rs) (map is_published ss) flag) (cons_tail (reply_version r) (reply_version s) (map reply_version rs) (map reply_version ss) e) in
      λ i. here.0 i ∷ later i

  of_sessions : (scripts : List (List CommandView)) (replies others : List (List Reply)) → length replies ≡ length scripts → versions_named replies ≡ versions_named others
      → ((n : ℕ) (commands : List CommandView) (rs ss : List Reply) → slice_get scripts n ≡ Some commands → slice_get replies n ≡ Some rs → slice_get others n ≡ Some ss → map reply_version rs ≡ map reply_version ss → map view rs ≡ map view ss)
      → map (λ (rs : List Reply). map view rs) replies ≡ map (λ (rs : List Reply). map view rs) others
  of_sessions scripts [] [] same e each = refl
  of_sessions scripts [] (ss ∷ others) same e each = absurd (nil_cons (map reply_version ss) (versions_named others) e)
  of_sessions scripts (rs ∷ replies) [] same e each = absurd (nil_cons (map reply_version rs) (versions_named replies) (sym e))
  of_sessions [] (rs ∷ replies) (ss ∷ others) same e each = absurd (omega (arith, same))
  of_sessions (commands ∷ scripts) (rs ∷ replies) (ss ∷ others) same e each =
      let here = each 0 commands rs ss refl refl refl (cons_head (map reply_version rs) (map reply_version ss) (versions_named replies) (versions_named others) e) in
      let rest = of_sessions scripts replies others (omega (arith, same)) (cons_tail (map reply_version rs) (map reply_version ss) (versions_named replies) (versions_named others) e) (λ n. each (suc n)) in
      λ i. here i ∷ rest i

  pub determined : (replies others : List (List Reply)) → IsLegal run replies → IsLegal run others → versions_named replies ≡ versions_named others
      → map (λ (rs : List Reply). map view rs) replies ≡ map (λ (rs : List Reply). map view rs) others
  determined replies others a b e = of_sessions run.scripts replies others a.same_length e (λ n commands rs ss c r s v.
      one_session (suc n) 1 None commands rs ss (a.sessions (suc n) commands rs c r).answered (b.sessions (suc n) commands ss c s).answered
      (flags (suc n) 1 rs ss v (sym (a.journal.each (suc n) rs r) ∙ b.journal.each (suc n) ss s)) v)
