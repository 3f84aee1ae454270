-- A yes promises that the document is right.
use Rattle.std.proofs.Common.{◌≡◌, ℕ, zero, suc, ◌+◌, List, [], ◌∷◌, ◌++◌, length, map, take, drop, slice_get, All, Option, Some, None, refl, ap, sym, subst, ◌∙◌, arith, add-one}
use Rattle.std.specs.List.{flat_map}
use Rattle.std.specs.List.Sorted.{IsStrictlySortedBy}
use Rattle.std.proofs.lemmas.List.{append_assoc, append-nil, map-append, take_all, drop_all}
use Rattle.std.proofs.lemmas.List.Elements.{All-nil, All-cons, All-append}
use Rattle.std.proofs.lemmas.Option.{none-some, same_Some}
use Rattle.lg_gram.specs.Linkages.{Linkage, linkage_cmp}
use Rattle.lg_gram.specs.Rules.{Good}
use Rattle.lg_gram.specs.declared.disjunct.Disjunct.{Disjunct}
use Rattle.lg_gram.specs.declared.listing.Bound.{Bound}
use Rattle.lg_gram.specs.declared.listing.Token.{Token}
use Rattle.lg_gram.specs.declared.reply.Place.{Place}
use Rattle.lg_edit.specs.Edits.{EditView}
use Rattle.lg_pp.specs.Breaks.{Judges}
use Rattle.lg_token.specs.Bounds.{AreListed}
use Rattle.lg_token.specs.Problems.{IsProblemOf}
use Rattle.lg_script.specs.Commands.{CommandView, makes}
use Rattle.lg_script.specs.Histories.{numbered, AreInTime}
use Rattle.lg_audit.specs.Lines.{ShownLinkage, ShownPage, ShownReply, listed, beyond}
use Rattle.lg_audit.specs.Replies.{Basis, Held, Hold, none_yet, one_more, AsksFor, parse, list, IsPageOf, ReplyHolds, edited, not_edited, tells, lists_page, past_bound, more, no_more, dictionary_at, outline, shown_linkage, linkages_on}
use Rattle.lg_audit.specs.Tests.{EditHolds}
use Rattle.lg_audit.specs.Walks.{HoldSome}
use Rattle.lg_audit.specs.Audits.{basis_of}
use Rattle.lg_audit.specs.Sound.{IsRightLinkage, ShownListing, IsRightListing, pages_on, listings_of, pages_in, pages_at, IsRightSession, AuditsAreSound}
use Rattle.lg_audit.proofs.Audited.{all_there}
use Rattle.lg_audit.proofs.Comings.{first_held, next_held, means}
use Rattle.lg_audit.proofs.Goings.{IsOneList}

-- ---- the answers of a session, from the last to the first

next_drop : {A : Type 0} (xs : List A) (n : ℕ) (x : A) → slice_get xs n ≡ Some x → drop n xs ≡ x ∷ drop (suc n) xs
next_drop [] n x is = absurd (none-some x is)
next_drop {A} (y ∷ xs) zero x is = ap (λ (z : A). z ∷ xs) (same_Some y x is)
next_drop (y ∷ xs) (suc n) x is = next_drop xs n x is

next_drop_at : {A : Type 0} (xs : List A) (n : ℕ) (x : A) → numbered xs (n + 1) ≡ Some x → drop n xs ≡ x ∷ drop (n + 1) xs
next_drop_at xs n x is = next_drop xs n x ((λ i. numbered xs (sym (add-one n) i)) ∙ is) ∙ ap (λ (k : ℕ). x ∷ drop k xs) (sym (add-one n))

module _ (basis : Basis) (session : ℕ) (commands : List CommandView) (rs : List ShownReply) (P : ℕ → Option Held → List CommandView → List ShownReply → Type 0)
    (step : (n : ℕ) (held then : Option Held) (command : CommandView) (r : ShownReply) (cs : List CommandView) (qs : List ShownReply)
    → ReplyHolds basis (record { session = session; command = n + 1 }) held command r then → P (n + 1) then cs qs → P n held (command ∷ cs) (r ∷ qs)) where
  from_last : (n : ℕ) (held : Option Held) → Hold basis session commands rs n held → P n held (drop n commands) (drop n rs) → P 0 None commands rs
  from_last _ _ none_yet p = p
  from_last _ _ (one_more n held then command r hold a b time holds) p =
      from_last n held hold
      (subst (λ (cs : List CommandView). P n held cs (drop n rs)) (sym (next_drop_at commands n command a))
      (subst (λ (qs : List ShownReply). P n held (command ∷ drop (n + 1) commands) qs) (sym (next_drop_at rs n r b))
      (step n held then command r (drop (n + 1) commands) (drop (n + 1) rs) holds p)))

-- ---- the pages of listings

-- what is shown of a listing that is held
abbrev dated : Option Held → List ShownPage → List (ℕ × ShownPage)
dated None pages = []
dated (Some h) pages = map (λ (page : ShownPage). (h.version, page)) pages

nothing_dated : (held : Option Held) → dated held [] ≡ []
nothing_dated None = refl
nothing_dated (Some h) = refl

module _ (basis : Basis) where
  -- these pages go on with the listing of these tokens
  record GoOn (h : Held) (tokens : List Token) (pages : List ShownPage) : Type 0 where
    linkages : List Linkage
    are : flat_map linkages_on pages ≡ map (shown_linkage tokens) linkages
    right : All (IsRightLinkage basis.know (dictionary_at basis h.version) tokens) linkages
    rise : IsStrictlySortedBy linkage_cmp (h.shown ++ linkages)

  abbrev GoOnWith : Option Held → List ShownPage → Type 0
  GoOnWith None pages = Unit {0}
  GoOnWith (Some h) pages = (tokens : List Token) → AreListed (dictionary_at basis h.version) h.text tokens → IsStrictlySortedBy linkage_cmp h.shown → GoOn h tokens pages

  nothing_more : (held : Option Held) → GoOnWith held []
  nothing_more None = tt
  nothing_more (Some h) = λ tokens are rise. record {
    linkages = [];
    are = refl;
    right = All-nil _;
    rise = subst (IsStrictlySortedBy linkage_cmp) (sym (append-nil h.shown)) rise;
  }

  -- what answers that are left show, by what is held before them: pages that go on with it, and listings
  record Show (held : Option Held) (on : List ShownPage) (listings : List ShownListing) (pages : List (ℕ × ShownPage)) : Type 0 where
    going : GoOnWith held on
    right : All (IsRightListing basis) listings
    pages_are : pages ≡ dated held on ++ flat_map pages_at listings

  abbrev ShowAll : ℕ → Option Held → List CommandView → List ShownReply → Type 0
  ShowAll n held commands rs = Show held (pages_on commands rs) (listings_of commands rs) (flat_map pages_in rs)

  -- ---- pages

  rights : (version : ℕ) (tokens : List Token) (problem : List (List Disjunct)) (shown : List Linkage) → IsProblemOf (dictionary_at basis version) tokens problem → All (Good problem) shown → All (λ g. Judges basis.know g None) shown
      → All (IsRightLinkage basis.know (dictionary_at basis version) tokens) shown
  rights version tokens problem shown of good pass = λ k d lt. record { problem = problem; of_tokens = of; good = good k d lt; passes = pass k d lt }

  joined : (tokens : List Token) (page : ShownPage) (pages : List ShownPage) (shown gs : List Linkage) → linkages_on page ≡ map (shown_linkage tokens) shown → flat_map linkages_on pages ≡ map (shown_linkage tokens) gs
      → flat_map linkages_on (page ∷ pages) ≡ map (shown_linkage tokens) (shown ++ gs)
  joined tokens page pages shown gs a b =
      ap (λ (xs : List ShownLinkage). xs ++ flat_map linkages_on pages) a ∙ ap (λ (ys : List ShownLinkage). map (shown_linkage tokens) shown ++ ys) b ∙ sym (map-append (shown_linkage tokens) shown gs)

  -- the first page, and then those of `more`
  first_right : (text : List ℕ) (first version : ℕ) (page : ShownPage) (shown : List Linkage) → IsPageOf basis.know (dictionary_at basis version) text first [] shown page
      → (on : List ShownPage) → GoOnWith (Some (first_held version text page shown)) on → IsRightListing basis (record { version = version; text = text; pages = page ∷ on })
  first_right text first version page shown is on going =
      let more = going is.tokens is.listed is.rise in record {
        tokens = is.tokens;
        of_text = is.listed;
        linkages = shown ++ more.linkages;
        are = joined is.tokens page on shown more.linkages is.are more.are;
        right = All-append (IsRightLinkage basis.know (dictionary_at basis version) is.tokens) shown more.linkages (rights version is.tokens is.problem shown is.of_tokens is.good is.pass) more.right;
        rise = more.rise;
      }

  -- one page more
  next_right : IsOneList → (h : Held) (page : ShownPage) (shown : List Linkage) → IsPageOf basis.know (dictionary_at basis h.version) h.text h.next h.shown shown page
      → (on : List ShownPage) → GoOnWith (Some (next_held h page shown)) on → GoOnWith (Some h) (page ∷ on)
  next_right one h page shown is on going tokens of_text rise =
      let same = one (dictionary_at basis h.version) h.text is.tokens tokens is.listed.of_text of_text.of_text in
      let more = going tokens of_text is.rise in record {
        linkages = shown ++ more.linkages;
        are = joined tokens page on shown more.linkages (subst (λ (ts : List Token). linkages_on page ≡ map (shown_linkage ts) shown) same is.are) more.are;
        right =
            All-append (IsRightLinkage basis.know (dictionary_at basis h.version) tokens) shown more.linkages
            (subst (λ (ts : List Token). All (IsRightLinkage basis.know (dictionary_at basis h.version) ts) shown) same (rights h.version is.tokens is.problem shown is.of_tokens is.good is.pass))
            more.right;
        rise = subst (IsStrictlySortedBy linkage_cmp) (append_assoc h.shown shown more.linkages) more.rise;
      }

  -- ---- answers

  show_first : (held : Option Held) (text : List ℕ) (first version : ℕ) (page : ShownPage) (shown : List Linkage) → IsPageOf basis.know (dictionary_at basis version) text first [] shown page
      → (on : List ShownPage) (listings : List ShownListing) (pages : List (ℕ × ShownPage)) → Show (Some (first_held version text page shown)) on listings pages
      → Show held [] (record { version = version; text = text; pages = page ∷ on } ∷ listings) ((version, page) ∷ pages)
  show_first held text first version page shown is on listings pages left = record {
    going = nothing_more held;
    right = All-cons (IsRightListing basis) (record { version = version; text = text; pages = page ∷ on }) listings (first_right text first version page shown is on left.going) left.right;
    pages_are =
        ap (λ (ps : List (ℕ × ShownPage)). (version, page) ∷ ps) left.pages_are
        ∙ sym (ap (λ (ps : List (ℕ × ShownPage)). ps ++ (version, page) ∷ (dated (Some (first_held version text page shown)) on ++ flat_map pages_at listings)) (nothing_dated held));
  }

  page_shown : (held : Option Held) (command : CommandView) (text : List ℕ) (first version : ℕ) (stats : Option (List ℕ)) (page : ShownPage) (shown : List Linkage) → AsksFor command text first
      → IsPageOf basis.know (dictionary_at basis version) text first [] shown page
      → (n : ℕ) (cs : List CommandView) (qs : List ShownReply) → ShowAll (n + 1) (Some (first_held version text page shown)) cs qs → ShowAll n held (command ∷ cs) (listed version stats page ∷ qs)
  page_shown held _ _ _ version stats page shown (parse text) is n cs qs left = show_first held text 1 version page shown is _ _ _ left
  page_shown held _ _ _ version stats page shown (list first want text) is n cs qs left = show_first held text first version page shown is _ _ _ left

  nothing_shown : (held : Option Held) (on : List ShownPage) (listings : List ShownListing) (pages : List (ℕ × ShownPage)) → Show None on listings pages → Show held [] listings pages
  nothing_shown held on listings pages left = record {
    going = nothing_more held;
    right = left.right;
    pages_are = left.pages_are ∙ sym (ap (λ (ps : List (ℕ × ShownPage)). ps ++ flat_map pages_at listings) (nothing_dated held));
  }

  bound_shown : (held : Option Held) (command : CommandView) (text : List ℕ) (first version : ℕ) (bound : Bound) → AsksFor command text first
      → (n : ℕ) (cs : List CommandView) (qs : List ShownReply) → ShowAll (n + 1) None cs qs → ShowAll n held (command ∷ cs) (beyond version bound ∷ qs)
  bound_shown held _ _ _ version bound (parse text) n cs qs left = nothing_shown held _ _ _ left
  bound_shown held _ _ _ version bound (list first want text) n cs qs left = nothing_shown held _ _ _ left

  more_shown : IsOneList → (h : Held) (page : ShownPage) (shown : List Linkage) → IsPageOf basis.know (dictionary_at basis h.version) h.text h.next h.shown shown page
      → (on : List ShownPage) (listings : List ShownListing) (pages : List (ℕ × ShownPage)) → Show (Some (next_held h page shown)) on listings pages → Show (Some h) (page ∷ on) listings ((h.version, page) ∷ pages)
  more_shown one h page shown is on listings pages left = record {
    going = next_right one h page shown is on left.going;
    right = left.right;
    pages_are = ap (λ (ps : List (ℕ × ShownPage)). (h.version, page) ∷ ps) left.pages_are;
  }

  show_step : IsOneList → (session n : ℕ) (held then : Option Held) (command : CommandView) (r : ShownReply) (cs : List CommandView) (qs : List ShownReply)
      → ReplyHolds basis (record { session = session; command = n + 1 }) held command r then → ShowAll (n + 1) then cs qs → ShowAll n held (command ∷ cs) (r ∷ qs)
  show_step one session n _ _ _ _ cs qs (edited held edit version is) left = left
  show_step one session n _ _ _ _ cs qs (not_edited held edit version cause name is) left = left
  show_step one session n _ _ _ _ cs qs (tells held version) left = left
  show_step one session n _ _ _ _ cs qs (lists_page held command text first version stats page shown asked is) left = page_shown held command text first version stats page shown asked is n cs qs left
  show_step one session n _ _ _ _ cs qs (past_bound held command text first version bound asked is) left = bound_shown held command text first version bound asked n cs qs left
  show_step one session n _ _ _ _ cs qs (more h page shown stays is) left = more_shown one h page shown is _ _ _ left
  show_step one session n _ _ _ _ cs qs no_more left = left

  show_none : (n : ℕ) (held : Option Held) → ShowAll n held [] []
  show_none n held = record { going = nothing_more held; right = All-nil _; pages_are = sym (ap (λ (ps : List (ℕ × ShownPage)). ps ++ []) (nothing_dated held)) }

  -- ---- edits

  abbrev EditsHold : ℕ → ℕ → Option Held → List CommandView → List ShownReply → Type 0
  EditsHold session n held commands rs = (m : ℕ) (edit : EditView) (r : ShownReply) → numbered commands m ≡ Some (makes edit) → numbered rs m ≡ Some r
      → EditHolds basis (record { session = session; command = n + m }) edit r

  edit_step : (session n : ℕ) (held then : Option Held) (command : CommandView) (r : ShownReply) (cs : List CommandView) (qs : List ShownReply)
      → ReplyHolds basis (record { session = session; command = n + 1 }) held command r then → EditsHold session (n + 1) then cs qs → EditsHold session n held (command ∷ cs) (r ∷ qs)
  edit_step session n held then command r cs qs holds left zero edit q a b = absurd (none-some (makes edit) a)
  edit_step session n held then command r cs qs holds left (suc zero) edit q a b =
      let place : Place = record { session = session; command = n + 1 } in
      let made = subst (λ (c : CommandView). ReplyHolds basis place held c r then) (same_Some command (makes edit) a) holds in
      (means basis place held (makes edit) q then (subst (λ (x : ShownReply). ReplyHolds basis place held (makes edit) x then) (same_Some r q b) made)).0
  edit_step session n held then command r cs qs holds left (suc (suc k)) edit q a b =
      let same : (n + 1) + suc k ≡ n + suc (suc k) = omega arith in
      subst (λ (m : ℕ). EditHolds basis (record { session = session; command = m }) edit q) same (left (suc k) edit q a b)

  edits_none : (session n : ℕ) (held : Option Held) → EditsHold session n held [] []
  edits_none session n held zero edit r a b = absurd (none-some (makes edit) a)
  edits_none session n held (suc m) edit r a b = absurd (none-some (makes edit) a)

  -- ---- sessions

  module _ (session : ℕ) (commands : List CommandView) (rs : List ShownReply) (same : length rs ≡ length commands) where
    from_end : (P : ℕ → Option Held → List CommandView → List ShownReply → Type 0) (held : Option Held) → P (length commands) held [] [] → P (length commands) held (drop (length commands) commands) (drop (length commands) rs)
    from_end P held p =
        subst (λ (cs : List CommandView). P (length commands) held cs (drop (length commands) rs)) (sym (drop_all (length commands) commands (omega arith)))
        (subst (λ (qs : List ShownReply). P (length commands) held [] qs) (sym (drop_all (length commands) rs (omega (arith, same)))) p)

    hold_time : (n : ℕ) (held : Option Held) → Hold basis session commands rs n held → AreInTime basis.journal (take n commands) (map outline (take n rs))
    hold_time _ _ none_yet = record { there = λ k d lt. absurd (omega (arith, lt)); rise = λ i j d a b. absurd (omega (arith, b)) }
    hold_time _ _ (one_more n held then command r hold a b time holds) = time

    pub session_right : IsOneList → HoldSome basis session commands rs (length commands) → IsRightSession basis session commands rs
    session_right one some =
        let held = some.0 in
        let hold = some.1 in
        let shows = from_last basis session commands rs ShowAll (show_step one session) (length commands) held hold (from_end ShowAll held (show_none (length commands) held)) in
        let edits = from_last basis session commands rs (EditsHold session) (edit_step session) (length commands) held hold (from_end (EditsHold session) held (edits_none session (length commands) held)) in
        record {
          same_length = same;
          in_time =
              subst (λ (cs : List CommandView). AreInTime basis.journal cs (map outline rs)) (take_all (length commands) commands (omega arith))
              (subst (λ (qs : List ShownReply). AreInTime basis.journal (take (length commands) commands) (map outline qs)) (take_all (length commands) rs (omega (arith, same)))
              (hold_time (length commands) held hold));
          edits = λ m edit r a b. let start : 0 + m ≡ m = omega arith in subst (λ (k : ℕ). EditHolds basis (record { session = session; command = k }) edit r) start (edits m edit r a b);
          listings = shows.right;
          pages = shows.pages_are;
        }

-- ---- documents

pub sound : IsOneList → AuditsAreSound
sound one inputs bytes shown audit =
    let d = audit.0 in (
      d,
      audit.1,
      record {
        journal = audit.2;
        same_length = audit.1.replies.sessions;
        sessions = λ session commands rs a b.
            session_right (basis_of inputs d) session commands rs (audit.1.replies.each session commands rs a b) one (all_there inputs d audit.3 session commands rs a b);
      },
    )
