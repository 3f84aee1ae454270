-- The edits of each session that were published, beside the journal.
use Rattle.std.proofs.Common.{◌≡◌, ◌⊎◌, inl, inr, ℕ, zero, suc, ◌+◌, ◌≤◌, ◌<◌, ◌==◌, ◌↔◌, ◌^◌, ◌&&◌, Bool, true, false, List, [], ◌∷◌, length, map, get_or, filter, slice_get, Option, Some, None, All, Decides, IsTrue, refl, ap, sym, subst, ◌∙◌, arith, add-one}
use Rattle.std.specs.List.{list_all, enumerate_from}
use Rattle.std.specs.Option.{option_map, option_map_or, is_some}
use Rattle.std.specs.declared.vec.Vec.{Vec}
use Rattle.std.proofs.lemmas.Bool.{false≢true}
use Rattle.std.proofs.lemmas.Bool.Decides.{Decides-by_and, Decides-and, Decides-eqb}
use Rattle.std.proofs.lemmas.List.{length-map, get_or-map}
use Rattle.std.proofs.lemmas.Option.{none-some, same_Some, slice_get-map, slice_get_read, slice_get_within}
use Rattle.lg_gram.specs.declared.reply.Place.{Place}
use Rattle.lg_gram.specs.declared.reply.Reply.{Reply}
use Rattle.lg_script.specs.Commands.{CommandView, is_edit}
use Rattle.lg_script.specs.Histories.{numbered, command_in, command_at, is_published, HasPublished}
use Rattle.lg_audit.specs.Lines.{ShownReply}
use Rattle.lg_audit.specs.Answers.{reply_of, replies_of}
use Rattle.lg_audit.specs.Replies.{outline}
use Rattle.lg_audit.specs.Shares.{NamesEdits, IsShare, HasShares}
use Rattle.lg_audit.specs.declared.shown.ShownReply.{ShownReply as Shown}

-- ---- the edits of a session that were published

abbrev at : ℕ → ℕ × Reply → Place
at session n = record { session = session; command = n.0 }

-- from the answer of that number on
abbrev pub places_from : ℕ → ℕ → List Reply → List Place
places_from session n rs = map (at session) (filter (λ (r : ℕ × Reply). is_published r.1) (enumerate_from n rs))

-- ---- lists by number

pub within_number : {A : Type 0} (xs : List A) (n : ℕ) (x : A) → numbered xs n ≡ Some x → n ≤ length xs
within_number xs zero x is = omega arith
within_number xs (suc n) x is = let lt = slice_get_within xs n x is in omega (arith, lt)

pub some_at : {A : Type 0} (xs : List A) (n : ℕ) → n < length xs → is_some (slice_get xs n) ≡ true
some_at [] n lt = absurd (omega (arith, lt))
some_at (x ∷ xs) zero lt = refl
some_at (x ∷ xs) (suc n) lt = some_at xs n (omega (arith, lt))

pub some_beside : {A B : Type 0} (xs : List A) (ys : List B) (n : ℕ) (x : A) → length ys ≡ length xs → numbered xs n ≡ Some x → is_some (numbered ys n) ≡ true
some_beside xs ys zero x same is = absurd (none-some x is)
some_beside xs ys (suc n) x same is = let lt = slice_get_within xs n x is in some_at ys n (omega (arith, lt, same))

-- the answers of a session, as contracts see them
pub outlined_at : {A : Type 0} (replies : List (Vec Shown A)) (i : ℕ) (rs : Vec Shown A) → i < length replies → rs ≡ get_or replies i rs
    → numbered (map (map outline) (replies_of replies)) (i + 1) ≡ Some (map outline (map reply_of rs.items))
outlined_at {A} replies i rs lt is =
    ap (numbered (map (map outline) (replies_of replies))) (add-one i)
    ∙ slice_get-map (map outline) (replies_of replies) i
    ∙ ap (option_map (map outline)) (slice_get-map (λ (v : Vec Shown A). map reply_of v.items) replies i)
    ∙ ap (λ (o : Option (Vec Shown A)). option_map (map outline) (option_map (λ (v : Vec Shown A). map reply_of v.items) o)) (slice_get_read replies (length replies) i rs refl lt is)

pub short_at : {A : Type 0} (replies : List (Vec Shown A)) (i : ℕ) (rs : Vec Shown A) → i < length replies → rs ≡ get_or replies i rs → All (λ (l : List ShownReply). length l < 2 ^ 32) (replies_of replies) → length rs.items < 2 ^ 32
short_at {A} replies i rs lt is short =
    let here = short i (map reply_of rs.items) (omega (arith, lt, length-map replies (λ (v : Vec Shown A). map reply_of v.items))) in
    let same = get_or-map (λ (v : Vec Shown A). map reply_of v.items) replies i rs (map reply_of rs.items) lt ∙ ap (λ (v : Vec Shown A). map reply_of v.items) (sym is) in
    let long = ap length same in
    omega (arith, here, long, length-map rs.items reply_of)

-- ---- all sessions

module _ (journal : List Place) (all : List (List Reply)) where
  pub no_shares : HasShares journal all 0
  no_shares zero rs le is = absurd (none-some rs is)
  no_shares (suc n) rs le is = absurd (omega (arith, le))

  pub one_share : (i : ℕ) (rs : List Reply) → numbered all (i + 1) ≡ Some rs → IsShare journal (i + 1) rs → HasShares journal all i → HasShares journal all (i + 1)
  one_share i rs is share shares session others le other = go (at_most i session le)
    where
      at_most : (n k : ℕ) → k ≤ n + 1 → (k ≤ n) ⊎ (n + 1 ≡ k)
      at_most n k le = grind (arith, le)

      go : (session ≤ i) ⊎ (i + 1 ≡ session) → IsShare journal session others
      go (inl low) = shares session others low other
      go (inr same) =
          let both = same_Some rs others (sym is ∙ subst (λ (k : ℕ). numbered all k ≡ Some others) (sym same) other) in
          subst (λ (k : ℕ). IsShare journal k others) same (subst (IsShare journal (i + 1)) both share)

  pub other_share : (i n : ℕ) (rs : List Reply) → i < n → numbered all (i + 1) ≡ Some rs → (IsShare journal (i + 1) rs → ⊥) → HasShares journal all n → ⊥
  other_share i n rs lt is none shares = none (shares (i + 1) rs (omega (arith, lt)) is)

  pub fewer_shares : (i n : ℕ) → n ≤ i → HasShares journal all i → HasShares journal all n
  fewer_shares i n le shares session rs low is = shares session rs (omega (arith, le, low)) is

pub named_Decides : (scripts : List (List CommandView)) (journal : List Place) → Decides (list_all (λ p. option_map_or is_edit (command_at scripts p) false) journal) (NamesEdits scripts journal)
named_Decides scripts journal =
    let test = λ (p : Place). option_map_or is_edit (command_at scripts p) false in
    Decides-by_and test (λ (p : Place). test p ≡ true) (list_all test) (λ (p : Place). (λ e. e, λ e. e)) refl (λ _ _. refl) journal

module _ (scripts : List (List CommandView)) (journal : List Place) (all : List (List Reply)) (same : length all ≡ length scripts) where
  edits_beside : (p : Place) → option_map_or is_edit (command_at scripts p) false ≡ true → is_some (numbered all p.session) ≡ true
  edits_beside p = go (numbered scripts p.session) refl
    where
      go : (o : Option (List CommandView)) → numbered scripts p.session ≡ o → option_map_or is_edit (command_in o p.command) false ≡ true → is_some (numbered all p.session) ≡ true
      go None is e = absurd (false≢true e)
      go (Some commands) is e = some_beside scripts all p.session commands same is

  pub shares_hold : (n : ℕ) (holds : Bool) → length all ≡ n → NamesEdits scripts journal → (IsTrue holds ↔ HasShares journal all n) → IsTrue holds ↔ (NamesEdits scripts journal × HasPublished journal all)
  shares_hold n holds long named iff = (
    λ e.
        let shares = iff.0 e in (
          named,
          record {
            each = λ session rs is. let le = within_number all session rs is in shares session rs (omega (arith, le, long)) is;
            no_other = λ k d lt. edits_beside (get_or journal k d) (named k d lt);
          },
        ),
    λ both. iff.1 (λ session rs le is. both.1.each session rs is),
  )

-- ---- answers

pub lengths : {A : Type 0} (replies : List (Vec Shown A)) → length (map (map outline) (replies_of replies)) ≡ length replies
lengths {A} replies = length-map (replies_of replies) (map outline) ∙ length-map replies (λ (v : Vec Shown A). map reply_of v.items)

-- ---- places

pub place_Decides : (a b : Place) → Decides ((a.session == b.session) && (a.command == b.command)) (a ≡ b)
place_Decides a b =
    let parts = Decides-and _ _ (Decides-eqb a.session b.session) (Decides-eqb a.command b.command) in (
      λ h. let p = parts.0 h in λ i. record { session = p.0 i; command = p.1 i },
      λ e. parts.1 (ap (λ (p : Place). p.session) e, ap (λ (p : Place). p.command) e),
    )

pub same_share : (a b x y : List Place) (r : Bool) → Decides r (a ≡ b) → a ≡ x → b ≡ y → IsTrue r ↔ (x ≡ y)
same_share a b x y r same p q = (λ e. sym p ∙ same.0 e ∙ q, λ e. same.1 (p ∙ e ∙ sym q))
