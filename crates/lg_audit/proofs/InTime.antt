-- The versions that the answers of a session name, as one answer more comes.
use Rattle.std.proofs.Common.{◌≡◌, ◌⊎◌, inl, inr, ℕ, ◌+◌, ◌≤◌, ◌<◌, List, [], ◌∷◌, ◌++◌, length, get_or, All, AllPairs, Any, refl, ap, sym, subst, ◌∙◌, arith, length-append}
use Rattle.std.proofs.lemmas.List.{get_or_append_left, get_or_push, append-nil}
use Rattle.std.proofs.lemmas.List.Elements.{All-push, All-weaker}
use Rattle.lg_gram.specs.declared.reply.Place.{Place}
use Rattle.lg_gram.specs.declared.reply.Reply.{Reply}
use Rattle.lg_gram.specs.declared.reply.Reply.TheVariants.{Listed, Beyond, Published, Refused, At, NoListing}
use Rattle.lg_script.specs.Commands.{CommandView, parses, lists, goes_on, makes, asks}
use Rattle.lg_script.specs.Histories.{AreInTime, Precedes, reply_version, fresh}
use Rattle.lg_audit.specs.Lines.{ShownReply}
use Rattle.lg_audit.specs.Replies.{outline}
use Rattle.lg_audit.specs.Rising.{IsAhead, Rises, named_after, IsNamed}

-- ---- lists

module _ {A : Type 0} (R : A → A → Type 0) (xs : List A) (y : A) where
  pub pairs_push : AllPairs R xs → All (λ x. R x y) xs → AllPairs R (xs ++ y ∷ [])
  pairs_push all behind i j d a b =
      let long = length-append xs (y ∷ []) in
      let low : i < length xs = omega (arith, a, b, long) in
      let first : get_or (xs ++ y ∷ []) i d ≡ get_or xs i d = get_or_append_left xs (y ∷ []) d i low in
      go first (at_most (length xs) j (omega (arith, b, long)))
    where
      at_most : (n k : ℕ) → k < n + 1 → (k < n) ⊎ (n ≡ k)
      at_most n k lt = grind (arith, lt)

      go : get_or (xs ++ y ∷ []) i d ≡ get_or xs i d → (j < length xs) ⊎ (length xs ≡ j) → R (get_or (xs ++ y ∷ []) i d) (get_or (xs ++ y ∷ []) j d)
      go first (inl lt) = subst (λ (x : A). R x (get_or (xs ++ y ∷ []) j d)) (sym first) (subst (λ (x : A). R (get_or xs i d) x) (sym (get_or_append_left xs (y ∷ []) d j lt)) (all i j d a lt))
      go first (inr same) =
          subst (λ (x : A). R x (get_or (xs ++ y ∷ []) j d)) (sym first)
          (subst (λ (x : A). R (get_or xs i d) x) (sym (get_or_push xs y d j same)) (behind i d (omega (arith, a, same))))

  pub pairs_last : AllPairs R (xs ++ y ∷ []) → All (λ x. R x y) xs
  pairs_last all k d lt =
      let pair = all k (length xs) d lt (omega (arith, length-append xs (y ∷ []))) in
      subst (λ (x : A). R x y) (get_or_append_left xs (y ∷ []) d k lt) (subst (λ (x : A). R (get_or (xs ++ y ∷ []) k d) x) (get_or_push xs y d (length xs) refl) pair)

pub all_last : {A : Type 0} (P : A → Type 0) (xs : List A) (y : A) → All P (xs ++ y ∷ []) → P y
all_last P xs y all = subst P (get_or_push xs y y (length xs) refl) (all (length xs) y (omega (arith, length-append xs (y ∷ []))))

any_last : {A : Type 0} (P : A → Type 0) (xs : List A) (y : A) → P y → Any P (xs ++ y ∷ [])
any_last P xs y holds = (length xs, y, omega (arith, length-append xs (y ∷ [])), get_or_push xs y y (length xs) refl, holds)

-- ---- the answers that name what the session has come to

pub fresh_append : (cs : List CommandView) (rs : List Reply) (c : CommandView) (o : Reply) → length rs ≡ length cs → fresh (cs ++ c ∷ []) (rs ++ o ∷ []) ≡ fresh cs rs ++ fresh (c ∷ []) (o ∷ [])
fresh_append [] [] c o long = refl
fresh_append [] (r ∷ rs) c o long = absurd (omega (arith, long))
fresh_append (d ∷ cs) [] c o long = absurd (omega (arith, long))
fresh_append (parses text ∷ cs) (r ∷ rs) c o long = ap (λ (l : List Reply). r ∷ l) (fresh_append cs rs c o (omega (arith, long)))
fresh_append (lists from want text ∷ cs) (r ∷ rs) c o long = ap (λ (l : List Reply). r ∷ l) (fresh_append cs rs c o (omega (arith, long)))
fresh_append (goes_on ∷ cs) (r ∷ rs) c o long = fresh_append cs rs c o (omega (arith, long))
fresh_append (makes edit ∷ cs) (r ∷ rs) c o long = ap (λ (l : List Reply). r ∷ l) (fresh_append cs rs c o (omega (arith, long)))
fresh_append (asks ∷ cs) (r ∷ rs) c o long = ap (λ (l : List Reply). r ∷ l) (fresh_append cs rs c o (omega (arith, long)))

-- what comes behind a version comes behind an answer that names no higher one
behind : (named : ℕ) (e o : Reply) → Precedes (At named) o → reply_version e ≤ named → Precedes e o
behind named e (Listed n tokens page stats) h le = omega (arith, h, le)
behind named e (Beyond n bound) h le = omega (arith, h, le)
behind named e (Published n) h le = omega (arith, h, le)
behind named e (Refused n cause name) h le = omega (arith, h, le)
behind named e (At n) h le = omega (arith, h, le)
behind named e NoListing h le = omega (arith, h, le)

same_behind : (named : ℕ) (e o : Reply) → Precedes e o → reply_version e ≡ named → Precedes (At named) o
same_behind named e (Listed n tokens page stats) h is = omega (arith, h, is)
same_behind named e (Beyond n bound) h is = omega (arith, h, is)
same_behind named e (Published n) h is = omega (arith, h, is)
same_behind named e (Refused n cause name) h is = omega (arith, h, is)
same_behind named e (At n) h is = omega (arith, h, is)
same_behind named e NoListing h is = omega (arith, h, is)

-- a version that an edit made is not 0
abbrev pub MakesSome : Reply → Type 0
MakesSome (Published version) = 1 ≤ version
MakesSome _ = Unit {0}

first_of_all : (o : Reply) → MakesSome o → Precedes (At 0) o
first_of_all (Listed n tokens page stats) some = omega arith
first_of_all (Beyond n bound) some = omega arith
first_of_all (Published n) some = omega (arith, some)
first_of_all (Refused n cause name) some = omega arith
first_of_all (At n) some = omega arith
first_of_all NoListing some = omega arith

no_lower : (named : ℕ) (o : Reply) → Precedes (At named) o → named ≤ reply_version o
no_lower named (Listed n tokens page stats) h = omega (arith, h)
no_lower named (Beyond n bound) h = omega (arith, h)
no_lower named (Published n) h = omega (arith, h)
no_lower named (Refused n cause name) h = omega (arith, h)
no_lower named (At n) h = omega (arith, h)
no_lower named NoListing h = omega (arith, h)

-- an answer that names what the session has come to
module _ (named : ℕ) (es : List Reply) (known : IsNamed named es) (o : Reply) where
  rise_more : AllPairs Precedes es → Precedes (At named) o → AllPairs Precedes (es ++ o ∷ [])
  rise_more all next = pairs_push Precedes es o all (All-weaker (λ r. reply_version r ≤ named) (λ r. Precedes r o) (λ r le. behind named r o next le) es known.highest)

  named_so : MakesSome o → AllPairs Precedes (es ++ o ∷ []) → Precedes (At named) o
  named_so some all = go known.some
    where
      go : (named ≡ 0) ⊎ Any (λ r. reply_version r ≡ named) es → Precedes (At named) o
      go (inl none) = subst (λ (n : ℕ). Precedes (At n) o) (sym none) (first_of_all o some)
      go (inr one) = same_behind named one.1 o (subst (λ (r : Reply). Precedes r o) one.3 (pairs_last Precedes es o all one.0 one.1 one.2)) one.4

  named_more : Precedes (At named) o → IsNamed (reply_version o) (es ++ o ∷ [])
  named_more next = record {
    highest = All-push (λ r. reply_version r ≤ reply_version o) es o
        (All-weaker (λ r. reply_version r ≤ named) (λ r. reply_version r ≤ reply_version o) (λ r le. omega (arith, le, no_lower named o next)) es known.highest) (omega arith);
    some = inr (any_last (λ r. reply_version r ≡ reply_version o) es o refl);
  }

-- ---- one answer more

module _ (journal : List Place) (cs : List CommandView) (rs : List Reply) (named : ℕ) (long : length rs ≡ length cs) (known : IsNamed named (fresh cs rs)) (r : ShownReply) where
  -- where it is fresh
  fresh_in_time : (c : CommandView) → fresh (c ∷ []) (outline r ∷ []) ≡ outline r ∷ [] → AreInTime journal cs rs → IsAhead named (length journal) r
      → AreInTime journal (cs ++ c ∷ []) (rs ++ outline r ∷ []) × IsNamed (reply_version (outline r)) (fresh (cs ++ c ∷ []) (rs ++ outline r ∷ []))
  fresh_in_time c new time ahead =
      let is : fresh (cs ++ c ∷ []) (rs ++ outline r ∷ []) ≡ fresh cs rs ++ outline r ∷ [] = fresh_append cs rs c (outline r) long ∙ ap (λ (l : List Reply). fresh cs rs ++ l) new in (
        record {
          there = All-push (λ o. reply_version o ≤ length journal) rs (outline r) time.there ahead.there;
          rise = subst (AllPairs Precedes) (sym is) (rise_more named (fresh cs rs) known (outline r) time.rise ahead.behind);
        },
        subst (IsNamed (reply_version (outline r))) (sym is) (named_more named (fresh cs rs) known (outline r) ahead.behind),
      )

  -- where it goes on with an old version
  old_in_time : AreInTime journal cs rs → reply_version (outline r) ≤ length journal
      → AreInTime journal (cs ++ goes_on ∷ []) (rs ++ outline r ∷ []) × IsNamed named (fresh (cs ++ goes_on ∷ []) (rs ++ outline r ∷ []))
  old_in_time time there =
      let is : fresh (cs ++ goes_on ∷ []) (rs ++ outline r ∷ []) ≡ fresh cs rs = fresh_append cs rs goes_on (outline r) long ∙ append-nil (fresh cs rs) in (
        record {
          there = All-push (λ o. reply_version o ≤ length journal) rs (outline r) time.there there;
          rise = subst (AllPairs Precedes) (sym is) time.rise;
        },
        subst (IsNamed named) (sym is) known,
      )

  pub in_time_more : (c : CommandView) → AreInTime journal cs rs → Rises named (length journal) c r
      → AreInTime journal (cs ++ c ∷ []) (rs ++ outline r ∷ []) × IsNamed (named_after named c r) (fresh (cs ++ c ∷ []) (rs ++ outline r ∷ []))
  in_time_more (parses text) time rises = fresh_in_time (parses text) refl time rises
  in_time_more (lists from want text) time rises = fresh_in_time (lists from want text) refl time rises
  in_time_more goes_on time rises = old_in_time time rises
  in_time_more (makes edit) time rises = fresh_in_time (makes edit) refl time rises
  in_time_more asks time rises = fresh_in_time asks refl time rises

  fresh_rises : (c : CommandView) → fresh (c ∷ []) (outline r ∷ []) ≡ outline r ∷ [] → MakesSome (outline r) → AreInTime journal (cs ++ c ∷ []) (rs ++ outline r ∷ []) → IsAhead named (length journal) r
  fresh_rises c new some time =
      let is : fresh (cs ++ c ∷ []) (rs ++ outline r ∷ []) ≡ fresh cs rs ++ outline r ∷ [] = fresh_append cs rs c (outline r) long ∙ ap (λ (l : List Reply). fresh cs rs ++ l) new in
      record {
        there = all_last (λ o. reply_version o ≤ length journal) rs (outline r) time.there;
        behind = named_so named (fresh cs rs) known (outline r) some (subst (AllPairs Precedes) is time.rise);
      }

  pub rises_so : (c : CommandView) → MakesSome (outline r) → AreInTime journal (cs ++ c ∷ []) (rs ++ outline r ∷ []) → Rises named (length journal) c r
  rises_so (parses text) some time = fresh_rises (parses text) refl some time
  rises_so (lists from want text) some time = fresh_rises (lists from want text) refl some time
  rises_so goes_on some time = all_last (λ o. reply_version o ≤ length journal) rs (outline r) time.there
  rises_so (makes edit) some time = fresh_rises (makes edit) refl some time
  rises_so asks some time = fresh_rises asks refl some time

-- ---- from a lower version on

sooner : (low named : ℕ) (o : Reply) → low ≤ named → Precedes (At named) o → Precedes (At low) o
sooner low named (Listed n tokens page stats) le h = omega (arith, le, h)
sooner low named (Beyond n bound) le h = omega (arith, le, h)
sooner low named (Published n) le h = omega (arith, le, h)
sooner low named (Refused n cause name) le h = omega (arith, le, h)
sooner low named (At n) le h = omega (arith, le, h)
sooner low named NoListing le h = omega (arith, le, h)

ahead_lower : (low named newest : ℕ) (r : ShownReply) → low ≤ named → IsAhead named newest r → IsAhead low newest r
ahead_lower low named newest r le ahead = record { there = ahead.there; behind = sooner low named (outline r) le ahead.behind }

pub rises_lower : (low named newest : ℕ) (c : CommandView) (r : ShownReply) → low ≤ named → Rises named newest c r → Rises low newest c r
rises_lower low named newest (parses text) r le rises = ahead_lower low named newest r le rises
rises_lower low named newest (lists from want text) r le rises = ahead_lower low named newest r le rises
rises_lower low named newest goes_on r le rises = rises
rises_lower low named newest (makes edit) r le rises = ahead_lower low named newest r le rises
rises_lower low named newest asks r le rises = ahead_lower low named newest r le rises
