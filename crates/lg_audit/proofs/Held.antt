-- The answers of a session, one after another.
use Rattle.std.proofs.Common.{◌≡◌, ◌⊎◌, inl, inr, ℕ, ◌+◌, ◌≤◌, ◌<◌, List, [], ◌∷◌, ◌++◌, length, map, take, slice_get, Option, Some, None, refl, ap, sym, subst, ◌∙◌, arith, add-one}
use Rattle.std.proofs.lemmas.List.{take_more, map-append, length-map, length-take-le}
use Rattle.std.proofs.lemmas.Option.{slice_get_within, get_or_from_slice_get}
use Rattle.lg_gram.specs.declared.reply.Reply.{Reply}
use Rattle.lg_script.specs.Commands.{CommandView}
use Rattle.lg_script.specs.Histories.{numbered, AreInTime, fresh}
use Rattle.lg_audit.specs.Lines.{ShownReply}
use Rattle.lg_audit.specs.Replies.{Basis, Held, Hold, none_yet, one_more, ReplyHolds, outline}
use Rattle.lg_audit.specs.Grounds.{IsDated}
use Rattle.lg_audit.specs.Rising.{Rises, IsNamed, named_after}
use Rattle.lg_audit.specs.Walks.{IsKept, IsStepped, IsWalked, HoldSome, IsFirstWrong}
use Rattle.lg_audit.specs.declared.dated.Dated.{Dated}
use Rattle.lg_audit.specs.declared.walk.Walked.{Walked}
use Rattle.lg_audit.proofs.InTime.{in_time_more, rises_so}
use Rattle.lg_audit.proofs.Comings.{makes_some}

-- ---- the next element

some_injective : {A : Type 0} (d x y : A) → Some x ≡ Some y → x ≡ y
some_injective {A} d x y e = ap (λ (o : Option A). go o) e
  where
    go : Option A → A
    go None = d
    go (Some z) = z

slice_of : {A : Type 0} (xs : List A) (n : ℕ) (x : A) → numbered xs (n + 1) ≡ Some x → slice_get xs n ≡ Some x
slice_of xs n x is = (λ i. numbered xs (sym (add-one n) i)) ∙ is

pub take_next : {A : Type 0} (xs : List A) (n : ℕ) (x : A) → numbered xs (n + 1) ≡ Some x → take (n + 1) xs ≡ take n xs ++ x ∷ []
take_next {A} xs n x is =
    let stands = slice_of xs n x is in
    take_more xs n x (slice_get_within xs n x stands) ∙ ap (λ (y : A). take n xs ++ y ∷ []) (get_or_from_slice_get xs n x x stands)

within : {A : Type 0} (xs : List A) (n : ℕ) (x : A) → numbered xs (n + 1) ≡ Some x → n < length xs
within xs n x is = slice_get_within xs n x (slice_of xs n x is)

-- ---- what came before

pub record Came (basis : Basis) (session : ℕ) (commands : List CommandView) (replies : List ShownReply) (n : ℕ) (then : Option Held) : Type 0 where
  pub before : ℕ
  pub is : n ≡ before + 1
  pub held : Option Held
  pub command : CommandView
  pub r : ShownReply
  pub hold : Hold basis session commands replies before held
  pub command_is : numbered commands (before + 1) ≡ Some command
  pub r_is : numbered replies (before + 1) ≡ Some r
  pub time : AreInTime basis.journal (take (before + 1) commands) (map outline (take (before + 1) replies))
  pub holds : ReplyHolds basis (record { session = session; command = before + 1 }) held command r then

module _ (basis : Basis) (session : ℕ) (commands : List CommandView) (replies : List ShownReply) where
  came : (n : ℕ) (then : Option Held) → Hold basis session commands replies n then → ((n ≡ 0) × (then ≡ None)) ⊎ Came basis session commands replies n then
  came _ _ none_yet = inl (refl, refl)
  came _ _ (one_more n held then command r hold a b time holds) =
      inr (record { before = n; is = refl; held = held; command = command; r = r; hold = hold; command_is = a; r_is = b; time = time; holds = holds })

  at_first : (then : Option Held) → Hold basis session commands replies 0 then → then ≡ None
  at_first then hold = go (came 0 then hold)
    where
      go : (◌≡◌ {A = ℕ} 0 0 × (then ≡ None)) ⊎ Came basis session commands replies 0 then → then ≡ None
      go (inl start) = start.1
      go (inr more) = absurd (omega (arith, more.is))

  -- the answers before hold too
  one_of : (n : ℕ) (then : Option Held) → Hold basis session commands replies (n + 1) then → (k : ℕ) → k ≤ n + 1 → (k ≤ n → HoldSome basis session commands replies k) → HoldSome basis session commands replies k
  one_of n then hold k le below = go (at_most n k le)
    where
      at_most : (n k : ℕ) → k ≤ n + 1 → (k ≤ n) ⊎ (n + 1 ≡ k)
      at_most n k le = grind (arith, le)

      go : (k ≤ n) ⊎ (n + 1 ≡ k) → HoldSome basis session commands replies k
      go (inl low) = below low
      go (inr same) = (then, subst (λ (m : ℕ). Hold basis session commands replies m then) same hold)

  pub earlier : (n : ℕ) (then : Option Held) → Hold basis session commands replies n then → (k : ℕ) → k ≤ n → HoldSome basis session commands replies k
  earlier _ _ none_yet k le = let none : 0 ≡ k = omega (arith, le) in (None, subst (λ (m : ℕ). Hold basis session commands replies m None) none none_yet)
  earlier _ _ (one_more n held then command r hold a b time holds) k le = one_of n then (one_more n held then command r hold a b time holds) k le (λ low. earlier n held hold k low)

  -- ---- the walk

  pub at_start : (edits lists : Dated) (w : Walked) → IsDated basis edits → edits.version ≡ 0 → IsDated basis lists → lists.version ≡ 0 → w.named ≡ 0 → w.held ≡ None
      → IsWalked basis session commands replies 0 edits lists w
  at_start edits lists w e e0 l l0 named held = record {
    held = None;
    hold = none_yet;
    only = at_first;
    kept = subst (λ (o : Option _). IsKept lists.version None o) (sym held) tt;
    edits_dated = e;
    lists_dated = l;
    edits_low = omega (arith, e0);
    lists_low = omega (arith, l0);
    named = record { highest = λ k d lt. absurd (omega (arith, lt)); some = inl named };
    time = record { there = λ k d lt. absurd (omega (arith, lt)); rise = λ i j d a b. absurd (omega (arith, b)) };
  }

  module _ (n : ℕ) (edits lists : Dated) (w : Walked) (at : IsWalked basis session commands replies n edits lists w) (c : CommandView) (r : ShownReply)
      (c_is : numbered commands (n + 1) ≡ Some c) (r_is : numbered replies (n + 1) ≡ Some r) where
    outlines : map outline (take (n + 1) replies) ≡ map outline (take n replies) ++ outline r ∷ []
    outlines = ap (map outline) (take_next replies n r r_is) ∙ map-append outline (take n replies) (r ∷ [])

    long : length (map outline (take n replies)) ≡ length (take n commands)
    long =
        let cs = within commands n c c_is in
        let rs = within replies n r r_is in
        length-map (take n replies) outline ∙ length-take-le n replies (omega (arith, rs)) ∙ sym (length-take-le n commands (omega (arith, cs)))

    later : AreInTime basis.journal (take (n + 1) commands) (map outline (take (n + 1) replies)) → AreInTime basis.journal (take n commands ++ c ∷ []) (map outline (take n replies) ++ outline r ∷ [])
    later time =
        subst (λ (rs : List Reply). AreInTime basis.journal (take n commands ++ c ∷ []) rs) outlines
        (subst (λ (cs : List CommandView). AreInTime basis.journal cs (map outline (take (n + 1) replies))) (take_next commands n c c_is) time)

    -- what is held before a next answer that holds is what was kept
    pub goes_so : (then : Option Held) → Hold basis session commands replies (n + 1) then
        → Rises w.named (length basis.journal) c r × ReplyHolds basis (record { session = session; command = n + 1 }) at.held c r then
    goes_so then hold = go (came (n + 1) then hold)
      where
        of : (m : ℕ) → n ≡ m → (o : Option Held) (d : CommandView) (q : ShownReply) → Hold basis session commands replies m o → numbered commands (m + 1) ≡ Some d → numbered replies (m + 1) ≡ Some q
            → AreInTime basis.journal (take (m + 1) commands) (map outline (take (m + 1) replies)) → ReplyHolds basis (record { session = session; command = m + 1 }) o d q then
            → Rises w.named (length basis.journal) c r × ReplyHolds basis (record { session = session; command = n + 1 }) at.held c r then
        of m same o d q before e f time holds =
            let before' = subst (λ (k : ℕ). Hold basis session commands replies k o) (sym same) before in
            let e' = some_injective c d c (sym (subst (λ (k : ℕ). numbered commands (k + 1) ≡ Some d) (sym same) e) ∙ c_is) in
            let f' = some_injective r q r (sym (subst (λ (k : ℕ). numbered replies (k + 1) ≡ Some q) (sym same) f) ∙ r_is) in
            let time' = subst (λ (k : ℕ). AreInTime basis.journal (take (k + 1) commands) (map outline (take (k + 1) replies))) (sym same) time in
            let h1 = subst (λ (k : ℕ). ReplyHolds basis (record { session = session; command = k + 1 }) o d q then) (sym same) holds in
            let h2 = subst (λ (x : Option Held). ReplyHolds basis (record { session = session; command = n + 1 }) x d q then) (at.only o before') h1 in
            let h3 = subst (λ (x : CommandView). ReplyHolds basis (record { session = session; command = n + 1 }) at.held x q then) e' h2 in
            let h4 = subst (λ (x : ShownReply). ReplyHolds basis (record { session = session; command = n + 1 }) at.held c x then) f' h3 in (
              rises_so basis.journal (take n commands) (map outline (take n replies)) w.named long at.named r c (makes_some basis _ at.held c r then h4) (later time'),
              h4,
            )

        go : ((n + 1 ≡ 0) × (then ≡ None)) ⊎ Came basis session commands replies (n + 1) then
            → Rises w.named (length basis.journal) c r × ReplyHolds basis (record { session = session; command = n + 1 }) at.held c r then
        go (inl start) = absurd (omega (arith, start.0))
        go (inr m) = of m.before (omega (arith, m.is)) m.held m.command m.r m.hold m.command_is m.r_is m.time m.holds

    pub first_wrong : n < length commands → ((then : Option Held) → Rises w.named (length basis.journal) c r → ReplyHolds basis (record { session = session; command = n + 1 }) at.held c r then → ⊥)
        → IsFirstWrong basis session commands replies (n + 1)
    first_wrong lt none = record {
      least = omega arith;
      most = omega (arith, lt);
      before = λ k low. earlier n at.held at.hold k (omega (arith, low));
      wrong = λ some. let so = goes_so some.0 some.1 in none some.0 so.0 so.1;
    }

    pub one_step : (edits' lists' : Dated) (w' : Walked) → IsStepped basis (record { session = session; command = n + 1 }) w.named at.held c r edits' lists' w'
        → IsWalked basis session commands replies (n + 1) edits' lists' w'
    one_step edits' lists' w' s =
        let more = in_time_more basis.journal (take n commands) (map outline (take n replies)) w.named long at.named r c at.time s.rises in
        let cs = sym (take_next commands n c c_is) in
        let time =
        subst (λ (xs : List CommandView). AreInTime basis.journal xs (map outline (take (n + 1) replies))) cs
        (subst (λ (rs : List Reply). AreInTime basis.journal (take n commands ++ c ∷ []) rs) (sym outlines) more.0) in
        let named =
        subst (λ (xs : List CommandView). IsNamed (named_after w.named c r) (fresh xs (map outline (take (n + 1) replies)))) cs
        (subst (λ (rs : List Reply). IsNamed (named_after w.named c r) (fresh (take n commands ++ c ∷ []) rs)) (sym outlines) more.1) in
        record {
          held = s.then;
          hold = one_more n at.held s.then c r at.hold c_is r_is time s.next.holds;
          only = λ other hold. s.next.only other (goes_so other hold).1;
          kept = s.kept;
          edits_dated = s.edits_dated;
          lists_dated = s.lists_dated;
          edits_low = s.edits_low;
          lists_low = s.lists_low;
          named = subst (λ (v : ℕ). IsNamed v (fresh (take (n + 1) commands) (map outline (take (n + 1) replies)))) (sym s.named_is) named;
          time = time;
        }
