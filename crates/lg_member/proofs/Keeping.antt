-- What filters keep.
use Rattle.std.proofs.Common.{◌≡◌, List, [], ◌∷◌, refl, sym, ap, ◌∙◌, subst, inl, inr, Bool, true, false, cond, ◌&&◌, Contains, arith}
use Rattle.std.specs.List.{filter}
use Rattle.std.proofs.lemmas.Bool.{cases_Bool}
use Rattle.std.proofs.lemmas.List.Elements.{All-contains, All-filter, All-contains_itself, filter_passes, Contains-append_left, Contains-append_right, Contains-append_cases, Contains-push, Contains-push_cases}
use Rattle.lg_member.specs.Members.{Keeps}
use Rattle.lg_member.specs.Laws.{MembersGoByRounds}
use Rattle.lg_member.specs.declared.member.Member.{Member}

pub filter_out : {X : Type 0} (p : X → Bool) (xs : List X) (x : X) → Contains (filter p xs) x → Contains xs x × (p x ≡ true)
filter_out p xs x c = (
  All-contains (Contains xs) (filter p xs) x (All-filter p (Contains xs) xs (All-contains_itself xs)) c,
  All-contains (λ y. p y ≡ true) (filter p xs) x (filter_passes p xs) c,
)

pub filter_in : {X : Type 0} (p : X → Bool) (xs : List X) (x : X) → Contains xs x → p x ≡ true → Contains (filter p xs) x
filter_in p [] x c e = absurd (let l = c.1 in omega arith)
filter_in p (y ∷ xs) x c e =
    elim (Contains-append_cases (y ∷ []) xs x c) [
      | inl h ↦ elim (Contains-push_cases [] y x h) [
        | inl n ↦ absurd (let l = n.1 in omega arith)
        | inr f ↦ rw (ap p f ∙ e) (subst (λ z. Contains (z ∷ filter p xs) x) (sym f) (Contains-append_left (x ∷ []) (filter p xs) x (Contains-push [] x)))
      ]
      | inr d ↦ (let r = filter_in p xs x d e in elim (cases_Bool (p y)) [ inl t ↦ rw t (Contains-append_right (y ∷ []) (filter p xs) x r) | inr t ↦ rw t r ])
    ]

pub keeps_filter : (test : Member → Bool) (old new : List Member) → new ≡ filter test old → Keeps test old new
keeps_filter test old new e = record {
  filtered = e;
  exactly = λ m. (
    (λ c. filter_out test old m (subst (λ z. Contains z m) e c)),
    (λ r. subst (λ z. Contains z m) (sym e) (filter_in test old m r.0 r.1)),
  );
}

filter_twice_at : {X : Type 0} (p q : X → Bool) (x : X) (xs : List X) (a b : Bool) → p x ≡ a → q x ≡ b → filter q (filter p xs) ≡ filter (λ y. p y && q y) xs
    → filter q (cond a (x ∷ filter p xs) (filter p xs)) ≡ cond (a && q x) (x ∷ filter (λ y. p y && q y) xs) (filter (λ y. p y && q y) xs)
filter_twice_at p q x xs false b ep eq e = e
filter_twice_at p q x xs true true ep eq e = rw eq (ap (λ z. x ∷ z) e)
filter_twice_at p q x xs true false ep eq e = rw eq e

pub filter_twice : {X : Type 0} (p q : X → Bool) (xs : List X) → filter q (filter p xs) ≡ filter (λ x. p x && q x) xs
filter_twice p q [] = refl
filter_twice {X} p q (x ∷ xs) =
    let t = filter_twice_at p q x xs (p x) (q x) refl refl (filter_twice p q xs) in t

filter_all : {X : Type 0} (xs : List X) → xs ≡ filter (λ x. true) xs
filter_all [] = refl
filter_all (x ∷ xs) = ap (λ z. x ∷ z) (filter_all xs)

pub by_rounds : MembersGoByRounds
by_rounds = record {
  none = λ ms. ((λ m. true), keeps_filter (λ m. true) ms ms (filter_all ms));
  more = λ old now new a b. ((λ m. a.0 m && b.0 m), keeps_filter (λ m. a.0 m && b.0 m) old new (b.1.filtered ∙ ap (λ z. filter b.0 z) a.1.filtered ∙ filter_twice a.0 b.0 old));
}
