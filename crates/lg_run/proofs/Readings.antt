-- Readings one after another: that they come to one thing, what is asked for them, and what comes of them.
use Rattle.std.proofs.Common.{◌≡◌, ℕ, List, [], ◌++◌, Option, None, Some, IfSome, refl, sym, ◌∙◌, ap, subst}
use Rattle.std.proofs.lemmas.List.{append-nil, append_assoc}
use Rattle.std.specs.declared.result.Result.{Result}
use Rattle.std.specs.declared.result.Result.TheVariants.{Ok, Err}
use Rattle.lg_run.specs.Inputs.{Found, Reading, accepted, refused, missing, HasSome, IsOne, given, Followed, both, ends_refused, ends_missing}
use Rattle.lg_run.specs.Reads.{AsksInOrder, Comes, TellsStop, Tells}
use Rattle.lg_run.specs.Stops.{stop_status, stop_line}
use Rattle.lg_run.specs.declared.status.Status.{Status}
use Rattle.lg_run.specs.declared.status.Status.TheVariants.{Done, BadInput, Usage, ReadFault, WriteFault, NoMemory}
use Rattle.lg_run.specs.declared.stop.Stop.{Stop}

-- ---- where something is told or not

pub known_all : {T : Type 0} (o : Option T) (P : T → Type 0) → ((x : T) → P x) → IfSome o P
known_all None P h = tt
known_all (Some x) P h = h x

pub known_both : {T : Type 0} (o : Option T) {P Q R : T → Type 0} → IfSome o P → IfSome o Q → ((x : T) → P x → Q x → R x) → IfSome o R
known_both None p q h = tt
known_both (Some x) p q h = h x p q

-- ---- readings

pub one_given : {A : Type 0} (a : A) → IsOne (given a)
one_given a names others x y p q = (p.0 ∙ sym q.0, p.1 ∙ sym q.1)

pub some_given : {A : Type 0} (a : A) → HasSome (given a)
some_given a = ([], accepted a, (refl, refl))

-- nothing was asked
pub asks_none : {A : Type 0} (reading : Reading A) (old new : List (List ℕ)) → new ≡ old → AsksInOrder reading old new
asks_none reading old new same names found is = ([], names, refl, same ∙ sym (append-nil old))

same_value : {A : Type 0} (a b : A) → accepted a ≡ accepted b → a ≡ b
same_value a b h = cc

not_refused : {A : Type 0} (a : A) (line : List ℕ) → accepted a ≡ refused line → ⊥
not_refused a line h = cc

not_missing : {A : Type 0} (a : A) (name : List ℕ) → accepted a ≡ missing name → ⊥
not_missing a name h = cc

same_line : {A : Type 0} (a b : List ℕ) → ◌≡◌ {A = Found A} (refused a) (refused b) → a ≡ b
same_line a b h = cc

same_name : {A : Type 0} (a b : List ℕ) → ◌≡◌ {A = Found A} (missing a) (missing b) → a ≡ b
same_name a b h = cc

apart : {A : Type 0} (a b : List ℕ) → ◌≡◌ {A = Found A} (refused a) (missing b) → ⊥
apart a b h = cc

module _ {A B : Type 0} (first : Reading A) (next : A → Reading B) where
  pub some_followed : HasSome first → ((a : A) → HasSome (next a)) → HasSome (Followed first next)
  some_followed (names, accepted a, p) some = let more = some a in (names ++ more.0, more.1, both a names more.0 more.1 p more.2)
  some_followed (names, refused line, p) some = (names, refused line, ends_refused names line p)
  some_followed (names, missing name, p) some = (names, missing name, ends_missing names name p)

  -- what is read where the first text is accepted
  pub after : IsOne first → (a : A) (names : List (List ℕ)) → first names (accepted a) → (others : List (List ℕ)) (y : Found B) → Followed first next others y →
      (more : List (List ℕ)) × (others ≡ names ++ more) × next a more y
  after one a names p _ _ (both b others more y q r) =
      let same = one others names (accepted b) (accepted a) q p in
      (more, ap (λ (l : List (List ℕ)). l ++ more) same.0, subst (λ (v : A). next v more y) (same_value b a same.1) r)
  after one a names p _ _ (ends_refused others line q) = absurd (not_refused a line (one names others (accepted a) (refused line) p q).1)
  after one a names p _ _ (ends_missing others name q) = absurd (not_missing a name (one names others (accepted a) (missing name) p q).1)

  pub one_followed : IsOne first → ((a : A) → IsOne (next a)) → IsOne (Followed first next)
  one_followed one each _ others _ y (both a names more x p q) r =
      let found = after one a names p others y r in
      let same = each a more found.0 x y q found.2 in
      (ap (λ (l : List (List ℕ)). names ++ l) same.0 ∙ sym found.1, same.1)
  one_followed one each _ _ _ _ (ends_refused names line p) (both a others more y q r) = absurd (not_refused a line (one others names (accepted a) (refused line) q p).1)
  one_followed one each _ _ _ _ (ends_refused names line p) (ends_refused others said q) =
      let same = one names others (refused line) (refused said) p q in (same.0, ap refused (same_line {A = A} line said same.1))
  one_followed one each _ _ _ _ (ends_refused names line p) (ends_missing others name q) = absurd (apart {A = A} line name (one names others (refused line) (missing name) p q).1)
  one_followed one each _ _ _ _ (ends_missing names name p) (both a others more y q r) = absurd (not_missing a name (one others names (accepted a) (missing name) q p).1)
  one_followed one each _ _ _ _ (ends_missing names name p) (ends_refused others line q) = absurd (apart {A = A} line name (one others names (refused line) (missing name) q p).1)
  one_followed one each _ _ _ _ (ends_missing names name p) (ends_missing others said q) =
      let same = one names others (missing name) (missing said) p q in (same.0, ap missing (same_name {A = A} name said same.1))

  -- the first text alone was asked for
  pub asks_first : (old new : List (List ℕ)) → AsksInOrder first old new → AsksInOrder (Followed first next) old new
  asks_first old new asks _ _ (both a names more found p q) =
      let w = asks names (accepted a) p in (w.0, w.1 ++ more, ap (λ (l : List (List ℕ)). l ++ more) w.2 ∙ append_assoc w.0 w.1 more, w.3)
  asks_first old new asks _ _ (ends_refused names line p) = asks names (refused line) p
  asks_first old new asks _ _ (ends_missing names name p) = asks names (missing name) p

  pub stops_first : (old new : List (List ℕ)) (status : Status) (line : List ℕ) → TellsStop first old new status line → TellsStop (Followed first next) old new status line
  stops_first old new BadInput line h = record { names = h.names; read = ends_refused h.names line h.read; grown = h.grown }
  stops_first old new Done line h = tt
  stops_first old new Usage line h = tt
  stops_first old new ReadFault line h = tt
  stops_first old new WriteFault line h = tt
  stops_first old new NoMemory line h = tt

  module _ (old middle new : List (List ℕ)) (a : A) (h : Comes first old middle (accepted a)) where
    -- and then the next
    pub asks_next : IsOne first → AsksInOrder (next a) middle new → AsksInOrder (Followed first next) old new
    asks_next one asks others y is =
        let found = after one a h.names h.read others y is in
        let w = asks found.0 y found.2 in (
          h.names ++ w.0,
          w.1,
          found.1 ∙ ap (λ (l : List (List ℕ)). h.names ++ l) w.2 ∙ sym (append_assoc h.names w.0 w.1),
          w.3 ∙ ap (λ (l : List (List ℕ)). l ++ w.0) h.grown ∙ append_assoc old h.names w.0,
        )

    pub comes_next : (found : Found B) → Comes (next a) middle new found → Comes (Followed first next) old new found
    comes_next found k = record {
      names = h.names ++ k.names;
      read = both a h.names k.names found h.read k.read;
      grown = k.grown ∙ ap (λ (l : List (List ℕ)). l ++ k.names) h.grown ∙ append_assoc old h.names k.names;
    }

    pub stops_next : (status : Status) (line : List ℕ) → TellsStop (next a) middle new status line → TellsStop (Followed first next) old new status line
    stops_next BadInput line k = comes_next (refused line) k
    stops_next Done line k = tt
    stops_next Usage line k = tt
    stops_next ReadFault line k = tt
    stops_next WriteFault line k = tt
    stops_next NoMemory line k = tt

    pub tells_next : {T : Type 0} (view : T → B) (r : Result T Stop) → Tells view (next a) middle new r → Tells view (Followed first next) old new r
    tells_next view (Ok value) k = comes_next (accepted (view value)) k
    tells_next view (Err stop) k = stops_next (stop_status stop) (stop_line stop) k
