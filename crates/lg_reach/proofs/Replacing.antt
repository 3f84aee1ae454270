-- A member is taken from its place, and what is left of it is put at a place that is no later.
use Rattle.std.proofs.Common.{◌≡◌, ◌∙◌, sym, ap, ℕ, ◌+◌, ◌<◌, ◌≤◌, arith, List, [], ◌∷◌, ◌++◌, length, get_or, take, set}
use Rattle.std.proofs.lemmas.List.{get_or-set_other, length-set, take-set-le, take_more_set}

module _ {X : Type 0} (now : List X) (place kept : ℕ) (gone left : X) (low : kept ≤ place) (within : place < length now) where
  -- it stands behind those that were put before
  pub put_behind : take (kept + 1) (set (set now place gone) kept left) ≡ take kept now ++ left ∷ []
  put_behind =
      let long = length-set now place gone in
      take_more_set (set now place gone) kept left (omega (arith, long, low, within)) ∙ ap (λ xs. xs ++ left ∷ []) (take-set-le kept now place gone low)

  pub same_long : length (set (set now place gone) kept left) ≡ length now
  same_long = length-set (set now place gone) kept left ∙ length-set now place gone

pub taken_long : {X : Type 0} (now : List X) (place : ℕ) (gone : X) → length (set now place gone) ≡ length now
taken_long now place gone = length-set now place gone

-- where nothing is put back, all stay but the one that is taken
pub taken_before : {X : Type 0} (now : List X) (place kept : ℕ) (gone : X) → kept ≤ place → take kept (set now place gone) ≡ take kept now
taken_before now place kept gone low = take-set-le kept now place gone low

-- the members that were not looked at yet are those that stood there
pub still_there : {X : Type 0} (now es : List X) (place : ℕ) (e d : X) → ((k : ℕ) (x : X) → place ≤ k → get_or now k x ≡ get_or es k x) → e ≡ d → d ≡ get_or now place d → e ≡ get_or es place e
still_there now es place e d same is read = is ∙ read ∙ ap (λ x. get_or now place x) (sym is) ∙ same place e (omega arith)

pub still_taken : {X : Type 0} (now es : List X) (place : ℕ) (gone : X) → ((k : ℕ) (x : X) → place ≤ k → get_or now k x ≡ get_or es k x)
    → (k : ℕ) (x : X) → place + 1 ≤ k → get_or (set now place gone) k x ≡ get_or es k x
still_taken now es place gone same k x past = get_or-set_other now place k gone x (λ is. omega (arith, is, past)) ∙ same k x (omega (arith, past))

pub still_put : {X : Type 0} (now es : List X) (place kept : ℕ) (gone left : X) → kept ≤ place → ((k : ℕ) (x : X) → place ≤ k → get_or now k x ≡ get_or es k x)
    → (k : ℕ) (x : X) → place + 1 ≤ k → get_or (set (set now place gone) kept left) k x ≡ get_or es k x
still_put now es place kept gone left low same k x past =
    get_or-set_other (set now place gone) kept k left x (λ is. omega (arith, is, past, low)) ∙ still_taken now es place gone same k x past
