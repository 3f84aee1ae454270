-- The choice of a connector that stands among the leaves.
use Rattle.std.proofs.Common.{◌≡◌, ◌<◌, ℕ, ℤ, pos, true, false, List, [], ◌∷◌, ◌++◌, length, get_or, slice_get, Some, sym, ap, subst, ◌∙◌, arith, length-append, if◌then◌else◌}
use Rattle.std.specs.List.{All}
use Rattle.std.proofs.Math.Seq.{get_or-append_seam}
use Rattle.std.proofs.lemmas.List.Elements.{All-nil, All-cons}
use Rattle.std.proofs.lemmas.Option.{slice_get_within, slice_get-get_or, get_or_from_slice_get}
use Rattle.lg_gram.specs.Names.{IsName}
use Rattle.lg_gram.specs.Connectors.{Connector, name_of}
use Rattle.lg_gram.specs.Measures.{Choice, single}
use Rattle.lg_disj.specs.Choices.{IsOn, IsSided}
use Rattle.lg_disj.specs.Grown.{IsPlaced, Lists, ComesAs}
use Rattle.lg_disj.specs.Places.{Places, leaf_at}
use Rattle.lg_disj.proofs.Growing.{grows_no}

pub leaf_was_there : (leaves : List Connector) (c : Connector) (n : ℕ) → slice_get leaves n ≡ Some c → ComesAs leaves leaves c n
leaf_was_there leaves c n there = record { grows = grows_no leaves; there = there }

pub leaf_came : (old new : List Connector) (c : Connector) (n : ℕ) → new ≡ old ++ c ∷ [] → n ≡ length old → ComesAs old new c n
leaf_came old new c n is at = record {
  grows = record { more = c ∷ []; grown = is };
  there = slice_get-get_or new n c (omega (arith, at, ap length is, length-append old (c ∷ [])))
      ∙ ap Some ((λ i. get_or (is i) (at i) c) ∙ get_or-append_seam old c [] c);
}

-- one place, on a side
abbrev pub left_at : ℕ → ℤ → Places
left_at n cost = record { left = n ∷ []; right = []; cost = cost }

abbrev pub right_at : ℕ → ℤ → Places
right_at n cost = record { left = []; right = n ∷ []; cost = cost }

module _ (leaves : List Connector) (old new : List Places) (c : Connector) (n : ℕ) (there : slice_get leaves n ≡ Some c) (named : IsName (name_of c)) where
  at : leaf_at leaves n ≡ c
  at = get_or_from_slice_get leaves n c _ there

  within : All (λ m. m < length leaves) (n ∷ [])
  within = All-cons (λ m. m < length leaves) n [] (slice_get_within leaves n c there) (All-nil (λ m. m < length leaves))

  pub lists_right : c.right ≡ true → new ≡ old ++ right_at n (pos 0) ∷ [] → Lists leaves old new (single c ∷ [])
  lists_right side is =
      let p = right_at n (pos 0) in
      let one : Choice = record { left = []; right = c ∷ []; cost = pos 0 } in
      let alone : one ≡ single c = ap {B = Choice} (λ b. if b then one else record { left = c ∷ []; right = []; cost = pos 0 }) (sym side) in
      subst (λ x. Lists leaves old new (x ∷ [])) alone (record {
        fresh = p ∷ [];
        added = is;
        stand = record {
          told = λ i. record { left = []; right = at i ∷ []; cost = pos 0 } ∷ [];
          placed = All-cons (IsPlaced leaves) p [] (record { left = All-nil (λ m. m < length leaves); right = within }) (All-nil (IsPlaced leaves));
          sided = All-cons IsSided one []
              (record { left = All-nil (IsOn false); right = All-cons (IsOn true) c [] (record { named = named; side = side }) (All-nil (IsOn true)) }) (All-nil IsSided);
        };
      })

  pub lists_left : c.right ≡ false → new ≡ old ++ left_at n (pos 0) ∷ [] → Lists leaves old new (single c ∷ [])
  lists_left side is =
      let p = left_at n (pos 0) in
      let one : Choice = record { left = c ∷ []; right = []; cost = pos 0 } in
      let alone : one ≡ single c = ap {B = Choice} (λ b. if b then record { left = []; right = c ∷ []; cost = pos 0 } else one) (sym side) in
      subst (λ x. Lists leaves old new (x ∷ [])) alone (record {
        fresh = p ∷ [];
        added = is;
        stand = record {
          told = λ i. record { left = at i ∷ []; right = []; cost = pos 0 } ∷ [];
          placed = All-cons (IsPlaced leaves) p [] (record { left = within; right = All-nil (λ m. m < length leaves) }) (All-nil (IsPlaced leaves));
          sided = All-cons IsSided one []
              (record { left = All-cons (IsOn false) c [] (record { named = named; side = side }) (All-nil (IsOn false)); right = All-nil (IsOn true) }) (All-nil IsSided);
        };
      })
