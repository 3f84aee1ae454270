-- What is left of choices that stand beside one another or one behind the other, from what is left of each.
use Rattle.std.proofs.Common.{◌≡◌, ℕ, ◌≤◌, ℤ, pos, inl, inr, ◌∙◌, Bool, true, false, cond, Option, Some, None, List, [], ◌∷◌, ◌++◌, map, Contains, refl, sym, ap, subst, arith, if◌then◌else◌}
use Rattle.std.specs.List.{AllZip, flat_map}
use Rattle.std.specs.Option.{option_map}
use Rattle.std.proofs.Math.Nat.{min-le_left, min-le_right}
use Rattle.std.proofs.lemmas.Bool.{and_parts}
use Rattle.std.proofs.lemmas.List.Elements.{Contains-append_left, Contains-append_right, Contains-append_cases}
use Rattle.lg_base.proofs.Elements.{contains_cases, contains_none, contains_here, map_in, map_out, flat_in, flat_out}
use Rattle.lg_gram.specs.Connectors.{Connector}
use Rattle.lg_gram.specs.Measures.{Choice, no_connectors, single, joined, dearer}
use Rattle.lg_reach.specs.Climbs.{Climbs, at_end, up, beyond, Fits, IsNoFarther, IsWithin, Holds, Leaves, IsFewer}
use Rattle.lg_reach.specs.Walks.{nearer_of}
use Rattle.lg_reach.specs.declared.walk.Least.{Least}
use Rattle.lg_reach.specs.declared.walk.Next.{Next}

-- each of the first choices joined with each of the second
abbrev pub all_joined : List Choice → List Choice → List Choice
all_joined xs bs = flat_map (λ a. map (joined a) bs) xs

-- on each side the nearer
abbrev pub nearer : Least → Least → Least
nearer a b = record { left = nearer_of a.left b.left; right = nearer_of a.right b.right }

-- what is left of either
abbrev pub either : Option (List Choice × Least) → Option (List Choice × Least) → Option (List Choice × Least)
either None p = p
either (Some x) None = Some x
either (Some x) (Some y) = Some (x.0 ++ y.0, nearer x.1 y.1)

abbrev pub least_on : Bool → Least → Next
least_on right s = cond right s.right s.left

-- behind a link of this connector that is m long at least
abbrev pub leaf_after : Connector → ℕ → Least → Least
leaf_after c m s = cond c.right (record { left = s.left; right = beyond m }) (record { left = beyond m; right = s.right })

-- one is said wherever the other is
abbrev pub Grows : (Connector → ℕ → Type 0) → (Connector → ℕ → Type 0) → Type 0
Grows A B = (c : Connector) (n : ℕ) → A c n → B c n

-- what fits does, and is kept
abbrev Does : (Ok : Bool → Connector → ℕ → Type 0) (Seen : Connector → ℕ → Type 0) → List Choice → Least → Least → Choice → List ℕ → List ℕ → Type 0
Does Ok Seen kept after end c ls rs = Contains kept c × IsWithin after end × AllZip Seen c.left ls × AllZip Seen c.right rs

abbrev DoEach : (Ok : Bool → Connector → ℕ → Type 0) (Seen : Connector → ℕ → Type 0) → Least → List Choice → List Choice → Least → Type 0
DoEach Ok Seen s cs kept after = (end : Least) (c : Choice) (ls rs : List ℕ) → Contains cs c → Fits Ok s end c ls rs → Does Ok Seen kept after end c ls rs

held : (Ok : Bool → Connector → ℕ → Type 0) (Seen : Connector → ℕ → Type 0) (s : Least) (cs kept : List Choice) (after : Least) → DoEach Ok Seen s cs kept after → Holds Ok Seen s cs kept after
held Ok Seen s cs kept after all = record {
  stays = λ end c ls rs m f. (all end c ls rs m f).0;
  within = λ end c ls rs m f. (all end c ls rs m f).1;
  lefts = λ end c ls rs m f. (all end c ls rs m f).2;
  rights = λ end c ls rs m f. (all end c ls rs m f).3;
}

does : (Ok : Bool → Connector → ℕ → Type 0) (Seen : Connector → ℕ → Type 0) (s : Least) (cs kept : List Choice) (after : Least) → Holds Ok Seen s cs kept after → DoEach Ok Seen s cs kept after
does Ok Seen s cs kept after h end c ls rs m f = (h.stays end c ls rs m f, h.within end c ls rs m f, h.lefts end c ls rs m f, h.rights end c ls rs m f)

seen_zip : (A B : Connector → ℕ → Type 0) → Grows A B → (cs : List Connector) (ns : List ℕ) → AllZip A cs ns → AllZip B cs ns
seen_zip A B more [] [] h = h
seen_zip A B more [] (n ∷ ns) h = absurd h
seen_zip A B more (c ∷ cs) [] h = absurd h
seen_zip A B more (c ∷ cs) (n ∷ ns) (first, rest) = (more c n first, seen_zip A B more cs ns rest)

pub seen_more : (Ok : Bool → Connector → ℕ → Type 0) (A B : Connector → ℕ → Type 0) (s : Least) (cs : List Choice) (o : Option (List Choice × Least)) → Grows A B → Leaves Ok A s cs o → Leaves Ok B s cs o
seen_more Ok A B s cs None more h = h
seen_more Ok A B s cs (Some left) more h = record {
  stays = h.stays;
  within = h.within;
  lefts = λ end c ls rs m f. seen_zip A B more c.left ls (h.lefts end c ls rs m f);
  rights = λ end c ls rs m f. seen_zip A B more c.right rs (h.rights end c ls rs m f);
}

only : {X : Type 0} (x y : X) → Contains (x ∷ []) y → x ≡ y
only x y m = elim (contains_cases x [] y m) [ inl same ↦ same | inr later ↦ absurd (contains_none y later) ]

-- of one choice alone
one_does : (Ok : Bool → Connector → ℕ → Type 0) (Seen : Connector → ℕ → Type 0) (s after : Least) (a : Choice) → ((end : Least) (ls rs : List ℕ) → Fits Ok s end a ls rs → Does Ok Seen (a ∷ []) after end a ls rs)
    → Holds Ok Seen s (a ∷ []) (a ∷ []) after
one_does Ok Seen s after a all =
    held Ok Seen s (a ∷ []) (a ∷ []) after
    (λ end c ls rs m. subst (λ x. Fits Ok s end x ls rs → Does Ok Seen (a ∷ []) after end x ls rs) (only a c m) (all end ls rs))

-- no farther than itself, and than what lies no farther than another
pub no_farther_self : (s : Next) → IsNoFarther s s
no_farther_self s = record { least = omega arith; first = λ is. is }

pub no_farther_then : (a b c : Next) → IsNoFarther a b → IsNoFarther b c → IsNoFarther a c
no_farther_then a b c v w = let x = v.least in let y = w.least in record { least = omega (arith, x, y); first = λ is. w.first (v.first is) }

-- beyond a shorter link
nearer_beyond : (m n : ℕ) (e : Next) → m ≤ n → IsNoFarther (beyond n) e → IsNoFarther (beyond m) e
nearer_beyond m n e less w = let x = w.least in record { least = omega (arith, x, less); first = w.first }

-- what is right of a connector at the first place is right of it anywhere
abbrev pub IsLoose : (Bool → Connector → ℕ → Type 0) → Type 0
IsLoose Ok = (b : Bool) (c : Connector) (n : ℕ) → Ok b c n → Ok false c n

module _ (Ok : Bool → Connector → ℕ → Type 0) where
  climbs_none : (s e : Next) (ns : List ℕ) → Climbs Ok s [] ns e → (ns ≡ []) × IsNoFarther s e
  climbs_none _ _ _ (at_end s e le) = (refl, le)

  -- a first connector, and the others
  climbs_first : (s e : Next) (c : Connector) (cs : List Connector) (ns : List ℕ) → Climbs Ok s (c ∷ cs) ns e
      → (n : ℕ) × (rest : List ℕ) × (ns ≡ n ∷ rest) × (s.least ≤ n) × Ok s.first c n × Climbs Ok (beyond n) cs rest e
  climbs_first _ _ _ _ _ (up s c n cs ns e le ok rest) = (n, ns, refl, le, ok, rest)

  ok_lower : IsLoose Ok → (a b : Bool) → (a ≡ true → b ≡ true) → (c : Connector) (n : ℕ) → Ok b c n → Ok a c n
  ok_lower loose true b first c n ok = subst (λ z. Ok z c n) (first refl) ok
  ok_lower loose false b first c n ok = loose b c n ok

  climbs_lower : IsLoose Ok → (s t e : Next) (cs : List Connector) (ns : List ℕ) → IsNoFarther t s → Climbs Ok s cs ns e → Climbs Ok t cs ns e
  climbs_lower loose _ t _ _ _ lower (at_end s e le) = at_end t e (no_farther_then t s e lower le)
  climbs_lower loose _ t _ _ _ lower (up s c n cs ns e le ok rest) = let less = lower.least in up t c n cs ns e (omega (arith, le, less)) (ok_lower loose t.first s.first lower.first c n ok) rest

  -- two lists one behind the other, and where the second begins
  record Split (s : Next) (xs bs : List Connector) (ns : List ℕ) (e : Next) : Type 0 where
    middle : Next
    near : List ℕ
    far : List ℕ
    all : ns ≡ near ++ far
    first : Climbs Ok s xs near middle
    second : Climbs Ok middle bs far e

  split : (s e : Next) (xs bs : List Connector) (ns : List ℕ) → Climbs Ok s (xs ++ bs) ns e → Split s xs bs ns e
  split s e [] bs ns h = record { middle = s; near = []; far = ns; all = refl; first = at_end s s (no_farther_self s); second = h }
  split s e (a ∷ xs) bs ns h =
      let (n, rest, is, le, ok, others) = climbs_first s e a (xs ++ bs) ns h in
      let more = split (beyond n) e xs bs rest others in
      record {
        middle = more.middle;
        near = n ∷ more.near;
        far = more.far;
        all = is ∙ ap (λ x. n ∷ x) more.all;
        first = up s a n xs more.near more.middle le ok more.first;
        second = more.second;
      }

all_zip_append : (R : Connector → ℕ → Type 0) (xs bs : List Connector) (ns ms : List ℕ) → AllZip R xs ns → AllZip R bs ms → AllZip R (xs ++ bs) (ns ++ ms)
all_zip_append R [] bs [] ms h k = k
all_zip_append R [] bs (n ∷ ns) ms h k = absurd h
all_zip_append R (a ∷ xs) bs [] ms h k = absurd h
all_zip_append R (a ∷ xs) bs (n ∷ ns) ms (first, rest) k = (first, all_zip_append R xs bs ns ms rest k)

pub nothing_leaves : (Ok : Bool → Connector → ℕ → Type 0) (Seen : Connector → ℕ → Type 0) (s : Least) → Leaves Ok Seen s (no_connectors ∷ []) (Some (no_connectors ∷ [], s))
nothing_leaves Ok Seen s =
    one_does Ok Seen s s no_connectors
    (λ end ls rs f.
    let l = climbs_none Ok s.left end.left ls f.left in
    let r = climbs_none Ok s.right end.right rs f.right in (
      contains_here no_connectors [],
      record { left = l.1; right = r.1 },
      subst (λ x. AllZip Seen [] x) (sym l.0) tt,
      subst (λ x. AllZip Seen [] x) (sym r.0) tt,
    ))

-- the choice of a connector by the side that it stands on
abbrev on_side : Bool → Connector → Choice
on_side b c = if b then record { left = []; right = c ∷ []; cost = pos 0 } else record { left = c ∷ []; right = []; cost = pos 0 }

abbrev after_side : Bool → ℕ → Least → Least
after_side b m s = cond b (record { left = s.left; right = beyond m }) (record { left = beyond m; right = s.right })

side_does : (Ok : Bool → Connector → ℕ → Type 0) (Seen : Connector → ℕ → Type 0) (s : Least) (c : Connector) (m : ℕ) (b : Bool) → ((n : ℕ) → Ok (least_on b s).first c n → (least_on b s).least ≤ n → m ≤ n)
    → ((n : ℕ) → Ok (least_on b s).first c n → m ≤ n → Seen c n) → (end : Least) (ls rs : List ℕ) → Fits Ok s end (on_side b c) ls rs → Does Ok Seen (on_side b c ∷ []) (after_side b m s) end (on_side b c) ls rs
side_does Ok Seen s c m true near seen end ls rs f =
    let l = climbs_none Ok s.left end.left ls f.left in
    let (n, rest, is, le, ok, behind) = climbs_first Ok s.right end.right c [] rs f.right in
    let (ended, within) = climbs_none Ok (beyond n) end.right rest behind in
    let far = near n ok le in (
      contains_here (on_side true c) [],
      record { left = l.1; right = nearer_beyond m n end.right far within },
      subst (λ x. AllZip Seen [] x) (sym l.0) tt,
      subst (λ x. AllZip Seen (c ∷ []) x) (sym (is ∙ ap (λ x. n ∷ x) ended)) (seen n ok far, tt),
    )
side_does Ok Seen s c m false near seen end ls rs f =
    let r = climbs_none Ok s.right end.right rs f.right in
    let (n, rest, is, le, ok, behind) = climbs_first Ok s.left end.left c [] ls f.left in
    let (ended, within) = climbs_none Ok (beyond n) end.left rest behind in
    let far = near n ok le in (
      contains_here (on_side false c) [],
      record { left = nearer_beyond m n end.left far within; right = r.1 },
      subst (λ x. AllZip Seen (c ∷ []) x) (sym (is ∙ ap (λ x. n ∷ x) ended)) (seen n ok far, tt),
      subst (λ x. AllZip Seen [] x) (sym r.0) tt,
    )

side_none : (Ok : Bool → Connector → ℕ → Type 0) (s : Least) (c : Connector) (b : Bool) → ((n : ℕ) → Ok (least_on b s).first c n → (least_on b s).least ≤ n → ⊥)
    → (end : Least) (ls rs : List ℕ) → Fits Ok s end (on_side b c) ls rs → ⊥
side_none Ok s c true none end ls rs f = let (n, rest, is, le, ok, behind) = climbs_first Ok s.right end.right c [] rs f.right in none n ok le
side_none Ok s c false none end ls rs f = let (n, rest, is, le, ok, behind) = climbs_first Ok s.left end.left c [] ls f.left in none n ok le

pub leaf_leaves : (Ok : Bool → Connector → ℕ → Type 0) (Seen : Connector → ℕ → Type 0) (s : Least) (c : Connector) (m : ℕ) → ((n : ℕ) → Ok (least_on c.right s).first c n → (least_on c.right s).least ≤ n → m ≤ n)
    → ((n : ℕ) → Ok (least_on c.right s).first c n → m ≤ n → Seen c n) → Leaves Ok Seen s (single c ∷ []) (Some (single c ∷ [], leaf_after c m s))
leaf_leaves Ok Seen s c m near seen = one_does Ok Seen s (leaf_after c m s) (single c) (side_does Ok Seen s c m c.right near seen)

pub leaf_none : (Ok : Bool → Connector → ℕ → Type 0) (Seen : Connector → ℕ → Type 0) (s : Least) (c : Connector) → ((n : ℕ) → Ok (least_on c.right s).first c n → (least_on c.right s).least ≤ n → ⊥)
    → Leaves Ok Seen s (single c ∷ []) None
leaf_none Ok Seen s c none end a ls rs m f = side_none Ok s c c.right none end ls rs (subst (λ x. Fits Ok s end x ls rs) (sym (only (single c) a m)) f)

-- a price changes no connector
fits_dearer : (Ok : Bool → Connector → ℕ → Type 0) (s end : Least) (price : ℤ) (a : Choice) (ls rs : List ℕ) → Fits Ok s end (dearer price a) ls rs → Fits Ok s end a ls rs
fits_dearer Ok s end price a ls rs f = record { left = f.left; right = f.right }

pub dearer_leaves : (Ok : Bool → Connector → ℕ → Type 0) (Seen : Connector → ℕ → Type 0) (s : Least) (price : ℤ) (cs : List Choice) (o : Option (List Choice × Least)) → Leaves Ok Seen s cs o
    → Leaves Ok Seen s (map (dearer price) cs) (option_map (λ l. (map (dearer price) l.0, l.1)) o)
dearer_leaves Ok Seen s price cs None none =
    λ end c ls rs m f.
    let (a, in_cs, is) = map_out (dearer price) cs c m in
    none end a ls rs in_cs (fits_dearer Ok s end price a ls rs (subst (λ x. Fits Ok s end x ls rs) (sym is) f))
dearer_leaves Ok Seen s price cs (Some l) h =
    held Ok Seen s (map (dearer price) cs) (map (dearer price) l.0) l.1
    (λ end c ls rs m f.
    let (a, in_cs, is) = map_out (dearer price) cs c m in
    let d = does Ok Seen s cs l.0 l.1 h end a ls rs in_cs (fits_dearer Ok s end price a ls rs (subst (λ x. Fits Ok s end x ls rs) (sym is) f)) in
    subst (λ x. Does Ok Seen (map (dearer price) l.0) l.1 end x ls rs) is (map_in (dearer price) l.0 a d.0, d.1, d.2, d.3))

-- what fits of two choices joined: the first up to some middle, and the second from there
record Parted (Ok : Bool → Connector → ℕ → Type 0) (s end : Least) (a b : Choice) (ls rs : List ℕ) : Type 0 where
  middle : Least
  near_left : List ℕ
  far_left : List ℕ
  near_right : List ℕ
  far_right : List ℕ
  all_left : ls ≡ near_left ++ far_left
  all_right : rs ≡ near_right ++ far_right
  first : Fits Ok s middle a near_left near_right
  second : Fits Ok middle end b far_left far_right

parted : (Ok : Bool → Connector → ℕ → Type 0) (s end : Least) (a b : Choice) (ls rs : List ℕ) → Fits Ok s end (joined a b) ls rs → Parted Ok s end a b ls rs
parted Ok s end a b ls rs f =
    let l = split Ok s.left end.left a.left b.left ls f.left in
    let r = split Ok s.right end.right a.right b.right rs f.right in
    record {
      middle = record { left = l.middle; right = r.middle };
      near_left = l.near;
      far_left = l.far;
      near_right = r.near;
      far_right = r.far;
      all_left = l.all;
      all_right = r.all;
      first = record { left = l.first; right = r.first };
      second = record { left = l.second; right = r.second };
    }

fits_lower : (Ok : Bool → Connector → ℕ → Type 0) → IsLoose Ok → (s t end : Least) (c : Choice) (ls rs : List ℕ) → IsWithin t s → Fits Ok s end c ls rs → Fits Ok t end c ls rs
fits_lower Ok loose s t end c ls rs w f = record { left = climbs_lower Ok loose s.left t.left end.left c.left ls w.left f.left; right = climbs_lower Ok loose s.right t.right end.right c.right rs w.right f.right }

-- the two choices that make one of these
picked : (xs bs : List Choice) (c : Choice) → Contains (all_joined xs bs) c → (a : Choice) × (b : Choice) × Contains xs a × Contains bs b × (joined a b ≡ c)
picked xs bs c m =
    let (a, in_xs, more) = flat_out (λ a. map (joined a) bs) xs c m in
    let (b, in_bs, is) = map_out (joined a) bs c more in
    (a, b, in_xs, in_bs, is)

picks : (xs bs : List Choice) (a b : Choice) → Contains xs a → Contains bs b → Contains (all_joined xs bs) (joined a b)
picks xs bs a b in_xs in_bs = flat_in (λ a. map (joined a) bs) xs a (joined a b) in_xs (map_in (joined a) bs b in_bs)

both_do : (Ok : Bool → Connector → ℕ → Type 0) (Seen : Connector → ℕ → Type 0) → IsLoose Ok → (s t u : Least) (xs kept bs more : List Choice) → Holds Ok Seen s xs kept t → Holds Ok Seen t bs more u
    → (a b : Choice) → Contains xs a → Contains bs b → (end : Least) (ls rs : List ℕ) → Fits Ok s end (joined a b) ls rs → Does Ok Seen (all_joined kept more) u end (joined a b) ls rs
both_do Ok Seen loose s t u xs kept bs more h k a b in_xs in_bs end ls rs f =
    let p = parted Ok s end a b ls rs f in
    let x = does Ok Seen s xs kept t h p.middle a p.near_left p.near_right in_xs p.first in
    let y = does Ok Seen t bs more u k end b p.far_left p.far_right in_bs (fits_lower Ok loose p.middle t end b p.far_left p.far_right x.1 p.second) in (
      picks kept more a b x.0 y.0,
      y.1,
      subst (λ z. AllZip Seen (a.left ++ b.left) z) (sym p.all_left) (all_zip_append Seen a.left b.left p.near_left p.far_left x.2 y.2),
      subst (λ z. AllZip Seen (a.right ++ b.right) z) (sym p.all_right) (all_zip_append Seen a.right b.right p.near_right p.far_right x.3 y.3),
    )

pub pick_leaves : (Ok : Bool → Connector → ℕ → Type 0) (Seen : Connector → ℕ → Type 0) → IsLoose Ok → (s t u : Least) (xs kept bs more : List Choice) → Leaves Ok Seen s xs (Some (kept, t)) → Leaves Ok Seen t bs (Some (more, u))
    → Leaves Ok Seen s (all_joined xs bs) (Some (all_joined kept more, u))
pick_leaves Ok Seen loose s t u xs kept bs more h k =
    held Ok Seen s (all_joined xs bs) (all_joined kept more) u
    (λ end c ls rs m f.
    let (a, b, in_xs, in_bs, is) = picked xs bs c m in
    subst (λ x. Does Ok Seen (all_joined kept more) u end x ls rs) is
    (both_do Ok Seen loose s t u xs kept bs more h k a b in_xs in_bs end ls rs (subst (λ x. Fits Ok s end x ls rs) (sym is) f)))

pub first_none : (Ok : Bool → Connector → ℕ → Type 0) (Seen : Connector → ℕ → Type 0) (s : Least) (xs bs : List Choice) → Leaves Ok Seen s xs None → Leaves Ok Seen s (all_joined xs bs) None
first_none Ok Seen s xs bs none end c ls rs m f =
    let (a, b, in_xs, in_bs, is) = picked xs bs c m in
    let p = parted Ok s end a b ls rs (subst (λ x. Fits Ok s end x ls rs) (sym is) f) in
    none p.middle a p.near_left p.near_right in_xs p.first

pub second_none : (Ok : Bool → Connector → ℕ → Type 0) (Seen : Connector → ℕ → Type 0) → IsLoose Ok → (s t : Least) (xs kept bs : List Choice) → Leaves Ok Seen s xs (Some (kept, t)) → Leaves Ok Seen t bs None
    → Leaves Ok Seen s (all_joined xs bs) None
second_none Ok Seen loose s t xs kept bs h none end c ls rs m f =
    let (a, b, in_xs, in_bs, is) = picked xs bs c m in
    let p = parted Ok s end a b ls rs (subst (λ x. Fits Ok s end x ls rs) (sym is) f) in
    let w = h.within p.middle a p.near_left p.near_right in_xs p.first in
    none end b p.far_left p.far_right in_bs (fits_lower Ok loose p.middle t end b p.far_left p.far_right w p.second)

pub none_leaves : (Ok : Bool → Connector → ℕ → Type 0) (Seen : Connector → ℕ → Type 0) (s : Least) → Leaves Ok Seen s [] None
none_leaves Ok Seen s end c ls rs m f = contains_none c m

-- the nearer of two is no farther than either
nearer_first : (a b : Next) → IsNoFarther (nearer_of a b) a
nearer_first a b = record { least = min-le_left a.least b.least; first = λ is. (and_parts a.first b.first is).0 }

nearer_second : (a b : Next) → IsNoFarther (nearer_of a b) b
nearer_second a b = record { least = min-le_right a.least b.least; first = λ is. (and_parts a.first b.first is).1 }

-- more is kept, and what comes behind may begin nearer
does_more : (Ok : Bool → Connector → ℕ → Type 0) (Seen : Connector → ℕ → Type 0) (kept more : List Choice) (after before : Least) → ((c : Choice) → Contains kept c → Contains more c) → IsWithin before after
    → (end : Least) (c : Choice) (ls rs : List ℕ) → Does Ok Seen kept after end c ls rs → Does Ok Seen more before end c ls rs
does_more Ok Seen kept more after before all w end c ls rs (m, v, l, r) =
    (all c m, record { left = no_farther_then before.left after.left end.left w.left v.left; right = no_farther_then before.right after.right end.right w.right v.right }, l, r)

pub either_leaves : (Ok : Bool → Connector → ℕ → Type 0) (Seen : Connector → ℕ → Type 0) (s : Least) (xs bs : List Choice) (o p : Option (List Choice × Least)) → Leaves Ok Seen s xs o → Leaves Ok Seen s bs p
    → Leaves Ok Seen s (xs ++ bs) (either o p)
either_leaves Ok Seen s xs bs None None h k =
    λ end c ls rs m f. elim (Contains-append_cases xs bs c m) [ inl first ↦ h end c ls rs first f | inr later ↦ k end c ls rs later f ]
either_leaves Ok Seen s xs bs None (Some y) h k =
    held Ok Seen s (xs ++ bs) y.0 y.1
    (λ end c ls rs m f. elim (Contains-append_cases xs bs c m) [
      | inl first ↦ absurd (h end c ls rs first f)
      | inr later ↦ does Ok Seen s bs y.0 y.1 k end c ls rs later f
    ])
either_leaves Ok Seen s xs bs (Some x) None h k =
    held Ok Seen s (xs ++ bs) x.0 x.1
    (λ end c ls rs m f. elim (Contains-append_cases xs bs c m) [
      | inl first ↦ does Ok Seen s xs x.0 x.1 h end c ls rs first f
      | inr later ↦ absurd (k end c ls rs later f)
    ])
either_leaves Ok Seen s xs bs (Some x) (Some y) h k =
    held Ok Seen s (xs ++ bs) (x.0 ++ y.0) (nearer x.1 y.1)
    (λ end c ls rs m f. elim (Contains-append_cases xs bs c m) [
      | inl first ↦
          does_more Ok Seen x.0 (x.0 ++ y.0) x.1 (nearer x.1 y.1) (λ c m. Contains-append_left x.0 y.0 c m)
          (record { left = nearer_first x.1.left y.1.left; right = nearer_first x.1.right y.1.right }) end c ls rs
          (does Ok Seen s xs x.0 x.1 h end c ls rs first f)
      | inr later ↦
          does_more Ok Seen y.0 (x.0 ++ y.0) y.1 (nearer x.1 y.1) (λ c m. Contains-append_right x.0 y.0 c m)
          (record { left = nearer_second x.1.left y.1.left; right = nearer_second x.1.right y.1.right }) end c ls rs
          (does Ok Seen s bs y.0 y.1 k end c ls rs later f)
    ])

pub pick_fewer : (xs kept bs more : List Choice) (t u v : Least) → IsFewer xs (Some (kept, t)) → IsFewer bs (Some (more, u)) → IsFewer (all_joined xs bs) (Some (all_joined kept more, v))
pick_fewer xs kept bs more t u v h k c m =
    let (a, b, in_kept, in_more, is) = picked kept more c m in
    subst (λ x. Contains (all_joined xs bs) x) is (picks xs bs a b (h a in_kept) (k b in_more))

pub either_fewer : (xs bs : List Choice) (o p : Option (List Choice × Least)) → IsFewer xs o → IsFewer bs p → IsFewer (xs ++ bs) (either o p)
either_fewer xs bs None None h k = tt
either_fewer xs bs None (Some y) h k = λ c m. Contains-append_right xs bs c (k c m)
either_fewer xs bs (Some x) None h k = λ c m. Contains-append_left xs bs c (h c m)
either_fewer xs bs (Some x) (Some y) h k =
    λ c m. elim (Contains-append_cases x.0 y.0 c m) [ inl first ↦ Contains-append_left xs bs c (h c first) | inr later ↦ Contains-append_right xs bs c (k c later) ]

pub dearer_fewer : (price : ℤ) (cs : List Choice) (o : Option (List Choice × Least)) → IsFewer cs o → IsFewer (map (dearer price) cs) (option_map (λ l. (map (dearer price) l.0, l.1)) o)
dearer_fewer price cs None h = tt
dearer_fewer price cs (Some l) h =
    λ c m.
    let (a, in_left, is) = map_out (dearer price) l.0 c m in
    subst (λ x. Contains (map (dearer price) cs) x) is (map_in (dearer price) cs a (h a in_left))
