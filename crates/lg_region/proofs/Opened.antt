-- The beginnings of a group, and the alternatives that begin so.
use Rattle.std.proofs.Common.{◌≡◌, ℕ, ◌<◌, ◌≤◌, Bool, ◌==◌, List, [], ◌++◌, length, map, refl, sym, ◌∙◌, ap, subst, Option, Some, None, Contains, get_or, arith}
use Rattle.std.proofs.lemmas.Option.{slice_get-get_or}
use Rattle.lg_region.specs.Fronts.{AreListsOf, Numbering}
use Rattle.lg_region.specs.Keys.{IsAltOfRegion}
use Rattle.lg_region.specs.Ways.{AddsExactly, AreExactly, IsWayOf}
use Rattle.lg_region.specs.Groups.{region_of_gap, AddsIn, IsGroup, IsRightOf, Leads, StandsIn, split_of}
use Rattle.lg_region.specs.Openings.{AreBeginnings, BeginsSo, HasEnds, HasRight, HasRoomFor, IsIn, LeavesLeft, begins_at, ended, left_of}
use Rattle.lg_region.specs.declared.key.Key.{Key}
use Rattle.lg_region.specs.declared.key.Key.TheVariants.{Whole, Region as Between}
use Rattle.lg_region.specs.declared.alternative.Alt.{Alt}
use Rattle.lg_region.specs.declared.alternative.Alt.TheVariants.{AllNull, Split as At}
use Rattle.lg_region.specs.declared.ways.Way.{Way}
use Rattle.lg_region.specs.declared.group.Gap.{Gap}
use Rattle.lg_region.specs.declared.group.Group.{Group}
use Rattle.lg_region.specs.declared.group.Right.{Right}
use Rattle.lg_region.specs.declared.opening.Beginning.{Beginning}
use Rattle.lg_base.proofs.Elements.{contains_none, map_in, map_out}
use Rattle.lg_region.proofs.Numbers.{get_contains}
use Rattle.lg_region.proofs.Once.{HaveOne, OfPlace, Upto, adds_all, adds_as, once_map, once_none}
use Rattle.lg_region.proofs.Splitting.{HasRoom, alt_made, made_is, split_parts, way_same}

-- what is read where nothing is
abbrev pub no_beginning : Beginning
no_beginning = record { nulls = 0; way = record { joint = None; near = 0; far = 0 } }

one_level : (m n : ℕ) (a : Alt) → LeavesLeft m a → LeavesLeft n a → m ≡ n
one_level m n AllNull s t = absurd s
one_level m n (At w i tl tr None rk) s t = absurd s
one_level m n (At w i tl tr (Some (Whole k)) rk) s t = absurd s
one_level m n (At w i tl tr (Some (Between x y z u k)) rk) s t = sym s ∙ t

module _ (n : Numbering) (gap : Gap) (g : Group) where
  pub leaves : (b : Beginning) (a : Alt) → BeginsSo gap g b a → LeavesLeft b.nulls a
  leaves b AllNull s = absurd s
  leaves b (At w i tl tr lk rk) s = subst (λ z. LeavesLeft b.nulls (At w i tl tr z rk)) (sym s.1) refl

  begins_same : (b b' : Beginning) (a : Alt) → BeginsSo gap g b a → BeginsSo gap g b' a → b ≡ b'
  begins_same b b' AllNull s t = absurd s
  begins_same b b' (At w i tl tr lk rk) s t =
      let keys : ◌≡◌ {A = Option Key} (Some (left_of gap g b)) (Some (left_of gap g b')) = sym s.1 ∙ t.1 in
      let near : b.way.near ≡ b'.way.near = cc in
      let far : b.way.far ≡ b'.way.far = cc in
      let nulls : b.nulls ≡ b'.nulls = cc in
      let way = way_same b.way b'.way (sym s.0 ∙ t.0) near far in
      λ j. record { nulls = nulls j; way = way j }

  -- an alternative tells its beginning
  parts : (b : Beginning) (i : ℕ) (l : Way) (r : Right) → BeginsSo gap g b (split_of gap g.word i l r) → (i ≡ b.nulls) × (l ≡ b.way)
  parts b i l r h = let e = begins_same (begins_at i l) b (split_of gap g.word i l r) (refl, refl) h in (ap (λ z. z.nulls) e, ap (λ z. z.way) e)

  level_of : (b : Beginning) (nulls : ℕ) (a : Alt) → BeginsSo gap g b a → LeavesLeft nulls a → b.nulls ≡ nulls
  level_of b nulls a s l = one_level b.nulls nulls a (leaves b a s) l

  -- an alternative of the group that leaves so many words unlinked on the left, and one that begins so
  abbrev pub OfLevel : ℕ → Alt → Type 0
  OfLevel nulls a = IsIn n gap g a × LeavesLeft nulls a

  abbrev pub Begun : Beginning → Alt → Type 0
  Begun b a = IsAltOfRegion n.positions n.lists (region_of_gap n.lists gap) a × StandsIn g.word g.from g.to a × BeginsSo gap g b a

  pub levels_apart : HaveOne OfLevel
  levels_apart i j a s t = one_level i j a s.1 t.1

  module _ (nulls : ℕ) (bs : List Beginning) (are : AreBeginnings n gap g nulls bs) where
    pub begins_apart : HaveOne (OfPlace Begun bs)
    begins_apart i j a (b, at, s) (c, at', t) = are.once i j b at (at' ∙ ap Some (sym (begins_same b c a s.2 t.2)))

    pub some_begins : (i : ℕ) → i < length bs → (a : Alt) × Begun (get_or bs i no_beginning) a
    some_begins i l = let b = get_or bs i no_beginning in let r = are.each b (get_contains bs i b (slice_get-get_or bs i no_beginning l)) in (r.0, (r.1.0, r.1.1, r.2))

    pub begins_all : (i : ℕ) (old new : List Alt) → length bs ≤ i → AddsExactly old new (Upto (OfPlace Begun bs) i) → AddsExactly old new (OfLevel nulls)
    begins_all i old new l x =
        adds_all Begun bs i old new (OfLevel nulls) l
        (λ a. (
          λ (b, c, s). ((s.0, s.1), subst (λ z. LeavesLeft z a) (are.level b c) (leaves b a s.2)),
          λ (s, v). let r = are.some a s v in (r.0, r.1, (s.0, s.1, r.2)),
        )) x

  pub none_begin : (nulls : ℕ) → ((a : Alt) → IsIn n gap g a → LeavesLeft nulls a → ⊥) → (bs : List Beginning) → bs ≡ [] → AreBeginnings n gap g nulls bs
  none_begin nulls none bs e =
      subst (λ z. AreBeginnings n gap g nulls z) (sym e) (record { some = λ a h l. absurd (none a h l); each = λ b c. absurd (contains_none b c); level = λ b c. absurd (contains_none b c); once = once_none })

  module _ (may : Bool) (is : IsGroup n gap g) (m : may ≡ (gap.llist == 0)) (are : AreListsOf n.positions n.lists) (known : gap.llist ≤ length n.lists) (led : Leads gap.lead n.positions (region_of_gap n.lists gap)) where
    -- how an alternative of the group begins, and how it goes on
    pub begin_of : (a : Alt) → IsIn n gap g a → (b : Beginning) × IsWayOf n.lists gap.llist g.left may b.way × HasRoom gap g.word b.nulls × BeginsSo gap g b a × HasRight n gap g
    begin_of a (i, s) =
        let q = alt_made n.positions n.lists gap g may a is m are known led i s in
        let b : Beginning = record { nulls = q.0; way = q.2.0 } in
        (b, q.2.2, q.1, subst (λ z. BeginsSo gap g b z) q.2.4 (refl, refl), (q.2.1, q.2.3))

    -- where so many unlinked words have no room, none begins so
    pub room_of : (nulls : ℕ) (a : Alt) → IsIn n gap g a → LeavesLeft nulls a → HasRoomFor gap g.word nulls
    room_of nulls a h l =
        let q = begin_of a h in let u = q.2.0 in let v = q.2.1 in let w = q.2.2 in let after = is.after in let before = is.before in
        subst (λ z. HasRoomFor gap g.word z) (level_of q.0 nulls a q.3 l) (u, omega arith, omega arith)

    -- all numbers of unlinked words
    pub levels_all : (nulls : ℕ) (old new : List Alt) → gap.nulls < nulls → AddsExactly old new (Upto OfLevel nulls) → AddsIn n gap g.word g.from g.to old new
    levels_all nulls old new l x =
        adds_as old new (Upto OfLevel nulls) (IsIn n gap g)
        (λ a. (λ (j, m, (s, v)). s, λ s. let q = begin_of a s in let few = q.2.0 in (q.0.nulls, omega arith, (s, leaves q.0 a q.3)))) x

    -- what those end with that begin as some alternative does
    pub ends_from : (b : Beginning) → (a : Alt) × Begun b a → HasEnds n gap g b
    ends_from b (a, (i, s, h)) =
        let q = alt_made n.positions n.lists gap g may a is m are known led i s in
        let e = parts b q.0 q.2.0 q.2.1 (subst (λ z. BeginsSo gap g b z) (sym q.2.4) h) in
        let room = subst (λ z. HasRoom gap g.word z) e.0 q.1 in
        let way = subst (λ z. IsWayOf n.lists gap.llist g.left may z) e.1 q.2.2 in
        record {
          few = room.0;
          made = λ r of. made_is n.positions n.lists gap g may b.nulls b.way r is m are known room way of;
          some = λ c (j, t) k.
              let p = alt_made n.positions n.lists gap g may c is m are known led j t in
              let f = parts b p.0 p.2.0 p.2.1 (subst (λ z. BeginsSo gap g b z) (sym p.2.4) k) in
              (p.2.1, p.2.3, (λ i. split_of gap g.word (sym f.0 i) (sym f.1 i) p.2.1) ∙ p.2.4);
          apart = λ r t same. (split_parts gap g.word b.nulls b.nulls b.way b.way r t same).2;
        }

    -- they are added
    pub ends_added : (b : Beginning) (rights : List Right) (old new : List Alt) → (a : Alt) × Begun b a → AreExactly rights (IsRightOf n gap g) → new ≡ old ++ map (ended gap g b) rights → AddsExactly old new (Begun b)
    ends_added b rights old new begun are e =
        let f = ended gap g b in
        let ends = ends_from b begun in record {
          more = map f rights;
          added = e;
          exactly = record {
            each = λ a. (
              λ c. let x = map_out f rights a c in let t = ends.made x.0 ((are.each x.0).0 x.1) in subst (λ z. Begun b z) x.2 (t.0, t.1, (refl, refl)),
              λ (i, s, h). let x = ends.some a (i, s) h in subst (λ z. Contains (map f rights) z) x.2 (map_in f rights x.0 ((are.each x.0).1 x.1)),
            );
            once = once_map f rights ends.apart are.once;
          };
        }

    pub begins_are : (lefts : List Way) (nulls : ℕ) → AreExactly lefts (IsWayOf n.lists gap.llist g.left may) → HasRight n gap g → HasRoomFor gap g.word nulls → AreBeginnings n gap g nulls (map (begins_at nulls) lefts)
    begins_are lefts nulls x right room =
        let u = room.0 in let v = room.1 in let w = room.2 in
        record {
          some = λ a h l. let q = begin_of a h in let b = q.0 in
              (begins_at nulls b.way, map_in (begins_at nulls) lefts b.way ((x.each b.way).1 q.1), subst (λ z. BeginsSo gap g (begins_at z b.way) a) (level_of b nulls a q.3 l) q.3);
          each = λ b c.
              let t = map_out (begins_at nulls) lefts b c in
              let made = made_is n.positions n.lists gap g may nulls t.0 right.0 is m are known (u, omega arith, omega arith) ((x.each t.0).0 t.1) right.1 in
              (split_of gap g.word nulls t.0 right.0, (made.0, made.1), subst (λ z. BeginsSo gap g z (split_of gap g.word nulls t.0 right.0)) t.2 (refl, refl));
          level = λ b c. sym (ap (λ z. z.nulls) (map_out (begins_at nulls) lefts b c).2);
          once = once_map (begins_at nulls) lefts (λ w w' e. ap (λ z. z.way) e) x.once;
        }
