-- The log of slots by their views: it is put together slot by slot, so a change of one slot changes one part of it.
use Prim.Native.Nat.{ℕ, zero, suc, ◌+◌, ◌<◌}
use Rattle.std.specs.Prelude.{◌≡◌, Bool, true, not, ◌⊎◌, length}
use Rattle.std.proofs.Math.Path.{refl, ap}
use Rattle.std.proofs.Common.{sym, ap₂, subst, ◌∙◌, inl, inr}
use Rattle.std.proofs.Math.Bool.{false}
use mathlib.Core.List.Memᴰ
use mathlib.Core.List.{List, [], ◌∷◌, ◌++◌, append_assoc, append-nil}
use Rattle.std.proofs.Math.Option.{Option, none, some}
use Rattle.std.proofs.Math.Decide.{ℕ_discrete}
use native.Mathlib.Omega.{arith}
use Rattle.segment.specs.Choice.{pick, both, either, is_none}
use Rattle.segment.proofs.Choice.{pick_true, pick-false, either-false, either-false-left, either-false-right}
use Rattle.segment.specs.Entry.{key_of}
use Rattle.segment.specs.declared.Digest.{Digest}
use Rattle.model.specs.Log.{View, Item, Placed, Scan, damaged, scanned, items_of, end_of, is_damaged, placed_in, log_of, keys_of, has_version, version_shared, highest}
use Rattle.model.specs.Operations.{count_new}
use Rattle.std.proofs.lemmas.Bool.{not-false}
use Rattle.segment.specs.Layout.{Layout, same_layout}
use Rattle.segment.proofs.LayoutLaws.{same_layout_lem, layout-same}
use Rattle.model.specs.Recovery.{later, later_edition, names_no_digest, log_damaged, other_edition}
use Rattle.laws.specs.Members.{In, Within, Same, Added, added-between, those, total}
use Rattle.laws.specs.Versions.{count, count-append, shared-fewer, shared-append, below-highest, highest-added}
use Rattle.laws.specs.Keys.{keys-added}

-- ---- tests of every slot

-- whether g holds of a slot below n
unfoldable pub any_below : (ℕ → Bool) → ℕ → Bool
any_below g zero = false
any_below g (suc n) = either (any_below g n) (g n)

pub none_below_lem : (n : ℕ) (g : ℕ → Bool) → ((i : ℕ) → i < n → g i ≡ false) → any_below g n ≡ false
unfolding any_below
none_below_lem zero g f = refl
none_below_lem (suc n) g f = either-false (any_below g n) (g n) (none_below_lem n g (λ i l. f i (omega arith))) (f n (omega arith))

pub below_none : (n : ℕ) (g : ℕ → Bool) → any_below g n ≡ false → (i : ℕ) → i < n → g i ≡ false
unfolding any_below
below_none zero g e i l = absurd (omega arith)
below_none (suc n) g e i l = go (ℕ_discrete i n) (λ m. below_none n g (either-false-left (any_below g n) (g n) e) i m)
  where
    go : Dec (i ≡ n) → (i < n → g i ≡ false) → g i ≡ false
    go (yes q) r = ap g q ∙ either-false-right (any_below g n) (g n) e
    go (no q) r = r (omega arith)

-- the three that recovery makes
names-any : (v : ℕ → View) (p : ℕ → Bool) (n : ℕ) → names_no_digest v p n ≡ any_below (λ i. both (p i) (is_none (v i).digest)) n
unfolding names_no_digest any_below
names-any v p zero = refl
names-any v p (suc n) = cc (names-any v p n)

damaged-any : (v : ℕ → View) (p : ℕ → Bool) (n : ℕ) → log_damaged v p n ≡ any_below (λ i. both (p i) (is_damaged (v i).scan)) n
unfolding log_damaged any_below
damaged-any v p zero = refl
damaged-any v p (suc n) = cc (damaged-any v p n)

other-any : (L : Layout) (v : ℕ → View) (p : ℕ → Bool) (n : ℕ) → other_edition L v p n ≡ any_below (λ i. both (p i) (not (same_layout (v i).layout L))) n
unfolding other_edition any_below
other-any L v p zero = refl
other-any L v p (suc n) = cc (other-any L v p n)

later-any : (L : Layout) (v : ℕ → View) (p : ℕ → Bool) (n : ℕ) → later_edition L v p n ≡ any_below (λ i. both (p i) (later (v i).layout L)) n
unfolding later_edition any_below
later-any L v p zero = refl
later-any L v p (suc n) = cc (later-any L v p n)

-- ---- what the tests of every slot say

-- Every slot that p picks has a digest, is of the store's edition or, but for the conversion of images, of no later one, and its entries can
-- all be read.
abbrev pub NoneLater : Layout → (ℕ → View) → (ℕ → Bool) → ℕ → Type 0
NoneLater L v p n = (i : ℕ) → i < n → p i ≡ true → later (v i).layout L ≡ false

abbrev pub AllOf : Layout → (ℕ → View) → (ℕ → Bool) → ℕ → Type 0
AllOf L v p n = (i : ℕ) → i < n → p i ≡ true → (v i).layout ≡ L

abbrev pub AllDigests : (ℕ → View) → (ℕ → Bool) → ℕ → Type 0
AllDigests v p n = (i : ℕ) → i < n → p i ≡ true → (d : Digest) × ((v i).digest ≡ some d)

abbrev pub AllScanned : (ℕ → View) → (ℕ → Bool) → ℕ → Type 0
AllScanned v p n = (i : ℕ) → i < n → p i ≡ true → is_damaged (v i).scan ≡ false

pub both-true-false : (a b : Bool) → both a b ≡ false → a ≡ true → b ≡ false
unfolding both
both-true-false true b e f = e
both-true-false false b e f = cc

pub both-of-true : (a b : Bool) → (a ≡ true → b ≡ false) → both a b ≡ false
unfolding both
both-of-true true b f = f refl
both-of-true false b f = refl

has-digest : (o : Option Digest) → is_none o ≡ false → (d : Digest) × (o ≡ some d)
unfolding is_none
has-digest none e = let z : ◌≡◌ {A = ℕ} 0 1 = cc in absurd (omega arith)
has-digest (some d) e = (d, refl)

digest-had : (o : Option Digest) (d : Digest) → o ≡ some d → is_none o ≡ false
unfolding is_none
digest-had o d e = rw e

module _ (v : ℕ → View) (p : ℕ → Bool) (n : ℕ) where
  pub names-digests : names_no_digest v p n ≡ false → AllDigests v p n
  names-digests e i l q =
      has-digest (v i).digest
      (both-true-false (p i) (is_none (v i).digest)
      (below_none n (λ k. both (p k) (is_none (v k).digest)) (sym (names-any v p n) ∙ e) i l) q)

  pub digests-named : AllDigests v p n → names_no_digest v p n ≡ false
  digests-named f =
      names-any v p n ∙
      none_below_lem n (λ k. both (p k) (is_none (v k).digest))
      (λ i l. both-of-true (p i) (is_none (v i).digest) (λ q. let d = f i l q in digest-had (v i).digest d.0 d.1))

  pub editions-one : (L : Layout) → other_edition L v p n ≡ false → AllOf L v p n
  editions-one L e i l q =
      same_layout_lem (v i).layout L
      (not-false _ (both-true-false (p i) (not (same_layout (v i).layout L))
      (below_none n (λ k. both (p k) (not (same_layout (v k).layout L))) (sym (other-any L v p n) ∙ e) i l) q))

  pub one-edition : (L : Layout) → AllOf L v p n → other_edition L v p n ≡ false
  one-edition L f =
      other-any L v p n ∙
      none_below_lem n (λ k. both (p k) (not (same_layout (v k).layout L)))
      (λ i l. both-of-true (p i) (not (same_layout (v i).layout L)) (λ q. ap (λ (K : Layout). not (same_layout K L)) (f i l q) ∙ ap not (layout-same L)))

  pub editions-before : (L : Layout) → later_edition L v p n ≡ false → NoneLater L v p n
  editions-before L e i l q =
      both-true-false (p i) (later (v i).layout L) (below_none n (λ k. both (p k) (later (v k).layout L)) (sym (later-any L v p n) ∙ e) i l) q

  pub before-editions : (L : Layout) → NoneLater L v p n → later_edition L v p n ≡ false
  before-editions L f =
      later-any L v p n ∙ none_below_lem n (λ k. both (p k) (later (v k).layout L)) (λ i l. both-of-true (p i) (later (v i).layout L) (f i l))

  pub undamaged-scans : log_damaged v p n ≡ false → AllScanned v p n
  undamaged-scans e i l q =
      both-true-false (p i) (is_damaged (v i).scan)
      (below_none n (λ k. both (p k) (is_damaged (v k).scan)) (sym (damaged-any v p n) ∙ e) i l) q

  pub scans-undamaged : AllScanned v p n → log_damaged v p n ≡ false
  scans-undamaged f =
      damaged-any v p n ∙
      none_below_lem n (λ k. both (p k) (is_damaged (v k).scan)) (λ i l. both-of-true (p i) (is_damaged (v i).scan) (f i l))

-- ---- the parts of a log

-- what slot i adds to the log
abbrev pub part_of : (ℕ → View) → (ℕ → Bool) → ℕ → List Placed
part_of v p i = pick (p i) (placed_in (v i).layout i (items_of (v i).scan)) []

pub part-picked : (v : ℕ → View) (p : ℕ → Bool) (i : ℕ) → p i ≡ true → part_of v p i ≡ placed_in (v i).layout i (items_of (v i).scan)
part-picked v p i e = pick_true (p i) (placed_in (v i).layout i (items_of (v i).scan)) [] e

pub part-passed : (v : ℕ → View) (p : ℕ → Bool) (i : ℕ) → p i ≡ false → part_of v p i ≡ []
part-passed v p i e = pick-false (p i) (placed_in (v i).layout i (items_of (v i).scan)) [] e

-- slot i has the edition and the entries that it had
abbrev pub AlikeIn : (ℕ → View) → (ℕ → View) → ℕ → Type 0
AlikeIn v v' i = ((v' i).layout ≡ (v i).layout) × ((v' i).scan ≡ (v i).scan)

pub alike-view : (v v' : ℕ → View) (i : ℕ) → v' i ≡ v i → AlikeIn v v' i
alike-view v v' i e = (ap (λ (w : View). w.layout) e, ap (λ (w : View). w.scan) e)

pub part_same : (v v' : ℕ → View) (p p' : ℕ → Bool) (i : ℕ) → p' i ≡ p i → (p i ≡ true → AlikeIn v v' i)
    → part_of v' p' i ≡ part_of v p i
part_same v v' p p' i e f = go (p i) refl
  where
    go : (t : Bool) → p i ≡ t → part_of v' p' i ≡ part_of v p i
    go true q =
        part-picked v' p' i (e ∙ q) ∙ ap₂ (λ (L : Layout) (s : Scan). placed_in L i (items_of s)) (f q).0 (f q).1 ∙ sym (part-picked v p i q)
    go false q = part-passed v' p' i (e ∙ q) ∙ sym (part-passed v p i q)

module _ (v v' : ℕ → View) (p p' : ℕ → Bool) where
  pub log-of-parts : (n : ℕ) → ((i : ℕ) → i < n → part_of v' p' i ≡ part_of v p i) → log_of v' p' n ≡ log_of v p n
  unfolding log_of
  log-of-parts zero f = refl
  log-of-parts (suc n) f = cc (log-of-parts n (λ i l. f i (omega arith)), f n (omega arith))

  -- the log goes by the picked slots alone
  pub log-same : (n : ℕ) → ((i : ℕ) → i < n → p' i ≡ p i) → ((i : ℕ) → i < n → p i ≡ true → AlikeIn v v' i)
      → log_of v' p' n ≡ log_of v p n
  log-same n e f = log-of-parts n (λ i l. part_same v v' p p' i (e i l) (f i l))

-- ---- members

-- an entry with its slot left out, and put back
abbrev pub item_of : Placed → Item
item_of x = record { offset = x.offset; entry = x.entry }

abbrev pub placed_at : Layout → ℕ → Item → Placed
placed_at L i y = record { slot = i; layout = L; offset = y.offset; entry = y.entry }

pub placed-mem : (L : Layout) (i : ℕ) {y : Item} {ys : List Item} → In y ys → In (placed_at L i y) (placed_in L i ys)
unfolding placed_in
placed-mem L i (Memᴰ.head e) = Memᴰ.head (ap (placed_at L i) e)
placed-mem L i (Memᴰ.tail m) = Memᴰ.tail (placed-mem L i m)

-- x stands in slot i, which is of the edition L and has these items.
pub record Among (L : Layout) (i : ℕ) (x : Placed) (ys : List Item) : Type 0 where
  pub slot : x.slot ≡ i
  pub layout : x.layout ≡ L
  pub item : In (item_of x) ys

pub mem-placed : (L : Layout) (i : ℕ) (x : Placed) (ys : List Item) → In x (placed_in L i ys) → Among L i x ys
unfolding placed_in
mem-placed L i x [] m = absurd (Memᴰ.not-nil m)
mem-placed L i x (y ∷ ys) m = go m (λ r. mem-placed L i x ys r)
  where
    go : In x (placed_at L i y ∷ placed_in L i ys) → (In x (placed_in L i ys) → Among L i x ys) → Among L i x (y ∷ ys)
    go (Memᴰ.head e) r =
        record {
          slot = ap (λ (z : Placed). z.slot) e;
          layout = ap (λ (z : Placed). z.layout) e;
          item = Memᴰ.head (ap item_of e);
        }
    go (Memᴰ.tail k) r =
        let rest = r k in
        record { slot = rest.slot; layout = rest.layout; item = Memᴰ.tail rest.item }

pub placed-append : (L : Layout) (i : ℕ) (xs ys : List Item) → placed_in L i (xs ++ ys) ≡ placed_in L i xs ++ placed_in L i ys
unfolding placed_in
placed-append L i [] ys = refl
placed-append L i (x ∷ xs) ys = ap (λ (r : List Placed). placed_at L i x ∷ r) (placed-append L i xs ys)

-- x stands in a slot below n that p picks.
pub record InLog (v : ℕ → View) (p : ℕ → Bool) (n : ℕ) (x : Placed) : Type 0 where
  pub below : x.slot < n
  pub picked : p x.slot ≡ true
  pub layout : x.layout ≡ (v x.slot).layout
  pub item : In (item_of x) (items_of (v x.slot).scan)

module _ (v : ℕ → View) (p : ℕ → Bool) where
  part-mem : (n i : ℕ) (x : Placed) → i < n → In x (part_of v p i) → In x (log_of v p n)
  unfolding log_of
  part-mem zero i x l m = absurd (omega arith)
  part-mem (suc n) i x l m = go (ℕ_discrete i n) (λ k. part-mem n i x k m)
    where
      go : Dec (i ≡ n) → (i < n → In x (log_of v p n)) → In x (log_of v p n ++ part_of v p n)
      go (yes e) r = Memᴰ.append_right (log_of v p n) (subst (λ (k : ℕ). In x (part_of v p k)) e m)
      go (no e) r = Memᴰ.append_left (part_of v p n) (r (omega arith))

  mem-part : (n : ℕ) (x : Placed) → In x (log_of v p n) → (i : ℕ) × (i < n) × In x (part_of v p i)
  unfolding log_of
  mem-part zero x m = absurd (Memᴰ.not-nil m)
  mem-part (suc n) x m = go (Memᴰ.append_cases (log_of v p n) m) (λ k. mem-part n x k)
    where
      go : In x (log_of v p n) ⊎ In x (part_of v p n) → (In x (log_of v p n) → (i : ℕ) × (i < n) × In x (part_of v p i))
          → (i : ℕ) × (i < suc n) × In x (part_of v p i)
      go (inl k) r = let t = r k in (t.0, omega (arith, t.1), t.2)
      go (inr k) r = (n, omega arith, k)

  pub in-log : (n : ℕ) (x : Placed) → InLog v p n x → In x (log_of v p n)
  in-log n x h =
      part-mem n x.slot x h.below (rw (part-picked v p x.slot h.picked)
      (subst (λ (L : Layout). In x (placed_in L x.slot (items_of (v x.slot).scan))) h.layout (placed-mem x.layout x.slot h.item)))

  pub log-in : (n : ℕ) (x : Placed) → In x (log_of v p n) → InLog v p n x
  log-in n x m = let t = mem-part n x m in go t.0 t.1 t.2 (p t.0) refl
    where
      at : (i : ℕ) → i < n → p i ≡ true → Among (v i).layout i x (items_of (v i).scan) → InLog v p n x
      at i l q h =
          record {
            below = omega (arith, h.slot);
            picked = ap p h.slot ∙ q;
            layout = h.layout ∙ ap (λ (k : ℕ). (v k).layout) (sym h.slot);
            item = subst (λ (k : ℕ). In (item_of x) (items_of (v k).scan)) (sym h.slot) h.item;
          }

      go : (i : ℕ) → i < n → In x (part_of v p i) → (t : Bool) → p i ≡ t → InLog v p n x
      go i l k true q = at i l q (mem-placed (v i).layout i x (items_of (v i).scan) (rw (part-picked v p i q) at k))
      go i l k false q = absurd (Memᴰ.not-nil (rw (part-passed v p i q) at k))

-- ---- one slot changes

-- Two lists that differ in one part.
pub record OnePart (part part' log log' : List Placed) : Type 0 where
  pub before : List Placed
  pub after : List Placed
  pub old : log ≡ before ++ (part ++ after)
  pub new : log' ≡ before ++ (part' ++ after)

module _ (v v' : ℕ → View) (p p' : ℕ → Bool) (j : ℕ) where
  -- where every other slot adds what it added
  pub one-slot : (n : ℕ) → j < n → ((i : ℕ) → i < n → (i ≡ j → ⊥) → part_of v' p' i ≡ part_of v p i)
      → OnePart (part_of v p j) (part_of v' p' j) (log_of v p n) (log_of v' p' n)
  unfolding log_of
  one-slot zero l f = absurd (omega arith)
  one-slot (suc n) l f = go (ℕ_discrete j n) (λ k. one-slot n k (λ i m. f i (omega arith)))
    where
      go : Dec (j ≡ n) → (j < n → OnePart (part_of v p j) (part_of v' p' j) (log_of v p n) (log_of v' p' n))
          → OnePart (part_of v p j) (part_of v' p' j) (log_of v p n ++ part_of v p n) (log_of v' p' n ++ part_of v' p' n)
      go (yes e) r =
          record {
            before = log_of v p n;
            after = [];
            old = rw (append-nil (part_of v p j), e);
            new =
                rw (append-nil (part_of v' p' j), e, log-of-parts v v' p p' n (λ i m. f i (omega arith) (λ q. omega arith)));
          }
      go (no e) r =
          let h = r (omega arith) in
          record {
            before = h.before;
            after = h.after ++ part_of v p n;
            old = rw (h.old, append_assoc h.before (part_of v p j ++ h.after) (part_of v p n), append_assoc (part_of v p j) h.after (part_of v p n));
            new =
                rw (h.new, f n (omega arith) (λ q. e (sym q)), append_assoc h.before (part_of v' p' j ++ h.after) (part_of v p n), append_assoc (part_of v' p' j) h.after (part_of v p n));
          }

count_none : (k : ℕ) → count k [] ≡ 0
unfolding total
count_none k = refl

pub one-part-count : (part part' log log' : List Placed) → OnePart part part' log log' → (k : ℕ)
    → count k log' + count k part ≡ count k log + count k part'
one-part-count part part' log log' c k =
    omega (
      arith,
      ap (count k) c.old,
      ap (count k) c.new,
      count-append k c.before (part ++ c.after),
      count-append k c.before (part' ++ c.after),
      count-append k part c.after,
      count-append k part' c.after,
    )

-- One entry has come in.
pub record Entered (log : List Placed) (x : Placed) (after : List Placed) : Type 0 where
  pub before : List Placed
  pub behind : List Placed
  pub old : log ≡ before ++ behind
  pub new : after ≡ before ++ x ∷ behind

pub part-entered : (part : List Placed) (x : Placed) (log after : List Placed) → OnePart part (part ++ x ∷ []) log after → Entered log x after
part-entered part x log after c =
    record {
      before = c.before ++ part;
      behind = c.after;
      old = c.old ∙ sym (append_assoc c.before part c.after);
      new =
          c.new
          ∙ rw (append_assoc part (x ∷ []) c.after, append_assoc c.before part (x ∷ c.after));
    }

module _ (log : List Placed) (x : Placed) (after : List Placed) (w : Entered log x after) where
  pub entered-added : Added log x after
  entered-added = rw (w.old, w.new) (added-between w.before x w.behind)

  pub entered-count : (k : ℕ) → count k after ≡ count k log + count k (x ∷ [])
  entered-count k =
      omega (
        arith,
        ap (count k) w.old,
        ap (count k) w.new,
        count-append k w.before w.behind,
        count-append k w.before (x ∷ w.behind),
        count-append k (x ∷ []) w.behind,
      )

  -- Where its version is above all others, no version is shared, and its version is the highest.
  pub entered-versions : highest log < x.entry.version → version_shared log ≡ false → version_shared after ≡ false
  unfolding version_shared has_version either
  entered-versions top e =
      shared-fewer after (x ∷ [] ++ log) (λ k. omega (arith, entered-count k, count-append k (x ∷ []) log))
      (shared-append (x ∷ []) log refl e
      (λ y z m o q.
      omega (arith, below-highest log x.entry.version top z o, ap (λ (u : Placed). u.entry.version) (Memᴰ.eq_of_singleton m))))

  pub entered-highest : highest log < x.entry.version → highest after ≡ x.entry.version
  entered-highest top = omega (arith, highest-added log x after entered-added)

  pub entered-keys : length (keys_of after) ≡ length (keys_of log) + count_new log (key_of x.entry)
  entered-keys = keys-added log x after entered-added

-- a scan without damage is its items and its end
pub scan-whole : (s : Scan) → is_damaged s ≡ false → s ≡ scanned (items_of s) (end_of s)
unfolding is_damaged items_of end_of
scan-whole damaged e = let z : ◌≡◌ {A = ℕ} 0 1 = cc in absurd (omega arith)
scan-whole (scanned is k) e = refl

pub scanned-undamaged : {is : List Item} {k : ℕ} (s : Scan) → s ≡ scanned is k → is_damaged s ≡ false
unfolding is_damaged
scanned-undamaged s e = rw e

pub items-scanned : {is : List Item} {k : ℕ} (s : Scan) → s ≡ scanned is k → items_of s ≡ is
unfolding items_of
items-scanned s e = rw e

pub end-scanned : {is : List Item} {k : ℕ} (s : Scan) → s ≡ scanned is k → end_of s ≡ k
unfolding end_of
end-scanned s e = rw e

-- A part put in anywhere, by members and by counts.
module _ (part log after : List Placed) (c : OnePart [] part log after) where
  pub part-members : Same (log ++ part) after
  part-members = rw (c.old, c.new) (record { to = to; from = from })
    where
      to : Within (c.before ++ c.after ++ part) (c.before ++ (part ++ c.after))
      to x i =
          elim (Memᴰ.append_cases (c.before ++ c.after) i) [
            | inl k ↦
                elim (Memᴰ.append_cases c.before k) [
                  | inl p ↦ Memᴰ.append_left (part ++ c.after) p
                  | inr q ↦ Memᴰ.append_right c.before (Memᴰ.append_right part q)
                ]
            | inr k ↦ Memᴰ.append_right c.before (Memᴰ.append_left c.after k)
          ]

      from : Within (c.before ++ (part ++ c.after)) (c.before ++ c.after ++ part)
      from x i =
          elim (Memᴰ.append_cases c.before i) [
            | inl p ↦ Memᴰ.append_left part (Memᴰ.append_left c.after p)
            | inr k ↦
                elim (Memᴰ.append_cases part k) [
                  | inl p ↦ Memᴰ.append_right (c.before ++ c.after) p
                  | inr q ↦ Memᴰ.append_left part (Memᴰ.append_right c.before q)
                ]
          ]

  pub part_count : (k : ℕ) → count k after ≡ count k (log ++ part)
  part_count k = omega (arith, one-part-count [] part log after c k, count_none k, count-append k log part)

-- ---- members picked by their slot

pub those-append : (q : Placed → Bool) (a b : List Placed) → those q (a ++ b) ≡ those q a ++ those q b
unfolding those
those-append q [] b = refl
those-append q (x ∷ a) b = go (q x) (those-append q a b)
  where
    go : (t : Bool) → those q (a ++ b) ≡ those q a ++ those q b
        → pick t (x ∷ those q (a ++ b)) (those q (a ++ b)) ≡ pick t (x ∷ those q a) (those q a) ++ those q b
    go true e = unfold pick in ap (λ (l : List Placed). x ∷ l) e
    go false e = unfold pick in e

those-placed : (t : ℕ → Bool) (L : Layout) (i : ℕ) (ys : List Item) → those (λ x. t x.slot) (placed_in L i ys) ≡ pick (t i) (placed_in L i ys) []
unfolding those placed_in pick
those-placed t L i [] = go (t i)
  where
    go : (b : Bool) → ◌≡◌ {A = List Placed} [] (pick b [] [])
    go true = refl
    go false = refl
those-placed t L i (y ∷ ys) = go (t i) (those-placed t L i ys)
  where
    go : (b : Bool) → those (λ x. t x.slot) (placed_in L i ys) ≡ pick b (placed_in L i ys) []
        → pick b (placed_at L i y ∷ those (λ x. t x.slot) (placed_in L i ys)) (those (λ x. t x.slot) (placed_in L i ys))
        ≡ pick b (placed_at L i y ∷ placed_in L i ys) []
    go true e = ap (λ (l : List Placed). placed_at L i y ∷ l) e
    go false e = e

-- the members in slots of which t holds are the log of those slots
pub log-those : (v : ℕ → View) (p t : ℕ → Bool) (n : ℕ) → those (λ x. t x.slot) (log_of v p n) ≡ log_of v (λ i. both (p i) (t i)) n
unfolding log_of those
log-those v p t zero = refl
log-those v p t (suc n) =
    those-append (λ x. t x.slot) (log_of v p n) (part_of v p n) ∙ cc (log-those v p t n, part (p n))
  where
    part : (b : Bool) → those (λ x. t x.slot) (pick b (placed_in (v n).layout n (items_of (v n).scan)) [])
        ≡ pick (both b (t n)) (placed_in (v n).layout n (items_of (v n).scan)) []
    part true = unfold pick both in those-placed t (v n).layout n (items_of (v n).scan)
    part false = unfold pick both in refl

-- a log whose every slot adds nothing
pub no-parts : (v : ℕ → View) (p : ℕ → Bool) (n : ℕ) → ((i : ℕ) → i < n → part_of v p i ≡ []) → log_of v p n ≡ []
unfolding log_of
no-parts v p zero h = refl
no-parts v p (suc n) h = rw (no-parts v p n (λ i l. h i (omega arith)), h n (omega arith))
