-- What a walk over the log has seen of a key is the newest entry of the key.
use Rattle.std.specs.Prelude.{ℕ, ◌+◌, ◌*◌, ◌≤◌, ◌<◌, ◌≡◌, Bool, eqb, ltb, length, get_or, take, drop}
use Rattle.std.proofs.Math.Path.{refl, sym, ap}
use Rattle.std.proofs.Common.{◌∙◌, ap₂, is_lt, nat_cmp, Ordering, Less, Equal, Greater, le-ltb}
use Rattle.std.proofs.Math.Bool.{true, false, not, not-not, ◌&&◌}
use Rattle.std.specs.Cmp.{ranks}
use Rattle.std.specs.Ordering.{MatchOrdering}
use mathlib.Core.List.Memᴰ
use mathlib.Core.List.{List, [], ◌∷◌, ◌++◌, append-nil}
use Rattle.std.proofs.Math.Option.{Option, none, some}
use native.Mathlib.Omega.{arith}
use borrow.Author.Tests.{ltb-true, ltb-false, lt-ltb, eq-eqb, ne_eqb}
use Rattle.word.specs.Number.{number_of}
use Rattle.segment.specs.Choice.{pick, both}
use Rattle.segment.proofs.Choice.{pick_true, pick-false, both-false-right}
use Rattle.segment.specs.Layout.{Layout, digest_size}
use Rattle.segment.proofs.LayoutLaws.{entry-not-end}
use Rattle.segment.specs.Digest.{layout_in}
use Rattle.segment.specs.Kinds.{size_or_zero, kind_size}
use Rattle.segment.proofs.KindsLaws.{no_size, has-size}
use Rattle.segment.specs.Entry.{Entry, Found, entry, end, damage, entry_at, key_of, size_of, bytes_in}
use Rattle.segment.specs.EntryLaws.{Reading, is-entry, is-end, is-damage}
use Rattle.segment.proofs.EntryLaws.{decoded-at, kind-unknown, reading}
use Rattle.segment.specs.Entries.{next_of}
use Rattle.segment.specs.declared.Key.{Key}
use Rattle.segment.specs.declared.Next.{Next}
use Rattle.segment.specs.declared.Version.{Version}
use Rattle.model.specs.Log.{View, Item, Placed, segment_of, views_of, Scan, damaged, scanned, item_first, scan, items_of, is_damaged, placed_in, log_of, same_keys, same_key, later_of, latest}
use Rattle.laws.specs.Members.{clash, In, first}
use Rattle.laws.specs.LogLaws.{placed_at, placed-append}
use Rattle.laws.specs.Scans.{item_at}
use Rattle.drive_log.specs.Shape.{own-layout, own-scan}
use Rattle.drive_log.specs.Extents.{Meets, rest_of, rest-whole, rest-entry, rest_end, rest-damage, log-skip, log-take}
use Rattle.drive_log.specs.Surveys.{after, after_none, after_first}
use Rattle.scanning.specs.Seeing.{seen_with, seen_next, seeing, seen_in, seen_of}
use Rattle.scanning.specs.declared.Seen.{Seen}

-- ---- whether two keys are one, by the code's test

and-both : (x y : Bool) → (x && y) ≡ both x y
unfolding both
and-both true y = refl
and-both false y = refl

pub key-test : (a b : Key) {t u : Bool} → t ≡ not (eqb a.table b.table && eqb a.key b.key) → t ≡ u → same_keys a b ≡ not u
unfolding same_keys
key-test a b e h = sym (and-both _ _) ∙ sym (not-not _) ∙ ap not (sym e ∙ h)

pub same-table : (a b : Key) → a.table ≡ b.table → eqb a.key b.key ≡ same_keys a b
unfolding same_keys both
same-table a b e = rw (eq-eqb a.table b.table e) refl

pub other-table : (a b : Key) → (a.table ≡ b.table → ⊥) → eqb a.table b.table ≡ same_keys a b
unfolding same_keys both
other-table a b e = rw (ne_eqb a.table b.table e) refl

-- ---- whether a version is above another, by the code's test

pub version-test : (a b : ℕ) {t u : Bool} → t ≡ is_lt (nat_cmp a b) → t ≡ u → ltb a b ≡ u
version-test a b e h = sym (go (nat_cmp a b) refl (ranks a b)) ∙ sym e ∙ h
  where
    go : (o : Ordering) → nat_cmp a b ≡ o → MatchOrdering o (a < b) (a ≡ b) (b < a) → is_lt (nat_cmp a b) ≡ ltb a b
    go Less p l = ap is_lt p ∙ sym (lt-ltb a b l)
    go Equal p l = ap is_lt p ∙ sym (le-ltb a b (omega arith))
    go Greater p l = ap is_lt p ∙ sym (le-ltb a b (omega arith))

-- ---- one entry more, at each test of the code

module _ (k : Key) (a : Seen) (own : Key) (v : Version) (place : ℕ) where
  pub with-other : same_keys k own ≡ false → a ≡ seen_with k a own v place
  unfolding seen_with
  with-other e = sym (pick-false (same_keys k own) _ a e)

  module _ (e : same_keys k own ≡ true) where
    pub with-newer : ltb a.version.0 v.0 ≡ true → record { version = v; place = place } ≡ seen_with k a own v place
    unfolding seen_with
    with-newer h = sym (pick_true (same_keys k own) _ a e ∙ pick_true (ltb a.version.0 v.0) _ a h)

    pub with-older : ltb a.version.0 v.0 ≡ false → a ≡ seen_with k a own v place
    unfolding seen_with
    with-older h = sym (pick_true (same_keys k own) _ a e ∙ pick-false (ltb a.version.0 v.0) _ a h)

-- ---- what was read at an offset

module _ (L : Layout) (s : List ℕ) (at : ℕ) (k : Key) (a : Seen) (place : ℕ) where
  pub seen_entry : (e : Entry) → entry_at L s at ≡ entry e
      → seen_next k a (next_of L (entry_at L s at)) place ≡ seen_with k a (key_of e) (record { 0 = e.version }) place
  unfolding seen_next next_of
  seen_entry e p = ap (λ (f : Found). seen_next k a (next_of L f) place) p

  -- what the reader says, of each form
  pub seen_read : (n : Next) → n ≡ next_of L (entry_at L s at) → (form : Next) → n ≡ form → seen_next k a form place ≡ seen_next k a (next_of L (entry_at L s at)) place
  seen_read n given form e = ap (λ (m : Next). seen_next k a m place) (sym e ∙ given)

  -- an entry whose key's last bytes are other ones
  pub seen_other : (x : ℕ) → x ≡ number_of (take 4 (drop (at + 3) s)) → (x ≡ k.key → ⊥) → a ≡ seen_next k a (next_of L (entry_at L s at)) place
  unfolding seen_next next_of same_keys
  seen_other x e n = go (reading L s at)
    where
      go : Reading L s at (entry_at L s at) → a ≡ seen_next k a (next_of L (entry_at L s at)) place
      go (is-entry y q r) =
          let own : x ≡ y.key = e ∙ ap (λ (z : Entry). z.key) (sym (decoded-at L s at (length (bytes_in y.value))) ∙ r.same) in
          with-other k a (key_of y) (record { 0 = y.version }) place
          (both-false-right (eqb k.table y.table) (eqb k.key y.key) (ne_eqb k.key y.key (λ h. n (own ∙ sym h))))
          ∙ sym (seen_entry y q)
      go (is-end q l z) = sym (ap (λ (f : Found). seen_next k a (next_of L f) place) q)
      go (is-damage q) = sym (ap (λ (f : Found). seen_next k a (next_of L f) place) q)

-- ---- one list after the other

pub seen-append : (S : ℕ) (k : Key) (a : Seen) (xs ys : List Placed) → seen_in S k a (xs ++ ys) ≡ seen_in S k (seen_in S k a xs) ys
unfolding seen_in
seen-append S k a [] ys = refl
seen-append S k a (x ∷ xs) ys = seen-append S k (seeing S k a x) xs ys

-- ---- the entries of one slot

-- Between two entries of the slot i whose bytes these are.
pub record Seeing (L : Layout) (bytes : List ℕ) (S i : ℕ) (k : Key) (before : Seen) (at : ℕ) (now : Seen) : Type 0 where
  pub items : List Item
  pub splits : scan L bytes ≡ after items (rest_of L bytes at)
  pub seen : now ≡ seen_in S k before (placed_in L i items)

module _ (L : Layout) (bytes : List ℕ) (S i : ℕ) (k : Key) (before : Seen) where
  pub see-start : Seeing L bytes S i k before (digest_size L) before
  unfolding placed_in seen_in
  see-start = record { items = []; splits = sym (after_none (rest_of L bytes (digest_size L)) ∙ rest-whole L bytes); seen = refl }

  -- what the whole slot leaves
  abbrev whole : Seen
  whole = seen_in S k before (placed_in L i (items_of (scan L bytes)))

  module _ (at : ℕ) (now : Seen) (so_far : Seeing L bytes S i k before at now) where
    pub see-turn : {v len : ℕ} (m : Meets L bytes at v len) (then : Seen)
        → then ≡ seen_next k now (next_of L (entry_at L bytes at)) (i * S + at) → Seeing L bytes S i k before (at + len) then
    unfolding placed_in seen_in
    see-turn {v} {len} m then t =
        let item = item_at at m.met in
        record {
          items = so_far.items ++ (item ∷ []);
          splits =
              so_far.splits ∙ ap (after so_far.items) (rest-entry L bytes at m) ∙
              after_first so_far.items item (rest_of L bytes (at + len));
          seen =
              t ∙ seen_entry L bytes at k now (i * S + at) m.met m.is ∙ ap (λ (a : Seen). seeing S k a (placed_at L i item)) so_far.seen ∙
              sym
              (ap (seen_in S k before) (placed-append L i so_far.items (item ∷ [])) ∙
              seen-append S k before (placed_in L i so_far.items) (placed_at L i item ∷ []));
        }

    pub see-end : entry_at L bytes at ≡ end → now ≡ whole
    unfolding after items_of
    see-end e =
        so_far.seen ∙
        ap (λ (r : Scan). seen_in S k before (placed_in L i (items_of r)))
        (sym
        (so_far.splits ∙ ap (after so_far.items) (rest_end L bytes at e) ∙ ap (λ (l : List Item). scanned l at) (append-nil so_far.items)))

-- A slot read by the edition that its byte 0 tells is seen as its view has it.
pub own-seen :
    (area : List ℕ) (S i : ℕ) (k : Key) (before : Seen) (part : List ℕ) → part ≡ segment_of area S i → (L : Layout) → L ≡ layout_in part →
    seen_in S k before (placed_in L i (items_of (scan L part))) ≡ seen_in S k before (placed_in (views_of area S i).layout i (items_of (views_of area S i).scan))
own-seen area S i k before part e L own =
    ap₂ (λ (K : Layout) (r : Scan). seen_in S k before (placed_in K i (items_of r))) (own-layout area S i part e L own) (own-scan area S i part e L own)

-- ---- an undamaged slot from an offset on

damaged-first : (x : Item) (r : Scan) → is_damaged (item_first x r) ≡ is_damaged r
unfolding is_damaged item_first
damaged-first x damaged = refl
damaged-first x (scanned is e) = refl

module _ (L : Layout) (s : List ℕ) (at : ℕ) (sound : is_damaged (rest_of L s at) ≡ false) where
  pub no-damage : entry_at L s at ≡ damage → ⊥
  unfolding is_damaged
  no-damage e = clash (is_damaged (rest_of L s at)) (ap is_damaged (rest-damage L s at e)) sound

  pub kind-none : at < length s → (get_or s at 0 ≡ 0 → ⊥) → (len : ℕ) → len ≡ kind_size L (get_or s at 0) → len ≡ 0 → ⊥
  kind-none l k len e z = no-damage (kind-unknown L s at l k (no_size L (get_or s at 0) (sym e ∙ z)))

  -- an entry stands there, as long as its kind says
  pub kind_meets : (len : ℕ) → len ≡ kind_size L (get_or s at 0) → (len ≡ 0 → ⊥) → (v : ℕ) × Meets L s at v len
  unfolding size_or_zero
  kind_meets len e long = go (reading L s at)
    where
      go : Reading L s at (entry_at L s at) → (v : ℕ) × Meets L s at v len
      go (is-entry x q a) =
          let size : size_of L x ≡ len = sym (e ∙ ap (size_or_zero L) a.known) in (
            x.version,
            record { met = x; is = q; its-version = refl; its-size = size; fits = omega (arith, a.fits); some_byte = omega arith },
          )
      go (is-end q l z) =
          let w = has-size L (get_or s at 0) (λ n. long (e ∙ n)) in
          absurd (entry-not-end L (get_or s at 0) w.0 w.1.known z)
      go (is-damage q) = absurd (no-damage q)

  pub sound-on : {v len : ℕ} → Meets L s at v len → is_damaged (rest_of L s (at + len)) ≡ false
  sound-on {v} {len} m =
      sym (damaged-first (item_at at m.met) (rest_of L s (at + len))) ∙ ap is_damaged (sym (rest-entry L s at m)) ∙ sound

-- What it means that no entry from an offset of an undamaged segment up to another is of the key k: what is seen stays.
pub record Skipped (L : Layout) (s : List ℕ) (k : Key) (start at : ℕ) : Type 0 where
  pub sound : is_damaged (rest_of L s at) ≡ false
  pub upward : start ≤ at
  pub seen : (S i : ℕ) (before now : Seen) → Seeing L s S i k before start now → Seeing L s S i k before at now

module _ (L : Layout) (s : List ℕ) (k : Key) (start : ℕ) where
  pub skip-none : is_damaged (rest_of L s start) ≡ false → Skipped L s k start start
  skip-none sound = record { sound = sound; upward = omega arith; seen = λ S i before now h. h }

  -- x is the number in the last four bytes of the entry's key
  pub skip-turn : {at v len : ℕ} → Skipped L s k start at → Meets L s at v len → (x : ℕ) → x ≡ number_of (take 4 (drop (at + 3) s)) → (x ≡ k.key → ⊥)
      → Skipped L s k start (at + len)
  skip-turn {at} h m x e n =
      record {
        sound = sound-on L s at h.sound m;
        upward = omega (arith, h.upward);
        seen =
            λ S i before now z.
            see-turn L s S i k before at now (h.seen S i before now z) m now (seen_other L s at k now (i * S + at) x e n);
      }

pub sound-start : (L : Layout) (s bytes : List ℕ) → s ≡ bytes → is_damaged (scan L bytes) ≡ false → is_damaged (rest_of L s (digest_size L)) ≡ false
sound-start L s bytes e h = ap is_damaged (rest-whole L s ∙ ap (scan L) e) ∙ h

-- ---- the slots of the log

-- what a walk from nothing on has seen in the slots below i that p picks
abbrev pub seen_below : ℕ → Key → (ℕ → View) → (ℕ → Bool) → ℕ → Seen
seen_below S k v p i = seen_in S k (seen_of S none) (log_of v p i)

module _ (S : ℕ) (k : Key) (v : ℕ → View) (p : ℕ → Bool) where
  pub walk_none : record { version = record { 0 = 0 }; place = 0 } ≡ seen_below S k v p 0
  unfolding log_of seen_in seen_of
  walk_none = refl

  module _ (i : ℕ) (now : Seen) (so_far : now ≡ seen_below S k v p i) where
    pub walk-skip : p i ≡ false → now ≡ seen_below S k v p (i + 1)
    walk-skip q = so_far ∙ ap (seen_in S k (seen_of S none)) (sym (log-skip v p i q))

    pub walk-take : p i ≡ true → (then : Seen) → then ≡ seen_in S k now (placed_in (v i).layout i (items_of (v i).scan)) → then ≡ seen_below S k v p (i + 1)
    walk-take q then t =
        t ∙ ap (λ (a : Seen). seen_in S k a (placed_in (v i).layout i (items_of (v i).scan))) so_far ∙
        sym
        (ap (seen_in S k (seen_of S none)) (log-take v p i q) ∙
        seen-append S k (seen_of S none) (log_of v p i) (placed_in (v i).layout i (items_of (v i).scan)))

-- ---- the newest entry

-- the newer of what was seen and of what comes
unfoldable joined : Option Placed → Option Placed → Option Placed
joined none b = b
joined (some y) b = later_of y b

joined-none : (o : Option Placed) → joined o none ≡ o
unfolding joined later_of
joined-none none = refl
joined-none (some y) = refl

later-two : (y x : Placed) (b : Option Placed) → joined (later_of y (some x)) b ≡ later_of y (later_of x b)
unfolding joined later_of pick
later-two y x none = go (ltb y.entry.version x.entry.version)
  where
    go : (t : Bool) → joined (pick t (some x) (some y)) none ≡ pick t (some x) (some y)
    go true = refl
    go false = refl
later-two y x (some z) =
    go (ltb y.entry.version x.entry.version) refl (ltb x.entry.version z.entry.version) refl
    (ltb y.entry.version z.entry.version) refl
  where
    go : (a : Bool) → ltb y.entry.version x.entry.version ≡ a → (b : Bool) → ltb x.entry.version z.entry.version ≡ b →
        (c : Bool) → ltb y.entry.version z.entry.version ≡ c → joined (later_of y (some x)) (some z) ≡ later_of y (later_of x (some z))
    go true p true q true r = rw (p, q, r) refl
    go true p true q false r =
        absurd
        (omega (
          arith,
          ltb-true y.entry.version x.entry.version p,
          ltb-true x.entry.version z.entry.version q,
          ltb-false y.entry.version z.entry.version r,
        ))
    go true p false q c r = rw (p, q, p) refl
    go false p true q c r = rw (p, q, r) refl
    go false p false q false r = rw (p, q, r, p) refl
    go false p false q true r =
        absurd
        (omega (
          arith,
          ltb-false y.entry.version x.entry.version p,
          ltb-false x.entry.version z.entry.version q,
          ltb-true y.entry.version z.entry.version r,
        ))

joined-two : (o : Option Placed) (x : Placed) (b : Option Placed) → joined (joined o (some x)) b ≡ joined o (later_of x b)
unfolding joined
joined-two none x b = refl
joined-two (some y) x b = later-two y x b

module _ (S : ℕ) (k : Key) where
  -- one entry of the key more
  see-own :
      (o : Option Placed) (x : Placed) → same_key k x.entry ≡ true → 0 < x.entry.version →
      seeing S k (seen_of S o) x ≡ seen_of S (joined o (some x))
  unfolding seen_with seen_of joined later_of same_key pick
  see-own none x e p = rw (e, lt-ltb 0 x.entry.version p) refl
  see-own (some y) x e p = rw e (go (ltb y.entry.version x.entry.version))
    where
      go : (t : Bool) → pick t (seen_of S (some x)) (seen_of S (some y)) ≡ seen_of S (pick t (some x) (some y))
      go true = refl
      go false = refl

  see-other : (a : Seen) (x : Placed) → same_key k x.entry ≡ false → seeing S k a x ≡ a
  unfolding seen_with same_key pick
  see-other a x e = rw e refl

  seen-after :
      (o : Option Placed) (log : List Placed) → ((x : Placed) → In x log → 0 < x.entry.version) →
      seen_in S k (seen_of S o) log ≡ seen_of S (joined o (latest log k))
  unfolding seen_in latest
  seen-after o [] above = ap (seen_of S) (sym (joined-none o))
  seen-after o (x ∷ xs) above = go (same_key k x.entry) refl (λ p. seen-after p xs (λ y m. above y (Memᴰ.tail m)))
    where
      go :
          (t : Bool) → same_key k x.entry ≡ t → ((p : Option Placed) → seen_in S k (seen_of S p) xs ≡ seen_of S (joined p (latest xs k))) →
          seen_in S k (seeing S k (seen_of S o) x) xs ≡ seen_of S (joined o (pick t (later_of x (latest xs k)) (latest xs k)))
      go true e ih =
          unfold pick in
          ap (λ (a : Seen). seen_in S k a xs) (see-own o x e (above x first)) ∙ ih (joined o (some x)) ∙ ap (seen_of S) (joined-two o x (latest xs k))
      go false e ih = unfold pick in ap (λ (a : Seen). seen_in S k a xs) (see-other (seen_of S o) x e) ∙ ih o

  -- Where all versions are above 0 a walk from nothing on has seen the newest entry of the key.
  pub seen-newest :
      (log : List Placed) → ((x : Placed) → In x log → 0 < x.entry.version) → seen_in S k (seen_of S none) log ≡ seen_of S (latest log k)
  unfolding joined
  seen-newest log above = seen-after none log above
