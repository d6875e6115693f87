-- 02, R-4, at the level of logs: what it does to a log and its map that a tombstone stands in the place of a live object.
use Rattle.std.specs.Prelude.{ℕ, ◌+◌, ◌^◌, ◌≤◌, ◌<◌, ◌≡◌, not, eqb, length}
use Rattle.std.proofs.Math.Path.{refl, ap}
use Rattle.std.proofs.Common.{sym, ◌∙◌, ap₂}
use Rattle.std.proofs.Math.Bool.{Bool, true, false}
use mathlib.Core.List.Memᴰ
use mathlib.Core.List.{List, [], ◌∷◌}
use Rattle.std.proofs.Math.Option.{Option, none, some}
use Rattle.std.proofs.Math.Decide.{ℕ_discrete}
use native.Mathlib.Omega.{arith}
use borrow.Author.Tests.{eq-eqb, ne_eqb}
use Rattle.segment.specs.Choice.{pick, both, either}
use Rattle.segment.proofs.Choice.{pick_true, pick-false, both-false-left}
use Rattle.segment.specs.Entry.{Entry, key_of, is_tombstone}
use Rattle.segment.specs.declared.Key.{Key}
use Rattle.slot_map.specs.Bit.{named}
use Rattle.slot_map.proofs.BitLaws.{bit-pow-same, set-named}
use Rattle.model.specs.Log.{Placed, same_key, latest, later_of, object_only, present, has_key, keys_of, version_shared, highest}
use Rattle.model.specs.Operations.{is_version, is_highest, object_outside, is_kept, replaced}
use Rattle.laws.specs.Members.{clash, In, first, entries_of, those, total}
use Rattle.laws.specs.Latest.{same_key_lem, key-same, own_key, Newest, latest-is, LatestIs, absent, found, latest-some, has-key, key-had}
use Rattle.laws.specs.Versions.{counted, count, count-shared, shared-count, shared-apart, highest-above, highest-least}
use Rattle.laws.specs.Keys.{KeysWithin, keys-within}
use Rattle.laws.specs.MapLaws.{value_at, gives, value-some, value_none, unplaced, outside, outside-in}

-- ---- an entry in the place of another

module _ (v : ℕ) (e : Entry) where
  -- what comes to stand in the place of an entry
  abbrev pub instead : Entry → Entry
  instead d = pick (eqb d.version v) e d

  pub instead-own : (d : Entry) → d.version ≡ v → instead d ≡ e
  instead-own d p = pick_true (eqb d.version v) e d (eq-eqb d.version v p)

  pub instead-other : (d : Entry) → (d.version ≡ v → ⊥) → instead d ≡ d
  instead-other d p = pick-false (eqb d.version v) e d (ne_eqb d.version v p)

  -- no entry changes its slot
  pub replaced-those : (p : ℕ → Bool) (log : List Placed) → those (λ x. p x.slot) (replaced v e log) ≡ replaced v e (those (λ x. p x.slot) log)
  unfolding replaced those pick
  replaced-those p [] = refl
  replaced-those p (x ∷ xs) = go (p x.slot) (replaced-those p xs)
    where
      y : Placed
      y = record { slot = x.slot; layout = x.layout; offset = x.offset; entry = instead x.entry }

      go : (t : Bool) → those (λ x. p x.slot) (replaced v e xs) ≡ replaced v e (those (λ x. p x.slot) xs) →
          pick t (y ∷ those (λ x. p x.slot) (replaced v e xs)) (those (λ x. p x.slot) (replaced v e xs)) ≡
          replaced v e (pick t (x ∷ those (λ x. p x.slot) xs) (those (λ x. p x.slot) xs))
      go true ih = ap (λ (l : List Placed). y ∷ l) ih
      go false ih = ih

  -- nothing changes where no entry has the version
  pub replaced-none : (log : List Placed) → ((x : Placed) → In x log → x.entry.version ≡ v → ⊥) → replaced v e log ≡ log
  unfolding replaced
  replaced-none [] f = refl
  replaced-none (x ∷ xs) f =
      λ i. record { slot = x.slot; layout = x.layout; offset = x.offset; entry = instead-other x.entry (f x first) i } ∷ replaced-none xs (λ y m. f y (Memᴰ.tail m)) i

  -- a sum in which the new entry counts no more than any
  pub replaced-total : (f : Entry → ℕ) (log : List Placed) → ((x : Placed) → In x log → f e ≤ f x.entry) →
      total f (entries_of (replaced v e log)) ≤ total f (entries_of log)
  unfolding replaced total
  replaced-total f [] h = omega arith
  replaced-total f (x ∷ xs) h = go (ℕ_discrete x.entry.version v) (replaced-total f xs (λ y m. h y (Memᴰ.tail m)))
    where
      go : Dec (x.entry.version ≡ v) → total f (entries_of (replaced v e xs)) ≤ total f (entries_of xs) →
          f (instead x.entry) + total f (entries_of (replaced v e xs)) ≤ f x.entry + total f (entries_of xs)
      go (yes p) ih = omega (arith, ap f (instead-own x.entry p), h x first)
      go (no p) ih = omega (arith, ap f (instead-other x.entry p))

  -- Where a member comes from: it is as it was, or it is the new one in the place of an old one.
  pub data Was (log : List Placed) (y : Placed) : Type 0 where
    kept-as : (x : Placed) → In x log → (x.entry.version ≡ v → ⊥) → y.entry ≡ x.entry → Was log y
    put-for : (x : Placed) → In x log → x.entry.version ≡ v → y.entry ≡ e → Was log y

  pub was : (log : List Placed) (y : Placed) → In y (replaced v e log) → Was log y
  unfolding replaced
  was [] y m = absurd (Memᴰ.not-nil m)
  was (x ∷ xs) y (Memᴰ.head d) = go (ℕ_discrete x.entry.version v)
    where
      go : Dec (x.entry.version ≡ v) → Was (x ∷ xs) y
      go (yes p) = put-for x first p (ap (λ (z : Placed). z.entry) d ∙ instead-own x.entry p)
      go (no p) = kept-as x first p (ap (λ (z : Placed). z.entry) d ∙ instead-other x.entry p)
  was (x ∷ xs) y (Memᴰ.tail m) = go (was xs y m)
    where
      go : Was xs y → Was (x ∷ xs) y
      go (kept-as z i p q) = kept-as z (Memᴰ.tail i) p q
      go (put-for z i p q) = put-for z (Memᴰ.tail i) p q

  -- the new entry is there
  pub put-there : {x : Placed} {log : List Placed} → In x log → x.entry.version ≡ v → (y : Placed) × In y (replaced v e log) × y.entry ≡ e
  unfolding replaced
  put-there {x = x} (Memᴰ.head {x = z} {xs = zs} d) p =
      (_, first, instead-own z.entry (ap (λ (u : Placed). u.entry.version) (sym d) ∙ p))
  put-there (Memᴰ.tail m) p = let h = put-there m p in (h.0, Memᴰ.tail h.1, h.2)

  -- the latest entry of a key to which neither belongs
  pub replaced-latest : (j : Key) → same_key j e ≡ false → (log : List Placed) →
      ((x : Placed) → In x log → x.entry.version ≡ v → same_key j x.entry ≡ false) → latest (replaced v e log) j ≡ latest log j
  unfolding replaced latest
  replaced-latest j q [] f = refl
  replaced-latest j q (x ∷ xs) f = go (ℕ_discrete x.entry.version v) (replaced-latest j q xs (λ y m. f y (Memᴰ.tail m)))
    where
      y : Entry → Placed
      y d = record { slot = x.slot; layout = x.layout; offset = x.offset; entry = d }

      front : Entry → Option Placed → Option Placed
      front d o = pick (same_key j d) (later_of (y d) o) o

      go : Dec (x.entry.version ≡ v) → latest (replaced v e xs) j ≡ latest xs j →
          front (instead x.entry) (latest (replaced v e xs) j) ≡ front x.entry (latest xs j)
      go (yes p) ih =
          ap (λ (d : Entry). front d (latest (replaced v e xs) j)) (instead-own x.entry p)
          ∙ pick-false (same_key j e) _ _ q ∙ ih ∙ sym (pick-false (same_key j x.entry) _ _ (f x first p))
      go (no p) ih = ap (λ (d : Entry). front d (latest (replaced v e xs) j)) (instead-other x.entry p) ∙ ap (front x.entry) ih

  -- the objects outside victims, where none of them is replaced
  pub replaced-objects : (victims : ℕ) (j : Key) (log : List Placed) →
      ((x : Placed) → In x log → x.entry.version ≡ v → named victims x.slot ≡ true) →
      object_outside victims (replaced v e log) j ≡ object_outside victims log j
  unfolding replaced object_outside
  replaced-objects victims j [] f = refl
  replaced-objects victims j (x ∷ xs) f =
      go (ℕ_discrete x.entry.version v) (replaced-objects victims j xs (λ y m. f y (Memᴰ.tail m)))
    where
      here : Entry → Bool
      here d = both (both (not (named victims x.slot)) (same_key j d)) (not (is_tombstone d))

      inside : (d : Entry) → named victims x.slot ≡ true → here d ≡ false
      inside d p = both-false-left _ _ (both-false-left _ _ (ap not p))

      go : Dec (x.entry.version ≡ v) → object_outside victims (replaced v e xs) j ≡ object_outside victims xs j →
          either (here (instead x.entry)) (object_outside victims (replaced v e xs) j) ≡ either (here x.entry) (object_outside victims xs j)
      go (yes p) ih = let q = f x first p in ap₂ either (inside (instead x.entry) q ∙ sym (inside x.entry q)) ih
      go (no p) ih = ap₂ either (ap here (instead-other x.entry p)) ih

  -- how often each version stands: the new one as often as the old one did, and any other no more often
  counted_same : (d : Entry) → d.version ≡ v → counted e.version e ≡ counted v d
  unfolding counted pick
  counted_same d p = rw (eq-eqb e.version e.version refl, eq-eqb d.version v p)

  counted_none : (w : ℕ) (d : Entry) → (d.version ≡ w → ⊥) → counted w d ≡ 0
  unfolding counted
  counted_none w d p = pick-false (eqb d.version w) 1 0 (ne_eqb d.version w p)

  replaced-new : (log : List Placed) → ((x : Placed) → In x log → x.entry.version ≡ e.version → ⊥) → count e.version (replaced v e log) ≤ count v log
  unfolding replaced total
  replaced-new [] f = omega arith
  replaced-new (x ∷ xs) f = go (ℕ_discrete x.entry.version v) (replaced-new xs (λ y m. f y (Memᴰ.tail m)))
    where
      go : Dec (x.entry.version ≡ v) → count e.version (replaced v e xs) ≤ count v xs →
          counted e.version (instead x.entry) + count e.version (replaced v e xs) ≤ counted v x.entry + count v xs
      go (yes p) ih = omega (arith, ap (counted e.version) (instead-own x.entry p), counted_same x.entry p)
      go (no p) ih =
          omega (arith, ap (counted e.version) (instead-other x.entry p), counted_none e.version x.entry (f x first))

  replaced-old : (w : ℕ) → (e.version ≡ w → ⊥) → (log : List Placed) → count w (replaced v e log) ≤ count w log
  replaced-old w n log = replaced-total (counted w) log (λ x m. omega (arith, counted_none w e n))

  -- so none comes to be shared
  pub replaced-shared : (log : List Placed) → highest log < e.version → version_shared log ≡ false → version_shared (replaced v e log) ≡ false
  replaced-shared log above h = count-shared (replaced v e log) (λ w. go w (ℕ_discrete e.version w))
    where
      go : (w : ℕ) → Dec (e.version ≡ w) → count w (replaced v e log) ≤ 1
      go w (yes p) =
          omega (
            arith,
            ap (λ (u : ℕ). count u (replaced v e log)) p,
            replaced-new log (λ x m q. omega (arith, highest-above m)),
            shared-count log h v,
          )
      go w (no n) = omega (arith, replaced-old w n log, shared-count log h w)

-- ---- a tombstone in the place of a key's live object

-- what makes an object the live one of a key
pub record IsLive (log : List Placed) (k : Key) (x : Placed) : Type 0 where
  pub latest-of : latest log k ≡ some x
  pub object : is_tombstone x.entry ≡ false

pub present-live : (log : List Placed) (k : Key) (x : Placed) → present log k ≡ some x → IsLive log k x
unfolding present object_only pick
present-live log k x e = go (latest log k) refl e
  where
    by_kind : (y : Placed) → latest log k ≡ some y → (t : Bool) → is_tombstone y.entry ≡ t → pick t none (some y) ≡ some x → IsLive log k x
    by_kind y p true q r = let z : ◌≡◌ {A = ℕ} 0 1 = cc in absurd (omega arith)
    by_kind y p false q r =
        let same : y ≡ x = cc in
        record { latest-of = p ∙ ap some same; object = ap (λ (u : Placed). is_tombstone u.entry) (sym same) ∙ q }

    go : (o : Option Placed) → latest log k ≡ o → object_only o ≡ some x → IsLive log k x
    go none p q = let z : ◌≡◌ {A = ℕ} 0 1 = cc in absurd (omega arith)
    go (some y) p q = by_kind y p (is_tombstone y.entry) refl q

module _ (log : List Placed) (k : Key) (x : Placed) (live : IsLive log k x) (e : Entry) (of-key : key_of e ≡ k) (dead : is_tombstone e ≡ true)
    (above : highest log < e.version) (versions : version_shared log ≡ false) where
  abbrev stand : List Placed
  stand = replaced x.entry.version e log

  abbrev own : Newest log k x
  own = latest-some log k x live.latest-of

  -- only the live object has its version
  one : (y : Placed) → In y log → y.entry.version ≡ x.entry.version → y ≡ x
  one y m p = shared-apart log versions y x m own.member p

  -- outside its slot nothing changes
  pub forgotten-outside : outside (2 ^ x.slot) stand ≡ outside (2 ^ x.slot) log
  forgotten-outside =
      replaced-those x.entry.version e (λ i. not (named (2 ^ x.slot) i)) log
      ∙ replaced-none x.entry.version e (outside (2 ^ x.slot) log)
      (λ y m p.
      let h = outside-in (2 ^ x.slot) log y m in
      clash (named (2 ^ x.slot) y.slot)
      (ap (λ (z : Placed). named (2 ^ x.slot) z.slot) (one y h.0 p) ∙ set-named (2 ^ x.slot) x.slot (bit-pow-same x.slot)) h.1)

  pub forgotten-versions : version_shared stand ≡ false
  forgotten-versions = replaced-shared x.entry.version e log above versions

  -- the new version is the highest
  pub forgotten-highest : highest stand ≤ e.version
  forgotten-highest = highest-least stand e.version (λ y m. go y (was x.entry.version e log y m))
    where
      go : (y : Placed) → Was x.entry.version e log y → y.entry.version ≤ e.version
      go y (kept-as z i p q) = omega (arith, ap (λ (d : Entry). d.version) q, highest-above i)
      go y (put-for z i p q) = omega (arith, ap (λ (d : Entry). d.version) q)

  -- no key comes
  pub forgotten-keys : length (keys_of stand) ≤ length (keys_of log)
  forgotten-keys = keys-within stand log within
    where
      within : KeysWithin stand log
      within j h = let y = key-had stand j h in go y.0 y.2 (was x.entry.version e log y.0 y.1)
        where
          go : (y : Placed) → same_key j y.entry ≡ true → Was x.entry.version e log y → has_key log j ≡ true
          go y s (kept-as z i p q) = has-key log j z i (ap (same_key j) (sym q) ∙ s)
          go y s (put-for z i p q) =
              has-key log j x own.member
              (ap (λ (u : Key). same_key u x.entry) (same_key_lem j y.entry s ∙ ap key_of q ∙ of-key) ∙ own.of-key)

  -- the tombstone is the latest entry of its key
  latest-dead : (j : Key) → same_key j e ≡ true → (z : Placed) → Newest stand j z → z.entry ≡ e
  latest-dead j s z n = go (was x.entry.version e log z n.member)
    where
      go : Was x.entry.version e log z → z.entry ≡ e
      go (put-for y i q d) = d
      go (kept-as y i q d) =
          let t = put-there x.entry.version e own.member refl in
          absurd
          (omega (
            arith,
            n.none_above t.0 t.1 (ap (same_key j) t.2 ∙ s),
            ap (λ (u : Entry). u.version) t.2,
            ap (λ (u : Entry). u.version) d,
            highest-above i,
          ))

  -- a key that is not the tombstone's is not the object's either, and the other way round
  other_key : (j : Key) → same_key j e ≡ false → same_key j x.entry ≡ false
  other_key j s = by (same_key j x.entry) refl
    where
      by : (t : Bool) → same_key j x.entry ≡ t → t ≡ false
      by false p = refl
      by true p =
          absurd
          (clash (same_key j e) (key-same j e (same_key_lem j x.entry p ∙ sym (same_key_lem k x.entry own.of-key) ∙ sym of-key)) s)

  other-latest : (j : Key) → same_key j e ≡ false → latest stand j ≡ latest log j
  other-latest j s =
      replaced-latest x.entry.version e j s log (λ y m p. ap (λ (z : Placed). same_key j z.entry) (one y m p) ∙ other_key j s)

  -- The key is gone, and no other.
  pub forgotten-value : (j : Key) → value_at stand j ≡ pick (same_key j e) none (value_at log j)
  unfolding pick
  forgotten-value j = go (same_key j e) refl
    where
      tombstone : (o : Option Placed) → latest stand j ≡ o → same_key j e ≡ true → LatestIs stand j o → value_at stand j ≡ none
      tombstone none p s l = value_none stand j p
      tombstone (some z) p s (found n) =
          value-some stand j z p
          ∙ unfold gives in
          pick_true (is_tombstone z.entry) none (some z.entry) (ap is_tombstone (latest-dead j s z n) ∙ dead)

      go : (t : Bool) → same_key j e ≡ t → value_at stand j ≡ pick t none (value_at log j)
      go true s = tombstone (latest stand j) refl s (latest-is stand j)
      go false s = unfold present in ap (λ (o : Option Placed). unplaced (object_only o)) (other-latest j s)

  -- ---- what a cleaning of its slot keeps

  victim-named : named (2 ^ x.slot) x.slot ≡ true
  victim-named = set-named (2 ^ x.slot) x.slot (bit-pow-same x.slot)

  objects-same : (j : Key) → object_outside (2 ^ x.slot) stand j ≡ object_outside (2 ^ x.slot) log j
  objects-same j =
      replaced-objects x.entry.version e (2 ^ x.slot) j log
      (λ y m p. ap (λ (z : Placed). named (2 ^ x.slot) z.slot) (one y m p) ∙ victim-named)

  -- the other entries are highest versions where they were
  highest-same : (y : Placed) → In y log → (y.entry.version ≡ x.entry.version → ⊥) → is_highest stand y.entry ≡ is_highest log y.entry
  unfolding is_version
  highest-same y m apart = go (same_key (key_of y.entry) e) refl
    where
      none-such : (o : Option Placed) → LatestIs stand (key_of y.entry) o → same_key (key_of y.entry) e ≡ true → is_version o y.entry.version ≡ false
      none-such none l s = refl
      none-such (some z) (found n) s =
          ne_eqb z.entry.version y.entry.version
          (λ p. omega (arith, ap (λ (u : Entry). u.version) (latest-dead (key_of y.entry) s z n), highest-above m))

      go : (t : Bool) → same_key (key_of y.entry) e ≡ t → is_highest stand y.entry ≡ is_highest log y.entry
      go true s =
          let key : key_of y.entry ≡ k = same_key_lem (key_of y.entry) e s ∙ of-key in
          none-such (latest stand (key_of y.entry)) (latest-is stand (key_of y.entry)) s
          ∙ sym (ne_eqb x.entry.version y.entry.version (λ p. apart (sym p)))
          ∙ sym (ap (λ (o : Option Placed). is_version o y.entry.version) (ap (latest log) key ∙ live.latest-of))
      go false s = ap (λ (o : Option Placed). is_version o y.entry.version) (other-latest (key_of y.entry) s)

  -- The other entries are kept where they would be kept.
  pub forgotten-kept : (y : Placed) → In y log → (y.entry.version ≡ x.entry.version → ⊥) →
      is_kept (2 ^ x.slot) stand y ≡ is_kept (2 ^ x.slot) log y
  forgotten-kept y m apart =
      λ i.
      both (named (2 ^ x.slot) y.slot)
      (both (highest-same y m apart i) (either (not (is_tombstone y.entry)) (objects-same (key_of y.entry) i)))

  -- The tombstone is kept where an object of the key stands outside.
  pub forgotten-tombstone : is_kept (2 ^ x.slot) stand (record { slot = x.slot; layout = x.layout; offset = x.offset; entry = e }) ≡ object_outside (2 ^ x.slot) log k
  unfolding is_version both either
  forgotten-tombstone =
      rw (victim-named, own-highest (latest stand (key_of e)) (latest-is stand (key_of e)), dead)
      (objects-same (key_of e) ∙ ap (object_outside (2 ^ x.slot) log) of-key)
    where
      own-highest : (o : Option Placed) → LatestIs stand (key_of e) o → is_version o e.version ≡ true
      own-highest none (absent f) =
          let t = put-there x.entry.version e own.member refl in
          absurd (clash (same_key (key_of e) t.0.entry) (ap (same_key (key_of e)) t.2 ∙ own_key e) (f t.0 t.1))
      own-highest (some z) (found n) =
          eq-eqb z.entry.version e.version (ap (λ (u : Entry). u.version) (latest-dead (key_of e) (own_key e) z n))
