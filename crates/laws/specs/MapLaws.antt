-- Demand 2, at the level of logs: what one entry more and what a cleaning do to the map of a log.
use Rattle.std.specs.Prelude.{ℕ, ◌+◌, ◌≤◌, ◌<◌, ◌≡◌, refl, Bool, not, ◌⊎◌, eqb, length}
use Rattle.std.proofs.Common.{sym, ◌∙◌, inl, inr, arith, length-append, eq-eqb, eqb-true}
use Rattle.std.proofs.Math.Path.{ap}
use Rattle.std.proofs.Math.Bool.{true, false}
use mathlib.Core.List.Memᴰ
use mathlib.Core.List.{List, [], ◌∷◌, ◌++◌}
use Rattle.std.proofs.Math.Option.{Option, none, some}
use Rattle.std.proofs.lemmas.Bool.{not-true}
use Rattle.segment.specs.Choice.{pick, both, either}
use Rattle.segment.proofs.Choice.{pick_true, both_left, both_right, both_true, either-true-left, either-true-right}
use Rattle.segment.specs.Layout.{Layout}
use Rattle.segment.specs.Entry.{Entry, encoded, size_of, key_of, is_tombstone}
use Rattle.segment.specs.declared.Key.{Key}
use Rattle.slot_map.specs.Bit.{named}
use Rattle.model.specs.Log.{Placed, same_key, latest, object_only, present, keys_of, version_shared, highest}
use Rattle.model.specs.Operations.{is_version, is_highest, object_outside, is_kept, kept_of, kept, all_encoded, placed_from}
use Rattle.laws.specs.Members.{clash, In, Same, Added, entries_of, entry_in, entry_of, those, in-those, those-in}
use Rattle.laws.specs.Members.{total, total-those, total-split}
use Rattle.laws.specs.Latest.{same_key_lem, Newest, Keyless, LatestIs, absent, found, latest-is, Apart}
use Rattle.laws.specs.Latest.{newest-one, latest-unique, has-key, key-had}
use Rattle.laws.specs.Versions.{counted, count, count-append, shared-fewer, highest-above, highest-least}
use Rattle.laws.specs.Keys.{KeysWithin, keys-within}

-- ---- what a key has

-- an entry without its place
unfoldable pub unplaced : Option Placed → Option Entry
unplaced none = none
unplaced (some x) = some x.entry

-- the object of a key, wherever it stands
abbrev pub value_at : List Placed → Key → Option Entry
value_at log k = unplaced (present log k)

-- what an entry gives its key if it is the latest: a tombstone gives nothing
unfoldable pub gives : Entry → Option Entry
gives e = pick (is_tombstone e) none (some e)

pub value-some : (log : List Placed) (k : Key) (x : Placed) → latest log k ≡ some x → value_at log k ≡ gives x.entry
unfolding present object_only unplaced gives pick
value-some log k x e = rw e (go (is_tombstone x.entry))
  where
    go : (t : Bool) → unplaced (pick t none (some x)) ≡ pick t none (some x.entry)
    go true = refl
    go false = refl

pub value_none : (log : List Placed) (k : Key) → latest log k ≡ none → value_at log k ≡ none
unfolding present object_only unplaced
value_none log k e = rw e

-- ---- one entry more, with a version above all others

-- Every version of the log is below x's.
abbrev pub Above : Placed → List Placed → Type 0
Above x log = (y : Placed) → In y log → y.entry.version < x.entry.version

module _ (log : List Placed) (x : Placed) (after : List Placed) (w : Added log x after) (top : Above x log) where
  pub apart-added : Apart log → Apart after
  apart-added d y z m n e = go (w.only y m) (w.only z n)
    where
      go : (y ≡ x) ⊎ In y log → (z ≡ x) ⊎ In z log → y ≡ z
      go (inl p) (inl q) = p ∙ sym q
      go (inl p) (inr j) = absurd (omega (arith, top z j, ap (λ (u : Placed). u.entry.version) p))
      go (inr i) (inl q) = absurd (omega (arith, top y i, ap (λ (u : Placed). u.entry.version) q))
      go (inr i) (inr j) = d y z i j e

  -- x itself is its key's latest
  own-latest : (k : Key) → same_key k x.entry ≡ true → LatestIs after k (some x)
  own-latest k p = found (record { member = w.new; of-key = p; none_above = λ y m q. go y (w.only y m) })
    where
      go : (y : Placed) → (y ≡ x) ⊎ In y log → y.entry.version ≤ x.entry.version
      go y (inl e) = omega (arith, ap (λ (u : Placed). u.entry.version) e)
      go y (inr m) = omega (arith, top y m)

  -- of any other key it changes nothing
  other-latest : (k : Key) → same_key k x.entry ≡ false → (o : Option Placed) → LatestIs log k o → LatestIs after k o
  other-latest k p none (absent f) = absent (λ y m. go y (w.only y m))
    where
      go : (y : Placed) → (y ≡ x) ⊎ In y log → same_key k y.entry ≡ false
      go y (inl e) = ap (λ (u : Placed). same_key k u.entry) e ∙ p
      go y (inr m) = f y m
  other-latest k p (some z) (found n) =
      found (record { member = w.old z n.member; of-key = n.of-key; none_above = λ y m q. go y q (w.only y m) })
    where
      go : (y : Placed) → same_key k y.entry ≡ true → (y ≡ x) ⊎ In y log → y.entry.version ≤ z.entry.version
      go y q (inl e) = absurd (clash (same_key k y.entry) q (ap (λ (u : Placed). same_key k u.entry) e ∙ p))
      go y q (inr m) = n.none_above y m q

  pub latest-added : Apart log → (k : Key) → latest after k ≡ pick (same_key k x.entry) (some x) (latest log k)
  unfolding pick
  latest-added d k = latest-unique after k (pick (same_key k x.entry) (some x) (latest log k)) (apart-added d) (go (same_key k x.entry) refl)
    where
      go : (t : Bool) → same_key k x.entry ≡ t → LatestIs after k (pick t (some x) (latest log k))
      go true p = own-latest k p
      go false p = other-latest k p (latest log k) (latest-is log k)

  -- what an added entry gives to its key, and to no other
  pub value-added : Apart log → (k : Key) → value_at after k ≡ pick (same_key k x.entry) (gives x.entry) (value_at log k)
  unfolding pick
  value-added d k = go (same_key k x.entry) (latest-added d k)
    where
      go : (t : Bool) → latest after k ≡ pick t (some x) (latest log k) → value_at after k ≡ pick t (gives x.entry) (value_at log k)
      go true e = value-some after k x e
      go false e = unfold present in ap (λ (o : Option Placed). unplaced (object_only o)) e

-- ---- what a cleaning keeps

-- the members in victim slots, and the others
abbrev pub inside : ℕ → List Placed → List Placed
inside victims log = those (λ x. named victims x.slot) log

abbrev pub outside : ℕ → List Placed → List Placed
outside victims log = those (λ x. not (named victims x.slot)) log

pub in-outside : (victims : ℕ) {log : List Placed} {x : Placed} → In x log → named victims x.slot ≡ false → In x (outside victims log)
in-outside victims {log} {x} m e = in-those (λ y. not (named victims y.slot)) m (ap not e)

pub outside-in : (victims : ℕ) (log : List Placed) (x : Placed) → In x (outside victims log) → In x log × named victims x.slot ≡ false
outside-in victims log x m =
    let h = those-in (λ y. not (named victims y.slot)) log x m in
    (h.0, not-true (named victims x.slot) h.1)

-- what is kept are the entries of those members that are kept
pub kept-those : (victims : ℕ) (log xs : List Placed) → kept_of victims log xs ≡ entries_of (those (is_kept victims log) xs)
unfolding kept_of those
kept-those victims log [] = refl
kept-those victims log (x ∷ xs) = go (is_kept victims log x) (kept-those victims log xs)
  where
    go : (t : Bool) → kept_of victims log xs ≡ entries_of (those (is_kept victims log) xs) →
        pick t (x.entry ∷ kept_of victims log xs) (kept_of victims log xs) ≡
        entries_of (pick t (x ∷ those (is_kept victims log) xs) (those (is_kept victims log) xs))
    go true ih = unfold pick in ap (λ (es : List Entry). x.entry ∷ es) ih
    go false ih = unfold pick in ih

-- an object of the key outside the victims is seen
pub object-seen : (victims : ℕ) (k : Key) {x : Placed} {log : List Placed} → In x log → named victims x.slot ≡ false →
    same_key k x.entry ≡ true → is_tombstone x.entry ≡ false → object_outside victims log k ≡ true
unfolding object_outside
object-seen victims k {x = x} (Memᴰ.head {x = y} {xs = ys} e) p q r =
    either-true-left (here y) (object_outside victims ys k) (ap here (sym e) ∙ seen)
  where
    here : Placed → Bool
    here z = both (both (not (named victims z.slot)) (same_key k z.entry)) (not (is_tombstone z.entry))

    seen : here x ≡ true
    seen =
        both_true (both (not (named victims x.slot)) (same_key k x.entry)) (not (is_tombstone x.entry))
        (both_true (not (named victims x.slot)) (same_key k x.entry) (ap not p) q) (ap not r)
object-seen victims k (Memᴰ.tail {x = y} {xs = ys} m) p q r =
    either-true-right (both (both (not (named victims y.slot)) (same_key k y.entry)) (not (is_tombstone y.entry)))
    (object_outside victims ys k) (object-seen victims k m p q r)

-- An entry of the log is its key's highest version exactly if it is the newest of its key.
pub newest-highest : (log : List Placed) (k : Key) (x : Placed) → Apart log → Newest log k x → is_highest log x.entry ≡ true
unfolding is_version
newest-highest log k x d n =
    rw (ap (latest log) (sym (same_key_lem k x.entry n.of-key)) ∙ latest-unique log k (some x) d (found n))
    (eq-eqb x.entry.version x.entry.version refl)

pub highest-newest : (log : List Placed) (x : Placed) → Apart log → In x log → is_highest log x.entry ≡ true → Newest log (key_of x.entry) x
unfolding is_version
highest-newest log x d m e = go (latest log (key_of x.entry)) (latest-is log (key_of x.entry)) e
  where
    go : (o : Option Placed) → LatestIs log (key_of x.entry) o → is_version o x.entry.version ≡ true → Newest log (key_of x.entry) x
    go none (absent f) h = absurd (clash false h refl)
    go (some z) (found n) h =
        let same : z ≡ x = d z x n.member m (eqb-true z.entry.version x.entry.version h) in
        rw same at n

-- the test on what a highest version is: an object, or a tombstone whose key has an object outside the victims
abbrev pub worth : ℕ → List Placed → Placed → Bool
worth victims log x = either (not (is_tombstone x.entry)) (object_outside victims log (key_of x.entry))

-- the test whether a member is kept, by its three parts
module _ (victims : ℕ) (log : List Placed) (x : Placed) where
  pub kept-when : named victims x.slot ≡ true → is_highest log x.entry ≡ true → worth victims log x ≡ true → is_kept victims log x ≡ true
  kept-when p q r =
      both_true (named victims x.slot) (both (is_highest log x.entry) (worth victims log x)) p
      (both_true (is_highest log x.entry) (worth victims log x) q r)

  pub kept-victim : is_kept victims log x ≡ true → named victims x.slot ≡ true
  kept-victim e = both_left (named victims x.slot) (both (is_highest log x.entry) (worth victims log x)) e

  pub kept-highest : is_kept victims log x ≡ true → is_highest log x.entry ≡ true
  kept-highest e =
      both_left (is_highest log x.entry) (worth victims log x)
      (both_right (named victims x.slot) (both (is_highest log x.entry) (worth victims log x)) e)

-- ---- a cleaning

-- the entries kept, as they come to stand in the new head
pub entries-placed : (L : Layout) (i at : ℕ) (es : List Entry) → entries_of (placed_from L i at es) ≡ es
unfolding placed_from
entries-placed L i at [] = refl
entries-placed L i at (e ∷ es) = ap (λ (t : List Entry). e ∷ t) (entries-placed L i (at + size_of L e) es)

-- The log after a cleaning, in any order: what stands outside the victims, and the entries kept, wherever they have moved.
pub record Cleaned (victims : ℕ) (log moved after : List Placed) : Type 0 where
  pub entries : entries_of moved ≡ kept victims log
  pub members : Same (outside victims log ++ moved) after

-- Where a member of the log after comes from: it stood outside the victims, or is the copy of a member that was kept.
pub data Origin (victims : ℕ) (log : List Placed) (y : Placed) : Type 0 where
  stood : In y log → named victims y.slot ≡ false → Origin victims log y
  copied : (x : Placed) → In x log → x.entry ≡ y.entry → is_kept victims log x ≡ true → Origin victims log y

-- What becomes of a key's latest entry: it stays, or it is copied; or it was a tombstone with no object of its key outside the
-- victims, and then no object of the key is left at all.
pub data LatestAfter (victims : ℕ) (log after : List Placed) (k : Key) (x : Placed) : Type 0 where
  stays : named victims x.slot ≡ false → In x after → LatestAfter victims log after k x
  moves : is_kept victims log x ≡ true → (y : Placed) → In y after → y.entry ≡ x.entry → LatestAfter victims log after k x
  goes : is_tombstone x.entry ≡ true → object_outside victims log k ≡ false →
      ((y : Placed) → In y after → same_key k y.entry ≡ true → is_tombstone y.entry ≡ true) → LatestAfter victims log after k x

module _ (victims : ℕ) (log moved after : List Placed) (c : Cleaned victims log moved after) where
  -- what is kept has its copy
  pub copy_of : (x : Placed) → In x log → is_kept victims log x ≡ true → (y : Placed) × In y after × y.entry ≡ x.entry
  copy_of x m e =
      let among : In x.entry (entries_of (those (is_kept victims log) log)) = entry_in (in-those (is_kept victims log) m e) in
      let h = entry_of moved x.entry (rw (← (kept-those victims log log), ← c.entries) at among) in
      (h.0, c.members.to h.0 (Memᴰ.append_right (outside victims log) h.1), h.2)

  pub origin : (y : Placed) → In y after → Origin victims log y
  origin y m = go (Memᴰ.append_cases (outside victims log) (c.members.from y m))
    where
      go : In y (outside victims log) ⊎ In y moved → Origin victims log y
      go (inl i) = let h = outside-in victims log y i in stood h.0 h.1
      go (inr j) =
          let among : In y.entry (entries_of moved) = entry_in j in
          let h = entry_of (those (is_kept victims log) log) y.entry (rw (c.entries, kept-those victims log log) at among) in
          let i = those-in (is_kept victims log) log h.0 h.1 in
          copied h.0 i.0 h.2 i.1

  -- so every entry after is one before
  pub entry-before : (y : Placed) → In y after → (x : Placed) × In x log × x.entry ≡ y.entry
  entry-before y m = go (origin y m)
    where
      go : Origin victims log y → (x : Placed) × In x log × x.entry ≡ y.entry
      go (stood i e) = (y, i, refl)
      go (copied x i e t) = (x, i, e)

  -- what is left of the key is a tombstone: an object outside the victims would have been seen, and a copy is the latest entry's
  left_over : Apart log → (k : Key) (x : Placed) → Newest log k x → is_tombstone x.entry ≡ true → object_outside victims log k ≡ false →
      (y : Placed) → In y after → same_key k y.entry ≡ true → is_tombstone y.entry ≡ true
  left_over d k x n t o y m p = go (origin y m)
    where
      stays-tombstone : In y log → named victims y.slot ≡ false → (b : Bool) → is_tombstone y.entry ≡ b → is_tombstone y.entry ≡ true
      stays-tombstone i e true q = q
      stays-tombstone i e false q = absurd (clash (object_outside victims log k) (object-seen victims k i e p q) o)

      go : Origin victims log y → is_tombstone y.entry ≡ true
      go (stood i e) = stays-tombstone i e (is_tombstone y.entry) refl
      go (copied z i e q) =
          let own : Newest log (key_of z.entry) z = highest-newest log z d i (kept-highest victims log z q) in
          let key : key_of z.entry ≡ k = ap key_of e ∙ sym (same_key_lem k y.entry p) in
          let one : z ≡ x = newest-one log k z x d (rw key at own) n in
          ap is_tombstone (sym e ∙ ap (λ (u : Placed). u.entry) one) ∙ t

  -- A tombstone goes only where no object of its key stands outside the victims.
  pub latest-after : Apart log → (k : Key) (x : Placed) → Newest log k x → LatestAfter victims log after k x
  latest-after d k x n = slot (named victims x.slot) refl
    where
      copy : is_kept victims log x ≡ true → LatestAfter victims log after k x
      copy e = let h = copy_of x n.member e in moves e h.0 h.1 h.2

      outside-too : is_tombstone x.entry ≡ true → named victims x.slot ≡ true → (b : Bool) → object_outside victims log k ≡ b →
          LatestAfter victims log after k x
      outside-too t e true o =
          copy (
          kept-when victims log x e (newest-highest log k x d n)
          (either-true-right (not (is_tombstone x.entry)) (object_outside victims log (key_of x.entry))
          (ap (object_outside victims log) (sym (same_key_lem k x.entry n.of-key)) ∙ o))
          )
      outside-too t e false o = goes t o (left_over d k x n t o)

      tombstone : named victims x.slot ≡ true → (b : Bool) → is_tombstone x.entry ≡ b → LatestAfter victims log after k x
      tombstone e true t = outside-too t e (object_outside victims log k) refl
      tombstone e false t =
          copy (
          kept-when victims log x e (newest-highest log k x d n)
          (either-true-left (not (is_tombstone x.entry)) (object_outside victims log (key_of x.entry)) (ap not t))
          )

      slot : (b : Bool) → named victims x.slot ≡ b → LatestAfter victims log after k x
      slot true e = tombstone e (is_tombstone x.entry) refl
      slot false e = stays e (c.members.to x (Memᴰ.append_left moved (in-outside victims n.member e)))

  -- a key's latest entry that is still there is still the latest
  still-latest : Apart log → (k : Key) (x y : Placed) → Newest log k x → In y after → y.entry ≡ x.entry → (o : Option Placed) → LatestIs after k o →
      (z : Placed) × o ≡ some z × z.entry ≡ x.entry
  still-latest d k x y n m e none (absent f) =
      absurd (clash (same_key k y.entry) (ap (same_key k) e ∙ n.of-key) (f y m))
  still-latest d k x y n m e (some z) (found b) =
      let w = entry-before z b.member in
      let one : w.0 ≡ x =
      d w.0 x w.1 n.member
      (omega (
        arith,
        ap (λ (u : Entry). u.version) w.2,
        ap (λ (u : Entry). u.version) e,
        b.none_above y m (ap (same_key k) e ∙ n.of-key),
        n.none_above w.0 w.1 (ap (same_key k) w.2 ∙ b.of-key),
      )) in
      (z, refl, sym w.2 ∙ ap (λ (u : Placed). u.entry) one)

  -- Cleaning: every key has what it had.
  pub log-clean : Apart log → (k : Key) → value_at after k ≡ value_at log k
  log-clean d k = go (latest log k) refl (latest-is log k)
    where
      nothing : Keyless log k → (o : Option Placed) → LatestIs after k o → o ≡ none
      nothing f none l = refl
      nothing f (some z) (found b) =
          let w = entry-before z b.member in
          absurd (clash (same_key k w.0.entry) (ap (same_key k) w.2 ∙ b.of-key) (f w.0 w.1))

      there : (x y : Placed) → latest log k ≡ some x → Newest log k x → In y after → y.entry ≡ x.entry → value_at after k ≡ value_at log k
      there x y e n m p =
          let z = still-latest d k x y n m p (latest after k) (latest-is after k) in
          value-some after k z.0 z.1 ∙ ap gives z.2 ∙ sym (value-some log k x e)

      gone : ((y : Placed) → In y after → same_key k y.entry ≡ true → is_tombstone y.entry ≡ true) →
          (o : Option Placed) → latest after k ≡ o → LatestIs after k o → value_at after k ≡ none
      gone f none e l = value_none after k e
      gone f (some z) e (found b) =
          value-some after k z e ∙ unfold gives in pick_true (is_tombstone z.entry) none (some z.entry) (f z b.member b.of-key)

      ends : (x : Placed) → latest log k ≡ some x → Newest log k x → LatestAfter victims log after k x → value_at after k ≡ value_at log k
      ends x e n (stays s m) = there x x e n m refl
      ends x e n (moves s y m p) = there x y e n m p
      ends x e n (goes t o f) =
          gone f (latest after k) refl (latest-is after k) ∙
          sym (value-some log k x e ∙ unfold gives in pick_true (is_tombstone x.entry) none (some x.entry) t)

      go : (o : Option Placed) → latest log k ≡ o → LatestIs log k o → value_at after k ≡ value_at log k
      go none e (absent f) = value_none after k (nothing f (latest after k) (latest-is after k)) ∙ sym (value_none log k e)
      go (some x) e (found n) = ends x e n (latest-after d k x n)

  -- Versions: none is new, and each stands no more often than before.
  pub clean-highest : highest after ≤ highest log
  clean-highest =
      highest-least after (highest log)
      (λ y m. let w = entry-before y m in omega (arith, highest-above w.1, ap (λ (u : Entry). u.version) w.2))

  pub clean-count : (v : ℕ) → count v (outside victims log ++ moved) ≤ count v log
  clean-count v =
      let kept-few : count v moved ≤ count v (inside victims log) =
      rw (c.entries, kept-those victims log log)
      (total-those (counted v) (is_kept victims log) (λ x. named victims x.slot) log (λ x m e. kept-victim victims log x e)) in
      omega (arith, count-append v (outside victims log) moved, total-split (counted v) (λ x. named victims x.slot) log)

  -- Versions: none comes to be shared, in whatever order the log after stands.
  pub clean-shared-any : ((v : ℕ) → count v after ≡ count v (outside victims log ++ moved)) → version_shared log ≡ false → version_shared after ≡ false
  clean-shared-any h e = shared-fewer after log (λ v. omega (arith, h v, clean-count v)) e

  -- Keys: a cleaning adds none.
  pub clean-keys : KeysWithin after log
  clean-keys k e =
      let y = key-had after k e in
      let w = entry-before y.0 y.1 in
      has-key log k w.0 w.1 (ap (same_key k) w.2 ∙ y.2)

  pub clean-keys-count : length (keys_of after) ≤ length (keys_of log)
  clean-keys-count = keys-within after log clean-keys

-- ---- sizes

pub encoded-total : (L : Layout) (es : List Entry) → length (all_encoded L es) ≡ total (λ e. length (encoded L e)) es
unfolding all_encoded total
encoded-total L [] = refl
encoded-total L (e ∷ es) = omega (arith, length-append (encoded L e) (all_encoded L es), encoded-total L es)

-- what a test picks of the log, if another picks it too
encoded-those : (L : Layout) (p q : Placed → Bool) (log : List Placed) → ((x : Placed) → In x log → p x ≡ true → q x ≡ true) →
    length (all_encoded L (entries_of (those p log))) ≤ length (all_encoded L (entries_of (those q log)))
encoded-those L p q log h =
    omega (
      arith,
      encoded-total L (entries_of (those p log)),
      encoded-total L (entries_of (those q log)),
      total-those (λ e. length (encoded L e)) p q log h,
    )

-- What is kept takes no more bytes than the victims' entries take.
pub kept-size : (L : Layout) (victims : ℕ) (log : List Placed) →
    length (all_encoded L (kept victims log)) ≤ length (all_encoded L (entries_of (inside victims log)))
kept-size L victims log =
    rw (kept-those victims log log)
    (encoded-those L (is_kept victims log) (λ x. named victims x.slot) log (λ x m e. kept-victim victims log x e))

-- the members in slot i
abbrev pub in_slot : ℕ → List Placed → List Placed
in_slot i log = those (λ x. eqb x.slot i) log

-- So one victim always fits.
pub kept-size-one : (L : Layout) (victims i : ℕ) (log : List Placed) → ((j : ℕ) → named victims j ≡ true → j ≡ i) →
    length (all_encoded L (kept victims log)) ≤ length (all_encoded L (entries_of (in_slot i log)))
kept-size-one L victims i log only =
    omega (
      arith,
      kept-size L victims log,
      encoded-those L (λ x. named victims x.slot) (λ x. eqb x.slot i) log (λ x m e. eq-eqb x.slot i (only x.slot e)),
    )
