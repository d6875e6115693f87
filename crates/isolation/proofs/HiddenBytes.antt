-- What is left of entries, scans and logs where the values of some tables are hidden: of such a value only the length is told, and
-- every byte of it is 0. Whatever decides an answer of the store, but for a value itself, is the same with values hidden.
use Prim.Native.Nat.{ℕ, zero, suc, ◌+◌, ◌^◌}
use mathlib.Core.Path.{◌≡◌, refl, sym, ap, ◌∙◌}
use mathlib.Core.Bool.{Bool, true, false}
use mathlib.Core.List.{List, [], ◌∷◌, ◌++◌, map}
use mathlib.Core.Option.{Option, none, some}
use lib.Dec.{eqb, ltb}
use lib.ListN.{length, replicate, length-replicate}
use Rattle.segment.specs.Choice.{pick, either, is_none, or_zero}
use Rattle.segment.specs.Layout.{Layout, object_kind, entry_size}
use Rattle.segment.specs.Entry.{Entry, bytes_in, kind_for, size_of, is_tombstone, key_of}
use Rattle.segment.specs.declared.Key.{Key}
use Rattle.record.specs.declared.Record.{Record}
use Rattle.model.specs.Log.{Item, Scan, damaged, scanned, items_of, end_of, is_damaged, View, Placed, placed_in, log_of, same_key, later_of, latest, object_only, present, has_key, keys_of, has_version, version_shared, highest}
use Rattle.model.specs.Operations.{is_version, object_outside, is_kept, kept_of, kept, all_encoded, tombstone_entry, replaced, replaced_by, slot_of, forgotten_log, forget_victim, forget_kept}
use Rattle.model.specs.Counts.{is_present, more_bytes, tally, counts_of}
use Rattle.laws.specs.Scans.{item_at, items_from, length-all_encoded}

-- ---- definitions

-- bytes of which only their number is told, where that is wanted
unfoldable pub zeroed : Bool → List ℕ → List ℕ
zeroed t v = pick t (replicate (length v) 0) v

unfoldable pub hidden_value : Bool → Option (List ℕ) → Option (List ℕ)
hidden_value t none = none
hidden_value t (some v) = some (zeroed t v)

-- an entry, its value hidden if its table is one of those
abbrev pub hidden : (ℕ → Bool) → Entry → Entry
hidden of e = record { table = e.table; key = e.key; version = e.version; value = hidden_value (of e.table) e.value }

abbrev pub hidden_item : (ℕ → Bool) → Item → Item
hidden_item of x = record { offset = x.offset; entry = hidden of x.entry }

abbrev pub hidden_placed : (ℕ → Bool) → Placed → Placed
hidden_placed of x = record { slot = x.slot; layout = x.layout; offset = x.offset; entry = hidden of x.entry }

abbrev pub hidden_log : (ℕ → Bool) → List Placed → List Placed
hidden_log of log = map (hidden_placed of) log

unfoldable pub hidden_one : (ℕ → Bool) → Option Placed → Option Placed
hidden_one of none = none
hidden_one of (some x) = some (hidden_placed of x)

unfoldable pub hidden_scan : (ℕ → Bool) → Scan → Scan
hidden_scan of damaged = damaged
hidden_scan of (scanned is e) = scanned (map (hidden_item of) is) e

abbrev pub hidden_views : (ℕ → Bool) → (ℕ → View) → (ℕ → View)
hidden_views of v i = record { layout = (v i).layout; digest = (v i).digest; scan = hidden_scan of (v i).scan }

-- ---- a test between two, and a list behind another

pub pick-ap : {A B : Type 0} (f : A → B) (t : Bool) (a b : A) → pick t (f a) (f b) ≡ f (pick t a b)
unfolding pick
pick-ap f true a b = refl
pick-ap f false a b = refl

pub map-append : {A B : Type 0} (f : A → B) (xs ys : List A) → map f (xs ++ ys) ≡ map f xs ++ map f ys
map-append f [] ys = refl
map-append f (x ∷ xs) ys = ap (λ r. f x ∷ r) (map-append f xs ys)

-- ---- one value

pub zeroed-length : (t : Bool) (v : List ℕ) → length (zeroed t v) ≡ length v
unfolding zeroed pick
zeroed-length true v = length-replicate (length v) 0
zeroed-length false v = refl

pub value_none : (t : Bool) (v : Option (List ℕ)) → is_none (hidden_value t v) ≡ is_none v
unfolding hidden_value is_none
value_none t none = refl
value_none t (some v) = refl

pub value-length : (t : Bool) (v : Option (List ℕ)) → length (bytes_in (hidden_value t v)) ≡ length (bytes_in v)
unfolding hidden_value bytes_in
value-length t none = refl
value-length t (some v) = zeroed-length t v

pub value-kind : (L : Layout) (t : Bool) (v : Option (List ℕ)) → kind_for L (hidden_value t v) ≡ kind_for L v
unfolding hidden_value kind_for
value-kind L t none = refl
value-kind L t (some v) = ap (λ (n : ℕ). or_zero (object_kind L n)) (zeroed-length t v)

-- a value that is not hidden is told
pub value-told : (v : Option (List ℕ)) → hidden_value false v ≡ v
unfolding hidden_value zeroed pick
value-told none = refl
value-told (some v) = refl

module _ (of : ℕ → Bool) where
  pub size-hidden : (L : Layout) (e : Entry) → size_of L (hidden of e) ≡ size_of L e
  size-hidden L e = ap (entry_size L) (value-length (of e.table) e.value)

  -- ---- a scan

  pub scan-items : (s : Scan) → items_of (hidden_scan of s) ≡ map (hidden_item of) (items_of s)
  unfolding hidden_scan items_of
  scan-items damaged = refl
  scan-items (scanned is e) = refl

  pub scan-end : (s : Scan) → end_of (hidden_scan of s) ≡ end_of s
  unfolding hidden_scan end_of
  scan-end damaged = refl
  scan-end (scanned is e) = refl

  pub scan-damaged : (s : Scan) → is_damaged (hidden_scan of s) ≡ is_damaged s
  unfolding hidden_scan is_damaged
  scan-damaged damaged = refl
  scan-damaged (scanned is e) = refl

  -- ---- a log

  pub placed-hidden : (L : Layout) (i : ℕ) (is : List Item) → placed_in L i (map (hidden_item of) is) ≡ hidden_log of (placed_in L i is)
  unfolding placed_in
  placed-hidden L i [] = refl
  placed-hidden L i (x ∷ is) =
      ap (λ (r : List Placed). record { slot = i; layout = L; offset = x.offset; entry = hidden of x.entry } ∷ r) (placed-hidden L i is)

  pub log-hidden : (v : ℕ → View) (p : ℕ → Bool) (n : ℕ) → log_of (hidden_views of v) p n ≡ hidden_log of (log_of v p n)
  unfolding log_of pick
  log-hidden v p zero = refl
  log-hidden v p (suc n) =
      ap (λ (r : List Placed). r ++ part (hidden_scan of (v n).scan)) (log-hidden v p n) ∙
      ap (λ (r : List Placed). hidden_log of (log_of v p n) ++ r) (picked (p n)) ∙
      sym (map-append (hidden_placed of) (log_of v p n) (part (v n).scan))
    where
      part : Scan → List Placed
      part s = pick (p n) (placed_in (v n).layout n (items_of s)) []

      picked :
          (t : Bool) → pick t (placed_in (v n).layout n (items_of (hidden_scan of (v n).scan))) [] ≡
          map (hidden_placed of) (pick t (placed_in (v n).layout n (items_of (v n).scan)) [])
      picked true = ap (placed_in (v n).layout n) (scan-items (v n).scan) ∙ placed-hidden (v n).layout n (items_of (v n).scan)
      picked false = refl

  -- ---- the map of a log

  later-hidden : (x : Placed) (o : Option Placed) → later_of (hidden_placed of x) (hidden_one of o) ≡ hidden_one of (later_of x o)
  unfolding later_of hidden_one
  later-hidden x none = refl
  later-hidden x (some y) = pick-ap (hidden_one of) (ltb x.entry.version y.entry.version) (some y) (some x)

  pub latest-hidden : (log : List Placed) (k : Key) → latest (hidden_log of log) k ≡ hidden_one of (latest log k)
  unfolding latest same_key hidden_one
  latest-hidden [] k = refl
  latest-hidden (x ∷ log) k =
      rw (latest-hidden log k, later-hidden x (latest log k))
      (pick-ap (hidden_one of) (same_key k x.entry) (later_of x (latest log k)) (latest log k))

  object-hidden : (o : Option Placed) → object_only (hidden_one of o) ≡ hidden_one of (object_only o)
  unfolding object_only hidden_one
  object-hidden none = refl
  object-hidden (some x) =
      ap (λ (t : Bool). pick t none (some (hidden_placed of x))) (value_none (of x.entry.table) x.entry.value) ∙
      pick-ap (hidden_one of) (is_tombstone x.entry) none (some x)

  pub present-hidden : (log : List Placed) (k : Key) → present (hidden_log of log) k ≡ hidden_one of (present log k)
  unfolding present
  present-hidden log k = ap object_only (latest-hidden log k) ∙ object-hidden (latest log k)

  pub has-hidden : (log : List Placed) (k : Key) → has_key (hidden_log of log) k ≡ has_key log k
  unfolding has_key same_key
  has-hidden [] k = refl
  has-hidden (x ∷ log) k = ap (either (same_key k x.entry)) (has-hidden log k)

  pub keys-hidden : (log : List Placed) → keys_of (hidden_log of log) ≡ keys_of log
  unfolding keys_of
  keys-hidden [] = refl
  keys-hidden (x ∷ log) = rw (keys-hidden log, has-hidden log (key_of x.entry))

  pub version-hidden : (log : List Placed) (v : ℕ) → has_version (hidden_log of log) v ≡ has_version log v
  unfolding has_version
  version-hidden [] v = refl
  version-hidden (x ∷ log) v = rw (version-hidden log v)

  pub shared-hidden : (log : List Placed) → version_shared (hidden_log of log) ≡ version_shared log
  unfolding version_shared
  shared-hidden [] = refl
  shared-hidden (x ∷ log) = rw (shared-hidden log, version-hidden log x.entry.version)

  pub highest-hidden : (log : List Placed) → highest (hidden_log of log) ≡ highest log
  unfolding highest
  highest-hidden [] = refl
  highest-hidden (x ∷ log) = rw (highest-hidden log)

  -- ---- what a cleaning keeps

  outside-hidden : (victims : ℕ) (log : List Placed) (k : Key) → object_outside victims (hidden_log of log) k ≡ object_outside victims log k
  unfolding object_outside same_key
  outside-hidden victims [] k = refl
  outside-hidden victims (x ∷ log) k = rw (outside-hidden victims log k, value_none (of x.entry.table) x.entry.value)

  is-version-hidden : (o : Option Placed) (v : ℕ) → is_version (hidden_one of o) v ≡ is_version o v
  unfolding is_version hidden_one
  is-version-hidden none v = refl
  is-version-hidden (some x) v = refl

  is-kept-hidden : (victims : ℕ) (log : List Placed) (x : Placed) → is_kept victims (hidden_log of log) (hidden_placed of x) ≡ is_kept victims log x
  is-kept-hidden victims log x =
      rw (latest-hidden log (key_of x.entry), is-version-hidden (latest log (key_of x.entry)) x.entry.version, value_none (of x.entry.table) x.entry.value, outside-hidden victims log (key_of x.entry))

  kept-of-hidden :
      (victims : ℕ) (log xs : List Placed) → kept_of victims (hidden_log of log) (hidden_log of xs) ≡ map (hidden of) (kept_of victims log xs)
  unfolding kept_of
  kept-of-hidden victims log [] = refl
  kept-of-hidden victims log (x ∷ xs) =
      rw (is-kept-hidden victims log x, kept-of-hidden victims log xs)
      (pick-ap (map (hidden of)) (is_kept victims log x) (x.entry ∷ kept_of victims log xs) (kept_of victims log xs))

  pub kept-hidden : (victims : ℕ) (log : List Placed) → kept victims (hidden_log of log) ≡ map (hidden of) (kept victims log)
  kept-hidden victims log = kept-of-hidden victims log log

  -- ---- the present bytes of the slots

  is-present-hidden : (log : List Placed) (e : Entry) → is_present (hidden_log of log) (hidden of e) ≡ is_present log e
  is-present-hidden log e =
      ap (λ (o : Option Placed). is_version o e.version) (present-hidden log (key_of e)) ∙ is-version-hidden (present log (key_of e)) e.version

  tally-hidden : (log xs : List Placed) → tally (hidden_log of log) (hidden_log of xs) ≡ tally log xs
  unfolding tally
  tally-hidden log [] = refl
  tally-hidden log (x ∷ xs) =
      λ i. more_bytes x.slot (pick (is-present-hidden log x.entry i) (size-hidden x.layout x.entry i) 0) (tally-hidden log xs i)

  pub counts-hidden : (log : List Placed) → counts_of (hidden_log of log) ≡ counts_of log
  counts-hidden log = tally-hidden log log

  -- ---- a tombstone in the place of a live object

  replaced-hidden : (v : ℕ) (e : Entry) → hidden of e ≡ e → (log : List Placed) → replaced v e (hidden_log of log) ≡ hidden_log of (replaced v e log)
  unfolding replaced
  replaced-hidden v e own [] = refl
  replaced-hidden v e own (x ∷ log) =
      λ i. record { slot = x.slot; layout = x.layout; offset = x.offset; entry = go (eqb x.entry.version v) i } ∷ replaced-hidden v e own log i
    where
      go : (t : Bool) → pick t e (hidden of x.entry) ≡ hidden of (pick t e x.entry)
      go true = unfold pick in sym own
      go false = unfold pick in refl

  by-hidden : (e : Entry) → hidden of e ≡ e → (log : List Placed) (o : Option Placed) →
      replaced_by e (hidden_log of log) (hidden_one of o) ≡ hidden_log of (replaced_by e log o)
  unfolding replaced_by hidden_one
  by-hidden e own log none = refl
  by-hidden e own log (some x) = replaced-hidden x.entry.version e own log

  slot-hidden : (o : Option Placed) → slot_of (hidden_one of o) ≡ slot_of o
  unfolding slot_of hidden_one
  slot-hidden none = refl
  slot-hidden (some x) = refl

  pub forgotten-hidden : (r : Record) (log : List Placed) (k : Key) → forgotten_log r (hidden_log of log) k ≡ hidden_log of (forgotten_log r log k)
  unfolding hidden_value
  forgotten-hidden r log k =
      ap (replaced_by (tombstone_entry r k) (hidden_log of log)) (present-hidden log k) ∙ by-hidden (tombstone_entry r k) refl log (present log k)

  pub victim-hidden : (log : List Placed) (k : Key) → forget_victim (hidden_log of log) k ≡ forget_victim log k
  victim-hidden log k = ap (λ (i : ℕ). 2 ^ i) (ap slot_of (present-hidden log k) ∙ slot-hidden (present log k))

  pub forget-kept-hidden : (r : Record) (log : List Placed) (k : Key) → forget_kept r (hidden_log of log) k ≡ map (hidden of) (forget_kept r log k)
  forget-kept-hidden r log k =
      (λ i. kept (victim-hidden log k i) (forgotten-hidden r log k i)) ∙ kept-hidden (forget_victim log k) (forgotten_log r log k)

  -- ---- entries one behind the other

  pub encoded-hidden : (L : Layout) (es : List Entry) → length (all_encoded L (map (hidden of) es)) ≡ length (all_encoded L es)
  encoded-hidden L [] = refl
  encoded-hidden L (e ∷ es) =
      length-all_encoded L (hidden of e) (map (hidden of) es) ∙ rw (size-hidden L e, encoded-hidden L es) (sym (length-all_encoded L e es))

  pub items_hidden : (L : Layout) (at : ℕ) (es : List Entry) → items_from L at (map (hidden of) es) ≡ map (hidden_item of) (items_from L at es)
  unfolding items_from
  items_hidden L at [] = refl
  items_hidden L at (e ∷ es) =
      ap (λ (r : List Item). item_at at (hidden of e) ∷ r)
      (ap (λ (m : ℕ). items_from L (at + m) (map (hidden of) es)) (size-hidden L e) ∙ items_hidden L (at + size_of L e) es)
