-- Laws of: What is looked up on a genuine store is the object that its map has.
use Rattle.std.specs.Prelude.{ℕ, ◌+◌, ◌*◌, ◌-◌, ◌≤◌, ◌<◌, ◌≡◌, Bool, true, false, not, List, [], ◌∷◌, length, drop, Err, Ok}
use Rattle.std.proofs.Math.Path.{refl, sym, ap, subst⁻¹}
use Rattle.std.proofs.Common.{◌∙◌, arith, length-take}
use Rattle.std.proofs.Math.Option.{Option, none, some}
use Rattle.std.proofs.Math.ListN.{get_or}
use Rattle.segment.specs.Area.{layout_at, stands_at}
use Rattle.segment.proofs.AreaLaws.{stands-place}
use Rattle.segment.specs.Choice.{pick, is_none}
use Rattle.segment.proofs.Choice.{pick_true, pick-false}
use Rattle.segment.specs.Layout.{Layout, layout_of_kind, entry_size}
use Rattle.segment.specs.Entry.{bytes_in, entry, key_of, answer, is_tombstone}
use Rattle.segment.proofs.AnswerLaws.{tells-object}
use Rattle.segment.proofs.EntryLaws.{found-fits, found-layout}
use Rattle.segment.specs.declared.Key.{Key}
use Rattle.segment.specs.declared.Read.{Read}
use Rattle.segment.specs.declared.Version.{Version}
use Rattle.slot_map.specs.Bit.{named}
use Rattle.record.specs.Range.{fits_lent}
use Rattle.record.specs.Reach.{holds_table}
use Rattle.record.specs.RangeLaws.{lent}
use Rattle.record.specs.Switch.{as_recovered}
use Rattle.record.specs.declared.Record.{Record}
use Rattle.record.specs.Answered.{ReadAnswer}
use Rattle.record.specs.declared.Refusal.{Refusal}
use Rattle.record.specs.declared.Tables.{Tables}
use Rattle.model.specs.Log.{Placed, place_of, placed_size, placed_kind, segment_of, views_of, log_of, latest, object_only, present, keys_of}
use Rattle.model.specs.Causes.{Cause, when, first_cause}
use Rattle.model.specs.Operations.{log_now}
use Rattle.model.specs.Refused.{record_bad, key_absent, outside_tables, reach_causes, read_causes}
use Rattle.model.specs.Promises.{Genuine, ReadPromise, nowhere, ValuePromise, read_answer, present_answer, read_lengths, value_part, value_answer}
use Rattle.laws.specs.CauseLaws.{cause-first, cause-skip}
use Rattle.laws.specs.SaidLaws.{read-settled}
use Rattle.laws.specs.Members.{In}
use Rattle.laws.specs.Latest.{latest-some}
use Rattle.laws.specs.Forgotten.{present-live}
use Rattle.laws.specs.LogLaws.{AllScanned}
use Rattle.laws.specs.RecoverLaws.{recovered-case, recovered-keys}
use Rattle.model.specs.Index.{start_cell}
use Rattle.index.specs.Search.{probe, search_for, cell_has}
use Rattle.index.proofs.SearchLaws.{search-within, search-inside}
use Rattle.index.proofs.Area.{area-picks}
use Rattle.index.specs.Finds.{Picks}
use Rattle.index.proofs.Finds.{search-known, search-new}
use Rattle.index.proofs.BuildLaws.{log-reads, log-in-area}
use Rattle.index.specs.declared.Found.{Found as Hit}
use Rattle.record.specs.AnswerLaws.{ok-same}
use Rattle.recovery.specs.declared.Object.{Object}
use Rattle.recovery.specs.Lookups.{Reached, lookup_of, lookup_at, looked_up, told_by, part_by, Lookup}
use Rattle.recovery.specs.LookupLaws.{ObjectInside, if_absent, lookup_for}

-- ---- the lookup at each test of the code

module _ (L : Layout) (r : Record) (area cells : List ℕ) (t : Tables) (k : Key) where
  pub looked-unfit : fits_lent L r (length area) (length cells) ≡ false → looked_up L r area cells t k ≡ Err Refusal.BadRecord
  unfolding looked_up
  looked-unfit e = pick-false (fits_lent L r (length area) (length cells)) _ _ e

  pub looked-outside :
      fits_lent L r (length area) (length cells) ≡ true → holds_table t k.table ≡ false → looked_up L r area cells t k ≡ Err Refusal.OutsideTables
  unfolding looked_up
  looked-outside fit out = pick_true (fits_lent L r (length area) (length cells)) _ _ fit ∙ pick-false (holds_table t k.table) _ _ out

  module _ (fit : fits_lent L r (length area) (length cells) ≡ true) (held : holds_table t k.table ≡ true) where
    pub looked-fit : looked_up L r area cells t k ≡ lookup_at area cells (search_for area cells k)
    unfolding looked_up
    looked-fit = pick_true (fits_lent L r (length area) (length cells)) _ _ fit ∙ pick_true (holds_table t k.table) _ _ held

    pub looked-full : search_for area cells k ≡ Hit.Full → looked_up L r area cells t k ≡ Err Refusal.BadRecord
    unfolding lookup_at
    looked-full e = looked-fit ∙ ap (lookup_at area cells) e

    module _ (i : ℕ) where
      pub looked-free : search_for area cells k ≡ Hit.Free i → looked_up L r area cells t k ≡ Err Refusal.Absent
      unfolding lookup_at
      looked-free e = looked-fit ∙ ap (lookup_at area cells) e

      module _ (e : search_for area cells k ≡ Hit.At i) where
        pub looked-at : looked_up L r area cells t k ≡ lookup_of (get_or cells i 0 - 1) (stands_at area (get_or cells i 0 - 1))
        unfolding lookup_at
        looked-at = looked-fit ∙ ap (lookup_at area cells) e

    -- a look at where the search has ended can be made
    pub reached : (i : ℕ) → search_for area cells k ≡ Hit.At i → Reached cells i
    reached i e =
        let l = lent L r (length area) (length cells) fit in
        let w = search-inside area cells k i e in
        record { below = w.below; few = omega arith; taken = w.taken }

-- ---- where an object is found, its entry lies in the area

-- what a lookup of an object says of what stands there
object-read : (p : ℕ) (a : Read) (q : ℕ) (v : Version) (kind n : ℕ) → lookup_of p a ≡ Ok (record { place = q; version = v; kind = kind; length = n })
    → (p ≡ q) × (key : Key) × (a ≡ Read.Object key v kind n)
unfolding lookup_of
object-read p (Read.Object key w j m) q v kind n e =
    let s : ◌≡◌ {A = Object} (record { place = p; version = w; kind = j; length = m }) (record { place = q; version = v; kind = kind; length = n }) = ok-same e in
    (ap (λ (o : Object). o.place) s, key, ap (λ (o : Object). Read.Object key o.version o.kind o.length) s)
object-read p (Read.Tombstone key w m) q v kind n e = let z : ◌≡◌ {A = ℕ} 0 1 = cc in absurd (omega arith)
object-read p Read.End q v kind n e = let z : ◌≡◌ {A = ℕ} 0 1 = cc in absurd (omega arith)
object-read p Read.Damage q v kind n e = let z : ◌≡◌ {A = ℕ} 0 1 = cc in absurd (omega arith)

module _ (L : Layout) (r : Record) (area cells : List ℕ) (t : Tables) (k : Key) (p : ℕ) (v : Version) (kind n : ℕ)
    (e : looked_up L r area cells t k ≡ Ok (record { place = p; version = v; kind = kind; length = n })) where
  at-inside :
      fits_lent L r (length area) (length cells) ≡ true → holds_table t k.table ≡ true → (i : ℕ) → search_for area cells k ≡ Hit.At i →
      ObjectInside (layout_of_kind kind) area p n
  at-inside fit held i f =
      let (place, key, there) = object-read (get_or cells i 0 - 1) _ p v kind n (sym (looked-at L r area cells t k fit held i f) ∙ e) in
      let own : Layout = layout_at area (get_or cells i 0 - 1) in
      let x = tells-object own _ key v kind n there in
      let within = found-fits own area (get_or cells i 0 - 1) x.told x.is in
      let its : layout_of_kind kind ≡ own = ap layout_of_kind (sym x.its-kind) ∙ found-layout own _ _ x.told x.is in
      subst⁻¹ (λ (K : Layout). ObjectInside K area p n) its (record { head = omega arith; whole = omega arith })

  pub object-inside : ObjectInside (layout_of_kind kind) area p n
  object-inside = go (fits_lent L r (length area) (length cells)) refl (holds_table t k.table) refl (search_for area cells k) refl
    where
      go : (x : Bool) → fits_lent L r (length area) (length cells) ≡ x → (y : Bool) → holds_table t k.table ≡ y → (h : Hit) →
          search_for area cells k ≡ h → ObjectInside (layout_of_kind kind) area p n
      go false d y c h f = let q = looked-unfit L r area cells t k d in let z : ◌≡◌ {A = ℕ} 0 1 = cc in absurd (omega arith)
      go true d false c h f = let q = looked-outside L r area cells t k d c in let z : ◌≡◌ {A = ℕ} 0 1 = cc in absurd (omega arith)
      go true d true c (Hit.At i) f = at-inside d c i f
      go true d true c (Hit.Free i) f = let q = looked-free L r area cells t k d c i f in let z : ◌≡◌ {A = ℕ} 0 1 = cc in absurd (omega arith)
      go true d true c Hit.Full f = let q = looked-full L r area cells t k d c f in let z : ◌≡◌ {A = ℕ} 0 1 = cc in absurd (omega arith)

-- ---- at the place of an entry of an undamaged log stands the entry

module _ (area : List ℕ) (S : ℕ) (p : ℕ → Bool) (n : ℕ) (scans : AllScanned (views_of area S) p n) (x : Placed) (m : In x (log_of (views_of area S) p n)) where
  pub placed-inside : x.offset < S
  placed-inside =
      omega (
        arith,
        found-fits x.layout (segment_of area S x.slot) x.offset x.entry (log-reads area S p n scans x m),
        length-take S (drop (x.slot * S) area),
      )

  pub stands_at_lem : stands_at area (place_of S x) ≡ answer x.layout (entry x.entry)
  stands_at_lem =
      stands-place S area x.slot x.offset x.layout x.entry (log-reads area S p n scans x m)

  -- and its kind tells its edition
  pub placed-layout : layout_of_kind (placed_kind x) ≡ x.layout
  placed-layout = found-layout x.layout (segment_of area S x.slot) x.offset x.entry (log-reads area S p n scans x m)

-- an entry at its place, as the lookup takes it
entry-lookup : (S : ℕ) (x : Placed) → lookup_of (place_of S x) (answer x.layout (entry x.entry)) ≡ lookup_for S (object_only (some x))
unfolding lookup_of answer lookup_for object_only pick
entry-lookup S x = go (is_tombstone x.entry)
  where
    go : (t : Bool)
        → lookup_of (place_of S x)
        (pick t (Read.Tombstone (key_of x.entry) (record { 0 = x.entry.version }) (placed_size x))
        (Read.Object (key_of x.entry) (record { 0 = x.entry.version }) (placed_kind x) (placed_size x)))
        ≡ lookup_for S (pick t none (some x))
    go true = refl
    go false = refl

-- its log is undamaged
pub genuine-scans : (L : Layout) (r : Record) (area cells : List ℕ) → Genuine L area r cells → AllScanned (views_of area r.size) (named r.map) r.slots
genuine-scans L r area cells genuine =
    recovered-case L r.slots r.size r.cells area (λ (q : Record). AllScanned (views_of area r.size) (named q.map) r.slots)
    (λ h a f. f.scans) (as_recovered r) genuine.recovers

module _ (L : Layout) (r : Record) (area cells : List ℕ) (t : Tables) (k : Key) (genuine : Genuine L area r cells)
    (fit : fits_lent L r (length area) (length cells) ≡ true) where
  abbrev S : ℕ
  S = r.size

  abbrev log : List Placed
  log = log_now area r

  scans : AllScanned (views_of area S) (named r.map) r.slots
  scans = genuine-scans L r area cells genuine

  few : length (keys_of log) < length cells
  few =
      let l = lent L r (length area) (length cells) fit in
      omega (arith, recovered-keys L r.slots S r.cells area (as_recovered r) genuine.recovers)

  pub at_place : (x : Placed) → In x log → stands_at area (place_of S x) ≡ answer x.layout (entry x.entry)
  at_place x m = stands_at_lem area S (named r.map) r.slots scans x m

  pub genuine-lookup : holds_table t k.table ≡ true → looked_up L r area cells t k ≡ lookup_for S (present log k)
  unfolding present
  genuine-lookup held = go (latest log k) refl
    where
      picks : Picks (cell_has area k) S log k
      picks = area-picks area S log k (log-in-area area S (named r.map) r.slots scans)

      within : search_for area cells k ≡ probe (cell_has area k) cells (length cells) (start_cell (length cells) k)
      within = let l = lent L r (length area) (length cells) fit in search-within area cells k (omega (arith, l.index-own, l.cells-high))

      go : (o : Option Placed) → latest log k ≡ o → looked_up L r area cells t k ≡ lookup_for S (object_only (latest log k))
      go none e =
          let (c, f) = search-new S log cells genuine.rule (cell_has area k) k picks e few in
          looked-free L r area cells t k fit held c.cell (within ∙ f) ∙ sym (ap (λ (o : Option Placed). lookup_for S (object_only o)) e ∙ absent)
        where
          absent : lookup_for S (object_only none) ≡ Err Refusal.Absent
          absent = unfold lookup_for object_only in refl
      go (some x) e =
          let (c, f) = search-known S log cells genuine.rule (cell_has area k) k picks x e in
          let place : get_or cells c.cell 0 - 1 ≡ place_of S x = omega (arith, c.holds) in
          looked-at L r area cells t k fit held c.cell (within ∙ f)
          ∙ ap (λ (p : ℕ). lookup_of p (stands_at area p)) place
          ∙ ap (lookup_of (place_of S x)) (at_place x (latest-some log k x e).member)
          ∙ entry-lookup S x
          ∙ sym (ap (λ (o : Option Placed). lookup_for S (object_only o)) e)

only-absent : (o : Option Placed) → first_cause (when (is_none o) Refusal.Absent ∷ []) ≡ if_absent o
unfolding first_cause is_none pick if_absent
only-absent none = refl
only-absent (some x) = refl

told-object : (S : ℕ) (o : Option Placed) → told_by (lookup_for S o) ≡ read_answer (if_absent o) o
unfolding told_by lookup_for read_answer present_answer if_absent
told-object S none = refl
told-object S (some x) = refl

part-object : (S : ℕ) (o : Option Placed) → ((x : Placed) → o ≡ some x → layout_of_kind (placed_kind x) ≡ x.layout)
    → part_by (lookup_for S o) ≡ value_answer S (if_absent o) o
unfolding part_by lookup_for value_answer value_part if_absent
part-object S none own = refl
part-object S (some x) own =
    ap (λ (K : Layout). record { place = place_of S x + entry_size K 0; bytes = placed_size x - entry_size K 0 }) (own x refl)
    ∙ ap (λ (n : ℕ). record { place = place_of S x + entry_size x.layout 0; bytes = n }) (value-length (length (bytes_in x.entry.value)))
  where
    value-length : (n : ℕ) → entry_size x.layout n - entry_size x.layout 0 ≡ n
    value-length n = omega arith

some_is : {c d : Refusal} → ◌≡◌ {A = Option Refusal} (some c) (some d) → c ≡ d
some_is q = cc

-- ---- the promises

module _ (L : Layout) (r : Record) (area cells : List ℕ) (t : Tables) (k : Key) where
  abbrev fits : Bool
  fits = fits_lent L r (length area) (length cells)

  abbrev object : Option Placed
  object = present (log_now area r) k

  abbrev cause : Option Refusal
  cause = first_cause (read_causes L r (log_now area r) (read_lengths area cells) t k)

  abbrev early : Option Refusal
  early = first_cause (reach_causes L r (read_lengths area cells) t k)

  -- What is looked up beside what the causes say, whatever the record: a first cause, or none and then the object that the map has.
  data Case : Lookup → Option Refusal → Option Refusal → Type 0 where
    unfit : Case (Err Refusal.BadRecord) (some Refusal.BadRecord) (some Refusal.BadRecord)
    outside : Case (Err Refusal.OutsideTables) (some Refusal.OutsideTables) (some Refusal.OutsideTables)
    within : (x : Lookup) (c : Option Refusal) → (Genuine L area r cells → (x ≡ lookup_for r.size object) × (c ≡ if_absent object)) → Case x none c

  abbrev bad : Cause
  bad = when (record_bad L r (read_lengths area cells)) Refusal.BadRecord

  abbrev out : Cause
  out = when (outside_tables t k) Refusal.OutsideTables

  abbrev gone : Cause
  gone = when (key_absent (log_now area r) k) Refusal.Absent

  no_more : first_cause [] ≡ none
  unfolding first_cause
  no_more = refl

  looked-case : (x y : Bool) → fits ≡ x → holds_table t k.table ≡ y → Case (looked_up L r area cells t k) early cause
  looked-case false y e h =
      subst⁻¹ (λ (x : Lookup). Case x early cause) (looked-unfit L r area cells t k e)
      (subst⁻¹ (λ (c : Option Refusal). Case (Err Refusal.BadRecord) c cause) (cause-first bad (out ∷ []) (ap not e))
      (subst⁻¹ (λ (c : Option Refusal). Case (Err Refusal.BadRecord) (some Refusal.BadRecord) c) (cause-first bad (out ∷ gone ∷ []) (ap not e)) unfit))
  looked-case true false e h =
      subst⁻¹ (λ (x : Lookup). Case x early cause) (looked-outside L r area cells t k e h)
      (subst⁻¹ (λ (c : Option Refusal). Case (Err Refusal.OutsideTables) c cause)
      (cause-skip bad (out ∷ []) (ap not e) ∙ cause-first out [] (ap not h))
      (subst⁻¹ (λ (c : Option Refusal). Case (Err Refusal.OutsideTables) (some Refusal.OutsideTables) c)
      (cause-skip bad (out ∷ gone ∷ []) (ap not e) ∙ cause-first out (gone ∷ []) (ap not h)) outside))
  looked-case true true e h =
      subst⁻¹ (λ (c : Option Refusal). Case (looked_up L r area cells t k) c cause)
      (cause-skip bad (out ∷ []) (ap not e) ∙ cause-skip out [] (ap not h) ∙ no_more)
      (within (looked_up L r area cells t k) cause
      (λ g. (
        genuine-lookup L r area cells t k g e h,
        cause-skip bad (out ∷ gone ∷ []) (ap not e) ∙ cause-skip out (gone ∷ []) (ap not h) ∙ only-absent object,
      )))

  looked-promised : Case (looked_up L r area cells t k) early cause
  looked-promised = looked-case fits (holds_table t k.table) refl refl

  pub read-promise : (found : Lookup) (said : ReadAnswer) → found ≡ looked_up L r area cells t k → said ≡ told_by found
      → ReadPromise L r area cells t k (record { answer = said; rec = r })
  unfolding told_by read_answer
  read-promise found said same its =
      record {
        hands-back = refl;
        early = λ c e. told ∙ at_first looked-promised c e;
        exact = λ g. told ∙ at-genuine looked-promised g;
        says = read-settled L r area cells t k said (λ c e. told ∙ at_first looked-promised c e) (λ g. told ∙ at-genuine looked-promised g);
      }
    where
      told : said ≡ told_by (looked_up L r area cells t k)
      told = its ∙ ap told_by same

      at_first : {x : Lookup} {e d : Option Refusal} → Case x e d → (c : Refusal) → e ≡ some c → told_by x ≡ Err c
      at_first unfit c q = ap Err (some_is q)
      at_first outside c q = ap Err (some_is q)
      at_first (within x d h) c q = let z : ◌≡◌ {A = ℕ} 0 1 = cc in absurd (omega arith)

      at-genuine : {x : Lookup} {e d : Option Refusal} → Case x e d → Genuine L area r cells → told_by x ≡ read_answer d object
      at-genuine unfit g = refl
      at-genuine outside g = refl
      at-genuine (within x d h) g =
          ap told_by (h g).0 ∙ told-object r.size object ∙ sym (ap (λ (c : Option Refusal). read_answer c object) (h g).1)

  pub value-promise : (found : Lookup) → found ≡ looked_up L r area cells t k → ValuePromise L r area cells t k (part_by found)
  unfolding part_by value_answer
  value-promise found same =
      record {
        early = λ c e. ap part_by same ∙ at_first looked-promised c e;
        exact = λ g. ap part_by same ∙ at-genuine looked-promised g;
      }
    where
      -- the kind of the object that the map has tells its edition
      present-kind : Genuine L area r cells → (x : Placed) → object ≡ some x → layout_of_kind (placed_kind x) ≡ x.layout
      present-kind g x q =
          let m = (latest-some (log_now area r) k x (present-live (log_now area r) k x q).latest-of).member in
          placed-layout area r.size (named r.map) r.slots (genuine-scans L r area cells g) x m

      at_first : {x : Lookup} {e d : Option Refusal} → Case x e d → (c : Refusal) → e ≡ some c → part_by x ≡ nowhere
      at_first unfit c q = refl
      at_first outside c q = refl
      at_first (within x d h) c q = let z : ◌≡◌ {A = ℕ} 0 1 = cc in absurd (omega arith)

      at-genuine : {x : Lookup} {e d : Option Refusal} → Case x e d → Genuine L area r cells → part_by x ≡ value_answer r.size d object
      at-genuine unfit g = refl
      at-genuine outside g = refl
      at-genuine (within x d h) g =
          ap part_by (h g).0 ∙ part-object r.size object (present-kind g) ∙ sym (ap (λ (c : Option Refusal). value_answer r.size c object) (h g).1)
