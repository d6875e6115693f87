-- Laws of the comparison of a recovered area with the book, by what the calls promise.
use Prim.Native.Nat.{ℕ, ◌+◌, ◌*◌, ◌≤◌, ◌<◌, min}
use Rattle.std.proofs.Math.Path.{◌≡◌, refl, sym, ap, subst}
use Rattle.std.proofs.Common.{◌∙◌, true≢false, arith, drop_of_length-le, drop-cons, add-one, eq-eqb, ne_eqb}
use Rattle.std.specs.Prelude.{Bool, true, false, not, length, get_or, drop, Ok, Err}
use mathlib.Core.List.{List, [], ◌∷◌}
use Rattle.std.proofs.Math.Option.{Option, none, some}
use Rattle.std.proofs.Math.Dec.{eqb}
use Rattle.word.specs.Number.{Bytes}
use Rattle.segment.specs.Choice.{pick, both, either, is_none}
use Rattle.segment.proofs.Choice.{both-false-left}
use Rattle.segment.specs.Layout.{Layout, version_limit}
use Rattle.segment.specs.Entry.{bytes_in}
use Rattle.segment.specs.declared.Key.{Key}
use Rattle.segment.specs.declared.Version.{Version}
use Rattle.slot_map.specs.Bit.{named}
use Rattle.record.specs.Range.{fits_lent}
use Rattle.record.specs.RangeLaws.{lent}
use Rattle.record.specs.Reach.{all_tables, all_hold}
use Rattle.record.specs.Answered.{ReadAnswer, Reading, Recovery}
use Rattle.record.specs.declared.Record.{Record}
use Rattle.record.specs.declared.Refusal.{Refusal}
use Rattle.record.specs.declared.Refusal.TheVariants.{Absent}
use Rattle.model.specs.Log.{Placed, present, views_of, log_of, highest}
use Rattle.model.specs.Causes.{first_cause}
use Rattle.model.specs.Recovery.{image_layout, recovered, recovery, recovery_for, record_from, area_causes, if_none, order_bad, lists_below, lists, log_damaged}
use Rattle.model.specs.Operations.{log_now}
use Rattle.model.specs.Refused.{key_absent, read_causes}
use Rattle.model.specs.Promises.{Genuine, RecoverPromise, IndexAfter, ReadPromise, read_answer, present_answer, read_lengths, Part, part_of, value_part, value_answer, promised_part, ValueReference}
use Rattle.std.specs.Borrow.{Bor}
use Rattle.laws.specs.LogLaws.{AllScanned, scans-undamaged}
use Rattle.laws.specs.OperationsKept.{edition-laws}
use Rattle.laws.specs.RecoverLaws.{order-free, own-recovered, recovery-recovered, recovered-case}
use Rattle.drive_log.specs.Shape.{Shape}
use Rattle.drive_log.specs.Surveys.{Surveyed}
use Rattle.report.specs.Gather.{RecoveredArea}
use Rattle.report.specs.Listing.{present_keys}
use Rattle.histories.specs.Book.{first_key, second_key, count_of}
use Rattle.history.proofs.Invariant.{slots-of, size_of, own-geometry}
use Rattle.histories.specs.declared.book.Book.{Book}
use Rattle.histories.specs.declared.book.Held.{Held}
use Rattle.rig_model.specs.Verdict.{all_are, eight_are, key_as, next_of, store_as, wrong_for, wrong_at}
use Rattle.rig_model.specs.RunLaws.{Ready}
use Rattle.rig_model.proofs.RunLaws.{ready-genuine, at-record, at-image}

-- ---- recovery

module _ (order area cells cells' : List ℕ) (r : Recovery) (good : order_bad 4 order ≡ false) (long : length cells ≡ 16)
    (p : RecoverPromise (image_layout 4 256 area) 4 256 order area cells cells' r) where
  abbrev L : Layout
  L = image_layout 4 256 area

  answered : r ≡ recovery_for (first_cause (area_causes L 4 256 16 area)) (record_from L 4 256 16 area)
  answered = p.answers ∙ ap (λ (m : ℕ). recovery L 4 256 m order area) long ∙ order-free L 4 256 16 area order good

  pub recovered-none : (c : Refusal) → r.answer ≡ Err c → recovered (image_layout 4 256 area) 4 256 16 area ≡ none
  unfolding if_none recovery_for
  recovered-none c e =
      own-recovered L 4 256 16 area refl
      ∙ go (first_cause (area_causes L 4 256 16 area)) (sym (ap (λ (x : Recovery). x.answer) answered) ∙ e)
    where
      go : (o : Option Refusal) → (recovery_for o (record_from L 4 256 16 area)).answer ≡ Err c → if_none o (record_from L 4 256 16 area) ≡ none
      go none q = let z : ◌≡◌ {A = ℕ} 0 1 = cc in absurd (omega arith)
      go (some d) q = refl

  pub recovered-ready : Bytes area → r.answer ≡ (Ok tt) → Ready area r.rec cells'
  unfolding IndexAfter
  recovered-ready bytes e =
      record {
        bytes = bytes;
        long = p.same_length ∙ long;
        recovers =
            at-record L area r.rec
            (recovery-recovered L 4 256 16 area order r.rec refl
            (ap (λ (m : ℕ). recovery L 4 256 m order area) (sym long) ∙ sym p.answers ∙ (λ i. record { answer = e i; rec = r.rec })));
        rule = subst (IndexAfter area cells cells' r) e p.index;
      }

-- the orders in which the rig has slots read
pub order-mixed : order_bad 4 (2 ∷ 0 ∷ 3 ∷ 1 ∷ []) ≡ false
unfolding lists_below lists both either pick
order-mixed = refl

pub order-up : order_bad 4 (0 ∷ 1 ∷ 2 ∷ 3 ∷ []) ≡ false
unfolding lists_below lists both either pick
order-up = refl

-- ---- a recovered store

module _ (area : List ℕ) (r : Record) (cells : List ℕ) (y : Ready area r cells) where
  abbrev log : List Placed
  log = log_now area r

  pub fits : fits_lent r.edition r (length area) (length cells) ≡ true
  fits = subst (λ (x : ℕ). fits_lent r.edition r (length area) x ≡ true) (sym y.long) ((edition-laws r.edition).own-lengths 4 256 16 area r y.bytes y.recovers)

  pub recovered-area : RecoveredArea r.edition area r cells
  recovered-area = record { genuine = ready-genuine area r cells y; fit = fits; bytes = y.bytes }

  slots-four : r.slots ≡ 4
  slots-four = slots-of r.edition 4 256 16 area r y.recovers

  pub size-256 : r.size ≡ 256
  size-256 = size_of r.edition 4 256 16 area r y.recovers

  -- ---- a key

  module _ (k : Key) (h : k.table < 65536) where
    cause : first_cause (read_causes r.edition r log (read_lengths area cells) all_tables k) ≡ pick (key_absent log k) (some Absent) none
    unfolding first_cause pick
    cause = rw (fits, all_hold k.table h)

    module _ (a : Reading) (p : ReadPromise r.edition r area cells all_tables k a) (held : Held) where
      told : a.answer ≡ read_answer (pick (key_absent log k) (some Absent) none) (present log k)
      told = p.exact (ready-genuine area r cells y) ∙ ap (λ (o : Option Refusal). read_answer o (present log k)) cause

      pub absent-as : (c : Refusal) → a.answer ≡ Err c → eqb held.version 0 ≡ key_as (present log k) held
      unfolding key_as is_none pick read_answer present_answer
      absent-as c e = go (present log k) (sym told ∙ e)
        where
          go : (x : Option Placed) → read_answer (pick (is_none x) (some Absent) none) x ≡ Err c → eqb held.version 0 ≡ key_as x held
          go none q = refl
          go (some x) q = let z : ◌≡◌ {A = ℕ} 0 1 = cc in absurd (omega arith)

      -- a present key, with its value as a part of the area
      pub record Object (v : ℕ) : Type 0 where
        pub object : Placed
        pub is-present : present log k ≡ some object
        pub its-version : object.entry.version ≡ v

      pub present-object : (v : Version) (kind : ℕ) → a.answer ≡ Ok (record { version = v; kind = kind }) → Object v.0
      unfolding is_none pick read_answer present_answer
      present-object v kind e = go (present log k) refl (sym told ∙ e)
        where
          go : (x : Option Placed) → present log k ≡ x → read_answer (pick (is_none x) (some Absent) none) x ≡ Ok (record { version = v; kind = kind }) → Object v.0
          go none f q = let z : ◌≡◌ {A = ℕ} 0 1 = cc in absurd (omega arith)
          go (some x) f q = record { object = x; is-present = f; its-version = ap version_of q }
            where
              version_of : ReadAnswer → ℕ
              version_of (Ok s) = s.version.0
              version_of (Err d) = 0

      pub version-differs : (v : Version) (kind : ℕ) → a.answer ≡ Ok (record { version = v; kind = kind }) → (v.0 ≡ held.version → ⊥) → false ≡ key_as (present log k) held
      unfolding key_as
      version-differs v kind e n =
          let o = present-object v kind e in
          sym (ap (λ (x : Option Placed). key_as x held) o.is-present
          ∙ both-false-left (eqb o.object.entry.version held.version) _ (ne_eqb o.object.entry.version held.version (λ q. n (sym o.its-version ∙ q))))

      pub value_as : (v : Version) (kind : ℕ) → a.answer ≡ Ok (record { version = v; kind = kind }) → v.0 ≡ held.version
          → (whole value : Bor (List ℕ)) → whole.now ≡ area → ValueReference r.edition r whole cells all_tables k value → (t : Bool) → t ≡ eight_are value.now held.byte
          → t ≡ key_as (present log k) held
      unfolding key_as both is_none pick value_answer
      value_as v kind e same whole value w ref t its =
          let o = present-object v kind e in
          let x = o.object in
          let part-is : ref.part ≡ value_part r.size (some x) =
          subst (λ (z : List ℕ). (Genuine r.edition z r cells → ref.part ≡ promised_part r.edition r z cells all_tables k)) w ref.promised.exact (ready-genuine area r cells y)
          ∙ ap (λ (c : Option Refusal). value_answer r.size c (present log k)) cause
          ∙ ap (λ (p : Option Placed). value_answer r.size (pick (is_none p) (some Absent) none) p) o.is-present in
          let bytes : value.now ≡ bytes_in x.entry.value =
          ref.refers.holds
          ∙ ap (λ (p : Part). part_of whole.now p) part-is
          ∙ ap (λ (z : List ℕ). part_of z (value_part r.size (some x))) w
          ∙ (edition-laws r.edition).value-part area r y.bytes (own-geometry r.edition 4 256 16 area r y.recovers) k x o.is-present in
          its
          ∙ ap (λ (z : List ℕ). eight_are z held.byte) bytes
          ∙ ap (λ (c : Bool). both c (eight_are (bytes_in x.entry.value) held.byte)) (sym (eq-eqb x.entry.version held.version (o.its-version ∙ same)))
          ∙ ap (λ (p : Option Placed). key_as p held) (sym o.is-present)

-- ---- the next version

pub area-long : (area : List ℕ) (r : Record) → Bytes area → recovered r.edition 4 256 16 area ≡ some r → length area ≡ 1024
area-long area r bytes e =
    let l = lent r.edition r (length area) 16 ((edition-laws r.edition).own-lengths 4 256 16 area r bytes e) in
    l.area-own ∙ (λ i. slots-of r.edition 4 256 16 area r e i * size_of r.edition 4 256 16 area r e i)

pub shape : (area : List ℕ) → length area ≡ 1024 → Shape 4 256 area
shape area e = record { slots-least = omega arith; slots-most = omega arith; size-least = omega arith; size-most = omega arith; whole = e }

module _ (area : List ℕ) (r : Record) (recovers : recovered r.edition 4 256 16 area ≡ some r) where
  pub next-record : r.next.0 ≡ next_of false (log_now area r) r
  unfolding next_of
  next-record = refl

  module _ (sound : Bool) (top : ℕ) (apart : Bool) (u : Surveyed (views_of area 256) (named r.map) 4 sound top apart) where
    undamaged : log_damaged (views_of area 256) (named r.map) 4 ≡ false
    undamaged =
        scans-undamaged (views_of area 256) (named r.map) 4
        (recovered-case r.edition 4 256 16 area (λ (q : Record). AllScanned (views_of area 256) (named q.map) 4) (λ h a f. f.scans) r recovers)

    is-sound : sound ≡ true
    is-sound = go sound refl
      where
        go : (t : Bool) → sound ≡ t → sound ≡ true
        go true e = e
        go false e = absurd (true≢false (sym (u.damage e) ∙ undamaged))

    -- damage is told of no such log
    pub next-damaged : (n : ℕ) → sound ≡ false → n ≡ next_of true (log_now area r) r
    next-damaged n e = absurd (true≢false (sym is-sound ∙ e))

    top-is : top ≡ highest (log_now area r)
    top-is =
        u.highest-is is-sound
        ∙ (λ i. highest (log_of (views_of area (sym (size_of r.edition 4 256 16 area r recovers) i)) (named r.map) (sym (slots-of r.edition 4 256 16 area r recovers) i)))

    pub next-log : (n : ℕ) → n ≡ min (top + 1) (version_limit r.edition) → n ≡ next_of true (log_now area r) r
    unfolding next_of
    next-log n e = e ∙ ap (λ (x : ℕ). min (x + 1) (version_limit r.edition)) top-is

-- ---- all of it

module _ (from_log : Bool) (log : List Placed) (r : Record) (b : Book) (n : ℕ) (next-is : n ≡ next_of from_log log r) where
  pub other-next : (n ≡ b.next → ⊥) → false ≡ store_as from_log log r b
  unfolding store_as
  other-next e = sym (both-false-left _ _ (ne_eqb (next_of from_log log r) b.next (λ q. e (next-is ∙ q))))

  module _ (same_next : n ≡ b.next) (g c : ℕ) (g-is : g ≡ length (present_keys log)) (c-is : c ≡ count_of b) where
    rest : store_as from_log log r b
        ≡ both (eqb (length (present_keys log)) (count_of b)) (both (key_as (present log first_key) b.first) (key_as (present log second_key) b.second))
    unfolding store_as both
    rest = rw (eq-eqb (next_of from_log log r) b.next (sym next-is ∙ same_next))

    pub other-count : (g ≡ c → ⊥) → false ≡ store_as from_log log r b
    other-count e = sym (rest ∙ both-false-left _ _ (ne_eqb (length (present_keys log)) (count_of b) (λ q. e (g-is ∙ q ∙ sym c-is))))

    module _ (same_count : g ≡ c) (t : Bool) (t-is : t ≡ key_as (present log first_key) b.first) where
      keys : store_as from_log log r b ≡ both t (key_as (present log second_key) b.second)
      unfolding both
      keys = rest ∙ rw (eq-eqb (length (present_keys log)) (count_of b) (sym g-is ∙ same_count ∙ c-is)) (ap (λ (x : Bool). both x (key_as (present log second_key) b.second)) (sym t-is))

      pub other-first : t ≡ false → false ≡ store_as from_log log r b
      other-first e = sym (keys ∙ both-false-left t _ e)

      pub second-decides : t ≡ true → (u : Bool) → u ≡ key_as (present log second_key) b.second → u ≡ store_as from_log log r b
      unfolding both
      second-decides e u u-is = u-is ∙ sym (keys ∙ rw e)

pub wrong-refused : (from_log : Bool) (area : List ℕ) (b : Book) → recovered (image_layout 4 256 area) 4 256 16 area ≡ none → true ≡ wrong_at from_log area b
unfolding wrong_at wrong_for
wrong-refused from_log area b e = sym (ap (wrong_for from_log area b) e)

pub wrong-store : (from_log : Bool) (area : List ℕ) (b : Book) (r : Record) → recovered r.edition 4 256 16 area ≡ some r → (t : Bool) → t ≡ store_as from_log (log_now area r) r b
    → not t ≡ wrong_at from_log area b
unfolding wrong_at wrong_for
wrong-store from_log area b r e t i = ap not i ∙ sym (ap (wrong_for from_log area b) (at-image r.edition area r e))

-- ---- the loop over eight bytes

module _ (whole : Bool) (bytes : List ℕ) (i byte : ℕ) (w : whole ≡ all_are (drop i bytes) byte) where
  from-here : i < length bytes → whole ≡ both (eqb (get_or bytes i 0) byte) (all_are (drop (i + 1) bytes) byte)
  unfolding all_are
  from-here h = w ∙ ap (λ (bs : List ℕ). all_are bs byte) (drop-cons bytes i 0 h) ∙ ap (λ (k : ℕ). both (eqb (get_or bytes i 0) byte) (all_are (drop k bytes) byte)) (sym (add-one i))

  pub are-turn : i < length bytes → get_or bytes i 0 ≡ byte → whole ≡ all_are (drop (i + 1) bytes) byte
  unfolding both
  are-turn h e = from-here h ∙ ap (λ (t : Bool). both t (all_are (drop (i + 1) bytes) byte)) (eq-eqb (get_or bytes i 0) byte e)

  pub are-not : i < length bytes → (get_or bytes i 0 ≡ byte → ⊥) → false ≡ whole
  are-not h e = sym (from-here h ∙ both-false-left (eqb (get_or bytes i 0) byte) _ (ne_eqb (get_or bytes i 0) byte e))

  pub are-end : length bytes ≤ i → true ≡ whole
  unfolding all_are
  are-end h = sym (w ∙ ap (λ (bs : List ℕ). all_are bs byte) (drop_of_length-le bytes {i = i} h))

pub eight-not : (bytes : List ℕ) (byte : ℕ) → (length bytes ≡ 8 → ⊥) → false ≡ eight_are bytes byte
eight-not bytes byte e = sym (both-false-left (eqb (length bytes) 8) _ (ne_eqb (length bytes) 8 e))

pub eight_is : (t : Bool) (bytes : List ℕ) (byte : ℕ) → length bytes ≡ 8 → t ≡ all_are bytes byte → t ≡ eight_are bytes byte
unfolding both
eight_is t bytes byte e w = w ∙ ap (λ (c : Bool). both c (all_are bytes byte)) (sym (eq-eqb (length bytes) 8 e))
