-- From what the code decides and lays down to the promise of a delete.
-- What is proved of the definitions in `specs/DeleteLaws.antt`.
use Rattle.std.specs.Prelude.{ℕ, ◌+◌, ◌*◌, ◌/◌, ◌^◌, ◌≤◌, ◌<◌, ◌≡◌, List, ◌++◌, replicate, Ok, Err}
use Rattle.std.proofs.Math.Path.{refl, sym, ap}
use Rattle.std.proofs.Common.{◌∙◌, subst, zero-add, arith, length-append}
use Rattle.std.proofs.Math.Bool.{Bool, true, false, not}
use Rattle.std.proofs.Math.Option.{Option, none, some}
use Rattle.std.proofs.Math.Dec.{ltb, leb}
use Rattle.std.proofs.Math.ListN.{length}
use Rattle.std.proofs.Math.Seq.{sets, length-sets}
use borrow.Author.Tests.{lt-ltb, le-ltb, leb-true, leb-false, not-false, eqb-false, ltb-false, ltb-true}
use Rattle.word.specs.Number.{Bytes}
use Rattle.segment.specs.Choice.{pick, both, is_none}
use Rattle.segment.proofs.Choice.{pick_true, pick-false, both_left, both_right, both-false-left}
use Rattle.segment.specs.Layout.{Layout, edition2, entry_size, digest_size, version_limit, table}
use Rattle.segment.proofs.LayoutLaws.{limit-high}
use Rattle.segment.specs.Digest.{encoded_digest}
use Rattle.segment.proofs.DigestLaws.{length-encoded_digest}
use Rattle.segment.specs.declared.Key.{Key}
use Rattle.slot_map.specs.Bit.{named, with_bit, within}
use Rattle.slot_map.proofs.BitLaws.{named-true, set-named, bit-of-zero, bit-pow-same, with-clear, within-pow}
use Rattle.record.specs.Range.{fits_lent}
use Rattle.record.specs.RangeLaws.{Lent, lent, lent-next}
use Rattle.record.specs.Switch.{new_layout, as_recovered}
use Rattle.record.specs.declared.Pending.TheVariants.{Forget}
use Rattle.record.specs.declared.Refusal.{Refusal}
use Rattle.record.specs.declared.Refusal.TheVariants.{BadRecord}
use Rattle.record.specs.Answered.{Start}
use Rattle.record.specs.declared.Record.{Record}
use Rattle.record.specs.declared.Tables.{Tables}
use Rattle.model.specs.Log.{Placed, place_of, present, highest}
use Rattle.model.specs.Causes.{first_cause}
use Rattle.model.specs.Operations.{delete, log_now, no_room, new_slot, digest_with, next_after, slot_of, all_encoded, forget_victim, forget_kept, forget_digest, Laid, laid, laid_forget, plan_of}
use Rattle.model.specs.Refused.{reaching, KeyFacts, kept_too_long, forget_length}
use Rattle.model.specs.Promises.{Genuine, Begun, begun, lent_lengths, StartPromise}
use Rattle.laws.specs.RecoverLaws.{recovered-highest}
use Rattle.index.specs.Search.{search_for}
use Rattle.index.specs.declared.Found.{Found}
use Rattle.starting.specs.Checks.{checked}
use Rattle.starting.specs.CheckLaws.{checked-some, checked-none}
use Rattle.starting.specs.Stores.{head-stores}
use Rattle.starting.specs.Answer.{started_with, refused_start}
use Rattle.cleaning.specs.Entries.{SplitFits, slot_layout}
use Rattle.cleaning.specs.Marks.{is_marked, mark_outside}
use Rattle.cleaning.specs.KeptModel.{split_of, Indexed, genuine-indexed}
use Rattle.cleaning.specs.declared.Split.{Split}
use Rattle.writing.specs.Tests.{full_tests, facts_for}
use Rattle.writing.specs.Known.{genuine-facts}
use Rattle.writing.specs.Laying.{laid_begun}
use Rattle.writing.specs.StartLaws.{presents, PresentPassed, deleted, delete-full}
use Rattle.forgetting.specs.Forgot.{forgot_slot, forgot_own, fits_segment}
use Rattle.forgetting.specs.Forgetting.{ForgetReady, VictimReady, in_log, forgot_begun, forgot_by, forgot_fitting, unfit, outside_marks, live_at, forgot_in, forgot_at, forgot_found, forgot_for}
use Rattle.forgetting.specs.Sifted.{sifted_marks}
use Rattle.forgetting.proofs.Sifted.{needed-alike, forgot-alike}
use Rattle.forgetting.specs.declared.Live.{Live}
use Rattle.forgetting.proofs.ForgotModel.{live-found, live-place, live-slot, live_in, bytes-forgot}

-- ---- the tests of the code

module _ (r : Record) (slot : ℕ) where
  pub in-log-above : r.slots ≤ slot → false ≡ in_log r slot
  unfolding in_log
  in-log-above h = sym (both-false-left _ _ (le-ltb slot r.slots h))

  pub in-log-named : slot < r.slots → {t : Bool} → t ≡ named r.map slot → t ≡ in_log r slot
  unfolding in_log both
  in-log-named h e = rw (lt-ltb slot r.slots h) e

  pub in-log-below : in_log r slot ≡ true → slot < r.slots
  unfolding in_log
  in-log-below e = ltb-true slot r.slots (both_left _ _ e)

  pub in-log-within : in_log r slot ≡ true → within (2 ^ slot) r.map ≡ true
  unfolding in_log
  in-log-within e = within-pow r.map slot (named-true r.map slot (both_right _ _ e))

-- a map of one slot
pub one-slot-map : (m slot : ℕ) → m ≡ with_bit 0 slot → m ≡ 2 ^ slot
one-slot-map m slot e = e ∙ with-clear 0 slot (bit-of-zero slot) ∙ zero-add (2 ^ slot)

-- what the code may rely on once the victim is known
module _ {L : Layout} {r : Record} {area marks work : List ℕ} {split : Split} {slot : ℕ} (v : VictimReady L r area marks work split slot) where
  pub victim-fits : SplitFits split area marks
  victim-fits =
      subst (λ (s : Split). SplitFits s area marks) (sym v.parted)
      (record {
        slots =
            record {
              slots-high = v.lent.slots-high;
              size_low = v.lent.size_low;
              size-high = v.lent.size-high;
              whole = v.lent.area-own;
            };
        marks-long = v.marks-long;
      })

  pub victim-below : slot < split.slots
  victim-below = omega (arith, in-log-below r slot v.in-log, ap (λ (s : Split). s.slots) v.parted)

  pub victim-size : split.size ≡ r.size
  victim-size = ap (λ (s : Split). s.size) v.parted

  pub victim-within : within split.victims r.map ≡ true
  victim-within = ap (λ (s : Split). within s.victims r.map) v.parted ∙ in-log-within r slot v.in-log

-- ---- what comes of the victim is held against a segment

module _ (W : Layout) (S : ℕ) (bytes : List ℕ) where
  pub fits-room : fits_segment W S bytes ≡ true → digest_size W + length bytes ≤ S
  unfolding fits_segment
  fits-room e = leb-true (digest_size W + length bytes) S e

  -- so it is too long for the new head
  fits-long : not (fits_segment W S bytes) ≡ ltb S (digest_size W + length bytes)
  unfolding fits_segment
  fits-long = go (leb (digest_size W + length bytes) S) refl
    where
      go : (t : Bool) → leb (digest_size W + length bytes) S ≡ t → not t ≡ ltb S (digest_size W + length bytes)
      go true e = sym (le-ltb S (digest_size W + length bytes) (leb-true (digest_size W + length bytes) S e))
      go false e = sym (lt-ltb S (digest_size W + length bytes) (leb-false (digest_size W + length bytes) S e))

module _ (W : Layout) (r : Record) (victims : ℕ) (work bytes : List ℕ) where
  abbrev decided : Option Refusal
  decided = first_cause (full_tests r (not (fits_segment W r.size bytes)))

  fitting-begun : Ok tt ≡ checked decided → forgot_fitting W r victims work bytes ≡ forgot_begun W r victims work bytes
  unfolding forgot_fitting forgot_by
  fitting-begun e = ap (forgot_by W r victims work bytes) (checked-none decided e)

  fitting-refused : (c : Refusal) → Err c ≡ checked decided →
      forgot_fitting W r victims work bytes ≡ record { start = refused_start r c; work = work }
  unfolding forgot_fitting forgot_by
  fitting-refused c e = ap (forgot_by W r victims work bytes) (checked-some decided c e)

  fitting-long : length (forgot_fitting W r victims work bytes).work ≡ length work
  unfolding forgot_fitting forgot_by forgot_begun
  fitting-long = go decided
    where
      go : (o : Option Refusal) → length (forgot_by W r victims work bytes o).work ≡ length work
      go none = length-sets work 0 (encoded_digest W (digest_with r victims (next_after r)) ++ bytes)
      go (some c) = refl

-- t is what the code finds, for the slot's own edition K and the new head's W
module _ {L W : Layout} {r : Record} {area marks work : List ℕ} {split : Split} {slot : ℕ} (v : VictimReady L r area marks work split slot) (cells : List ℕ)
    (live : Live) (K : Layout) (own : K ≡ slot_layout area split.size slot) (new : W ≡ new_layout r) {t : Bool}
    (e : t ≡ fits_segment W split.size (forgot_slot K W area cells marks live split.size slot)) where
  abbrev own_bytes : Layout → List ℕ
  own_bytes M = forgot_own M area cells marks live split.size slot

  same_bytes : forgot_slot K W area cells marks live split.size slot ≡ own_bytes W
  same_bytes = ap (λ (M : Layout). forgot_slot M W area cells marks live split.size slot) own

  told : fits_segment W r.size (own_bytes W) ≡ t
  told = sym (e ∙ (λ i. fits_segment W (victim-size v i) (same_bytes i)))

  in-new : forgot_fitting W r split.victims work (own_bytes W) ≡ forgot_fitting (new_layout r) r split.victims work (own_bytes (new_layout r))
  in-new = ap (λ (M : Layout). forgot_fitting M r split.victims work (own_bytes M)) new

  same_check : checked (first_cause (full_tests r (not t))) ≡ checked (first_cause (full_tests r (not (fits_segment W r.size (own_bytes W)))))
  same_check = ap (λ (u : Bool). checked (first_cause (full_tests r (not u)))) (sym told)

  pub live-begun : Ok tt ≡ checked (first_cause (full_tests r (not t))) → {b : Begun} →
      b ≡ forgot_begun W r split.victims work (forgot_slot K W area cells marks live split.size slot) →
      b ≡ forgot_fitting (new_layout r) r split.victims work (own_bytes (new_layout r))
  live-begun p h =
      h ∙ ap (forgot_begun W r split.victims work) same_bytes
      ∙ sym (fitting-begun W r split.victims work (own_bytes W) (p ∙ same_check)) ∙ in-new

  pub live-refused : (c : Refusal) → Err c ≡ checked (first_cause (full_tests r (not t))) → (a : Start) → a ≡ refused_start r c →
      record { start = a; work = work } ≡ forgot_fitting (new_layout r) r split.victims work (own_bytes (new_layout r))
  live-refused c p a is =
      ap (λ (s : Start). record { start = s; work = work }) is
      ∙ sym (fitting-refused W r split.victims work (own_bytes W) c (p ∙ same_check)) ∙ in-new

-- the victim is known: w is its map, as the code makes it
module _ (r : Record) (slot w : ℕ) (ew : w ≡ with_bit 0 slot) (split : Split) (es : split ≡ split_of r w) (in-log : in_log r slot ≡ true) where
  victim-parted : split ≡ split_of r (2 ^ slot)
  victim-parted = es ∙ ap (split_of r) (one-slot-map w slot ew)

  pub victim-ready : (L : Layout) (area cells work : List ℕ) → ForgetReady L r area cells work → (marks : List ℕ) → length marks ≡ 128 →
      VictimReady L r area marks work split slot
  victim-ready L area cells work f marks long =
      record {
        index_length = length cells;
        lent = f.lent;
        version-left = f.version-left;
        long = f.long;
        marks-long = long;
        parted = victim-parted;
        in-log = in-log;
      }

  -- what the code makes of it
  pub victim-begun :
      (W : Layout) (area cells : List ℕ) (k : Key) (work : List ℕ) (cell place : ℕ) (marks : List ℕ) (needed : Bool) {b : Begun} →
      search_for area cells k ≡ Found.At cell → marks ≡ sifted_marks area cells split k (replicate 128 0) → needed ≡ is_marked marks cell →
      b ≡ forgot_fitting W r split.victims work
      (forgot_own W area cells marks (record { place = place; needed = needed; key = k; version = r.next }) split.size slot) →
      b ≡ forgot_in W r area cells k work cell place slot
  unfolding forgot_in
  victim-begun W area cells k work cell place marks needed at em en h =
      h ∙ (λ i. forgot_fitting W r split.victims work (forgot_own W area cells (em i) (going (told i)) split.size slot))
      ∙ ap (forgot_fitting W r split.victims work) (forgot-alike area cells split k W (going (is_marked all cell)) slot below own)
      ∙ (λ i.
      forgot_fitting W r (victim-parted i).victims work
      (forgot_own W area cells (all-marks i) (going (is_marked (all-marks i) cell)) (victim-parted i).size slot))
      ∙ sym (pick_true (in_log r slot) _ _ in-log)
    where
      going : Bool → Live
      going t = record { place = place; needed = t; key = k; version = r.next }

      all : List ℕ
      all = mark_outside area cells split (replicate 128 0)

      all-marks : all ≡ outside_marks r area cells slot
      all-marks = ap (λ (s : Split). mark_outside area cells s (replicate 128 0)) victim-parted

      told : needed ≡ is_marked all cell
      told = en ∙ ap (λ (l : List ℕ). is_marked l cell) em ∙ needed-alike area cells split k cell at

      below : slot < split.slots
      below = omega (arith, in-log-below r slot in-log, ap (λ (s : Split). s.slots) victim-parted)

      own : named split.victims slot ≡ true
      own = ap (λ (s : Split). named s.victims slot) victim-parted ∙ set-named (2 ^ slot) slot (bit-pow-same slot)

module _ (L : Layout) (r : Record) (area cells : List ℕ) (k : Key) (work : List ℕ) where
  module _ (cell place slot : ℕ) where
    pub forgot-outside : in_log r slot ≡ false → (a : Start) → a ≡ refused_start r BadRecord →
        record { start = a; work = work } ≡ forgot_in L r area cells k work cell place slot
    unfolding forgot_in
    forgot-outside e a is = ap (λ (s : Start). record { start = s; work = work }) is ∙ sym (pick-false (in_log r slot) _ _ e)

    in-long : length (forgot_in L r area cells k work cell place slot).work ≡ length work
    unfolding forgot_in pick
    in-long = go (in_log r slot)
      where
        go : (t : Bool) →
            length
            (pick t
            (forgot_fitting L r (2 ^ slot) work
            (forgot_own L area cells (outside_marks r area cells slot) (live_at r area cells k cell place slot) r.size slot))
            (unfit r work)).work ≡ length work
        go true =
            fitting-long L r (2 ^ slot) work
            (forgot_own L area cells (outside_marks r area cells slot) (live_at r area cells k cell place slot) r.size slot)
        go false = refl

  pub forgot-at : (cell : ℕ) → search_for area cells k ≡ Found.At cell → {b : Begun} → b ≡ forgot_at L r area cells k work cell → b ≡ forgot_for L r area cells k work
  unfolding forgot_found
  forgot-at cell e h = h ∙ sym (ap (forgot_found L r area cells k work) e)

  pub forgot-free : (cell : ℕ) → search_for area cells k ≡ Found.Free cell → (a : Start) → a ≡ refused_start r BadRecord →
      record { start = a; work = work } ≡ forgot_for L r area cells k work
  unfolding forgot_found
  forgot-free cell e a is = ap (λ (s : Start). record { start = s; work = work }) is ∙ sym (ap (forgot_found L r area cells k work) e)

  pub forgot-full : search_for area cells k ≡ Found.Full → (a : Start) → a ≡ refused_start r BadRecord →
      record { start = a; work = work } ≡ forgot_for L r area cells k work
  unfolding forgot_found
  forgot-full e a is = ap (λ (s : Start). record { start = s; work = work }) is ∙ sym (ap (forgot_found L r area cells k work) e)

  found-long : (f : Found) → length (forgot_found L r area cells k work f).work ≡ length work
  unfolding forgot_found
  found-long (Found.At cell) = in-long cell _ _
  found-long (Found.Free cell) = refl
  found-long Found.Full = refl

-- ---- with the bytes that the model keeps it is the model's start

module _ (L : Layout) (r : Record) (log : List Placed) (k : Key) (work : List ℕ) where
  abbrev model-bytes : List ℕ
  model-bytes = all_encoded L (forget_kept r log k)

  model-length : length (encoded_digest L (forget_digest r log k) ++ model-bytes) ≡ digest_size L + length model-bytes
  model-length =
      length-append (encoded_digest L (forget_digest r log k)) model-bytes
      ∙ ap (λ (n : ℕ). n + length model-bytes) (length-encoded_digest L (forget_digest r log k))

  begun-same : forgot_begun L r (forget_victim log k) work model-bytes ≡ laid_begun r (laid_forget L r log k) work
  unfolding forgot_begun laid_begun plan_of
  begun-same =
      let n = digest_size L + length model-bytes in
      let bytes = encoded_digest L (forget_digest r log k) ++ model-bytes in
      let e = sym (head-stores r.size (new_slot r) n (new_slot r * r.size, 0) bytes model-length (omega arith)) in
      λ i. record { start = started_with r (Forget (new_slot r) (forget_victim log k) n (e i)) (e i); work = sets work 0 bytes }

-- W is the layout of the new head
module _ (L : Layout) (r : Record) (area cells : List ℕ) (k : Key) (work : List ℕ) (full : no_room L r (entry_size L 0) ≡ true) (bytes : Bytes area)
    (g : Genuine L area r cells) (h : Lent L r (length area) (length cells)) (x : Placed) (is : present (log_now area r) k ≡ some x) where
  abbrev W : Layout
  W = new_layout r

  abbrev log : List Placed
  log = log_now area r

  abbrev store : Indexed area r cells
  store = genuine-indexed L area cells r g

  above : highest log < r.next.0
  above = recovered-highest L r.slots r.size r.cells area (as_recovered r) g.recovers

  few : length cells ≤ 4096
  few = omega (arith, h.cells-high, h.index-own)

  -- what the code answers and leaves, step by step
  in_place : (place slot : ℕ) → place ≡ place_of r.size x → slot ≡ x.slot → (cell : ℕ) →
      forgot_in W r area cells k work cell place slot ≡ forgot_in W r area cells k work cell (place_of r.size x) x.slot
  in_place place slot p s cell = λ i. forgot_in W r area cells k work cell (p i) (s i)

  -- it is the model's, whichever cause is found
  by-same : (o : Option Refusal) → forgot_by W r (forget_victim log k) work (all_encoded W (forget_kept r log k)) o ≡ begun L r log (delete k) work o
  unfolding forgot_by begun laid_begun laid
  by-same none =
      begun-same W r log k work ∙ ap (λ (l : Laid). laid_begun r l work) (sym (pick_true (no_room L r (entry_size L 0)) _ _ full))
  by-same (some c) = refl

  forget-exact :
      forgot_for W r area cells k work ≡ begun L r log (delete k) work (first_cause (full_tests r (kept_too_long r (forget_length W r log k))))
  unfolding forgot_found forgot_in forgot_fitting slot_of
  forget-exact =
      ap (forgot_found W r area cells k work) (live-found area cells r store above few k x is)
      ∙ in_place _ _ (live-place area cells r store above few k x is)
      (ap (λ (p : ℕ). p / r.size) (live-place area cells r store above few k x is) ∙ live-slot area cells r store above few k x is) _
      ∙ pick_true (in_log r x.slot) _ _ (live_in area cells r store above few k x is)
      ∙ ap (forgot_fitting W r (2 ^ x.slot) work) (bytes-forgot area cells r store above few k x is bytes W)
      ∙ ap (λ (u : Bool). forgot_by W r (2 ^ x.slot) work (all_encoded W (forget_kept r log k)) (first_cause (full_tests r u)))
      (fits-long W r.size (all_encoded W (forget_kept r log k)))
      ∙ ap (λ (o : Option Placed). forgot_by W r (2 ^ slot_of o) work (all_encoded W (forget_kept r log k)) (first_cause (full_tests r (kept_too_long r (forget_length W r log k)))))
      (sym is)
      ∙ by-same (first_cause (full_tests r (kept_too_long r (forget_length W r log k))))

-- ---- the promise

-- the versions of a record's edition are ones of its new heads' too
limit-new : (r : Record) → version_limit r.edition ≤ version_limit (new_layout r)
unfolding pick table
limit-new r = go r.switched
  where
    go : (t : Bool) → version_limit r.edition ≤ version_limit (pick t edition2 r.edition)
    go true = limit-high r.edition
    go false = omega arith

some_of : (o : Option Placed) → is_none o ≡ false → (x : Placed) × o ≡ some x
unfolding is_none
some_of none e = let z : ◌≡◌ {A = ℕ} 0 1 = cc in absurd (omega arith)
some_of (some x) e = (x, refl)

module _ (L : Layout) (t : Tables) (r : Record) (area cells work : List ℕ) (k : Key) (passed : Ok tt ≡ presents L t r area cells work k) where
  tests : PresentPassed L r (lent_lengths area cells work) (facts_for area cells k)
  tests = deleted L t r area cells work k passed

  delete-fits : fits_lent L r (length area) (length cells) ≡ true
  delete-fits = not-false (fits_lent L r (length area) (length cells)) tests.record-good

  pub delete-lent : Lent L r (length area) (length cells)
  delete-lent = lent L r (length area) (length cells) delete-fits

  pub forget-ready : r.edition ≡ L → ForgetReady L r area cells work
  forget-ready own =
      record {
        lent = delete-lent;
        version-left =
            omega (
              arith,
              lent-next L r (length area) (length cells) delete-fits,
              limit-new r,
              ap version_limit own,
              eqb-false r.next.0 (version_limit (new_layout r)) tests.versions-left,
            );
        long = ltb-false (length work) r.size tests.work-long;
      }

  live-key : Genuine L area r cells → (x : Placed) × present (log_now area r) k ≡ some x
  live-key g =
      some_of (present (log_now area r) k)
      (sym (ap (λ (f : KeyFacts). f.absent) (genuine-facts L area r cells g delete-lent k)) ∙ tests.present)

  pub forget-promise : no_room L r (entry_size L 0) ≡ true → Bytes area → (work' : List ℕ) (a : Start) →
      record { start = a; work = work' } ≡ forgot_for (new_layout r) r area cells k work →
      StartPromise L (reaching t) (delete k) r area cells work work' a
  forget-promise full bytes work' a e =
      delete-full L t r area cells work k passed full work' a
      (ap (λ (b : Begun). length b.work) e ∙ found-long (new_layout r) r area cells k work (search_for area cells k))
      (λ g. let x = live-key g in e ∙ forget-exact L r area cells k work full bytes g delete-lent x.0 x.1)
