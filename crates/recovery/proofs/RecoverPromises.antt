-- Laws of: What recovery's parts give together is what it promises.
use Rattle.std.specs.Prelude.{ℕ, ◌+◌, ◌-◌, ◌<◌, max, Bool, eqb, Ok, Err, Some, None}
use Rattle.std.proofs.Math.Path.{◌≡◌, refl, sym, ap, subst}
use Rattle.std.proofs.Common.{◌∙◌, arith, ltb-false}
use Rattle.std.proofs.Math.Bool.{true, false}
use mathlib.Core.List.{List, [], ◌∷◌, ◌++◌}
use Rattle.std.proofs.Math.Option.{Option, none, some}
use Rattle.std.proofs.Math.ListN.{length, replicate, length-replicate}
use Rattle.std.proofs.lemmas.Bool.{not-false}
use Rattle.segment.specs.Choice.{pick}
use Rattle.segment.proofs.Choice.{pick_true, pick-false}
use Rattle.segment.specs.Layout.{Layout}
use Rattle.segment.proofs.LayoutLaws.{version_below, limit-high}
use Rattle.segment.proofs.EntryLaws.{found-readable}
use Rattle.segment.specs.declared.Digest.{Digest}
use Rattle.segment.specs.declared.Version.{Version}
use Rattle.slot_map.specs.Bit.{named}
use Rattle.record.specs.Range.{map_good, cells_good}
use Rattle.record.specs.RangeLaws.{map-in, between-low, between-high}
use Rattle.record.specs.Refusals.{number_of_refusal}
use Rattle.record.specs.declared.Pending.TheVariants.{Idle}
use Rattle.record.specs.declared.Refusal.{Refusal}
use Rattle.record.specs.declared.Refusal.TheVariants.{BadOrder, TooManyKeys}
use Rattle.record.specs.declared.Record.{Record}
use Rattle.record.specs.Answered.{Recovery, RecoverAnswer}
use Rattle.model.specs.Log.{View, Head, Placed, segment_of, scan, end_of, views_of, head_of, log_of, keys_of, highest, version_shared}
use Rattle.model.specs.Causes.{Cause, when, first_cause}
use Rattle.model.specs.Recovery.{image_layout, order_bad, head_else, map_bad, other_edition, log_damaged, log_slots, log_under, keys_bad, record_under, lent_causes, image_causes, key_causes, recover_causes, record_from, recovery_for, recovery}
use Rattle.model.specs.Index.{IndexRule}
use Rattle.model.specs.Operations.{log_now}
use Rattle.model.specs.Counts.{counts_of}
use Rattle.model.specs.Promises.{RecoverPromise, IndexAfter}
use Rattle.laws.specs.CauseLaws.{cause-first, cause-none, first_some, first-none}
use Rattle.laws.specs.Passed.{LentPassed, lent-passed, ImagePassed, image-passed}
use Rattle.laws.specs.SaidLaws.{recover-says}
use Rattle.laws.specs.Versions.{highest-below}
use Rattle.laws.specs.LogLaws.{AllOf, AllScanned, editions-one, undamaged-scans, log-in}
use Rattle.drive_log.specs.Shape.{Shape}
use Rattle.index.specs.Build.{Rebuilt, built, Built}
use Rattle.index.specs.BuildLaws.{Holds}
use Rattle.index.proofs.BuildLaws.{built-rule, built-over, log-reads}
use Rattle.recovery.specs.FormatLaws.{Fits, geometry-fits}
use Rattle.recovery.specs.Counting.{counted_in}
use Rattle.recovery.proofs.CountLaws.{counted-log}
use Rattle.record.specs.AnswerLaws.{ok-same}
use Rattle.recovery.specs.declared.Image.{Image}
use Rattle.recovery.specs.Recovering.{lent_first, editions_bad, image_checks, image_for, image_of, record_with, refused_with, ImageFound}
use Rattle.recovery.specs.RecoverPromises.{KeepsIndex, SoundImage}

first-keeps : (a : List Cause) → KeepsIndex a → (c : Refusal) → first_cause a ≡ some c → eqb (number_of_refusal c) 20 ≡ false
unfolding first_cause pick
first-keeps [] k c e = let z : ◌≡◌ {A = ℕ} 0 1 = cc in absurd (omega arith)
first-keeps (x ∷ a) k c e = go x.holds e (λ q. first-keeps a k.1 c q)
  where
    go : (t : Bool) → pick t (some x.refusal) (first_cause a) ≡ some c → (first_cause a ≡ some c → eqb (number_of_refusal c) 20 ≡ false)
        → eqb (number_of_refusal c) 20 ≡ false
    go true q ih = let same : x.refusal ≡ c = cc in subst (λ (r : Refusal). eqb (number_of_refusal r) 20 ≡ false) same k.0
    go false q ih = ih q

module _ (single : Bool) (L : Layout) (v : ℕ → View) (n i : ℕ) (d : Digest) (top : Version) where
  abbrev found-head : Head
  found-head = head_else (head_of v n)

  abbrev found-edition : Layout
  found-edition = (v found-head.slot).layout

  pub sound-image : image_of single v n ≡ Ok (record { edition = L; slot = i; digest = d; highest = top }) → SoundImage single L v n i d top
  unfolding image_for
  sound-image e = go (first_cause (image_checks single found-edition v n (head_of v n))) refl e
    where
      go : (o : Option Refusal) → first_cause (image_checks single found-edition v n (head_of v n)) ≡ o → image_for v n found-head o ≡ Ok (record { edition = L; slot = i; digest = d; highest = top })
          → SoundImage single L v n i d top
      go none q f =
          let s : ◌≡◌ {A = Image} (record { edition = found-edition; slot = found-head.slot; digest = found-head.digest; highest = record { 0 = highest (log_under v n found-head) } })
          (record { edition = L; slot = i; digest = d; highest = top }) = ok-same f in
          let of : found-edition ≡ L = ap (λ (x : Image). x.edition) s in
          let slot : found-head.slot ≡ i = ap (λ (x : Image). x.slot) s in
          let digest : found-head.digest ≡ d = ap (λ (x : Image). x.digest) s in
          let high : record { 0 = highest (log_under v n found-head) } ≡ top = ap (λ (x : Image). x.highest) s in
          record {
            clear = subst (λ (K : Layout). first_cause (image_checks single K v n (head_of v n)) ≡ none) of q;
            head = λ j. record { slot = slot j; digest = digest j };
            edition = of;
            top-is = sym high ∙ ap (λ (x : Digest). record { 0 = highest (log_of v (named x.map) n) }) digest;
          }
      go (some c) q f = let z : ◌≡◌ {A = ℕ} 0 1 = cc in absurd (omega arith)

module _ (single : Bool) (L : Layout) (v : ℕ → View) (n i : ℕ) (d : Digest) (top : Version) (s : SoundImage single L v n i d top) where
  abbrev own : Head
  own = record { slot = i; digest = d }

  passed : ImagePassed (editions_bad single L v (log_slots (head_else (head_of v n))) n) v n (head_of v n)
  passed = image-passed _ v n (head_of v n) s.clear

  image-map : map_good n i d.map ≡ true
  image-map =
      not-false _ (subst (λ (h : Head). map_bad n h ≡ false) s.head passed.map-within)

  pub image-scans : AllScanned v (named d.map) n
  image-scans =
      undamaged-scans v (named d.map) n (subst (λ (h : Head). log_damaged v (log_slots h) n ≡ false) s.head passed.undamaged)

  image-versions : version_shared (log_of v (named d.map) n) ≡ false
  image-versions = subst (λ (h : Head). version_shared (log_under v n h) ≡ false) s.head passed.versions-apart

-- every log slot is of the head's edition, where that is asked for
pub image-editions : (L : Layout) (v : ℕ → View) (n i : ℕ) (d : Digest) (top : Version) → SoundImage true L v n i d top → AllOf L v (named d.map) n
image-editions L v n i d top s =
    editions-one v (named d.map) n L
    (subst (λ (h : Head). other_edition L v (log_slots h) n ≡ false) s.head (passed true L v n i d top s).editions-good)

-- ---- what is lent

module _ (n s : ℕ) (order area cells : List ℕ) (passed : lent_first n s (length cells) (length area) order ≡ none) where
  lent-tested : LentPassed n s (length cells) (length area) order
  lent-tested = lent-passed n s (length cells) (length area) order passed

  pub lent_fits : Fits n s (length area)
  lent_fits = geometry-fits n s (length area) lent-tested.geometry-good

  pub lent-shape : Shape n s area
  lent-shape =
      let f = lent_fits in
      record {
        slots-least = f.slots-low;
        slots-most = f.slots-high;
        size-least = f.size_low;
        size-most = f.size-high;
        whole = f.area-own;
      }

  cells-good : cells_good (length cells) ≡ true
  cells-good = not-false (cells_good (length cells)) lent-tested.cells-within

  pub cells-some : 0 < length cells
  cells-some = omega (arith, between-low 16 4096 (length cells) cells-good)

  pub cells-few : length cells < 4097
  cells-few = omega (arith, between-high 16 4096 (length cells) cells-good)

-- ---- the promise

module _ (L : Layout) (n s : ℕ) (order area cells : List ℕ) where
  abbrev m : ℕ
  m = length cells

  abbrev v : ℕ → View
  v = views_of area s

  abbrev cause : Option Refusal
  cause = first_cause (recover_causes L n s m order area)

  -- any refusal but 20 leaves the index
  refused-kept : (c : Refusal) → cause ≡ some c → eqb (number_of_refusal c) 20 ≡ false → RecoverPromise L n s order area cells cells (refused_with c)
  unfolding recovery recovery_for IndexAfter
  refused-kept c e k =
      let answered = ap (λ (o : Option Refusal). recovery_for o (record_from L n s m area)) (sym e) in
      record {
        answers = answered;
        says = recover-says L n s m order area _ answered;
        same_length = refl;
        index = sym (pick-false (eqb (number_of_refusal c) 20) (replicate m 0) cells k);
      }

  pub lent-promise : (c : Refusal) (r : Recovery) → lent_first n s m (length area) order ≡ some c → r ≡ refused_with c
      → RecoverPromise L n s order area cells cells r
  lent-promise c r e its =
      subst (RecoverPromise L n s order area cells cells) (sym its)
      (refused-kept c (first_some (lent_causes n s m (length area) ++ (when (order_bad n order) BadOrder ∷ [])) _ c e)
      (first-keeps (lent_causes n s m (length area) ++ (when (order_bad n order) BadOrder ∷ [])) (refl, (refl, (refl, tt))) c e))

  module _ (passed : lent_first n s m (length area) order ≡ none) where
    abbrev rest : List Cause
    rest = image_causes L v n (head_of v n) ++ key_causes v n m (head_of v n)

    on-image : cause ≡ first_cause rest
    on-image = first-none (lent_causes n s m (length area) ++ (when (order_bad n order) BadOrder ∷ [])) rest passed

    module _ (i : ℕ) (d : Digest) (top : Version) (sound : image_of false v n ≡ Ok (record { edition = L; slot = i; digest = d; highest = top })) where
      abbrev log : List Placed
      log = log_of v (named d.map) n

      image : SoundImage false L v n i d top
      image = sound-image false L v n i d top sound

      on_keys : cause ≡ first_cause (when (keys_bad m log) TooManyKeys ∷ [])
      on_keys =
          on-image
          ∙ first-none (image_causes L v n (head_of v n)) (key_causes v n m (head_of v n)) image.clear
          ∙ ap (λ (h : Head). first_cause (when (keys_bad m (log_under v n h)) TooManyKeys ∷ [])) image.head

      pub head-inside : i < n
      head-inside = (map-in n i d.map (image-map false L v n i d top image)).head_in

      -- the promise by the edition that the head's slot tells
      by-head : {cells' : List ℕ} {r : Recovery} → RecoverPromise L n s order area cells cells' r
          → RecoverPromise (image_layout n s area) n s order area cells cells' r
      by-head {cells'} {r} p = subst (λ (K : Layout). RecoverPromise K n s order area cells cells' r) (sym image.edition) p

      -- the edition is the head's, so its entries are read by it
      head-end : end_of (scan L (segment_of area s i)) ≡ end_of (v i).scan
      head-end =
          ap (λ (K : Layout). end_of (scan K (segment_of area s i)))
          (sym (subst (λ (h : Head). (v h.slot).layout ≡ L) image.head image.edition))

      rebuilt : keys_bad m log ≡ false → Holds s m log (built area s d.map order m)
      rebuilt few =
          built-rule area s d.map n m order (lent_fits n s order area cells passed).area-own (map-in n i d.map (image-map false L v n i d top image)).below
          (image-scans false L v n i d top image) (image-versions false L v n i d top image) (lent-tested n s order area cells passed).order-good (cells-some n s order area cells passed) (omega (arith, cells-few n s order area cells passed)) few

      overfull : keys_bad m log ≡ true → built area s d.map order m ≡ record { answer = None; cells = replicate m 0 }
      overfull many =
          built-over area s d.map n m order (lent_fits n s order area cells passed).area-own (map-in n i d.map (image-map false L v n i d top image)).below
          (image-scans false L v n i d top image) (image-versions false L v n i d top image) (lent-tested n s order area cells passed).order-good (cells-some n s order area cells passed) (omega (arith, cells-few n s order area cells passed)) many

      -- the highest version in the log, and so the next, fits
      pub highest-fits : top.0 < 18446744073709551615
      highest-fits =
          omega (
            arith,
            ap (λ (x : Version). x.0) image.top-is,
            highest-below log 18446744073709551615 (omega arith)
                (λ x w.
                omega (
                  arith,
                  version_below x.layout x.entry.version
                      (found-readable x.layout (segment_of area s x.slot) x.offset x.entry
                      (log-reads area s (named d.map) n (image-scans false L v n i d top image) x w)).good,
                  limit-high x.layout,
                )),
          )

      -- what the rebuilding answers, and the cells that it leaves
      abbrev Rebuilds : Built → List ℕ → Type 0
      Rebuilds a cells' = ◌≡◌ {A = Rebuilt} (record { answer = a; cells = cells' }) (built area s d.map order m)

      pub over-promise : (a : Built) (cells' : List ℕ) (r : Recovery) → Rebuilds a cells' → a ≡ None → r ≡ refused_with TooManyKeys
          → RecoverPromise (image_layout n s area) n s order area cells cells' r
      unfolding recovery recovery_for IndexAfter
      over-promise a cells' r e over its = by-head (subst (RecoverPromise L n s order area cells cells') (sym its) (go (keys_bad m log) refl))
        where
          go : (t : Bool) → keys_bad m log ≡ t → RecoverPromise L n s order area cells cells' (refused_with TooManyKeys)
          go true q =
              let first : cause ≡ some TooManyKeys = on_keys ∙ cause-first (when (keys_bad m log) TooManyKeys) [] q in
              let zeros : cells' ≡ replicate m 0 = ap (λ (r : Rebuilt). r.cells) (e ∙ overfull q) in
              let answered = ap (λ (o : Option Refusal). recovery_for o (record_from L n s m area)) (sym first) in
              record {
                answers = answered;
                says = recover-says L n s m order area _ answered;
                same_length = ap length zeros ∙ length-replicate m 0;
                index = zeros ∙ sym (pick_true (eqb 20 20) (replicate m 0) cells refl);
              }
          go false q =
              let says : a ≡ Some (length (keys_of log)) = ap (λ (r : Rebuilt). r.answer) e ∙ (rebuilt q).answers in
              let z : ◌≡◌ {A = ℕ} 0 1 = cc in absurd (omega arith)

      -- the number of keys that a rebuilding tells
      record Told (k : ℕ) (cells' : List ℕ) : Type 0 where
        few : keys_bad m log ≡ false
        keys : k ≡ length (keys_of log)
        rule : IndexRule s log cells'
        long : length cells' ≡ m

      told : (a : Built) (k : ℕ) (cells' : List ℕ) → Rebuilds a cells' → a ≡ Some k → Told k cells'
      told a k cells' e counts = go (keys_bad m log) refl
        where
          go : (t : Bool) → keys_bad m log ≡ t → Told k cells'
          go true q =
              let says : a ≡ None = ap (λ (r : Rebuilt). r.answer) (e ∙ overfull q) in
              let z : ◌≡◌ {A = ℕ} 0 1 = cc in absurd (omega arith)
          go false q =
              let h = rebuilt q in
              let says : a ≡ Some (length (keys_of log)) = ap (λ (r : Rebuilt). r.answer) e ∙ h.answers in
              let its : cells' ≡ (built area s d.map order m).cells = ap (λ (r : Rebuilt). r.cells) e in
              record { few = q; keys = cc; rule = subst (IndexRule s log) (sym its) h.rule; long = ap length its ∙ h.long }

      -- the number of keys fits
      pub keys-few : (a : Built) (k : ℕ) (cells' : List ℕ) → Rebuilds a cells' → a ≡ Some k → k < 4097
      keys-few a k cells' e counts =
          let t = told a k cells' e counts in
          omega (arith, ltb-false (m - 1) (length (keys_of log)) t.few, cells-few n s order area cells passed)

      -- the cells are as many as before
      pub cells-kept : (a : Built) (k : ℕ) (cells' : List ℕ) → Rebuilds a cells' → a ≡ Some k → length cells' < 4097
      cells-kept a k cells' e counts = omega (arith, (told a k cells' e counts).long, cells-few n s order area cells passed)

      -- the present bytes that are counted over the cells
      counts-told : (a : Built) (k : ℕ) (cells' : List ℕ) → Rebuilds a cells' → a ≡ Some k → counted_in s area cells' ≡ counts_of log
      counts-told a k cells' e counts =
          counted-log s area log cells' (told a k cells' e counts).rule (image-versions false L v n i d top image)
          (λ x w. (log-in v (named d.map) n x w).layout) (log-reads area s (named d.map) n (image-scans false L v n i d top image))

      -- the record with each part that the code finds
      abbrev record_at : ℕ → ℕ → Version → ℕ → List ℕ → Record
      record_at cells end high keys counts =
          record {
            slots = n;
            size = s;
            cells = cells;
            edition = L;
            switched = false;
            head = i;
            end = end;
            digest = d.number;
            map = d.map;
            next = record { 0 = max d.next.0 (high.0 + 1) };
            keys = keys;
            counts = counts;
            pending = Idle;
          }

      pub keys-promise : (a : Built) (k : ℕ) (cells' counts : List ℕ) (rec : Record) → Rebuilds a cells' → a ≡ Some k
          → counts ≡ counted_in s area cells' → rec ≡ record_with L n s (length cells') area i d top k counts
          → RecoverPromise (image_layout n s area) n s order area cells cells' (record { answer = (Ok tt); rec = rec })
      unfolding recovery recovery_for IndexAfter
      keys-promise a k cells' bytes rec e counts number its =
          let t = told a k cells' e counts in
          let present-bytes : bytes ≡ counts_of log = number ∙ counts-told a k cells' e counts in
          let nothing : cause ≡ none = on_keys ∙ cause-none (when (keys_bad m log) TooManyKeys) [] t.few nil in
          let same : rec ≡ record_under L v n s m (record { slot = i; digest = d }) =
          its ∙ (λ j. record_at (t.long j) (head-end j) (image.top-is j) (t.keys j) (present-bytes j)) in
          let answered : record { answer = (Ok tt); rec = rec } ≡ recovery L n s m order area =
          ap (λ (x : Record). record { answer = (Ok tt); rec = x }) (same ∙ ap (record_under L v n s m) (sym image.head))
          ∙ ap (λ (o : Option Refusal). recovery_for o (record_from L n s m area)) (sym nothing) in
          by-head
          (record {
            answers = answered;
            says = recover-says L n s m order area _ answered;
            same_length = t.long;
            index = subst (λ (x : Record). IndexRule x.size (log_now area x) cells') (sym its) t.rule;
          })
        where
          nil : first_cause [] ≡ none
          nil = unfold first_cause in refl

-- a refused image, by the edition of its head
module _ (n s : ℕ) (order area cells : List ℕ) (passed : lent_first n s (length cells) (length area) order ≡ none) where
  abbrev its : Layout
  its = image_layout n s area

  abbrev found : List Cause
  found = image_causes its (views_of area s) n (head_of (views_of area s) n)

  pub image-promise : (c : Refusal) (r : Recovery) → image_of false (views_of area s) n ≡ Err c → r ≡ refused_with c
      → RecoverPromise its n s order area cells cells r
  unfolding image_for
  image-promise c r e same =
      subst (RecoverPromise its n s order area cells cells) (sym same) (go (first_cause found) refl e)
    where
      go : (o : Option Refusal) → first_cause found ≡ o → image_for (views_of area s) n (head_else (head_of (views_of area s) n)) o ≡ Err c
          → RecoverPromise its n s order area cells cells (refused_with c)
      go none p q = let z : ◌≡◌ {A = ℕ} 0 1 = cc in absurd (omega arith)
      go (some b) p q =
          let same : b ≡ c = cc in
          let f : first_cause found ≡ some c = p ∙ ap some same in
          refused-kept its n s order area cells c
          (on-image its n s order area cells passed
          ∙ first_some found (key_causes (views_of area s) n (length cells) (head_of (views_of area s) n)) c f)
          (first-keeps found (refl, (refl, (refl, (refl, (refl, (refl, (refl, tt))))))) c f)
