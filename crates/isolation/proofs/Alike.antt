-- Two areas that differ in hidden values alone, and in what no call looks at: they have the same head, the same record, and logs that
-- are the same but for hidden values; so recovery answers the same of both.
use Prim.Native.Nat.{ℕ, zero, suc, ◌+◌, ◌<◌}
use native.Mathlib.Omega.{arith}
use mathlib.Core.Path.{◌≡◌, refl, sym, ap, ◌∙◌, subst}
use mathlib.Core.Bool.{Bool, true, false, not}
use mathlib.Core.List.{List, [], ◌∷◌, ◌++◌}
use mathlib.Core.Option.{Option, some}
use lib.ListN.{length}
use Rattle.segment.specs.Choice.{both, either, is_none}
use Rattle.segment.specs.Layout.{Layout, same_layout}
use Rattle.segment.specs.declared.Digest.{Digest}
use Rattle.slot_map.specs.Bit.{named}
use Rattle.record.specs.RangeLaws.{map-in}
use Rattle.record.specs.declared.Refusal.TheVariants.{BadOrder}
use Rattle.record.specs.declared.Record.{Record}
use Rattle.model.specs.Log.{View, Head, Placed, views_of, newer, head_of, log_of, end_of, is_damaged, keys_of, version_shared, highest}
use Rattle.model.specs.Causes.{Cause, when, first_cause}
use Rattle.model.specs.Recovery.{head_else, has_number, sharing, names_no_digest, later, later_edition, other_edition, image_layout, log_damaged, log_slots, log_under, record_under, image_causes, key_causes, lent_causes, order_bad, recover_causes, record_from, recovered, recovery}
use Rattle.model.specs.Operations.{log_now}
use Rattle.model.specs.Counts.{counts_of}
use Rattle.laws.specs.LogLaws.{log-same}
use Rattle.laws.specs.RecoverLaws.{recovered-facts}
use Rattle.isolation.proofs.HiddenBytes.{hidden_log, hidden_scan, hidden_views, scan-end, scan-damaged, log-hidden, keys-hidden, shared-hidden, highest-hidden, counts-hidden}

-- what does not go by hidden values is the same of logs that differ in these alone
pub same_by :
    {A : Type 0} (of : ℕ → Bool) (f : List Placed → A) → ((log : List Placed) → f (hidden_log of log) ≡ f log) → {log log' : List Placed} →
    hidden_log of log ≡ hidden_log of log' → f log ≡ f log'
same_by of f h {log} {log'} e = sym (h log) ∙ ap f e ∙ h log'

-- ---- on views

-- The slots below n have the same digests, and those that p picks are of the same editions and have the same entries but for hidden
-- values.
pub record AlikeViews (of : ℕ → Bool) (n : ℕ) (p : ℕ → Bool) (v v' : ℕ → View) : Type 0 where
  pub digests : (i : ℕ) → i < n → (v i).digest ≡ (v' i).digest
  pub layouts : (i : ℕ) → i < n → p i ≡ true → (v i).layout ≡ (v' i).layout
  pub scans : (i : ℕ) → i < n → p i ≡ true → hidden_scan of (v i).scan ≡ hidden_scan of (v' i).scan

module _ (of : ℕ → Bool) (v v' : ℕ → View) where
  pub head-alike : (n : ℕ) → ((i : ℕ) → i < n → (v i).digest ≡ (v' i).digest) → head_of v n ≡ head_of v' n
  unfolding head_of
  head-alike zero d = refl
  head-alike (suc n) d =
      ap (λ (h : Option Head). newer h n (v n).digest) (head-alike n (λ i l. d i (omega arith))) ∙
      ap (newer (head_of v' n) n) (d n (omega arith))

  sharing-alike : (k n : ℕ) → ((i : ℕ) → i < n → (v i).digest ≡ (v' i).digest) → sharing v k n ≡ sharing v' k n
  unfolding sharing
  sharing-alike k zero d = refl
  sharing-alike k (suc n) d =
      ap (λ (c : ℕ). c + has_number (v n).digest k) (sharing-alike k n (λ i l. d i (omega arith))) ∙
      ap (λ (x : Option Digest). sharing v' k n + has_number x k) (d n (omega arith))

  names-alike : (p : ℕ → Bool) (n : ℕ) → ((i : ℕ) → i < n → (v i).digest ≡ (v' i).digest) → names_no_digest v p n ≡ names_no_digest v' p n
  unfolding names_no_digest
  names-alike p zero d = refl
  names-alike p (suc n) d =
      ap (λ (t : Bool). either t (both (p n) (is_none (v n).digest))) (names-alike p n (λ i l. d i (omega arith))) ∙
      ap (λ (x : Option Digest). either (names_no_digest v' p n) (both (p n) (is_none x))) (d n (omega arith))

  later-alike :
      (L : Layout) (p : ℕ → Bool) (n : ℕ) → ((i : ℕ) → i < n → p i ≡ true → (v i).layout ≡ (v' i).layout) →
      later_edition L v p n ≡ later_edition L v' p n
  unfolding later_edition both
  later-alike L p zero f = refl
  later-alike L p (suc n) f =
      ap (λ (t : Bool). either t (both (p n) (later (v n).layout L))) (later-alike L p n (λ i l. f i (omega arith))) ∙
      ap (either (later_edition L v' p n)) (go (p n) refl)
    where
      go : (t : Bool) → p n ≡ t → both t (later (v n).layout L) ≡ both t (later (v' n).layout L)
      go true e = ap (λ (K : Layout). later K L) (f n (omega arith) e)
      go false e = refl

  pub other-alike :
      (L : Layout) (p : ℕ → Bool) (n : ℕ) → ((i : ℕ) → i < n → p i ≡ true → (v i).layout ≡ (v' i).layout) →
      other_edition L v p n ≡ other_edition L v' p n
  unfolding other_edition both
  other-alike L p zero f = refl
  other-alike L p (suc n) f =
      ap (λ (t : Bool). either t (both (p n) (not (same_layout (v n).layout L)))) (other-alike L p n (λ i l. f i (omega arith))) ∙
      ap (either (other_edition L v' p n)) (go (p n) refl)
    where
      go : (t : Bool) → p n ≡ t → both t (not (same_layout (v n).layout L)) ≡ both t (not (same_layout (v' n).layout L))
      go true e = ap (λ (K : Layout). not (same_layout K L)) (f n (omega arith) e)
      go false e = refl

  damaged-alike :
      (p : ℕ → Bool) (n : ℕ) → ((i : ℕ) → i < n → p i ≡ true → hidden_scan of (v i).scan ≡ hidden_scan of (v' i).scan) →
      log_damaged v p n ≡ log_damaged v' p n
  unfolding log_damaged both
  damaged-alike p zero f = refl
  damaged-alike p (suc n) f =
      ap (λ (t : Bool). either t (both (p n) (is_damaged (v n).scan))) (damaged-alike p n (λ i l. f i (omega arith))) ∙
      ap (either (log_damaged v' p n)) (go (p n) refl)
    where
      go : (t : Bool) → p n ≡ t → both t (is_damaged (v n).scan) ≡ both t (is_damaged (v' n).scan)
      go true e = sym (scan-damaged of (v n).scan) ∙ ap is_damaged (f n (omega arith) e) ∙ scan-damaged of (v' n).scan
      go false e = refl

  -- the log of any of the picked slots
  pub log-alike :
      (p q : ℕ → Bool) (n : ℕ) → AlikeViews of n p v v' → ((i : ℕ) → i < n → q i ≡ true → p i ≡ true) →
      hidden_log of (log_of v q n) ≡ hidden_log of (log_of v' q n)
  log-alike p q n a sub =
      sym (log-hidden of v q n) ∙
      log-same (hidden_views of v') (hidden_views of v) q q n (λ i l. refl) (λ i l e. (a.layouts i l (sub i l e), a.scans i l (sub i l e))) ∙ log-hidden of v' q n

module _ (of : ℕ → Bool) (v v' : ℕ → View) (n : ℕ) (h : Head) (a : AlikeViews of n (log_slots h) v v') where
  logs : hidden_log of (log_under v n h) ≡ hidden_log of (log_under v' n h)
  logs = log-alike of v v' (log_slots h) (log_slots h) n a (λ i l e. e)

  shared : version_shared (log_under v n h) ≡ version_shared (log_under v' n h)
  shared = same_by of version_shared (shared-hidden of) logs

  keys : keys_of (log_under v n h) ≡ keys_of (log_under v' n h)
  keys = same_by of keys_of (keys-hidden of) logs

  high : highest (log_under v n h) ≡ highest (log_under v' n h)
  high = same_by of highest (highest-hidden of) logs

  present-bytes : (L : Layout) → counts_of (log_under v n h) ≡ counts_of (log_under v' n h)
  present-bytes L = same_by of counts_of (counts-hidden of) logs

  pub image-alike : (L : Layout) (o : Option Head) → head_else o ≡ h → image_causes L v n o ≡ image_causes L v' n o
  image-alike L o e =
      rw (
        e,
        sharing-alike of v v' h.digest.number.0 n a.digests,
        names-alike of v v' (log_slots h) n a.digests,
        later-alike of v v' L (log_slots h) n a.layouts,
        damaged-alike of v v' (log_slots h) n a.scans,
        shared,
      )

  pub keys-alike : (m : ℕ) (o : Option Head) → head_else o ≡ h → key_causes v n m o ≡ key_causes v' n m o
  keys-alike m o e = rw (e, keys)

  pub under_alike : (L : Layout) (s m : ℕ) → h.slot < n → log_slots h h.slot ≡ true → record_under L v n s m h ≡ record_under L v' n s m h
  under_alike L s m below own =
      rw (
        sym (scan-end of (v h.slot).scan) ∙ ap end_of (a.scans h.slot below own) ∙ scan-end of (v' h.slot).scan,
        high,
        keys,
        present-bytes L,
      )

-- ---- on areas

-- Two areas of one length whose slots are alike, those of the log being the ones that the map names.
pub record Alike (of : ℕ → Bool) (n s map : ℕ) (area area' : List ℕ) : Type 0 where
  pub long : length area ≡ length area'
  pub views : AlikeViews of n (named map) (views_of area s) (views_of area' s)

module _ (of : ℕ → Bool) (L : Layout) (n s : ℕ) (area area' : List ℕ) where
  -- the head of the one, and of the other
  abbrev top : Option Head
  top = head_of (views_of area s) n

  module _ (map : ℕ) (a : Alike of n s map area area') (own : map ≡ (head_else (head_of (views_of area s) n)).digest.map) where
    views-own : AlikeViews of n (log_slots (head_else top)) (views_of area s) (views_of area' s)
    views-own = subst (λ (k : ℕ). AlikeViews of n (named k) (views_of area s) (views_of area' s)) own a.views

    heads : top ≡ head_of (views_of area' s) n
    heads = head-alike of (views_of area s) (views_of area' s) n a.views.digests

    -- Recovery has the same causes,
    pub causes-alike : (m : ℕ) (order : List ℕ) → recover_causes L n s m order area ≡ recover_causes L n s m order area'
    causes-alike m order =
        ap (λ (l : ℕ). lent_causes n s m l ++ listed ++ image_causes L v n top ++ key_causes v n m top) a.long ∙
        ap (λ (c : List Cause). lent_causes n s m (length area') ++ listed ++ c ++ key_causes v n m top)
        (image-alike of v v' n (head_else top) views-own L top refl) ∙
        ap (λ (c : List Cause). lent_causes n s m (length area') ++ listed ++ image_causes L v' n top ++ c)
        (keys-alike of v v' n (head_else top) views-own m top refl) ∙
        ap (λ (o : Option Head). lent_causes n s m (length area') ++ listed ++ image_causes L v' n o ++ key_causes v' n m o) heads
      where
        v : ℕ → View
        v = views_of area s

        v' : ℕ → View
        v' = views_of area' s

        listed : List Cause
        listed = when (order_bad n order) BadOrder ∷ []

    -- and gives the same record where the head is a slot of the log.
    pub record-alike : (m : ℕ) → (head_else top).slot < n → named map (head_else top).slot ≡ true → record_from L n s m area ≡ record_from L n s m area'
    record-alike m below named-own =
        under_alike of (views_of area s) (views_of area' s) n (head_else top) views-own L s m below
        (subst (λ (k : ℕ). named k (head_else top).slot ≡ true) own named-own) ∙
        ap (λ (o : Option Head). record_under L (views_of area' s) n s m (head_else o)) heads

-- what is known of the head where recovery is accepted
pub head-inside :
    (L : Layout) (n s m : ℕ) (area : List ℕ) (r : Record) → recovered L n s m area ≡ some r →
    ((head_else (head_of (views_of area s) n)).slot < n)
    × (named (head_else (head_of (views_of area s) n)).digest.map (head_else (head_of (views_of area s) n)).slot ≡ true)
unfolding head_else
head-inside L n s m area r e =
    let f = recovered-facts L n s m area r e in
    rw f.head-is (f.sound.top.below, (map-in n f.head.slot f.head.digest.map f.sound.map-good).head-named)

module _ (of : ℕ → Bool) (L : Layout) (n s : ℕ) (area area' : List ℕ) (a : Alike of n s (record_from L n s 16 area).map area area') where
  -- Recovery of alike areas answers the same.
  pub records-same : (m k : ℕ) (r : Record) → recovered L n s m area ≡ some r → record_from L n s k area ≡ record_from L n s k area'
  records-same m k r e =
      let h = head-inside L n s m area r e in
      record-alike of L n s area area' (record_from L n s 16 area).map a refl k h.0 h.1

  pub recoveries-same : (m k : ℕ) (order : List ℕ) (r : Record) → recovered L n s m area ≡ some r → recovery L n s k order area ≡ recovery L n s k order area'
  unfolding recovery
  recoveries-same m k order r e =
      rw (causes-alike of L n s area area' (record_from L n s 16 area).map a refl k order, records-same m k r e)

  -- The head's slot is of one edition in both.
  pub layouts_same : (m : ℕ) (r : Record) → recovered L n s m area ≡ some r → image_layout n s area ≡ image_layout n s area'
  layouts_same m r e =
      let h = head-inside L n s m area r e in
      a.views.layouts (head_else (head_of (views_of area s) n)).slot h.0 h.1 ∙
      ap (λ (o : Option Head). (views_of area' s (head_else o).slot).layout) (head-alike of (views_of area s) (views_of area' s) n a.views.digests)

  pub first-same : (k : ℕ) (order : List ℕ) → first_cause (recover_causes L n s k order area) ≡ first_cause (recover_causes L n s k order area')
  first-same k order = ap first_cause (causes-alike of L n s area area' (record_from L n s 16 area).map a refl k order)

-- the logs of alike areas under a record with that map
pub logs-same :
    (of : ℕ → Bool) (r : Record) (area area' : List ℕ) → Alike of r.slots r.size r.map area area' →
    hidden_log of (log_now area r) ≡ hidden_log of (log_now area' r)
logs-same of r area area' a =
    log-alike of (views_of area r.size) (views_of area' r.size) (named r.map) (named r.map) r.slots a.views (λ i l e. e)
