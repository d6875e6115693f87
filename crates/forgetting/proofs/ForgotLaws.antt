-- What comes of the victim, at each test of the code.
use Prim.Native.Nat.{ℕ, zero, suc, ◌+◌, ◌*◌, ◌≤◌, ◌<◌}
use Rattle.std.specs.Prelude.{◌≡◌, Bool, not, eqb}
use Rattle.std.proofs.Math.Path.{refl, sym, ap}
use Rattle.std.proofs.Common.{◌∙◌, arith, length-append, eq-eqb, ne_eqb, le-leb}
use Rattle.std.proofs.Math.Bool.{true, false}
use mathlib.Core.List.{List, []}
use Rattle.std.proofs.Math.Dec.{leb}
use Rattle.std.proofs.Math.ListN.{length}
use Rattle.std.proofs.lemmas.List.Edits.{sets}
use Rattle.std.proofs.lemmas.Bool.{not-true, not-false}
use Rattle.segment.specs.Choice.{pick}
use Rattle.segment.proofs.Choice.{pick_true, pick-false}
use Rattle.segment.specs.Layout.{Layout, same_layout, entry_size, digest_size, table}
use Rattle.segment.proofs.LayoutLaws.{width_low, width-high, same_layout_lem}
use Rattle.segment.specs.Entry.{Found, entry, end, damage, entry_at, size_of}
use Rattle.segment.proofs.EntryLaws.{found-fits}
use Rattle.segment.specs.Entries.{header_of}
use Rattle.segment.specs.Written.{encoded_head}
use Rattle.segment.proofs.Written.{length-encoded_head}
use Rattle.segment.specs.declared.Header.{Header}
use Rattle.model.specs.Log.{segment_of}
use Rattle.index.specs.Build.{entries_at}
use Rattle.index.proofs.Entries.{entries-end, entries-damage}
use Rattle.cleaning.specs.Entries.{SlotsFit}
use Rattle.cleaning.specs.EntriesLaws.{Meets}
use Rattle.cleaning.proofs.EntriesLaws.{meets-long, slot-long, entry-lies}
use Rattle.cleaning.specs.Kept.{kept_test, kept_entry, Part}
use Rattle.cleaning.specs.KeptLaws.{parts_from, parts-stop, parts-entry}
use Rattle.cleaning.proofs.KeptLaws.{length-kept, length-dropped, entry-short}
use Rattle.cleaning.specs.declared.Split.{Split}
use Rattle.segment.specs.Copied.{Copied}
use Rattle.segment.proofs.Copied.{copied_none}
use Rattle.forgetting.specs.Forgot.{dead_bytes, forgot_entry, forgot_slot, fits_segment}
use Rattle.forgetting.specs.declared.Live.{Live}

-- ---- the tombstone

module _ (W : Layout) (live : Live) where
  abbrev dead : List ℕ
  dead = encoded_head W (table W).tombstone_kind live.key live.version

  dead-empty : not live.needed ≡ true → dead_bytes W live ≡ []
  unfolding dead_bytes
  dead-empty e = pick-false live.needed dead [] (not-true live.needed e)

  dead-there : not live.needed ≡ false → dead_bytes W live ≡ dead
  unfolding dead_bytes
  dead-there e = pick_true live.needed dead [] (not-false live.needed e)

  pub length_none : not live.needed ≡ true → 0 ≡ length (dead_bytes W live)
  length_none e = sym (ap length (dead-empty e))

  pub length-dead : not live.needed ≡ false → entry_size W 0 ≡ length (dead_bytes W live)
  length-dead e = sym (ap length (dead-there e) ∙ length-encoded_head W (table W).tombstone_kind live.key live.version)

  pub dead-short : length (dead_bytes W live) ≤ entry_size W 0
  dead-short = go live.needed refl
    where
      go : (t : Bool) → live.needed ≡ t → length (dead_bytes W live) ≤ entry_size W 0
      go true e = omega (arith, length-dead (ap not e))
      go false e = omega (arith, length_none (ap not e))

  module _ (work : List ℕ) (to : ℕ) where
    pub dead-none : not live.needed ≡ true → Copied (dead_bytes W live) work to work to
    dead-none e = copied_none _ work to (dead-empty e)

    pub dead-put : not live.needed ≡ false → (work' : List ℕ) → work' ≡ sets work to dead → Copied (dead_bytes W live) work to work' (to + entry_size W 0)
    dead-put e work' h = record { stored = h ∙ ap (sets work to) (sym (dead-there e)); behind = omega (arith, length-dead e) }

-- ---- an entry

module _ (W : Layout) (area cells marks : List ℕ) (live : Live) (K : Layout) (h : Header) (place : ℕ) where
  pub entry-dead : place ≡ live.place → forgot_entry W area cells marks live K h place ≡ dead_bytes W live
  entry-dead e = pick_true (eqb place live.place) _ _ (eq-eqb place live.place e)

  pub entry_other : (place ≡ live.place → ⊥) → forgot_entry W area cells marks live K h place ≡ kept_entry W area cells marks K h place
  entry_other e = pick-false (eqb place live.place) _ _ (ne_eqb place live.place e)

  module _ (low : entry_size K 0 ≤ h.length) (fits : place + h.length ≤ length area) where
    pub forgot-long : length (forgot_entry W area cells marks live K h place) ≤ 2 * h.length
    unfolding pick
    forgot-long = go (eqb place live.place)
      where
        go : (t : Bool) → length (pick t (dead_bytes W live) (kept_entry W area cells marks K h place)) ≤ 2 * h.length
        go true = omega (arith, dead-short W live, low, width_low K, width-high W)
        go false = entry-short W area cells marks K h place low fits

    -- in its own layout it takes no more bytes than the entry that stood there
    module _ (same : same_layout K W ≡ true) where
      heads : entry_size K 0 ≡ entry_size W 0
      heads = ap (λ (M : Layout). entry_size M 0) (same_layout_lem K W same)

      kept-short : (t : Bool) → kept_test area cells marks h place ≡ t → length (kept_entry W area cells marks K h place) ≤ h.length
      kept-short true e = omega (arith, length-kept W area cells marks K h place low fits e, heads, low)
      kept-short false e = omega (arith, length-dropped W area cells marks K h place e)

      pub forgot-short : length (forgot_entry W area cells marks live K h place) ≤ h.length
      unfolding pick
      forgot-short = go (eqb place live.place)
        where
          go : (t : Bool) → length (pick t (dead_bytes W live) (kept_entry W area cells marks K h place)) ≤ h.length
          go true = omega (arith, dead-short W live, heads, low)
          go false = kept-short (kept_test area cells marks h place) refl

-- ---- a walk over the slot

-- parts that are no longer than their entries take no more bytes than the segment has from there on
module _ (L : Layout) (part : Part) (S i : ℕ) (s : List ℕ) (short : (at : ℕ) (h : Header) → Meets L s at h → length (part L h (i * S + at)) ≤ h.length) where
  parts_within : (f at : ℕ) → length s < at + f → at ≤ length s → at + length (parts_from L part S i s at) ≤ length s
  parts_within zero at h k = absurd (omega arith)
  parts_within (suc f) at h k = go (entry_at L s at) refl (λ b p q. parts_within f b p q)
    where
      stops : entries_at L s at ≡ [] → at + length (parts_from L part S i s at) ≤ length s
      stops e = omega (arith, ap length (parts-stop L part S i s at e))

      go : (r : Found) → entry_at L s at ≡ r →
          ((b : ℕ) → length s < b + f → b ≤ length s → b + length (parts_from L part S i s b) ≤ length s) →
          at + length (parts_from L part S i s at) ≤ length s
      go (entry e) p ih =
          let fits = found-fits L s at e p in
          let m : Meets L s at (header_of L e) = record { met = e; is = p; its = refl; fits = fits; some_byte = omega arith } in
          omega (
            arith,
            ap length (parts-entry L part S i s at m),
            length-append (part L (header_of L e) (i * S + at)) (parts_from L part S i s (at + size_of L e)),
            short at (header_of L e) m,
            ih (at + size_of L e) (omega arith) fits,
          )
      go end p ih = stops (entries-end L s at p)
      go damage p ih = stops (entries-damage L s at p)

module _ (K W : Layout) (area cells marks : List ℕ) (live : Live) where
  module _ (S i : ℕ) (s : List ℕ) where
    -- what comes of slot i, of the bytes s, from an offset on
    abbrev pub forgot_from : ℕ → List ℕ
    forgot_from at = parts_from K (forgot_entry W area cells marks live) S i s at

    pub forgot-whole : s ≡ segment_of area S i → forgot_from (digest_size K) ≡ forgot_slot K W area cells marks live S i
    forgot-whole e = ap (λ (t : List ℕ). parts_from K (forgot_entry W area cells marks live) S i t (digest_size K)) e

    pub forgot-measured : s ≡ segment_of area S i → 0 + length (forgot_from (digest_size K)) ≡ length (forgot_slot K W area cells marks live S i)
    forgot-measured e = omega (arith, ap length (forgot-whole e))

  -- in its own layout the slot's bytes fit a segment
  pub forgot-fits : same_layout K W ≡ true → (split : Split) → SlotsFit split area → (i : ℕ) → i < split.slots →
      true ≡ fits_segment W split.size (forgot_slot K W area cells marks live split.size i)
  unfolding fits_segment
  forgot-fits same split fits i below =
      let s : List ℕ = segment_of area split.size i in
      let long : length s ≡ split.size = slot-long fits i below s refl in
      let within = parts_within K (forgot_entry W area cells marks live) split.size i s short (suc (length s)) (digest_size K) (omega arith)
      (omega (arith, long, fits.size_low, width-high K)) in
      sym (le-leb (digest_size W + length (forgot_slot K W area cells marks live split.size i)) split.size
      (omega (arith, within, long, ap digest_size (same_layout_lem K W same))))
    where
      short : (at : ℕ) (h : Header) → Meets K (segment_of area split.size i) at h →
          length (forgot_entry W area cells marks live K h (i * split.size + at)) ≤ h.length
      short at h m =
          forgot-short W area cells marks live K h (i * split.size + at) (meets-long K (segment_of area split.size i) at m)
          (entry-lies fits i below (segment_of area split.size i) refl at h.length m.fits) same

  -- else they are measured
  pub fits-measured : (S i n d : ℕ) → n ≡ length (forgot_slot K W area cells marks live S i) → d ≡ digest_size W →
      leb (d + n) S ≡ fits_segment W S (forgot_slot K W area cells marks live S i)
  unfolding fits_segment
  fits-measured S i n d e b = (λ j. leb (b j + e j) S)
